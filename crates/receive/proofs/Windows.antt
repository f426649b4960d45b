-- The window setter is the rule's, and a fresh block's receive side is the rule's fresh one; both are good to act on. Assumes nothing.
use Prim.Native.Nat.{ℕ, ◌≤◌}
use native.Mathlib.Omega.{arith}
use mathlib.Core.Path.{◌≡◌, refl, sym, ap, ◌∙◌, subst}
use mathlib.Core.Bool.{Bool, true, false, cond, not, ◌&&◌}
use lib.ListN.{length}
use lib.Dec.{ltb}
use Rattle.serial.specs.Branch.{pick, pick-ap}
use Rattle.ring.specs.Lists.{Lists}
use Rattle.rcv_ring.specs.Views.{span, kept, held_of}
use Rattle.block.specs.declared.receiver.Receiver.{Receiver}
use Rattle.block.specs.declared.Kcp.{Kcp}
use Rattle.block.specs.declared.set.Set.{Set}
use Rattle.block.specs.Sizes.{RingSizes}
use Rattle.block.specs.Fresh.{fresh_receiver}
use Rattle.receiving.specs.Rules.{wanted, too_large, widens, widened, set_window, fresh}
use Rattle.receiving.proofs.Keep.{small-enough}
use Rattle.receive.specs.Memory.{held_by, queue_by, seen, widened_at, receive_window, windows_at}
use Rattle.receive.specs.Fits.{Good}

module _ (slots : ℕ) (k : Kcp) (sndwnd rcvwnd : ℕ) where
  abbrev r : Receiver
  r = k.receiver

  -- the receive side afterwards
  after_is : (windows_at slots k sndwnd rcvwnd).block.receiver ≡ cond (widens slots rcvwnd) (widened_at (wanted rcvwnd) r) r
  unfolding windows_at receive_window pick
  after_is = pick-ap (λ (s : Set). s.block.receiver) (too_large slots rcvwnd) _ _ ∙ go (too_large slots rcvwnd) (ltb 0 rcvwnd)
    where
      go : (t s : Bool) → pick t r (pick s (widened_at (wanted rcvwnd) r) r) ≡ cond (s && not t) (widened_at (wanted rcvwnd) r) r
      go true true = refl
      go true false = refl
      go false true = refl
      go false false = refl

  pub seen-window : (l : Lists) → seen (windows_at slots k sndwnd rcvwnd).block.receiver l ≡ set_window slots rcvwnd (seen r l)
  unfolding set_window widened widened_at seen
  seen-window l = ap (λ (x : Receiver). seen x l) after_is ∙ go (widens slots rcvwnd)
    where
      go : (b : Bool) → seen (cond b (widened_at (wanted rcvwnd) r) r) l ≡ cond b (widened (wanted rcvwnd) (seen r l)) (seen r l)
      go true = refl
      go false = refl

pub window-good : {l : Lists} (k : Kcp) (sndwnd rcvwnd : ℕ) → length l.records ≤ 1024 → Good k.receiver l → Good (windows_at (length l.records) k sndwnd rcvwnd).block.receiver l
unfolding widened_at
window-good {l} k sndwnd rcvwnd most good = subst (λ (x : Receiver). Good x l) (sym (after_is (length l.records) k sndwnd rcvwnd)) (go (widens (length l.records) rcvwnd) refl)
  where
    go : (b : Bool) → widens (length l.records) rcvwnd ≡ b → Good (cond b (widened_at (wanted rcvwnd) k.receiver) k.receiver) l
    go true e =
        let w = small-enough (length l.records) rcvwnd e in
        let t = good.twice in
        let f = good.fits in
        record {
          sound = good.sound;
          fits = record {
            window = record { low = omega arith; high = omega arith };
            queue = let a = f.queue in omega arith;
            buffer = let a = f.buffer in omega arith;
            most = omega arith;
            start = f.start;
          };
          twice = omega arith;
        }
    go false e = good

-- ---- a fresh block

pub seen-fresh : (l : Lists) → seen fresh_receiver l ≡ fresh
unfolding seen fresh queue_by held_by held_of span kept
seen-fresh l = refl

pub fresh-good : {l : Lists} → RingSizes 256 1024 (length l.records) 1 (length l.records) (length l.room) → Good fresh_receiver l
fresh-good z =
    let a = z.few.low in
    let b = z.few.high in
    let c = z.roomy in
    record {
      sound = record {
        shaped = record { many = omega arith; room-size = omega arith; started = omega arith; within = omega arith };
        marked = record { full = λ i h. absurd (omega arith); short = λ i h. absurd (omega arith) };
      };
      fits = record { window = record { low = omega arith; high = omega arith }; queue = omega arith; buffer = omega arith; most = omega arith; start = omega arith };
      twice = omega arith;
    }
