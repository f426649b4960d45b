-- The tests for 15 are true exactly when their facts hold; then the receive side is good to act on, and what is seen of it is well formed. Assumes nothing.
use Prim.Native.Nat.{◌^◌, ◌<◌}
use mathlib.Core.Path.{◌≡◌, sym, ap, ◌∙◌}
use mathlib.Core.Bool.{Bool, true, ◌&&◌}
use native.Mathlib.Omega.{arith}
use lib.ListN.{length}
use Rattle.ring.specs.Lists.{Lists}
use Rattle.rcv_ring.specs.Places.{Sound}
use Rattle.rcv_ring.proofs.Tests.{fit-marked, marked-fit}
use Rattle.block.specs.declared.receiver.Receiver.{Receiver}
use Rattle.block.specs.declared.Kcp.{Kcp}
use Rattle.block.specs.Sizes.{RingSizes}
use Rattle.block.specs.WellFormed.{ReceiverFits, own_numbers, OwnNumbers}
use Rattle.block.proofs.Exact.{Exactly, exactly_both, exactly_as, ring-sizes, own-numbers, receive-numbers}
use Rattle.receiving.specs.Rules.{WellFormed}
use Rattle.receive.specs.Memory.{seen}
use Rattle.receive.specs.Fits.{receive_lent, ReceiveLent, receive_fits, ReceiveFits, Lies, Good}
use Rattle.receive.proofs.Numbers.{ordered_law}
use Rattle.receive.proofs.Seen.{seen-queued}

pub lent-exactly : (r : Receiver) (l : Lists) → Exactly (receive_lent r l) (ReceiveLent r l)
unfolding receive_lent
lent-exactly r l =
    exactly_as
    (λ p. record { sizes = p.0; numbers = p.1.0; marked = p.1.1 })
    (λ f. (f.sizes, (f.numbers, f.marked)))
    (exactly_both (ring-sizes 256 1024 (length l.records) 1 (length l.records) (length l.room))
    (exactly_both (receive-numbers (length l.records) r)
    (record { holds = fit-marked r.ring l.records; tests = marked-fit r.ring l.records })))

pub exactly : (k : Kcp) (l : Lists) → Exactly (receive_fits k l) (ReceiveFits k l)
unfolding receive_fits
exactly k l = exactly_as (λ p. record { own = p.0; lent = p.1 }) (λ f. (f.own, f.lent)) (exactly_both (own-numbers k) (lent-exactly k.receiver l))

-- a receive side that fits is good to act on
pub lent-good : {r : Receiver} {l : Lists} → ReceiverFits r → ReceiveLent r l → Good r l
lent-good f t =
    let s = t.sizes in
    let a = s.few.high in
    let b = s.roomy in
    let c = t.numbers.twice in
    let q = f.queue in
    let e = f.buffer in
    record {
      sound = record { shaped = record { many = omega arith; room-size = omega arith; started = t.numbers.start; within = omega arith }; marked = t.marked };
      fits = f;
      twice = t.numbers.twice;
    }

pub good_of : {k : Kcp} {l : Lists} → ReceiveFits k l → Good k.receiver l
good_of f = lent-good f.own.receiver f.lent

-- and one that is good fits, beside the rest of the test
pub fits_of : {k : Kcp} {l : Lists} → RingSizes 256 1024 (length l.records) 1 (length l.records) (length l.room) → OwnNumbers k → Good k.receiver l → ReceiveFits k l
fits_of sizes own good = record {
  own = own;
  lent = record { sizes = sizes; numbers = record { start = good.sound.shaped.started; twice = good.twice }; marked = good.sound.marked };
}

-- `move_buf` and peeksize look at the ring alone
pub sound-lies : {r : Receiver} {l : Lists} → Sound r.ring l → Lies r l.records
sound-lies w = let s = w.shaped in record { many = s.many; started = s.started; within = s.within; marked = w.marked }

module _ {r : Receiver} {l : Lists} (good : Good r l) where
  pub good-lies : Lies r l.records
  good-lies = sound-lies good.sound

  pub good-well : r.rcv_nxt < 2 ^ 32 → WellFormed (length l.records) (seen r l)
  unfolding seen
  good-well low =
      let f = good.fits in
      let m = f.most in
      let b = f.buffer in
      let q = f.queue in
      let n = seen-queued r l in
      record {
        awaited = low;
        ordered = ordered_law r.rcv_nxt low r.ring l (omega arith) r.largest (omega arith) b;
        queued = omega arith;
        least = f.window.low;
        windowed = f.window.high;
        fits = good.twice;
      }

-- what `fits` answers says that the memory is good
pub tested-good : {r : Receiver} {l : Lists} {t : Bool} → ReceiverFits r → t ≡ receive_lent r l → t ≡ true → Good r l
tested-good {r} {l} f e h = lent-good f ((lent-exactly r l).holds (sym e ∙ h))

-- where that is asked of the block k
module _ (k : Kcp) {own : Bool} (asked : own ≡ own_numbers k) where
  pub own-receiver : own ≡ true → ReceiverFits k.receiver
  own-receiver h = ((own-numbers k).holds (sym asked ∙ h)).receiver

  pub fits-tested : (l : Lists) {t : Bool} → t ≡ (own && receive_lent k.receiver l) → t ≡ receive_fits k l
  unfolding receive_fits
  fits-tested l e = e ∙ ap (λ (b : Bool). b && receive_lent k.receiver l) asked
