-- The test of the send memory is true exactly when its facts hold; these and a sound ring say the same; and una, acks and fastack keep what they ask.
-- Assumes nothing.
use Prim.Native.Nat.{ℕ, ◌*◌, ◌/◌, ◌≤◌, ◌<◌}
use native.Mathlib.Omega.{arith}
use native.Mathlib.Decide.{ℕ_discrete}
use mathlib.Core.Path.{◌≡◌, sym, ap, ◌∙◌, subst}
use mathlib.Core.Bool.{Bool, ◌&&◌}
use mathlib.Core.Logic.{◌⊎◌, inl, inr}
use mathlib.Core.List.{List}
use lib.ListN.{length}
use Rattle.std.proofs.Common.{Option}
use Rattle.ring.specs.Lists.{Lists, lists}
use Rattle.ring.proofs.Places.{place-zero}
use Rattle.ring.proofs.Counting.{count_le}
use Rattle.snd_ring.specs.Store.{Store, store_of, Sound}
use Rattle.snd_ring.proofs.Splits.{marks-length, rows-length, store-room}
use Rattle.snd_ring.proofs.Tests.{fit-marked, marked-fit}
use Rattle.block.specs.declared.sender.Sender.{Sender}
use Rattle.block.specs.declared.Kcp.{Kcp}
use Rattle.block.specs.Sizes.{send_slots, RingSizes}
use Rattle.block.specs.WellFormed.{own_numbers, OwnNumbers, SenderFits}
use Rattle.block.proofs.Exact.{Exactly, exactly_both, exactly_as, ring-sizes, own-numbers, send-numbers}
use Rattle.sending.specs.declared.Ack.{Ack}
use Rattle.transmit.specs.Memory.{Side, side, una_at, ack_at, fastack_at}
use Rattle.transmit.specs.Fits.{send_lent, SendLent, send_fits, SendFits, Lies}
use Rattle.transmit.proofs.Seen.{live-flying, una-sound, ack-sound, fastack-sound}

-- ---- the test

pub lent-exactly : (s : Sender) (l : Lists) → Exactly (send_lent s l) (SendLent s l)
unfolding send_lent
lent-exactly s l =
    exactly_as
    (λ p. record { sizes = p.0; numbers = p.1.0; marked = p.1.1 })
    (λ f. (f.sizes, (f.numbers, f.marked)))
    (exactly_both (ring-sizes 128 1024 (send_slots (length l.records)) 9 (length l.records) (length l.room))
    (exactly_both (send-numbers (send_slots (length l.records)) s)
    (record { holds = fit-marked s.ring (store_of 8 l).marks; tests = marked-fit s.ring (store_of 8 l).marks })))

pub exactly : (k : Kcp) (l : Lists) → Exactly (send_fits k l) (SendFits k l)
unfolding send_fits
exactly k l = exactly_as (λ p. record { own = p.0; lent = p.1 }) (λ f. (f.own, f.lent)) (exactly_both (own-numbers k) (lent-exactly k.sender l))

-- ---- its facts and a sound ring

pub sound_of : {k : Kcp} {l : Lists} → SendFits k l → Sound 8 k.sender.ring (store_of 8 l)
sound_of {l} f =
    let n = marks-length 8 l in
    let z = f.lent.sizes in
    let h = z.few.high in
    record {
      shaped = record {
        sized = record {
          most = omega arith;
          rows-size = let a = rows-length 8 l in let b = z.recorded in omega arith;
          room-size = ap length (store-room 8 l) ∙ let b = z.roomy in omega arith;
        };
        inside = let a = f.lent.numbers.start in omega arith;
        many = let a = f.lent.numbers.used in omega arith;
      };
      marked = f.lent.marked;
    }

pub fits_of : (k : Kcp) (l : Lists) → OwnNumbers k → RingSizes 128 1024 (send_slots (length l.records)) 9 (length l.records) (length l.room)
    → Sound 8 k.sender.ring (store_of 8 l) → SendFits k l
fits_of k l own sizes o =
    let n = marks-length 8 l in
    record {
      own = own;
      lent = record {
        sizes = sizes;
        numbers = record { start = let a = o.shaped.inside in omega arith; used = let a = o.shaped.many in omega arith };
        marked = o.marked;
      };
    }

-- and where that is asked of the block k
pub fits-tested : (k : Kcp) {own : Bool} → own ≡ own_numbers k → (l : Lists) {t : Bool} → t ≡ (own && send_lent k.sender l) → t ≡ send_fits k l
unfolding send_fits
fits-tested k asked l e = e ∙ ap (λ (b : Bool). b && send_lent k.sender l) asked

-- the block's own numbers of a sound ring fit
pub sender_fits_of : (s : Sender) (m : Store) → Sound 8 s.ring m → length m.marks ≤ 1024 → SenderFits s
sender_fits_of s m o few =
    let e = o.marked.counted in
    record {
      used = let a = o.shaped.many in omega arith;
      gaps = let a = count_le 1 m.marks s.ring.start 0 s.ring.reach in omega arith;
      front = go (ℕ_discrete s.ring.reach 0);
      start = let a = o.shaped.inside in omega arith;
    }
  where
    go : Dec (s.ring.reach ≡ 0) → (s.ring.reach ≡ 0) ⊎ (0 < s.ring.flying)
    go (yes r) = inl r
    go (no r) =
        let h : 0 < s.ring.reach = omega arith in
        inr (live-flying s.ring m o 0 h (rw (place-zero (length m.marks) s.ring.start o.shaped.inside) (o.marked.normal h)))

-- ---- what una, acks and fastack ask, and that they keep it

pub lies_of : (s : Sender) (records room : List ℕ) → Sound 8 s.ring (store_of 8 (lists records room)) → Lies s records
lies_of s records room o = record { room = room; sound = o }

pub lies-sound : {s : Sender} {records : List ℕ} → Lies s records → (room : List ℕ) → length room ≡ length records / 9 * 1476
    → Sound 8 s.ring (store_of 8 (lists records room))
unfolding store_of
lies-sound {records} l room e =
    let o = l.sound in
    let n = marks-length 8 (lists records room) in
    record {
      shaped = record {
        sized = record { most = o.shaped.sized.most; rows-size = o.shaped.sized.rows-size; room-size = rw n e };
        inside = o.shaped.inside;
        many = o.shaped.many;
      };
      marked = o.marked;
    }

-- r and b are what the call left
module _ {s : Sender} {a : List ℕ} (l : Lies s a) where
  pub una-lies : (una : ℕ) {r : Sender} → ((room : List ℕ) → r ≡ una_at una s (store_of 8 (lists a room))) → Lies r a
  una-lies una e = record {
    room = l.room;
    sound = subst (λ (x : Sender). Sound 8 x.ring (store_of 8 (lists a l.room))) (sym (e l.room)) (una-sound una s (store_of 8 (lists a l.room)) l.sound);
  }

  pub ack-lies : (x : ℕ) {r : Sender} (b : List ℕ) → ((room : List ℕ) → side r (store_of 8 (lists b room)) ≡ ack_at x s (store_of 8 (lists a room))) → Lies r b
  ack-lies x b e = record {
    room = l.room;
    sound = subst (λ (y : Side). Sound 8 y.sender.ring y.store) (sym (e l.room)) (ack-sound x s (store_of 8 (lists a l.room)) l.sound);
  }

  pub fastack-lies : (latest : Option Ack) (b : List ℕ) → ((room : List ℕ) → store_of 8 (lists b room) ≡ fastack_at latest s (store_of 8 (lists a room))) → Lies s b
  fastack-lies latest b e = record {
    room = l.room;
    sound = subst (Sound 8 s.ring) (sym (e l.room)) (fastack-sound latest s (store_of 8 (lists a l.room)) l.sound);
  }
