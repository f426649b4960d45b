-- The two lent lists of the send side and their marks, rows and room: each gives back the other. Assumes nothing.
use Prim.Native.Nat.{◌/◌}
use native.Mathlib.Omega.{arith}
use mathlib.Core.Path.{◌≡◌, refl, sym, ap, ◌∙◌}
use mathlib.Core.List.{◌++◌}
use lib.ListN.{length, length-append}
use lib.Seq.{take_at, drop_at}
use Rattle.ring.specs.Lists.{Lists}
use Rattle.snd_ring.specs.Store.{Store, store_of, Sized}
use Rattle.snd_ring.proofs.Splits.{store-records, store-room}
use Rattle.transmit.proofs.Seen.{AsLarge}
use Rattle.history.specs.Calls.{lists_of, Memory}

pub lists_back : (l : Lists) → lists_of (store_of 8 l) ≡ l
lists_back l = let a = store-records 8 l in let b = store-room 8 l in rw (a, b)

pub store-back : (m : Store) → Sized 8 m → store_of 8 (lists_of m) ≡ m
unfolding store_of
store-back m z =
    let r = z.rows-size in
    let l = length-append m.marks m.rows in
    let n : length (m.marks ++ m.rows) / 9 ≡ length m.marks = omega arith in
    rw (n, take_at m.marks m.rows (length m.marks) refl, drop_at m.marks m.rows (length m.marks) refl)

-- what is as it was
pub as_it_was : (m : Memory) → record { block = m.block; rcv = m.rcv; acks = m.acks; waiting = m.waiting; snd = lists_of (store_of 8 m.snd) } ≡ m
as_it_was m = ap (λ (l : Lists). record { block = m.block; rcv = m.rcv; acks = m.acks; waiting = m.waiting; snd = l }) (lists_back m.snd)

-- a store that is as large as that of lists has lists that are as long
module _ (l : Lists) (m : Store) (x : AsLarge (store_of 8 l) m) where
  pub records-back : length (lists_of m).records ≡ length l.records
  records-back =
      length-append m.marks m.rows ∙ rw (x.marks, x.rows) (sym (length-append (store_of 8 l).marks (store_of 8 l).rows) ∙ ap length (store-records 8 l))

  pub room_back : length m.room ≡ length l.room
  room_back = x.room ∙ ap length (store-room 8 l)
