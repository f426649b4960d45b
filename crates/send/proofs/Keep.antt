-- What a send leaves of a sound ring: it is sound again and as large as it was, what flies is as it was, and so are the numbers beside the ring; a
-- block and a send memory that fit meet what `send` asks, and a send leaves them fitting. Assumes nothing.
use Prim.Native.Nat.{ℕ, ◌+◌, ◌-◌, ◌≤◌, ◌<◌}
use native.Mathlib.Omega.{arith}
use native.Mathlib.Decide.{dec_lt}
use mathlib.Core.Path.{◌≡◌, refl, sym, ap, ◌∙◌}
use mathlib.Core.Logic.{◌⊎◌, inl, inr}
use mathlib.Core.Bool.{Bool}
use mathlib.Core.List.{List}
use lib.ListN.{length, get_or}
use Rattle.ring.specs.Lists.{Lists}
use Rattle.ring.proofs.Places.{place-zero}
use Rattle.ring.proofs.Counting.{count_add, count_single}
use Rattle.snd_ring.specs.declared.SndRing.{SndRing}
use Rattle.snd_ring.specs.Marks.{mark_at, lives}
use Rattle.snd_ring.specs.Store.{Store, store_of, flight_of, Sized, Sound}
use Rattle.snd_ring.proofs.Splits.{marks-length, rows-length, store-room, same-lengths}
use Rattle.snd_ring.proofs.Marks.{live_yes}
use Rattle.snd_ring.proofs.Closing.{flying-few}
use Rattle.block.specs.declared.sender.Sender.{Sender}
use Rattle.block.specs.declared.Kcp.{Kcp}
use Rattle.block.specs.Parts.{with_sender, with_snd_ring}
use Rattle.transmit.specs.Memory.{Side}
use Rattle.transmit.specs.Fits.{SendFits}
use Rattle.send.specs.Memory.{laid, send_at}
use Rattle.send.proofs.Spaces.{Keeps, keeps_same}
use Rattle.send.proofs.Sends.{filled_keeps, sent-keeps, send_by}

module _ (mss : ℕ) (stream : Bool) (bytes : List ℕ) (s : Sender) (m : Store) (o : Sound 8 s.ring m) (small : mss ≤ 1476) where
  abbrev after : Side
  after = send_at mss stream bytes s m

  -- soundness, the slots, and what flies
  pub send-kept : Keeps s.ring m (laid after.sender.ring after.store)
  send-kept =
      send_by mss stream bytes s m (λ (y : Side). Keeps s.ring m (laid y.sender.ring y.store))
      (λ h. filled_keeps mss stream bytes s m o small)
      (λ h k. keeps_same s.ring m o)
      (λ h k. sent-keeps mss stream bytes s m o small k)

  pub send-sound : Sound 8 after.sender.ring after.store
  send-sound = send-kept.sound

  -- marks, rows and room are as long as they were
  pub send-slots : (length after.store.marks ≡ length m.marks) × ((length after.store.rows ≡ length m.rows) × (length after.store.room ≡ length m.room))
  send-slots =
      let e = send-kept.slots in
      let a = send-sound.shaped.sized in
      let b = o.shaped.sized in
      (e, (a.rows-size ∙ rw e (sym b.rows-size), a.room-size ∙ rw e (sym b.room-size)))

  pub send-flight : flight_of 8 after.sender.ring after.store ≡ flight_of 8 s.ring m
  send-flight = send-kept.flight

-- snd_una, snd_nxt, xmit and dead are as they were
pub send-beside : (mss : ℕ) (stream : Bool) (bytes : List ℕ) (s : Sender) (m : Store)
    → (send_at mss stream bytes s m).sender ≡ with_snd_ring s (send_at mss stream bytes s m).sender.ring
send-beside mss stream bytes s m =
    send_by mss stream bytes s m (λ (y : Side). y.sender ≡ with_snd_ring s y.sender.ring) (λ h. refl) (λ h k. refl) (λ h k. refl)

-- ---- a block and a send memory that fit

-- where the flight has an index, something flies
some-flies : (r : SndRing) (m : Store) → Sound 8 r m → (r.reach ≡ 0) ⊎ (0 < r.flying)
some-flies r m o = go (dec_lt 0 r.reach)
  where
    go : Dec (0 < r.reach) → (r.reach ≡ 0) ⊎ (0 < r.flying)
    go (no h) = inl (omega arith)
    go (yes h) =
        let e : r.reach ≡ 1 + (r.reach - 1) = omega arith in
        let z = place-zero (length m.marks) r.start o.shaped.inside in
        let l = live_yes (mark_at m.marks r.start 0) (λ y. o.marked.normal h (sym (ap (λ (q : ℕ). get_or m.marks q 0) z) ∙ y)) in
        let a = count_add 1 m.marks r.start 0 1 (r.reach - 1) in
        let b = count_single 1 m.marks r.start 0 in
        let d = o.marked.counted ∙ ap (lives m.marks r.start 0) e in
        inr (omega arith)

module _ (k : Kcp) (l : Lists) (f : SendFits k l) where
  fits-sized : Sized 8 (store_of 8 l)
  fits-sized =
      let a = f.lent.sizes.few.high in
      let b = f.lent.sizes.recorded in
      let d = f.lent.sizes.roomy in
      let e = marks-length 8 l in
      let g = rows-length 8 l in
      let h = ap length (store-room 8 l) in
      record { most = omega arith; rows-size = omega arith; room-size = omega arith }

  pub fits-sound : Sound 8 k.sender.ring (store_of 8 l)
  fits-sound =
      let e = marks-length 8 l in
      let a = f.lent.numbers.start in
      let b = f.lent.numbers.used in
      record { shaped = record { sized = fits-sized; inside = omega arith; many = omega arith }; marked = f.lent.marked }

  -- a sound ring in as many slots fits too
  pub fits-again : (s : Sender) (l' : Lists) → Sound 8 s.ring (store_of 8 l') → length (store_of 8 l').marks ≡ length (store_of 8 l).marks → SendFits (with_sender k s) l'
  fits-again s l' o e =
      let g = same-lengths 8 l' l o.shaped.sized fits-sized e in
      let n = marks-length 8 l in
      let d = marks-length 8 l' in
      let u = o.shaped.many in
      let i = o.shaped.inside in
      let h = f.lent.sizes.few.high in
      record {
        own = record {
          settings = f.own.settings;
          probe = f.own.probe;
          receiver = f.own.receiver;
          sender = record { used = omega arith; gaps = flying-few 8 s.ring (store_of 8 l') o; front = some-flies s.ring (store_of 8 l') o; start = omega arith };
          acklist = f.own.acklist;
        };
        lent = record { sizes = rw (g.0, g.1) f.lent.sizes; numbers = record { start = omega arith; used = omega arith }; marked = o.marked };
      }

  pub send-asks : Sound 8 k.sender.ring (store_of 8 l) × ((26 ≤ k.settings.mss) × (k.settings.mss ≤ 1476))
  send-asks =
      let m = f.own.settings.mss in
      let a = f.own.settings.mtu.low in
      let b = f.own.settings.mtu.high in
      (fits-sound, (omega arith, omega arith))

  -- l' is what a send leaves of the lent lists
  pub send-keeps : (stream : Bool) (bytes : List ℕ) (l' : Lists) → store_of 8 l' ≡ (send_at k.settings.mss stream bytes k.sender (store_of 8 l)).store
      → SendFits (with_sender k (send_at k.settings.mss stream bytes k.sender (store_of 8 l)).sender) l'
  send-keeps stream bytes l' e =
      let o = send-kept k.settings.mss stream bytes k.sender (store_of 8 l) fits-sound send-asks.1.1 in
      fits-again (send_at k.settings.mss stream bytes k.sender (store_of 8 l)).sender l' (rw e o.sound) (rw e o.slots)
