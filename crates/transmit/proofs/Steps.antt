-- What the steps of the code ask and give, in the words of `specs/Memory.antt`. Assumes nothing.
use Prim.Native.Nat.{ℕ, ◌+◌, ◌-◌, ◌/◌, ◌≤◌, ◌<◌}
use native.Mathlib.Omega.{arith}
use mathlib.Core.Path.{◌≡◌, refl, sym, ap, ◌∙◌, subst}
use mathlib.Core.Bool.{Bool, true, false, not}
use mathlib.Core.List.{List, []}
use lib.ListN.{length, take, drop}
use borrow.Author.Tests.{not-true, not-false}
use Rattle.serial.specs.Branch.{pick_true, pick-false}
use Rattle.std.proofs.Common.{Some, None}
use Rattle.ring.specs.Lists.{lists}
use Rattle.ring.specs.Records.{number_at}
use Rattle.snd_ring.specs.declared.SndRing.{SndRing}
use Rattle.snd_ring.specs.Store.{Store, store_of, Sound}
use Rattle.snd_ring.specs.Steps.{dropped, gapped, taken_out, with_marks}
use Rattle.snd_ring.proofs.Splits.{marks-length, part-marks}
use Rattle.block.specs.declared.sender.Sender.{Sender}
use Rattle.block.specs.Parts.{with_snd_ring, with_una}
use Rattle.sending.specs.declared.Ack.{Ack}
use Rattle.sending.specs.Rules.{acknowledged_by, una_of, in_range, found}
use Rattle.transmit.specs.Memory.{sn, flying_numbers, Side, side, shrunk_at, una_at, sought, found_at, removed_at, shrunk_side, ack_at, raised_from, fastack_at}
use Rattle.transmit.specs.Fits.{Lies, Inside}
use Rattle.transmit.proofs.Numbers.{numbers-room, rows-room, una_none, una-front, Ends, met-at, unmet as not-met}
use Rattle.transmit.proofs.Seen.{acknowledged-flying, una-sound, removed-sound, found-flying}

-- ---- what the calls below ask of the memory, and `shrink`

module _ {s : Sender} {a : List ℕ} (l : Lies s a) where
  abbrev m : Store
  m = store_of 8 (lists a l.room)

  pub asks : (length a / 9 ≤ 65535) × (s.ring.start < length a / 9) × (s.ring.reach + s.ring.unsent ≤ length a / 9)
  asks =
      let n = marks-length 8 (lists a l.room) in
      let z = l.sound.shaped in
      (let h = z.sized.most in omega arith, let h = z.inside in omega arith, let h = z.many in omega arith)

  pub inside : Inside s.ring a
  inside = let w = asks in record { many = w.0; started = w.1; reached = omega arith }

  pub shrunk_none : s.ring.reach ≡ 0 → (room : List ℕ) → with_una s s.snd_nxt ≡ shrunk_at s (store_of 8 (lists a room))
  unfolding shrunk_at
  shrunk_none z room = ap (with_una s) (una_none s.snd_nxt s.ring (store_of 8 (lists a room)) z)

  pub shrunk-front : (s.ring.reach ≡ 0 → ⊥) → {u : ℕ} → u ≡ number_at 8 (store_of 8 (lists a [])).rows s.ring.start sn
      → (room : List ℕ) → with_una s u ≡ shrunk_at s (store_of 8 (lists a room))
  unfolding shrunk_at
  shrunk-front d e room =
      let f = e ∙ ap (λ (k : List ℕ). number_at 8 k s.ring.start sn) (rows-room a [] l.room) ∙ una-front s.snd_nxt s.ring m l.sound (omega arith) in
      ap (with_una s) (f ∙ ap (una_of s.snd_nxt) (numbers-room s.ring a l.room room))

  -- ---- `parse_una`

  module _ (una : ℕ) {slots n : ℕ} (e : slots ≡ length a / 9) (f : (room : List ℕ) → n ≡ acknowledged_by una (flying_numbers s.ring (store_of 8 (lists a room)))) where
    pub few : n ≤ s.ring.flying
    few = let h = acknowledged-flying una s m l.sound in let g = f l.room in omega arith

    -- the ring t after the drop, and the sender v with it
    module _ {t : SndRing} (d : t ≡ dropped s.ring (take (slots - 0) (drop 0 a)) n) {v : Sender} (w : v ≡ with_snd_ring s t) where
      una_by : (room : List ℕ) → shrunk_at v (store_of 8 (lists a room)) ≡ una_at una s (store_of 8 (lists a room))
      unfolding una_at
      una_by room = rw (w, d, part-marks 8 a room slots e, f room)

      pub una_left : Lies v a
      unfolding shrunk_at
      una_left = record { room = l.room; sound = subst (λ (x : Sender). Sound 8 x.ring m) (sym (una_by l.room)) (una-sound una s m l.sound) }

      pub una-done : {r : Sender} → ((room : List ℕ) → r ≡ shrunk_at v (store_of 8 (lists a room))) → (room : List ℕ) → r ≡ una_at una s (store_of 8 (lists a room))
      una-done g room = g room ∙ una_by room

  -- ---- `parse_ack`

  module _ (x : ℕ) {t : Bool} (e : t ≡ in_range s.snd_una s.snd_nxt x) where
    abbrev is_found : List ℕ → Bool
    is_found room = found s.snd_una s.snd_nxt x (flying_numbers s.ring (store_of 8 (lists a room)))

    -- what shrink answers where nothing is removed
    module _ {r : Sender} (f : (room : List ℕ) → r ≡ shrunk_at s (store_of 8 (lists a room))) (room : List ℕ) where
      unmet : is_found room ≡ false → side r (store_of 8 (lists a room)) ≡ ack_at x s (store_of 8 (lists a room))
      unfolding ack_at shrunk_side
      unmet n = rw (f room, pick-false _ _ n)

      pub ack-out : not t ≡ true → side r (store_of 8 (lists a room)) ≡ ack_at x s (store_of 8 (lists a room))
      unfolding found
      ack-out h = unmet (rw (← e, not-true t h))

      pub ack-unmet : not t ≡ false → ((room : List ℕ) → None ≡ found_at x s.ring (store_of 8 (lists a room)))
          → side r (store_of 8 (lists a room)) ≡ ack_at x s (store_of 8 (lists a room))
      unfolding found
      ack-unmet h g = unmet (rw (← e, not-false t h, not-met x s.ring _ (g room)))

    module _ (h : not t ≡ false) {i : ℕ} (g : (room : List ℕ) → Some i ≡ found_at x s.ring (store_of 8 (lists a room))) where
      ends : (room : List ℕ) → Ends x s.ring (store_of 8 (lists a room)) i true
      ends room = met-at x s.ring _ i (g room)

      is_found_lem : (room : List ℕ) → is_found room ≡ true
      unfolding found
      is_found_lem room = rw (← e, not-false t h, ← (ends room).met_is)

      pub ack-at : (i < s.ring.reach) × (0 < s.ring.flying)
      ack-at =
          let k = (ends l.room).at_is in
          let f = found-flying x s m l.sound (is_found_lem l.room) in
          (omega arith, omega arith)

      -- the ring u and the records b after it, and the sender v with the ring
      module _ {u : SndRing} (b : List ℕ)
          (d : (room : List ℕ) → (u ≡ taken_out s.ring (store_of 8 (lists a room)).marks i) × (store_of 8 (lists b room) ≡ with_marks (store_of 8 (lists a room)) (gapped s.ring (store_of 8 (lists a room)).marks i)))
          {v : Sender} (w : v ≡ with_snd_ring s u) where
        removed_by : (room : List ℕ) → side v (store_of 8 (lists b room)) ≡ removed_at (sought x s.ring (store_of 8 (lists a room)) 0 s.ring.reach) s (store_of 8 (lists a room))
        unfolding removed_at
        removed_by room = rw (w, (d room).0, (d room).1, (ends room).at_is)

        pub ack_left : Lies v b
        ack_left = record {
          room = l.room;
          sound = subst (λ (y : Side). Sound 8 y.sender.ring y.store) (sym (removed_by l.room)) (removed-sound x s m l.sound (is_found_lem l.room));
        }

        pub ack-done : {r : Sender} → ((room : List ℕ) → r ≡ shrunk_at v (store_of 8 (lists b room))) → (room : List ℕ) → side r (store_of 8 (lists b room)) ≡ ack_at x s (store_of 8 (lists a room))
        unfolding ack_at shrunk_side
        ack-done f room =
            ap (λ (r : Sender). side r (store_of 8 (lists b room))) (f room)
            ∙ ap (λ (y : Side). side (shrunk_at y.sender y.store) y.store) (removed_by room ∙ sym (pick_true _ _ (is_found_lem room)))

-- ---- `parse_fastack`

pub fastack_none : (s : Sender) (k : Store) → k ≡ fastack_at None s k
unfolding fastack_at
fastack_none s k = refl

module _ (l : Ack) (s : Sender) (m : Store) {t : Bool} (e : t ≡ in_range s.snd_una s.snd_nxt l.sn) where
  pub fastack_yes : t ≡ true → {k : Store} → k ≡ raised_from l.sn l.ts s.ring 0 s.ring.reach m → k ≡ fastack_at (Some l) s m
  unfolding fastack_at
  fastack_yes h d = d ∙ sym (pick_true _ _ (sym e ∙ h))

  pub fastack_no : t ≡ false → m ≡ fastack_at (Some l) s m
  unfolding fastack_at
  fastack_no h = sym (pick-false _ _ (sym e ∙ h))
