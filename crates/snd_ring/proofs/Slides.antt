-- What `slide` finds and leaves: a gap, a segment that stays, or one that moves. Assumes nothing.
use mathlib.Core.Path.{◌≡◌, sym, ap, ◌∙◌}
use Prim.Native.Nat.{ℕ, ◌+◌, ◌-◌, ◌*◌, ◌/◌, ◌≤◌, ◌<◌}
use native.Mathlib.Omega.{arith}
use mathlib.Core.List.{List, ◌++◌, append_assoc}
use lib.ListN.{length, get_or, set, take, drop, take-append-drop}
use lib.Seq.{set-get_or, drop-drop}
use borrow.Author.Tests.{eq-eqb, ne_eqb}
use Rattle.ring.specs.Lists.{lists}
use Rattle.ring.specs.Places.{place}
use Rattle.ring.specs.Records.{put, part, put_slot, part_slot}
use Rattle.ring.proofs.Rows.{part_length}
use Rattle.ring.proofs.Places.{place_in}
use Rattle.snd_ring.specs.Marks.{live_of, mark_at}
use Rattle.snd_ring.specs.Store.{Store, store_of, Sized}
use Rattle.snd_ring.specs.Steps.{written, moved, slid_one}
use Rattle.snd_ring.proofs.Splits.{marks-length, rows-length, store-room, place_by, row_within, mark-read, part-rows, written_by}
use Rattle.snd_ring.proofs.Marks.{live_no, live_yes}
use Rattle.snd_ring.proofs.Views.{in_rows, in-room}

seam : (l : List ℕ) (at n : ℕ) → take at l ++ (part l at n ++ drop (at + n) l) ≡ l
unfolding part
seam l at n = rw (← drop-drop n at l, take-append-drop n (drop at l), take-append-drop at l)

-- what stands there is put there
put_same : (l : List ℕ) (at n : ℕ) → at + n ≤ length l → put l at (part l at n) ≡ l
unfolding put
put_same l at n h = rw (append_assoc, part_length l at n h) (seam l at n)

moved_same : (w : ℕ) (m : Store) → Sized w m → (q : ℕ) → q < length m.marks → get_or m.marks q 0 ≤ 1477 → moved w m q q ≡ m
unfolding written
moved_same w m z q h f =
    let a = in_rows w m z q h in
    let b = in-room w m z q h in
    rw (
      set-get_or m.marks q 0,
      put_same m.rows (q * w + 0) w (omega arith),
      put_same m.room (q * 1476 + 0) (get_or m.marks q 0 - 1) (omega arith),
    )

module _ (w : ℕ) (m : Store) (s i to : ℕ) where
  pub slid-gap : mark_at m.marks s i ≡ 0 → slid_one w m s i to ≡ m
  unfolding slid_one
  slid-gap h = rw (eq-eqb (mark_at m.marks s i) 0 h)

  pub slid_move : (mark_at m.marks s i ≡ 0 → ⊥) → slid_one w m s i to ≡ moved w m (place (length m.marks) s i) (place (length m.marks) s (to - 1))
  unfolding slid_one
  slid_move h = rw (ne_eqb (mark_at m.marks s i) 0 h)

-- ---- `slide`, over the two lent lists: index i is at place a

module _ (w : ℕ) (k c : List ℕ) (n s i to a : ℕ) (e : n ≡ length k / (w + 1)) (p : a ≡ place n s i) (q : a < n) where
  abbrev m : Store
  m = store_of w (lists k c)

  slots : n ≡ length m.marks
  slots = e ∙ sym (marks-length w (lists k c))

  pub here : get_or k a 0 ≡ mark_at m.marks s i
  here = mark-read w k c a 0 (omega arith) ∙ ap (λ (q : ℕ). get_or m.marks q 0) (place_by w (lists k c) n s i a e p)

  pub slide-gap : get_or k a 0 ≡ 0 → (to ≡ to - live_of (mark_at m.marks s i)) × (m ≡ slid_one w m s i to)
  slide-gap h = let f = live_no (mark_at m.marks s i) (sym here ∙ h) in (omega arith, sym (slid-gap w m s i to (sym here ∙ h)))

  module _ (live : get_or k a 0 ≡ 0 → ⊥) where
    one_less : to - 1 ≡ to - live_of (mark_at m.marks s i)
    one_less = let f = live_yes (mark_at m.marks s i) (λ z. live (here ∙ z)) in omega arith

    pub slide-stay : Sized w m → s < n → i ≤ n → mark_at m.marks s i ≤ 1477 → to - 1 ≡ i → (to - 1 ≡ to - live_of (mark_at m.marks s i)) × (m ≡ slid_one w m s i to)
    slide-stay z h d f g =
        let b = slots in (
          one_less,
          sym (slid_move w m s i to (λ y. live (here ∙ y)) ∙ rw g (moved_same w m z (place (length m.marks) s i) (place_in (length m.marks) s i (omega arith) (omega arith)) f)),
        )

    -- the row that is carried
    abbrev row : List ℕ
    row = part_slot w (take (length k - n) (drop n k)) a 0 w

    whole : length row ≡ w
    whole =
        let b = row_within w (length k) a (omega arith) in
        let l = rows-length w (lists k c) in
        rw (part-rows w k c n e) (part_length m.rows (a * w + 0) w (omega arith))

    moved_by : (b : ℕ) → written w m b (get_or k a 0) row (part_slot 1476 c a 0 (get_or k a 0 - 1)) ≡ moved w m a b
    moved_by b = rw (part-rows w k c n e, mark-read w k c a 0 (omega arith)) (ap (λ (l : List ℕ). written w m b (get_or m.marks a 0) (part_slot w m.rows a 0 w) (part_slot 1476 l a 0 (get_or m.marks a 0 - 1))) (sym (store-room w (lists k c))))

    pub slide_move : (b : ℕ) → b ≡ place n s (to - 1) → b < n → {r d : List ℕ}
        → r ≡ put_slot w (take (length k - n) (drop n k)) b 0 row → d ≡ put_slot 1476 c b 0 (part_slot 1476 c a 0 (get_or k a 0 - 1))
        → (to - 1 ≡ to - live_of (mark_at m.marks s i)) × (store_of w (lists (set (take n k ++ (r ++ drop (length k - n) (drop n k))) b (get_or k a 0)) d) ≡ slid_one w m s i to)
    slide_move b o h f g = (
      one_less,
      written_by w k c n b (get_or k a 0) row (part_slot 1476 c a 0 (get_or k a 0 - 1)) e h whole f g
          ∙ moved_by b
          ∙ rw (p, o, slots) (sym (slid_move w m s i to (λ y. live (here ∙ y)))),
    )
