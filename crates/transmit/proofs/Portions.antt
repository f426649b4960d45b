-- `parse_fastack` by places: what the walk over a portion's flight records leaves is what the portion's places become, portions make a run, and a run, or
-- two round the ring's end, are the indices in flight. Assumes nothing.
use Prim.Native.Nat.{ℕ, zero, suc, ◌+◌, ◌-◌, ◌*◌, ◌/◌, ◌≤◌, ◌<◌, min}
use native.Mathlib.Omega.{arith}
use native.Mathlib.Numerals.{add-one}
use mathlib.Core.Path.{◌≡◌, refl, sym, ap, ◌∙◌}
use mathlib.Core.List.{List, [], ◌∷◌}
use lib.ListN.{length, get_or, set, length-set}
use lib.Seq.{get_or-set_other}
use borrow.Author.Tests.{eq-eqb, ne_eqb}
use Rattle.ring.specs.Lists.{lists}
use Rattle.ring.specs.Places.{place}
use Rattle.ring.proofs.Places.{by_less, place-low, place-high}
use Rattle.ring.proofs.Rows.{put_one}
use Rattle.snd_ring.specs.declared.SndRing.{SndRing}
use Rattle.snd_ring.specs.Store.{Store, store, store_of}
use Rattle.snd_ring.specs.Steps.{renumbered}
use Rattle.snd_ring.proofs.Marks.{by-live}
use Rattle.snd_ring.proofs.Splits.{marks-length, rows-length, mark-read}
use Rattle.sending.specs.declared.Flight.{Flight}
use Rattle.sending.specs.Flights.{raised_flight, raised_flights}
use Rattle.transmit.specs.Memory.{fastack, raised_one, raised_from}
use Rattle.transmit.proofs.Numbers.{rows-room}
use Rattle.transmit.specs.Portions.{flight_at, none, Gathered, written_back, put_back, raised_run}

-- ---- one place

module _ (f : Flight) (q : ℕ) (m : Store) where
  pub back-gap : get_or m.marks q 0 ≡ 0 → written_back f q m ≡ m
  unfolding written_back
  back-gap h = rw (eq-eqb (get_or m.marks q 0) 0 h)

  pub back-live : (get_or m.marks q 0 ≡ 0 → ⊥) → written_back f q m ≡ renumbered 8 m q fastack f.fastack
  unfolding written_back
  back-live h = rw (ne_eqb (get_or m.marks q 0) 0 h)

  by-back : (P : Store → Type 0) → P m → P (renumbered 8 m q fastack f.fastack) → P (written_back f q m)
  by-back P a b = by-live (get_or m.marks q 0) (λ h e. rw (back-gap h) a) (λ h e. rw (back-live h) b)

  back-marks : (written_back f q m).marks ≡ m.marks
  back-marks = by-back (λ (y : Store). y.marks ≡ m.marks) refl refl

  module _ (inside : q * 8 + 8 ≤ length m.rows) where
    one : set m.rows (q * 8 + 6) f.fastack ≡ (renumbered 8 m q fastack f.fastack).rows
    one = put_one m.rows (q * 8 + 6) f.fastack (omega arith)

    back-rows : length (written_back f q m).rows ≡ length m.rows
    back-rows = by-back (λ (y : Store). length y.rows ≡ length m.rows) refl (rw (← one, length-set m.rows (q * 8 + 6) f.fastack))

    -- the record at another place stays
    back-other : (p : ℕ) → (p ≡ q → ⊥) → flight_at (written_back f q m) p ≡ flight_at m p
    back-other p d =
        by-back (λ (y : Store). flight_at y p ≡ flight_at m p) refl
        (rw (
          ← one,
          get_or-set_other m.rows (q * 8 + 6) (p * 8 + 2) f.fastack 0 (λ z. omega arith),
          get_or-set_other m.rows (q * 8 + 6) (p * 8 + 3) f.fastack 0 (λ z. omega arith),
          get_or-set_other m.rows (q * 8 + 6) (p * 8 + 6) f.fastack 0 (λ z. omega arith),
        ))

-- what `put_one` finds and leaves
module _ (f : Flight) (a room : List ℕ) (q : ℕ) (inside : q < length a / 9) where
  abbrev here : Store
  here = store_of 8 (lists a room)

  mark-here : get_or a q 0 ≡ get_or here.marks q 0
  mark-here = mark-read 8 a room q 0 (omega arith)

  pub put_none : get_or a q 0 ≡ 0 → here ≡ written_back f q here
  put_none z = sym (back-gap f q here (sym mark-here ∙ z))

  pub put_some : (get_or a q 0 ≡ 0 → ⊥) → {k : Store} → k ≡ renumbered 8 here q fastack f.fastack → k ≡ written_back f q here
  put_some live d = d ∙ sym (back-live f q here (λ z. live (mark-here ∙ z)))

-- ---- the loops over a portion

-- what is left to write from record i on
module _ (fs : List Flight) (q n : ℕ) (m : Store) where
  pub back_more : (i : ℕ) → i < n → {k : Store} → k ≡ written_back (get_or fs i none) (q + i) m → put_back fs q (i + 1) (n - (i + 1)) k ≡ put_back fs q i (n - i) m
  unfolding put_back
  back_more i h d = let e : n - i ≡ suc (n - (i + 1)) = omega arith in rw (e, d, add-one)

  pub back_end : (i : ℕ) → n ≤ i → put_back fs q i (n - i) m ≡ m
  unfolding put_back
  back_end i h = let e : n - i ≡ 0 = omega arith in rw e

module _ (ack late : ℕ) where
  -- ---- a portion

  abbrev step : Flight → Flight
  step = raised_flight ack late

  -- the walk's record j
  walked_at : (j : ℕ) (fs : List Flight) → j < length fs → get_or (raised_flights ack late fs) j none ≡ step (get_or fs j none)
  walked_at j [] h = absurd (omega arith)
  walked_at zero (x ∷ fs) h = refl
  walked_at (suc j) (x ∷ fs) h = walked_at j fs (omega arith)

  -- the places from record j's on are what the walk's records from there on say
  back-run : (gs : List Flight) (q j n : ℕ) (m : Store) → (q + j + n) * 8 ≤ length m.rows
      → ((k : ℕ) → j ≤ k → k < j + n → get_or gs k none ≡ step (flight_at m (q + k))) → put_back gs q j n m ≡ raised_run ack late (q + j) n m
  unfolding put_back raised_run
  back-run gs q j zero m h g = refl
  back-run gs q j (suc n) m h g =
      let m' = written_back (step (flight_at m (q + j))) (q + j) m in
      let l = back-rows (step (flight_at m (q + j))) (q + j) m (omega arith) in
      let e : q + suc j ≡ suc (q + j) = omega arith in
      ap (λ (f : Flight). put_back gs q (suc j) n (written_back f (q + j) m)) (g j (omega arith) (omega arith))
      ∙ back-run gs q (suc j) n m' (omega arith)
      (λ k a b. g k (omega arith) (omega arith) ∙ ap step (sym (back-other (step (flight_at m (q + j))) (q + j) m (omega arith) (q + k) (λ z. omega arith))))
      ∙ ap (λ (p : ℕ). raised_run ack late p n m') e

  -- the records fs were gathered of the memory a, the walk made them gs, and k is the memory once they are back
  pub part-done : (a : List ℕ) (q n : ℕ) → q + n ≤ length a / 9 → (fs : List Flight) {gs : List Flight} → length fs ≡ n → Gathered (store_of 8 (lists a [])) q n fs
      → gs ≡ raised_flights ack late fs → (room : List ℕ) {k : Store} → k ≡ put_back gs q 0 n (store_of 8 (lists a room)) → k ≡ raised_run ack late q n (store_of 8 (lists a room))
  part-done a q n h fs l g d room f =
      let m = store_of 8 (lists a room) in
      let z : q + 0 ≡ q = omega arith in
      let w = rows-length 8 (lists a room) in
      f ∙ back-run _ q 0 n m (omega arith)
      (λ j _ b. ap (λ (y : List Flight). get_or y j none) d ∙ walked_at j fs (omega arith) ∙ ap step (g j (omega arith) ∙ ap (λ (y : List ℕ). flight_at (store [] y []) (q + j)) (rows-room a [] room)))
      ∙ ap (λ (p : ℕ). raised_run ack late p n m) z

  -- ---- portions make a run

  pub run_add : (q a b : ℕ) (m : Store) → raised_run ack late q (a + b) m ≡ raised_run ack late (q + a) b (raised_run ack late q a m)
  unfolding raised_run
  run_add q zero b m = let e : 0 + b ≡ b = omega arith in let z : q + 0 ≡ q = omega arith in rw (e, z)
  run_add q (suc a) b m =
      let e : suc a + b ≡ suc (a + b) = omega arith in
      let z : q + suc a ≡ suc q + a = omega arith in
      rw (e, z) (run_add (suc q) a b _)

  run-marks : (q n : ℕ) (m : Store) → (raised_run ack late q n m).marks ≡ m.marks
  unfolding raised_run
  run-marks q zero m = refl
  run-marks q (suc n) m = run-marks (suc q) n _ ∙ back-marks (step (flight_at m q)) q m

  -- what is left of the run from q on
  pub run_more : (q n to : ℕ) (m : Store) → q + n ≤ to → {k : Store} → k ≡ raised_run ack late q n m → raised_run ack late (q + n) (to - (q + n)) k ≡ raised_run ack late q (to - q) m
  run_more q n to m h d = let e : to - q ≡ n + (to - (q + n)) = omega arith in rw (e, d) (sym (run_add q n (to - (q + n)) m))

  pub run_end : (q to : ℕ) (m : Store) → to ≤ q → raised_run ack late q (to - q) m ≡ m
  unfolding raised_run
  run_end q to m h = let e : to - q ≡ 0 = omega arith in rw e

  -- the same by steps of 64, the last of which is cut to what is left
  pub run_step : (q n to : ℕ) (m : Store) → n ≡ min (to - q) 64 → {k : Store} → k ≡ raised_run ack late q n m → raised_run ack late (q + 64) (to - (q + 64)) k ≡ raised_run ack late q (to - q) m
  run_step q n to m e {k} d =
      by_less 64 (to - q)
      (λ h. let f : n ≡ 64 = omega arith in run_more q 64 to m (omega arith) (rw f at d))
      (λ h. let f : n ≡ to - q = omega arith in run_end (q + 64) to k (omega arith) ∙ rw f at d)

  -- ---- a run, or two, are the indices in flight

  module _ (r : SndRing) where
    one_place : (i : ℕ) (m : Store) {q : ℕ} → place (length m.marks) r.start i ≡ q → raised_one ack late r i m ≡ written_back (step (flight_at m q)) q m
    unfolding raised_one written_back
    one_place i m e = rw e

    from_add : (i a b : ℕ) (m : Store) → raised_from ack late r i (a + b) m ≡ raised_from ack late r (i + a) b (raised_from ack late r i a m)
    unfolding raised_from
    from_add i zero b m = let e : 0 + b ≡ b = omega arith in let z : i + 0 ≡ i = omega arith in rw (e, z)
    from_add i (suc a) b m =
        let e : suc a + b ≡ suc (a + b) = omega arith in
        let z : i + suc a ≡ suc i + a = omega arith in
        rw (e, z) (from_add (suc i) a b _)

    -- the n indices from i on have the n places from q on
    as-run : (p i q n : ℕ) (m : Store) → length m.marks ≡ p → ((k : ℕ) → k < n → place p r.start (i + k) ≡ q + k) → raised_from ack late r i n m ≡ raised_run ack late q n m
    unfolding raised_from raised_run
    as-run p i q zero m e g = refl
    as-run p i q (suc n) m e g =
        let a : i + 0 ≡ i = omega arith in
        let b : q + 0 ≡ q = omega arith in
        ap (raised_from ack late r (suc i) n) (one_place i m (rw e (rw (a, b) at (g 0 (omega arith)))))
        ∙ as-run p (suc i) (suc q) n _ (ap length (back-marks (step (flight_at m q)) q m) ∙ e)
        (λ k h. let c : suc i + k ≡ i + suc k = omega arith in let d : suc q + k ≡ q + suc k = omega arith in rw (c, d) (g (suc k) (omega arith)))

    two_runs : (m : Store) {p first : ℕ} → length m.marks ≡ p → r.start < p → first ≡ min r.reach (p - r.start)
        → raised_run ack late 0 (r.reach - first) (raised_run ack late r.start first m) ≡ raised_from ack late r 0 r.reach m
    two_runs m {p} {first} e h f =
        let a : first ≤ r.reach = omega arith in
        let b : first ≤ p - r.start = omega arith in
        let c : r.reach ≡ first + (r.reach - first) = omega arith in
        let z : 0 + first ≡ first = omega arith in
        let m' = raised_run ack late r.start first m in
        let low = as-run p 0 r.start first m e (λ k l. place-low p r.start (0 + k) (omega arith) ∙ omega arith) in
        let high = as-run p first 0 (r.reach - first) m' (ap length (run-marks r.start first m) ∙ e) (λ k l. place-high p r.start (first + k) (omega arith) ∙ omega arith) in
        sym high ∙ ap (raised_from ack late r first (r.reach - first)) (sym low) ∙ sym (rw z at (from_add 0 first (r.reach - first) m)) ∙ ap (λ (n : ℕ). raised_from ack late r 0 n m) (sym c)

    -- k is the memory after the first run, and after the second l
    pub runs_done : (a room : List ℕ) {slots first : ℕ} → slots ≡ length a / 9 → r.start < length a / 9 → first ≡ min r.reach (slots - r.start)
        → {k l : Store} → k ≡ raised_run ack late r.start (r.start + first - r.start) (store_of 8 (lists a room)) → l ≡ raised_run ack late 0 (r.reach - first - 0) k
        → l ≡ raised_from ack late r 0 r.reach (store_of 8 (lists a room))
    runs_done a room {first} e h f x y =
        let b : r.start + first - r.start ≡ first = omega arith in
        let c : r.reach - first - 0 ≡ r.reach - first = omega arith in
        y ∙ rw (c, x, b) (two_runs (store_of 8 (lists a room)) (marks-length 8 (lists a room) ∙ sym e) (omega arith) f)
