-- The size pass: one place, a run of places, and the two runs of a ring's indices. Assumes nothing.
use Prim.Native.Nat.{ℕ, ◌+◌, ◌-◌, ◌/◌, ◌≤◌, ◌<◌}
use native.Mathlib.Omega.{arith}
use mathlib.Core.Path.{◌≡◌, sym, ap, ◌∙◌}
use mathlib.Core.Bool.{Bool, false, not}
use mathlib.Core.List.{List, [], ◌∷◌, ◌++◌}
use lib.ListN.{length, get_or}
use lib.Dec.{leb}
use borrow.Author.Tests.{not-false, ne_eqb}
use Rattle.serial.specs.Branch.{pick, pick_true, pick-false}
use Rattle.serial.specs.Wrap.{not_before}
use Rattle.ring.specs.Lists.{lists}
use Rattle.ring.specs.Places.{place}
use Rattle.ring.proofs.Places.{place_in}
use Rattle.ring.proofs.Sequences.{map_append}
use Rattle.snd_ring.specs.declared.SndRing.{SndRing}
use Rattle.snd_ring.specs.Marks.{mark_at}
use Rattle.snd_ring.specs.Store.{Store, store_of}
use Rattle.snd_ring.proofs.Splits.{marks-length}
use Rattle.flushing.specs.declared.due.Pace.{Pace}
use Rattle.flushing.specs.declared.due.Record.{Record}
use Rattle.flushing.specs.declared.due.Flown.{Flown}
use Rattle.flushing.specs.Due.{resends_fast, due_of, flown_by, goes_out}
use Rattle.flushing.specs.Pack.{sum_of}
use Rattle.packing.specs.declared.packer.Packer.{Packer}
use Rattle.packing.specs.Packer.{sized}
use Rattle.packing.proofs.Turns.{sized_none, sized_append, sized-sum, sized-count, cuts-few}
use Rattle.flight.specs.declared.Runs.{Runs}
use Rattle.flight.specs.Places.{places_of, run_of, Each, Covers}
use Rattle.flight.specs.Memory.{record_in, goes_at, size_in, size_at, sizes_over, fresh_sizes}
use Rattle.flight.proofs.Places.{each_append, places_each, run-next, run_end, run_all}
use Rattle.flight.proofs.Steps.{mark-at}
use Rattle.flight.proofs.Out.{goes-gap, goes-idle, goes-live, sizes-first, sizes_none, sizes_append}
use Rattle.due.specs.Pass.{Rung}

-- ---- `goes`

pub goes_by : (pace : Pace) (r s : Record) (f : Flown) (t : Bool) → r ≡ s → f ≡ flown_by pace r → t ≡ goes_out f.due → t ≡ goes_out (due_of pace s)
unfolding flown_by
goes_by pace r s f t a b c = c ∙ rw (b, a)

-- ---- `stirs`

-- fresh, out of time, or named by later acks: of none of these nothing goes out
pub calm : (pace : Pace) (r s : Record) → r ≡ s → (r.xmit ≡ 0 → ⊥) → {t : Bool} → t ≡ not_before pace.current r.resendts → t ≡ false → leb pace.resent r.fastack ≡ false
    → goes_out (due_of pace s) ≡ false
unfolding due_of resends_fast pick
calm pace r s e x f g l = rw (← e, ne_eqb r.xmit 0 x, sym f ∙ g, l)

-- ---- one piece

-- by how much the packer grows
pub grows : (mtu : ℕ) (p r : Packer) (k : ℕ) → r ≡ sized mtu p (k ∷ []) → k ≤ 1500 → (r.start + r.used ≤ p.start + p.used + 1500) × (r.count ≤ p.count + 1)
unfolding sum_of
grows mtu p r k e h =
    let s = ap (λ (q : Packer). q.start + q.used) e ∙ sized-sum mtu p (k ∷ []) in
    let c = ap (λ (q : Packer). q.count) e ∙ sized-count mtu p (k ∷ []) in
    (omega arith, omega (arith, cuts-few mtu p.used (k ∷ [])))

module _ (pace : Pace) (mtu : ℕ) (p : Packer) (a : List ℕ) (q : ℕ) (h : q < length a / 9) where
  none : (m : Store) → goes_at pace m q ≡ false → p ≡ sized mtu p (size_at pace m q)
  unfolding size_at
  none m g = rw (pick-false (size_in m q ∷ []) [] g) (sym (sized_none mtu p))

  pub size-idle : ((room : List ℕ) → goes_out (due_of pace (record_in (store_of 8 (lists a room)) q)) ≡ false) → (room : List ℕ) → p ≡ sized mtu p (size_at pace (store_of 8 (lists a room)) q)
  size-idle f room = none (store_of 8 (lists a room)) (goes-idle pace (store_of 8 (lists a room)) q (f room))

  pub size-gap : get_or a q 0 ≡ 0 → (room : List ℕ) → p ≡ sized mtu p (size_at pace (store_of 8 (lists a room)) q)
  size-gap z room = none (store_of 8 (lists a room)) (goes-gap pace (store_of 8 (lists a room)) q (sym (mark-at a q h room) ∙ z))

  pub size_one : {t : Bool} → ((room : List ℕ) → t ≡ goes_out (due_of pace (record_in (store_of 8 (lists a room)) q))) → not t ≡ false → (get_or a q 0 ≡ 0 → ⊥) → {r : Packer} → r ≡ sized mtu p ((24 + (get_or a q 0 - 1)) ∷ [])
      → (room : List ℕ) → r ≡ sized mtu p (size_at pace (store_of 8 (lists a room)) q)
  unfolding size_at
  size_one {t} f n z g room =
      let m = store_of 8 (lists a room) in
      let k = mark-at a q h room in
      g ∙ rw (k, pick_true (size_in m q ∷ []) [] (goes-live pace m q (λ y. z (k ∙ y)) ∙ sym (f room) ∙ not-false t n))

-- ---- a run

module _ (mtu : ℕ) (m : Store) (q to : ℕ) (p : Packer) where
  module _ (pace : Pace) where
    pub sizes-next : q < to → {x : Packer} → x ≡ sized mtu p (size_at pace m q)
        → sized mtu x (sizes_over pace (run_of (q + 1) (to - (q + 1))) m) ≡ sized mtu p (sizes_over pace (run_of q (to - q)) m)
    sizes-next h e =
        rw (run-next q to h, sizes-first pace q (run_of (q + 1) (to - (q + 1))) m, ← sized_append mtu p (size_at pace m q) (sizes_over pace (run_of (q + 1) (to - (q + 1))) m), e)

    pub sizes-end : to ≤ q → sized mtu p (sizes_over pace (run_of q (to - q)) m) ≡ p
    sizes-end h = rw (run_end q to h, sizes_none pace m) (sized_none mtu p)

  pub fresh-next : q < to → {x : Packer} → x ≡ sized mtu p (size_in m q ∷ [])
      → sized mtu x (fresh_sizes (run_of (q + 1) (to - (q + 1))) m) ≡ sized mtu p (fresh_sizes (run_of q (to - q)) m)
  fresh-next h e = rw (run-next q to h, e) (sized_append mtu p (size_in m q ∷ []) (fresh_sizes (run_of (q + 1) (to - (q + 1))) m))

  pub fresh-end : to ≤ q → sized mtu p (fresh_sizes (run_of q (to - q)) m) ≡ p
  fresh-end h = rw (run_end q to h) (sized_none mtu p)

-- the mark is read
pub fresh-size : (mtu : ℕ) (p r : Packer) (a : List ℕ) (q : ℕ) → q < length a / 9 → r ≡ sized mtu p ((24 + (get_or a q 0 - 1)) ∷ []) → (room : List ℕ) → r ≡ sized mtu p (size_in (store_of 8 (lists a room)) q ∷ [])
fresh-size mtu p r a q h e room = e ∙ rw (mark-at a q h room)

-- ---- two runs

module _ (mtu : ℕ) (m : Store) (x y : List ℕ) (p : Packer) {u v : Packer} where
  pub sizes_both : (pace : Pace) → u ≡ sized mtu p (sizes_over pace x m) → v ≡ sized mtu u (sizes_over pace y m) → v ≡ sized mtu p (sizes_over pace (x ++ y) m)
  sizes_both pace e f = f ∙ rw (e, sizes_append pace x y m) (sized_append mtu p (sizes_over pace x m) (sizes_over pace y m))

  pub fresh_both : u ≡ sized mtu p (fresh_sizes x m) → v ≡ sized mtu u (fresh_sizes y m) → v ≡ sized mtu p (fresh_sizes (x ++ y) m)
  fresh_both e f = f ∙ rw (e, map_append (size_in m) x y) (sized_append mtu p (fresh_sizes x m) (fresh_sizes y m))

-- ---- what holds of the marks in a sound ring holds of what is read along the runs that cover them

module _ {r : SndRing} {a : List ℕ} (g : Rung r a) {slots : ℕ} (e : slots ≡ length a / 9) where
  abbrev m : Store
  m = store_of 8 (lists a g.room)

  slots_are : length m.marks ≡ slots
  slots_are = marks-length 8 (lists a g.room) ∙ sym e

  pub rung-numbers : (slots ≤ 65535) × (r.start < slots) × (r.reach + r.unsent ≤ slots)
  rung-numbers =
      let n = slots_are in
      let z = g.sound.shaped in
      (let h = z.sized.most in omega arith, let h = z.inside in omega arith, let h = z.many in omega arith)

  pub runs_each : (P : ℕ → Type 0) (from n : ℕ) → from + n ≤ slots → ((i : ℕ) → from ≤ i → i < from + n → P (mark_at m.marks r.start i)) → {x : Runs} → Covers slots r.start from n x
      → Each (λ (q : ℕ). P (get_or a q 0)) (run_of x.from (x.to - x.from)) × Each (λ (q : ℕ). P (get_or a q 0)) (run_of 0 (x.rest - 0))
  runs_each P from n h f {x} c =
      let w = rung-numbers in
      let each : Each (λ (q : ℕ). P (get_or a q 0)) (places_of slots r.start from n) =
      places_each slots r.start (λ (q : ℕ). P (get_or a q 0)) from n
      (λ i b d. let l = place_in slots r.start i w.1 (omega arith) in rw (mark-at a (place slots r.start i) (omega arith) g.room) (rw slots_are at (f i b d))) in
      rw (run_all x.rest) (each_append (λ (q : ℕ). P (get_or a q 0)) (run_of x.from (x.to - x.from)) (run_of 0 x.rest) (rw c.places at each))

  -- those in flight, and the first k that wait, which are no gaps
  pub flight-marks : {x : Runs} → Covers slots r.start 0 r.reach x
      → Each (λ (q : ℕ). get_or a q 0 ≤ 1477) (run_of x.from (x.to - x.from)) × Each (λ (q : ℕ). get_or a q 0 ≤ 1477) (run_of 0 (x.rest - 0))
  flight-marks c = let w = rung-numbers in runs_each (λ (k : ℕ). k ≤ 1477) 0 r.reach (omega arith) (λ i b d. g.sound.marked.fit i (omega arith)) c

  pub waiting-marks : (k : ℕ) → k ≤ r.unsent → {x : Runs} → Covers slots r.start r.reach k x
      → Each (λ (q : ℕ). (0 < get_or a q 0) × (get_or a q 0 ≤ 1477)) (run_of x.from (x.to - x.from)) × Each (λ (q : ℕ). (0 < get_or a q 0) × (get_or a q 0 ≤ 1477)) (run_of 0 (x.rest - 0))
  waiting-marks k h c =
      let w = rung-numbers in
      runs_each (λ (k : ℕ). (0 < k) × (k ≤ 1477)) r.reach k (omega arith)
      (λ i b d. let l = g.sound.marked.waits i b (omega arith) in (omega arith, g.sound.marked.fit i (omega arith))) c
