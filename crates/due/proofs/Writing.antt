-- The write pass: over two lists of places the one after the other, one place, a run, and the places in flight. Assumes nothing.
use Prim.Native.Nat.{ℕ, ◌+◌, ◌-◌, ◌*◌, ◌/◌, ◌≤◌, ◌<◌, ◌^◌}
use native.Mathlib.Omega.{arith}
use mathlib.Core.Path.{◌≡◌, refl, sym, ap, ◌∙◌}
use mathlib.Core.Bool.{Bool, true, false, not}
use mathlib.Core.List.{List, [], ◌∷◌, ◌++◌, map, append-nil}
use lib.ListN.{length, get_or, length-append}
use borrow.Author.Tests.{not-true, not-false}
use Rattle.serial.specs.Branch.{pick, pick_true, pick-false}
use Rattle.wire.specs.declared.Header.{Header}
use Rattle.wire.specs.Header.{header_bytes}
use Rattle.ring.specs.Lists.{lists}
use Rattle.ring.specs.Records.{put, part_slot}
use Rattle.ring.proofs.Rows.{part_length, put-put}
use Rattle.snd_ring.specs.declared.SndRing.{SndRing}
use Rattle.snd_ring.specs.Store.{Store, store_of, Sized, Sound}
use Rattle.snd_ring.proofs.Splits.{marks-length, store-room}
use Rattle.snd_ring.proofs.Views.{in-room}
use Rattle.flushing.specs.declared.due.Pace.{Pace}
use Rattle.flushing.specs.declared.due.Record.{Record}
use Rattle.flushing.specs.declared.due.Flown.{Flown}
use Rattle.flushing.specs.declared.due.Tally.{Tally}
use Rattle.flushing.specs.declared.headers.Told.{Told}
use Rattle.flushing.specs.Due.{due_of, flown_by, goes_out, with_sent}
use Rattle.flushing.specs.Pack.{flat, goes_size, pack_sizes}
use Rattle.flushing.specs.Pieces.{push_head}
use Rattle.flushing.proofs.Packing.{AtMost, flat_append, length-flat}
use Rattle.flushing.proofs.Calls.{header-size}
use Rattle.packing.specs.declared.packer.Packer.{Packer}
use Rattle.packing.specs.Packer.{sized}
use Rattle.packing.proofs.Laying.{put_none, laying-start, laying-length}
use Rattle.packing.proofs.Turns.{cuts_one, sized_none, sized-sum, sized-count, cutting-start, Packing, packing_stage}
use Rattle.flight.specs.declared.Runs.{Runs}
use Rattle.flight.specs.Places.{run_of, Each, Covers}
use Rattle.flight.specs.Memory.{record_in, renewed_at, mark_in, flight_places, flown_at, flown_over, tallied_at, tally_over, goes_at, bytes_in, piece_at, pieces_over}
use Rattle.flight.proofs.Places.{each_append, places_each, places_below, run-next, run_end}
use Rattle.flight.proofs.Walks.{flown-gap, flown-live, flown_none, flown_append, flown-marks, flown-sized}
use Rattle.flight.proofs.Idle.{flown-idle, tallied-idle}
use Rattle.flight.proofs.Steps.{mark-at, runs_by}
use Rattle.flight.proofs.Out.{goes-gap, goes-idle, goes-live, at-marks, at-sized, pieces_none, pieces-first, pieces_append, tally_none, tally_append, tallied-gap, tallied-live}
use Rattle.due.specs.Pass.{Pass, pass, bytes_put, lengths_put, pass_over, Roomy, Fits}

-- ---- how long a piece is

bytes-length : (told : Told) (pace : Pace) (m : Store) → Sized 8 m → (q : ℕ) → q < length m.marks → mark_in m q ≤ 1477 → length (bytes_in told pace m q) ≡ 24 + (mark_in m q - 1)
bytes-length told pace m z q h f =
    let a = in-room 8 m z q h in
    let e = part_length m.room (q * 1476 + 0) (mark_in m q - 1) (omega arith) in
    length-append (header_bytes (push_head told (flown_by pace (record_in m q)).after (mark_in m q - 1))) (part_slot 1476 m.room q 0 (mark_in m q - 1))
    ∙ rw (header-size (push_head told (flown_by pace (record_in m q)).after (mark_in m q - 1)), e)

pub pieces-most : (told : Told) (pace : Pace) (qs : List ℕ) (m : Store) → Sized 8 m → Each (λ (q : ℕ). q < length m.marks) qs → Each (λ (q : ℕ). mark_in m q ≤ 1477) qs
    → AtMost 1500 (map length (pieces_over told pace qs m))
unfolding pieces_over piece_at pick
pieces-most told pace [] m z b f = tt
pieces-most told pace (q ∷ qs) m z b f =
    let e = at-marks pace m q z b.0 in
    let l = bytes-length told pace m z q b.0 f.0 in
    one (goes_at pace m q) (bytes_in told pace m q) (pieces_over told pace qs (flown_at pace m q)) (pieces-most told pace qs (flown_at pace m q) (at-sized pace m q z b.0) (rw e b.1) (rw e f.1)) (omega arith)
  where
    one : (t : Bool) (x : List ℕ) (l : List (List ℕ)) → AtMost 1500 (map length l) → length x ≤ 1500 → AtMost 1500 (map length (pick t (x ∷ []) [] ++ l))
    one true x l h k = (k, h)
    one false x l h k = h

-- ---- `put_piece`

pub piece-put : (out : List ℕ) (at : ℕ) (head body : List ℕ) {o o' : List ℕ} → length head ≡ 24 → at + (24 + length body) ≤ length out → o ≡ put out at head → o' ≡ put o (at + 24) body → o' ≡ put out at (head ++ body)
piece-put out at head body e h f g = g ∙ rw (f, ← e) (put-put out at head body (omega arith))

-- ---- two lists of places, the one after the other

module _ (told : Told) (pace : Pace) (dead_link mtu : ℕ) (most : mtu ≤ 1500) where
  abbrev walk : List ℕ → Pass → Pass
  walk qs x = pass_over told pace dead_link mtu qs x

  abbrev pieces : List ℕ → Pass → List (List ℕ)
  pieces qs x = pieces_over told pace qs x.store

  packing_of : (qs : List ℕ) (x : Pass) → Fits told pace mtu qs x
      → Packing mtu x.packer x.out x.lengths (pieces qs x) (sized mtu x.packer (map length (pieces qs x))) (bytes_put x.packer x.out (pieces qs x)) (lengths_put mtu x.packer x.lengths (pieces qs x))
  packing_of qs x f =
      let r = f.roomy in
      record {
        cutting = cutting-start mtu x.packer x.lengths (map length (pieces qs x)) r.small (pieces-most told pace qs x.store f.agree f.below f.marks) r.cuts;
        bytes = laying-start x.out (x.packer.start + x.packer.used) (flat (pieces qs x)) r.bytes;
      }

  module _ (a b : List ℕ) (x : Pass) (f : Fits told pace mtu (a ++ b) x) where
    ea : Each (λ (q : ℕ). q < length x.store.marks) a × Each (λ (q : ℕ). q < length x.store.marks) b
    ea = each_append (λ (q : ℕ). q < length x.store.marks) a b f.below

    fa : Each (λ (q : ℕ). mark_in x.store q ≤ 1477) a × Each (λ (q : ℕ). mark_in x.store q ≤ 1477) b
    fa = each_append (λ (q : ℕ). mark_in x.store q ≤ 1477) a b f.marks

    abbrev first : List (List ℕ)
    first = pieces a x

    abbrev second : List (List ℕ)
    second = pieces_over told pace b (flown_over pace a x.store)

    abbrev p : Packer
    p = x.packer

    both : pieces (a ++ b) x ≡ first ++ second
    both = pieces_append told pace a b x.store

    whole : Packing mtu p x.out x.lengths (first ++ second) (sized mtu p (map length (first ++ second))) (bytes_put p x.out (first ++ second)) (lengths_put mtu p x.lengths (first ++ second))
    whole = rw both at (packing_of (a ++ b) x f)

    rest : Packing mtu (sized mtu p (map length first)) (bytes_put p x.out first) (lengths_put mtu p x.lengths first) second (sized mtu p (map length (first ++ second)))
        (bytes_put p x.out (first ++ second)) (lengths_put mtu p x.lengths (first ++ second))
    rest = packing_stage first second _ _ _ whole most refl refl refl

    flat_both : length (flat (pieces (a ++ b) x)) ≡ length (flat first) + length (flat second)
    flat_both = rw (both, flat_append first second) (length-append (flat first) (flat second))

    pub fits-first : Fits told pace mtu a x
    fits-first =
        let r = f.roomy in
        let e = flat_both in
        let l = laying-length rest.cutting.cuts in
        let k = laying-length whole.cutting.cuts in
        let s = sized-count mtu p (map length first) in
        let c = rest.cutting.cuts.room in
        record {
          agree = f.agree;
          below = ea.0;
          marks = fa.0;
          roomy = record { small = r.small; bytes = let h = r.bytes in omega arith; few = let h = r.few in omega arith; cuts = omega arith };
        }

    pub fits-second : Fits told pace mtu b (walk a x)
    unfolding pass_over
    fits-second =
        let e = flat_both in
        let s = sized-sum mtu p (map length first) in
        let l = length-flat first in
        let k = flown-marks pace a x.store in
        record {
          agree = flown-sized pace a x.store f.agree ea.0;
          below = rw k ea.1;
          marks = rw k fa.1;
          roomy = record { small = rest.cutting.going.small; bytes = rest.bytes.room; few = let h = f.roomy.few in omega arith; cuts = rest.cutting.cuts.room };
        }

    pub walk_both : walk b (walk a x) ≡ walk (a ++ b) x
    unfolding pass_over
    walk_both =
        rw (
          flown_append pace a b x.store,
          tally_append dead_link pace a b x.store x.tally,
          both,
          rest.bytes.whole,
          rest.cutting.cuts.whole,
          rest.cutting.going.same,
        )

  -- ---- nothing left

  pub walk_none : (x : Pass) → walk [] x ≡ x
  unfolding pass_over flat pack_sizes
  walk_none x =
      rw (
        flown_none pace x.store,
        pieces_none told pace x.store,
        tally_none dead_link pace x.store x.tally,
        put_none x.out (x.packer.start + x.packer.used),
        put_none x.lengths x.packer.count,
        sized_none mtu x.packer,
      )

  -- ---- a run

  module _ (q to : ℕ) (h : q < to) (x : Pass) (f : Fits told pace mtu (run_of q (to - q)) x) where
    ahead : Fits told pace mtu ((q ∷ []) ++ run_of (q + 1) (to - (q + 1))) x
    ahead = rw (run-next q to h) at f

    pub run-first : Fits told pace mtu (q ∷ []) x
    run-first = fits-first (q ∷ []) (run_of (q + 1) (to - (q + 1))) x ahead

    pub run_fits : {y : Pass} → y ≡ walk (q ∷ []) x → Fits told pace mtu (run_of (q + 1) (to - (q + 1))) y
    run_fits e = rw e (fits-second (q ∷ []) (run_of (q + 1) (to - (q + 1))) x ahead)

    pub run_same : {y : Pass} → y ≡ walk (q ∷ []) x → walk (run_of (q + 1) (to - (q + 1))) y ≡ walk (run_of q (to - q)) x
    run_same e = rw (e, run-next q to h) (walk_both (q ∷ []) (run_of (q + 1) (to - (q + 1))) x ahead)

  pub run-done : (q to : ℕ) → to ≤ q → (x : Pass) → walk (run_of q (to - q)) x ≡ x
  run-done q to h x = rw (run_end q to h) (walk_none x)

-- ---- one place

module _ (told : Told) (pace : Pace) (dead_link mtu : ℕ) (a room out lengths : List ℕ) (p : Packer) (t : Tally) (q : ℕ) (h : q < length a / 9) where
  abbrev m : Store
  m = store_of 8 (lists a room)

  abbrev x : Pass
  x = pass m out lengths p t

  module _ (f : Fits told pace mtu (q ∷ []) x) where
    k : get_or a q 0 ≡ mark_in m q
    k = mark-at a q h room

    pieces_one : pieces_over told pace (q ∷ []) m ≡ piece_at told pace m q
    pieces_one = pieces-first told pace q [] m ∙ rw (pieces_none told pace (flown_at pace m q)) (append-nil (piece_at told pace m q))

    one : pass_over told pace dead_link mtu (q ∷ []) x
        ≡ pass (flown_at pace m q) (bytes_put p out (piece_at told pace m q)) (lengths_put mtu p lengths (piece_at told pace m q)) (sized mtu p (map length (piece_at told pace m q))) (tallied_at dead_link pace m q t)
    unfolding pass_over flown_over tally_over
    one = rw pieces_one

    -- nothing goes out, and all stays
    nothing : goes_at pace m q ≡ false → flown_at pace m q ≡ m → tallied_at dead_link pace m q t ≡ t → x ≡ pass_over told pace dead_link mtu (q ∷ []) x
    unfolding piece_at flat pack_sizes
    nothing g s u =
        sym (one ∙ rw (s, u, pick-false (bytes_in told pace m q ∷ []) [] g, put_none out (p.start + p.used), put_none lengths p.count, sized_none mtu p))

    pub write-gap : get_or a q 0 ≡ 0 → x ≡ pass_over told pace dead_link mtu (q ∷ []) x
    write-gap z = let y = sym k ∙ z in nothing (goes-gap pace m q y) (flown-gap pace m q y) (tallied-gap dead_link pace m q t y)

    -- what was read and found: the record r, what becomes of it, and whether it goes out
    module _ {r : Record} (er : (room : List ℕ) → r ≡ record_in (store_of 8 (lists a room)) q) {fl : Flown} (ef : fl ≡ flown_by pace r) {g : Bool} (eg : g ≡ goes_out fl.due) where
      flown_is : fl ≡ flown_by pace (record_in m q)
      flown_is = ef ∙ ap (flown_by pace) (er room)

      due_is : fl.due ≡ due_of pace (record_in m q)
      unfolding flown_by
      due_is = ap (λ (y : Flown). y.due) flown_is

      pub write-idle : not g ≡ true → x ≡ pass_over told pace dead_link mtu (q ∷ []) x
      write-idle n =
          let z = rw due_is at (sym eg ∙ not-true g n) in
          nothing (goes-idle pace m q z) (flown-idle pace m q (λ _. z) f.agree f.below.0) (tallied-idle pace m q (λ _. z) dead_link t)

      -- it goes out
      module _ (n : not g ≡ false) (live : get_or a q 0 ≡ 0 → ⊥) where
        size : length (bytes_in told pace m q) ≡ 24 + (get_or a q 0 - 1)
        size = bytes-length told pace m f.agree q f.below.0 f.marks.0 ∙ rw k

        goes-now : goes_at pace m q ≡ true
        goes-now = goes-live pace m q (λ y. live (k ∙ y)) ∙ ap goes_out (sym due_is) ∙ sym eg ∙ not-false g n

        piece-now : piece_at told pace m q ≡ bytes_in told pace m q ∷ []
        unfolding piece_at
        piece-now = pick_true (bytes_in told pace m q ∷ []) [] goes-now

        flat_one : flat (bytes_in told pace m q ∷ []) ≡ bytes_in told pace m q
        unfolding flat
        flat_one = append-nil (bytes_in told pace m q)

        cut_one : (pack_sizes mtu p.used (map length (bytes_in told pace m q ∷ []))).0 ≡ goes_size mtu p.used (24 + (get_or a q 0 - 1))
        cut_one = cuts_one mtu p.used (length (bytes_in told pace m q)) ∙ rw size

        -- what the calls ask
        pub write-needs : (get_or a q 0 ≤ 1477) × (q * 1476 + 1476 ≤ length room) × (p.used ≤ 1500) × (p.start + p.used + (24 + (get_or a q 0 - 1)) ≤ length out)
            × (p.start + p.used + (24 + (get_or a q 0 - 1)) < 2 ^ 32) × (p.count + length (goes_size mtu p.used (24 + (get_or a q 0 - 1))) ≤ length lengths)
        write-needs =
            let ro = f.roomy in
            let b = rw (pieces_one, piece-now, flat_one, size) at ro.bytes in
            let w = rw (pieces_one, piece-now, flat_one, size) at ro.few in
            let c = rw (pieces_one, piece-now, cut_one) at ro.cuts in
            let i = rw (store-room 8 (lists a room)) at (in-room 8 m f.agree q f.below.0) in
            (rw k f.marks.0, i, ro.small, b, w, c)

        -- what they leave: the header hd and the bytes o, the records b, the packer and the lengths l, and the tally
        pub write_done : {hd : Header} → hd ≡ push_head told fl.after (get_or a q 0 - 1) → {o : List ℕ} → o ≡ put out (p.start + p.used) (header_bytes hd ++ part_slot 1476 room q 0 (get_or a q 0 - 1))
            → (b : List ℕ) → ((room : List ℕ) → store_of 8 (lists b room) ≡ renewed_at (store_of 8 (lists a room)) q fl.after)
            → {y : Packer} → y ≡ sized mtu p ((24 + (get_or a q 0 - 1)) ∷ []) → {l : List ℕ} → l ≡ put lengths p.count (goes_size mtu p.used (24 + (get_or a q 0 - 1)))
            → {u : Tally} → u ≡ with_sent dead_link fl.due fl.after.xmit t
            → pass (store_of 8 (lists b room)) o l y u ≡ pass_over told pace dead_link mtu (q ∷ []) x
        write_done ehd eo b eb ey el eu =
            let lv : mark_in m q ≡ 0 → ⊥ = λ y. live (k ∙ y) in
            sym
            (one
            ∙ rw (piece-now, flown-live pace m q lv, tallied-live dead_link pace m q t lv, flat_one, cut_one, size)
            (rw (eb room, eo, ehd, el, ey, eu, due_is, flown_is, k, store-room 8 (lists a room))))

-- ---- the places in flight: the two runs that cover them

module _ (told : Told) (pace : Pace) (dead_link mtu : ℕ) (most : mtu ≤ 1500) (r : SndRing) (a room out lengths : List ℕ) (p : Packer) (t : Tally)
    (o : Sound 8 r (store_of 8 (lists a room))) (ro : Roomy mtu p out lengths (pieces_over told pace (flight_places r (store_of 8 (lists a room))) (store_of 8 (lists a room))))
    {slots : ℕ} (e : slots ≡ length a / 9) where
  abbrev from-here : Pass
  from-here = pass (store_of 8 (lists a room)) out lengths p t

  pub ring-numbers : (slots ≤ 65535) × (r.start < slots) × (r.reach ≤ slots)
  ring-numbers =
      let n = marks-length 8 (lists a room) in
      let z = o.shaped in
      (let h = z.sized.most in omega arith, let h = z.inside in omega arith, let h = z.many in omega arith)

  all-fits : Fits told pace mtu (flight_places r (store_of 8 (lists a room))) from-here
  all-fits =
      let z = o.shaped.many in
      record {
        agree = o.shaped.sized;
        below = places_below (length (store_of 8 (lists a room)).marks) r.start o.shaped.inside 0 r.reach (omega arith);
        marks = places_each (length (store_of 8 (lists a room)).marks) r.start (λ (q : ℕ). mark_in (store_of 8 (lists a room)) q ≤ 1477) 0 r.reach (λ i b c. o.marked.fit i (omega arith));
        roomy = ro;
      }

  module _ {x : Runs} (c : Covers slots r.start 0 r.reach x) where
    abbrev run : List ℕ
    run = run_of x.from (x.to - x.from)

    abbrev behind : List ℕ
    behind = run_of 0 (x.rest - 0)

    covered : flight_places r (store_of 8 (lists a room)) ≡ run ++ behind
    covered = runs_by a e room r.start 0 r.reach c

    both-fit : Fits told pace mtu (run ++ behind) from-here
    both-fit = rw covered at all-fits

    pub first_run : Fits told pace mtu run from-here
    first_run = fits-first told pace dead_link mtu most run behind from-here both-fit

    module _ {y : Pass} (f : y ≡ pass_over told pace dead_link mtu run from-here) where
      pub second_run : Fits told pace mtu behind y
      second_run = rw f (fits-second told pace dead_link mtu most run behind from-here both-fit)

      pub both_runs : {z : Pass} → z ≡ pass_over told pace dead_link mtu behind y → z ≡ pass_over told pace dead_link mtu (flight_places r (store_of 8 (lists a room))) from-here
      both_runs g = g ∙ rw (f, covered) (walk_both told pace dead_link mtu most run behind from-here both-fit)
