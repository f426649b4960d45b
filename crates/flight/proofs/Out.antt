-- What goes out of the memory, and what is counted and waited for, is what the rules say of the segments seen there. Each place is visited once, so that
-- what the walk of a flush reads is what stood there before it. Assumes nothing.
use Prim.Native.Nat.{ℕ, ◌+◌, ◌-◌, ◌*◌, ◌≤◌, ◌<◌}
use native.Mathlib.Omega.{arith}
use mathlib.Core.Path.{◌≡◌, refl, sym, ap, ◌∙◌}
use mathlib.Core.Bool.{Bool, true, false, not, ◌&&◌}
use mathlib.Core.List.{List, [], ◌∷◌, ◌++◌, map, append_assoc}
use lib.ListN.{length, take}
use borrow.Author.Tests.{eq-eqb, ne_eqb}
use Rattle.serial.specs.Branch.{pick, pick_true, pick-false}
use Rattle.serial.specs.Wrap.{add32}
use Rattle.ring.proofs.Rows.{part_length}
use Rattle.snd_ring.specs.Store.{Store, cell, Sized, Sound}
use Rattle.snd_ring.proofs.Marks.{by-live}
use Rattle.snd_ring.proofs.Views.{segment_at, in-room}
use Rattle.block.specs.declared.sender.Sender.{Sender}
use Rattle.sending.specs.Rules.{Segment}
use Rattle.transmit.specs.Memory.{segment_of, seen}
use Rattle.flushing.specs.declared.due.Pace.{Pace}
use Rattle.flushing.specs.declared.due.Tally.{Tally}
use Rattle.flushing.specs.declared.headers.Told.{Told}
use Rattle.flushing.specs.Due.{due_of, flown_by, goes_out, with_sent}
use Rattle.flushing.specs.Pieces.{Piece, piece_bytes, piece_size, record_of, sent_out, push_piece, numbered_from, due_pieces, tallied}
use Rattle.flushing.proofs.Calls.{piece-sizes}
use Rattle.flight.specs.Places.{over, Each}
use Rattle.flight.specs.Memory.{record_in, mark_in, is_gap, flight_places, waiting_places, launched_at, flown_at, flown_over, tallied_at, tally_over, goes_at, size_in, size_at, sizes_over, fresh_sizes, bytes_in, piece_at, pieces_over, resendts_at, resendts_over}
use Rattle.flight.proofs.Places.{Below, Apart, Once, over_first, over_append, over-apart}
use Rattle.flight.proofs.Rows.{record_is}
use Rattle.flight.proofs.Walks.{segments_at, segments-gap, segments-live, flown-marks, flown-sized, flown-other}
use Rattle.flight.proofs.Seen.{flight_below, flight-once, flight-fit, flight-segments, leavers-live, leavers-fit, leavers_below, leavers-seen, launched-sound, seen-launched}

-- ---- one place

module _ (pace : Pace) (m : Store) (q : ℕ) where
  pub goes-gap : mark_in m q ≡ 0 → goes_at pace m q ≡ false
  unfolding goes_at
  goes-gap h = rw (eq-eqb (mark_in m q) 0 h)

  pub goes-idle : goes_out (due_of pace (record_in m q)) ≡ false → goes_at pace m q ≡ false
  unfolding goes_at
  goes-idle h = rw h (none (not (is_gap m q)))
    where
      none : (t : Bool) → (t && false) ≡ false
      none true = refl
      none false = refl

  pub goes-live : (mark_in m q ≡ 0 → ⊥) → goes_at pace m q ≡ goes_out (due_of pace (record_in m q))
  unfolding goes_at
  goes-live h = rw (ne_eqb (mark_in m q) 0 h)

  at_one : flown_over pace (q ∷ []) m ≡ flown_at pace m q
  unfolding flown_over
  at_one = refl

  -- the places ahead are as they were
  module _ (z : Sized 8 m) (h : q < length m.marks) where
    pub at-marks : (flown_at pace m q).marks ≡ m.marks
    at-marks = rw at_one at (flown-marks pace (q ∷ []) m)

    pub at-sized : Sized 8 (flown_at pace m q)
    at-sized = rw at_one at (flown-sized pace (q ∷ []) m z (h, tt))

    ahead : (qs : List ℕ) → Apart q qs → segments_at (flown_at pace m q) qs ≡ segments_at m qs
    ahead qs a =
        ap (map segment_of)
        (over-apart (cell 8 (flown_at pace m q)) (cell 8 m) q qs a (λ t d. rw (← at_one) (flown-other pace (q ∷ []) m z (h, tt) t (λ e. d (sym e), tt))))

-- the sizes, one place less
module _ (pace : Pace) where
  pub sizes_none : (m : Store) → sizes_over pace [] m ≡ []
  unfolding sizes_over over
  sizes_none m = refl

  pub sizes-first : (q : ℕ) (qs : List ℕ) (m : Store) → sizes_over pace (q ∷ qs) m ≡ size_at pace m q ++ sizes_over pace qs m
  unfolding sizes_over
  sizes-first q qs m = over_first (size_at pace m) q qs

  pub sizes_append : (a b : List ℕ) (m : Store) → sizes_over pace (a ++ b) m ≡ sizes_over pace a m ++ sizes_over pace b m
  unfolding sizes_over
  sizes_append a b m = over_append (size_at pace m) a b

-- how long its payload is
pub payload-length : (m : Store) → Sized 8 m → (q : ℕ) → q < length m.marks → mark_in m q ≤ 1477 → length (segment_at 8 m q).payload ≡ mark_in m q - 1
payload-length m z q h f = let a = in-room 8 m z q h in part_length m.room (q * 1476 + 0) (mark_in m q - 1) (omega arith)

-- ---- the pieces of a list of segments

pick-list : {A B : Type 0} (f : A → B) (t : Bool) (x : A) (l : List A) → map f (pick t (x ∷ l) l) ≡ pick t (f x ∷ []) [] ++ map f l
unfolding pick
pick-list f true x l = refl
pick-list f false x l = refl

module _ (told : Told) (pace : Pace) where
  due_none : due_pieces told pace [] ≡ []
  unfolding due_pieces
  due_none = refl

  due-first : {B : Type 0} (f : Piece → B) (s : Segment) (l : List Segment)
      → map f (due_pieces told pace (s ∷ l)) ≡ pick (goes_out (due_of pace (record_of s))) (f (push_piece told (sent_out pace s)) ∷ []) [] ++ map f (due_pieces told pace l)
  unfolding due_pieces
  due-first f s l = pick-list f (goes_out (due_of pace (record_of s))) (push_piece told (sent_out pace s)) (due_pieces told pace l)

  -- ---- what goes out

  module _ (m : Store) (q : ℕ) where
    piece-gap : mark_in m q ≡ 0 → piece_at told pace m q ≡ []
    unfolding piece_at
    piece-gap h = pick-false _ _ (goes-gap pace m q h)

    piece-live : (mark_in m q ≡ 0 → ⊥) → piece_at told pace m q ≡ pick (goes_out (due_of pace (record_in m q))) (bytes_in told pace m q ∷ []) []
    unfolding piece_at
    piece-live h = rw (goes-live pace m q h)

    size-gap : mark_in m q ≡ 0 → size_at pace m q ≡ []
    unfolding size_at
    size-gap h = pick-false _ _ (goes-gap pace m q h)

    size-live : (mark_in m q ≡ 0 → ⊥) → size_at pace m q ≡ pick (goes_out (due_of pace (record_in m q))) (size_in m q ∷ []) []
    unfolding size_at
    size-live h = rw (goes-live pace m q h)

    module _ (z : Sized 8 m) (h : q < length m.marks) (f : mark_in m q ≤ 1477) where
      bytes_are : piece_bytes (push_piece told (sent_out pace (segment_of (segment_at 8 m q)))) ≡ bytes_in told pace m q
      bytes_are = rw (record_is m q, payload-length m z q h f)

      size_is : piece_size (push_piece told (sent_out pace (segment_of (segment_at 8 m q)))) ≡ size_in m q
      size_is = rw (payload-length m z q h f)

  pub pieces_none : (m : Store) → pieces_over told pace [] m ≡ []
  unfolding pieces_over
  pieces_none m = refl

  pub pieces-first : (q : ℕ) (qs : List ℕ) (m : Store) → pieces_over told pace (q ∷ qs) m ≡ piece_at told pace m q ++ pieces_over told pace qs (flown_at pace m q)
  unfolding pieces_over
  pieces-first q qs m = refl

  pub pieces_append : (a b : List ℕ) (m : Store) → pieces_over told pace (a ++ b) m ≡ pieces_over told pace a m ++ pieces_over told pace b (flown_over pace a m)
  unfolding pieces_over flown_over
  pieces_append [] b m = refl
  pieces_append (q ∷ a) b m =
      ap (λ (l : List (List ℕ)). piece_at told pace m q ++ l) (pieces_append a b (flown_at pace m q))
      ∙ sym (append_assoc (piece_at told pace m q) (pieces_over told pace a (flown_at pace m q)) (pieces_over told pace b (flown_over pace a (flown_at pace m q))))

  segments_none : (m : Store) → segments_at m [] ≡ []
  unfolding over
  segments_none m = refl

  pub pieces_are : (qs : List ℕ) (m : Store) → Sized 8 m → Below (length m.marks) qs → Once qs → Each (λ (q : ℕ). mark_in m q ≤ 1477) qs
      → pieces_over told pace qs m ≡ map piece_bytes (due_pieces told pace (segments_at m qs))
  pieces_are [] m z b o f = rw (pieces_none m, segments_none m, due_none)
  pieces_are (q ∷ qs) m z b o f =
      let n = flown_at pace m q in
      let e = at-marks pace m q z b.0 in
      let on = pieces_are qs n (at-sized pace m q z b.0) (rw e b.1) o.1 (rw e f.1) ∙ ap (λ (l : List Segment). map piece_bytes (due_pieces told pace l)) (ahead pace m q z b.0 qs o.0) in
      pieces-first q qs m
      ∙ by-live (mark_in m q)
      (λ h _. rw (piece-gap m q h, on, segments-gap m q qs h))
      (λ h _. rw (piece-live m q h, on, segments-live m q qs h, due-first piece_bytes, bytes_are m q z b.0 f.0, record_is m q))

  pub sizes_are : (qs : List ℕ) (m : Store) → Sized 8 m → Below (length m.marks) qs → Each (λ (q : ℕ). mark_in m q ≤ 1477) qs
      → sizes_over pace qs m ≡ map piece_size (due_pieces told pace (segments_at m qs))
  sizes_are [] m z b f = rw (sizes_none pace m, segments_none m, due_none)
  sizes_are (q ∷ qs) m z b f =
      let on = sizes_are qs m z b.1 f.1 in
      sizes-first pace q qs m
      ∙ by-live (mark_in m q)
      (λ h _. rw (size-gap m q h, on, segments-gap m q qs h))
      (λ h _. rw (size-live m q h, on, segments-live m q qs h, due-first piece_size, size_is m q z b.0 f.0, record_is m q))

-- ---- what is counted

module _ (dead_link : ℕ) (pace : Pace) where
  pub tally_none : (m : Store) (t : Tally) → tally_over dead_link pace [] m t ≡ t
  unfolding tally_over
  tally_none m t = refl

  pub tally-first : (q : ℕ) (qs : List ℕ) (m : Store) (t : Tally) → tally_over dead_link pace (q ∷ qs) m t ≡ tally_over dead_link pace qs (flown_at pace m q) (tallied_at dead_link pace m q t)
  unfolding tally_over
  tally-first q qs m t = refl

  pub tally_append : (a b : List ℕ) (m : Store) (t : Tally) → tally_over dead_link pace (a ++ b) m t ≡ tally_over dead_link pace b (flown_over pace a m) (tally_over dead_link pace a m t)
  unfolding tally_over flown_over
  tally_append [] b m t = refl
  tally_append (q ∷ a) b m t = tally_append a b (flown_at pace m q) (tallied_at dead_link pace m q t)

  tallied_none : (t : Tally) → tallied dead_link pace [] t ≡ t
  unfolding tallied
  tallied_none t = refl

  tallied-first : (s : Segment) (l : List Segment) (t : Tally)
      → tallied dead_link pace (s ∷ l) t ≡ tallied dead_link pace l (with_sent dead_link (due_of pace (record_of s)) (flown_by pace (record_of s)).after.xmit t)
  unfolding tallied
  tallied-first s l t = refl

  module _ (m : Store) (q : ℕ) (t : Tally) where
    pub tallied-gap : mark_in m q ≡ 0 → tallied_at dead_link pace m q t ≡ t
    unfolding tallied_at
    tallied-gap h = pick_true _ _ (eq-eqb (mark_in m q) 0 h)

    pub tallied-live : (mark_in m q ≡ 0 → ⊥) → tallied_at dead_link pace m q t ≡ with_sent dead_link (due_of pace (record_in m q)) (flown_by pace (record_in m q)).after.xmit t
    unfolding tallied_at
    tallied-live h = pick-false _ _ (ne_eqb (mark_in m q) 0 h)

  pub tally_is : (qs : List ℕ) (m : Store) (t : Tally) → Sized 8 m → Below (length m.marks) qs → Once qs
      → tally_over dead_link pace qs m t ≡ tallied dead_link pace (segments_at m qs) t
  unfolding over
  tally_is [] m t z b o = tally_none m t ∙ sym (tallied_none t)
  tally_is (q ∷ qs) m t z b o =
      let e = at-marks pace m q z b.0 in
      let x = tallied_at dead_link pace m q t in
      let on = tally_is qs (flown_at pace m q) x (at-sized pace m q z b.0) (rw e b.1) o.1 ∙ ap (λ (l : List Segment). tallied dead_link pace l x) (ahead pace m q z b.0 qs o.0) in
      tally-first q qs m t
      ∙ by-live (mark_in m q)
      (λ h _. on ∙ rw (tallied-gap m q t h, segments-gap m q qs h))
      (λ h _. on ∙ rw (tallied-live m q t h, segments-live m q qs h, tallied-first, record_is m q))

-- ---- when the segments are to be resent

resendts_none : (m : Store) → resendts_over [] m ≡ []
unfolding resendts_over over
resendts_none m = refl

pub resendts-first : (q : ℕ) (qs : List ℕ) (m : Store) → resendts_over (q ∷ qs) m ≡ resendts_at m q ++ resendts_over qs m
unfolding resendts_over
resendts-first q qs m = over_first (resendts_at m) q qs

module _ (m : Store) (q : ℕ) where
  pub resendts-gap : mark_in m q ≡ 0 → resendts_at m q ≡ []
  unfolding resendts_at
  resendts-gap h = pick_true _ _ (eq-eqb (mark_in m q) 0 h)

  pub resendts-live : (mark_in m q ≡ 0 → ⊥) → resendts_at m q ≡ (record_in m q).resendts ∷ []
  unfolding resendts_at record_in
  resendts-live h = pick-false _ _ (ne_eqb (mark_in m q) 0 h)

resendts_are : (qs : List ℕ) (m : Store) → resendts_over qs m ≡ map (λ (s : Segment). s.resendts) (segments_at m qs)
unfolding over
resendts_are [] m = resendts_none m
resendts_are (q ∷ qs) m =
    resendts-first q qs m
    ∙ by-live (mark_in m q)
    (λ h _. rw (resendts-gap m q h, resendts_are qs m, segments-gap m q qs h))
    (λ h _. rw (resendts-live m q h, resendts_are qs m, segments-live m q qs h, ← record_is m q))

-- ---- segments that leave the queue go out as fresh

abbrev whole_size : Segment → ℕ
whole_size s = 24 + length s.payload

module _ (told : Told) (pace : Pace) where
  due_append : {B : Type 0} (f : Piece → B) (a b : List Segment) → map f (due_pieces told pace (a ++ b)) ≡ map f (due_pieces told pace a) ++ map f (due_pieces told pace b)
  due_append f [] b = rw (due_none told pace)
  due_append f (s ∷ a) b =
      due-first told pace f s (a ++ b)
      ∙ rw (due_append f a b, due-first told pace f s a)
      (sym (append_assoc (pick (goes_out (due_of pace (record_of s))) (f (push_piece told (sent_out pace s)) ∷ []) []) (map f (due_pieces told pace a)) (map f (due_pieces told pace b))))

  fresh-due : (conv current rx_rto next : ℕ) (l : List Segment) → map piece_size (due_pieces told pace (numbered_from conv current rx_rto next l)) ≡ map whole_size l
  unfolding numbered_from due_pieces due_of pick
  fresh-due conv current rx_rto next [] = refl
  fresh-due conv current rx_rto next (s ∷ l) = ap (λ (x : List ℕ). whole_size s ∷ x) (fresh-due conv current rx_rto (add32 next 1) l)

fresh_are : (qs : List ℕ) (m : Store) → Sized 8 m → Below (length m.marks) qs → Each (λ (q : ℕ). mark_in m q ≡ 0 → ⊥) qs → Each (λ (q : ℕ). mark_in m q ≤ 1477) qs
    → fresh_sizes qs m ≡ map whole_size (segments_at m qs)
unfolding over
fresh_are [] m z b l f = refl
fresh_are (q ∷ qs) m z b l f =
    rw (segments-live m q qs l.0, payload-length m z q b.0 f.0) (ap (λ (x : List ℕ). size_in m q ∷ x) (fresh_are qs m z b.1 l.1 f.1))

-- ---- THE LAWS, of a sound ring

module _ (s : Sender) (m : Store) (o : Sound 8 s.ring m) where
  abbrev flight : List ℕ
  flight = flight_places s.ring m

  pub pieces-seen : (told : Told) (pace : Pace) → pieces_over told pace flight m ≡ map piece_bytes (due_pieces told pace (seen s m).flying)
  pieces-seen told pace = rw (flight-segments s m o) (pieces_are told pace flight m o.shaped.sized (flight_below s m o) (flight-once s m o) (flight-fit s m o))

  whole-sizes : (told : Told) (pace : Pace) → sizes_over pace flight m ≡ map piece_size (due_pieces told pace (seen s m).flying)
  whole-sizes told pace = rw (flight-segments s m o) (sizes_are told pace flight m o.shaped.sized (flight_below s m o) (flight-fit s m o))

  pub sizes-seen : (told : Told) (pace : Pace) → sizes_over pace flight m ≡ map length (pieces_over told pace flight m)
  sizes-seen told pace = whole-sizes told pace ∙ sym (piece-sizes (due_pieces told pace (seen s m).flying)) ∙ ap (map length) (sym (pieces-seen told pace))

  pub tally-seen : (dead_link : ℕ) (pace : Pace) (t : Tally) → tally_over dead_link pace flight m t ≡ tallied dead_link pace (seen s m).flying t
  tally-seen dead_link pace t = rw (flight-segments s m o) (tally_is dead_link pace flight m t o.shaped.sized (flight_below s m o) (flight-once s m o))

  pub resendts-seen : resendts_over flight m ≡ map (λ (x : Segment). x.resendts) (seen s m).flying
  resendts-seen = rw (flight-segments s m o) (resendts_are flight m)

-- what the walk over the launched memory sizes is what was in flight, and then those that left
module _ (conv current rx_rto k : ℕ) (s : Sender) (m : Store) (o : Sound 8 s.ring m) (few : k ≤ s.ring.unsent) (pace : Pace) where
  abbrev later : Sender
  later = (launched_at conv current rx_rto k s m).sender

  abbrev after : Store
  after = (launched_at conv current rx_rto k s m).store

  -- sizes do not ask what is told
  abbrev nothing : Told
  nothing = record { conv = 0; wnd = 0; una = 0 }

  pub sizes-launched : sizes_over pace (flight_places later.ring after) after ≡ sizes_over pace (flight_places s.ring m) m ++ fresh_sizes (waiting_places s.ring m k) m
  sizes-launched =
      whole-sizes later after (launched-sound s m o conv current rx_rto k few) nothing pace
      ∙ ap (λ (x : List Segment). map piece_size (due_pieces nothing pace x)) (ap (λ y. y.flying) (seen-launched s m o conv current rx_rto k few))
      ∙ due_append nothing pace piece_size (seen s m).flying (numbered_from conv current rx_rto s.snd_nxt (take k (seen s m).waiting))
      ∙ rw (
        ← whole-sizes s m o nothing pace,
        fresh-due nothing pace conv current rx_rto s.snd_nxt (take k (seen s m).waiting),
        leavers-seen s m o conv current rx_rto k few,
      )
      (ap (λ (x : List ℕ). sizes_over pace (flight_places s.ring m) m ++ x)
      (sym (fresh_are (waiting_places s.ring m k) m o.shaped.sized (leavers_below s m o conv current rx_rto k few) (leavers-live s m o conv current rx_rto k few) (leavers-fit s m o conv current rx_rto k few))))
