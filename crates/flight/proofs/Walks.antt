-- One law for both walks that renew rows: of segments that leave the queue, and of a flush. Each segment at the places gets its new record, and all
-- else stays. Assumes nothing.
use Prim.Native.Nat.{ℕ}
use mathlib.Core.Path.{◌≡◌, refl, sym, ap, subst, ◌∙◌}
use mathlib.Core.List.{List, [], ◌∷◌, ◌++◌, map}
use lib.ListN.{length}
use borrow.Author.Tests.{eq-eqb, ne_eqb}
use Rattle.serial.specs.Branch.{pick, pick_true, pick-false}
use Rattle.serial.specs.Wrap.{add32}
use Rattle.ring.proofs.Sequences.{map_append}
use Rattle.snd_ring.specs.Store.{Store, cell, Sized}
use Rattle.snd_ring.proofs.Marks.{by-live}
use Rattle.snd_ring.proofs.Views.{cell-gap, cell-live, segment_at}
use Rattle.sending.specs.Rules.{Segment}
use Rattle.transmit.specs.Memory.{segment_of}
use Rattle.flushing.specs.declared.due.Record.{Record}
use Rattle.flushing.specs.declared.due.Pace.{Pace}
use Rattle.flushing.specs.Due.{numbered, flown_by}
use Rattle.flushing.specs.Pieces.{record_of, sent_out}
use Rattle.flushing.specs.Pieces as rule
use Rattle.flight.specs.Places.{over, Each}
use Rattle.flight.specs.Memory.{record_in, renewed_at, mark_in, is_gap, launched_over, flown_at, flown_over}
use Rattle.flight.proofs.Places.{Below, Apart, Once, over_first, over-apart}
use Rattle.flight.proofs.Rows.{record_is, renewed-marks, renewed-room, renewed-sized, renewed-own, renewed-other}

-- the segments at these places
abbrev pub segments_at : Store → List ℕ → List Segment
segments_at m qs = map segment_of (over (cell 8 m) qs)

module _ (m : Store) (q : ℕ) (qs : List ℕ) where
  segments-first : segments_at m (q ∷ qs) ≡ map segment_of (cell 8 m q) ++ segments_at m qs
  segments-first = ap (map segment_of) (over_first (cell 8 m) q qs) ∙ map_append segment_of (cell 8 m q) (over (cell 8 m) qs)

  pub segments-gap : mark_in m q ≡ 0 → segments_at m (q ∷ qs) ≡ segments_at m qs
  segments-gap h = segments-first ∙ rw (cell-gap 8 m q h)

  pub segments-live : (mark_in m q ≡ 0 → ⊥) → segments_at m (q ∷ qs) ≡ segment_of (segment_at 8 m q) ∷ segments_at m qs
  segments-live h = segments-first ∙ rw (cell-live 8 m q h)

-- ---- the walk: f gives the record of a segment, by its number

module _ (f : ℕ → Record → Record) where
  unfoldable walk : ℕ → List ℕ → Store → Store
  walk x [] m = m
  walk x (q ∷ qs) m = pick (is_gap m q) (walk x qs m) (walk (add32 x 1) qs (renewed_at m q (f x (record_in m q))))

  unfoldable retold : ℕ → List Segment → List Segment
  retold x [] = []
  retold x (s ∷ l) = rule.segment_from (f x (record_of s)) s.payload ∷ retold (add32 x 1) l

  module _ (x q : ℕ) (qs : List ℕ) (m : Store) where
    abbrev next : Store
    next = renewed_at m q (f x (record_in m q))

    walk-gap : mark_in m q ≡ 0 → walk x (q ∷ qs) m ≡ walk x qs m
    unfolding walk
    walk-gap h = pick_true _ _ (eq-eqb (mark_in m q) 0 h)

    walk-live : (mark_in m q ≡ 0 → ⊥) → walk x (q ∷ qs) m ≡ walk (add32 x 1) qs next
    unfolding walk
    walk-live h = pick-false _ _ (ne_eqb (mark_in m q) 0 h)

    by-walk : (P : Store → Type 0) → (mark_in m q ≡ 0 → P (walk x qs m)) → ((mark_in m q ≡ 0 → ⊥) → P (walk (add32 x 1) qs next)) → P (walk x (q ∷ qs) m)
    by-walk P a b = by-live (mark_in m q) (λ h e. rw (walk-gap h) (a h)) (λ h e. rw (walk-live h) (b h))

  walk_none : (x : ℕ) (m : Store) → walk x [] m ≡ m
  unfolding walk
  walk_none x m = refl

  walk-marks : (x : ℕ) (qs : List ℕ) (m : Store) → (walk x qs m).marks ≡ m.marks
  walk-marks x [] m = rw (walk_none x m)
  walk-marks x (q ∷ qs) m =
      by-walk x q qs m (λ (y : Store). y.marks ≡ m.marks)
      (λ h. walk-marks x qs m)
      (λ h. walk-marks (add32 x 1) qs (next x q qs m) ∙ renewed-marks m q (f x (record_in m q)))

  walk-room : (x : ℕ) (qs : List ℕ) (m : Store) → (walk x qs m).room ≡ m.room
  walk-room x [] m = rw (walk_none x m)
  walk-room x (q ∷ qs) m =
      by-walk x q qs m (λ (y : Store). y.room ≡ m.room)
      (λ h. walk-room x qs m)
      (λ h. walk-room (add32 x 1) qs (next x q qs m) ∙ renewed-room m q (f x (record_in m q)))

  walk-sized : (x : ℕ) (qs : List ℕ) (m : Store) → Sized 8 m → Below (length m.marks) qs → Sized 8 (walk x qs m)
  walk-sized x [] m z b = rw (walk_none x m) z
  walk-sized x (q ∷ qs) m z b =
      by-walk x q qs m (Sized 8)
      (λ h. walk-sized x qs m z b.1)
      (λ h. walk-sized (add32 x 1) qs (next x q qs m) (renewed-sized m z q b.0 (f x (record_in m q))) (rw (renewed-marks m q (f x (record_in m q))) b.1))

  -- what stands elsewhere stays
  walk-other : (x : ℕ) (qs : List ℕ) (m : Store) → Sized 8 m → Below (length m.marks) qs → (t : ℕ) → Apart t qs → cell 8 (walk x qs m) t ≡ cell 8 m t
  walk-other x [] m z b t a = rw (walk_none x m)
  walk-other x (q ∷ qs) m z b t a =
      let r = f x (record_in m q) in
      by-walk x q qs m (λ (y : Store). cell 8 y t ≡ cell 8 m t)
      (λ h. walk-other x qs m z b.1 t a.1)
      (λ h. walk-other (add32 x 1) qs (next x q qs m) (renewed-sized m z q b.0 r) (rw (renewed-marks m q r) b.1) t a.1
      ∙ renewed-other m z q b.0 r t (λ e. a.0 (sym e)))

  retold_none : (x : ℕ) → retold x [] ≡ []
  unfolding retold
  retold_none x = refl

  retold-first : (x : ℕ) (s : Segment) (l : List Segment) → retold x (s ∷ l) ≡ rule.segment_from (f x (record_of s)) s.payload ∷ retold (add32 x 1) l
  unfolding retold
  retold-first x s l = refl

  over_none : (m : Store) → over (cell 8 m) [] ≡ []
  unfolding over
  over_none m = refl

  -- each segment is retold
  walk-seen : (x : ℕ) (qs : List ℕ) (m : Store) → Sized 8 m → Below (length m.marks) qs → Once qs → segments_at (walk x qs m) qs ≡ retold x (segments_at m qs)
  walk-seen x [] m z b o = rw (over_none (walk x [] m), over_none m, retold_none x)
  walk-seen x (q ∷ qs) m z b o =
      by-live (mark_in m q)
      (λ h e.
      rw (walk-gap x q qs m h, segments-gap m q qs h)
      (segments-gap (walk x qs m) q qs (rw (walk-marks x qs m) h) ∙ walk-seen x qs m z b.1 o.1))
      (λ h e.
      let r = f x (record_in m q) in
      let n = next x q qs m in
      let s = renewed-sized m z q b.0 r in
      let d : Below (length n.marks) qs = subst (λ (l : List ℕ). Below (length l) qs) (sym (renewed-marks m q r)) b.1 in
      rw (walk-live x q qs m h, segments-first (walk (add32 x 1) qs n) q qs, segments-live m q qs h, retold-first x, record_is m q)
      (rw (walk-other (add32 x 1) qs n s d q o.0, renewed-own m z q b.0 r h, walk-seen (add32 x 1) qs n s d o.1, over-apart (cell 8 n) (cell 8 m) q qs o.0 (renewed-other m z q b.0 r))))

-- ---- the walk of a flush

module _ (pace : Pace) where
  abbrev flying : ℕ → Record → Record
  flying x r = (flown_by pace r).after

  module _ (m : Store) (q : ℕ) where
    pub flown-gap : mark_in m q ≡ 0 → flown_at pace m q ≡ m
    unfolding flown_at
    flown-gap h = pick_true _ _ (eq-eqb (mark_in m q) 0 h)

    pub flown-live : (mark_in m q ≡ 0 → ⊥) → flown_at pace m q ≡ renewed_at m q (flown_by pace (record_in m q)).after
    unfolding flown_at
    flown-live h = pick-false _ _ (ne_eqb (mark_in m q) 0 h)

  pub flown_none : (m : Store) → flown_over pace [] m ≡ m
  unfolding flown_over
  flown_none m = refl

  pub flown-first : (q : ℕ) (qs : List ℕ) (m : Store) → flown_over pace (q ∷ qs) m ≡ flown_over pace qs (flown_at pace m q)
  unfolding flown_over
  flown-first q qs m = refl

  pub flown_append : (a b : List ℕ) (m : Store) → flown_over pace (a ++ b) m ≡ flown_over pace b (flown_over pace a m)
  unfolding flown_over
  flown_append [] b m = refl
  flown_append (q ∷ a) b m = flown_append a b (flown_at pace m q)

  flown-walk : (x : ℕ) (qs : List ℕ) (m : Store) → flown_over pace qs m ≡ walk flying x qs m
  flown-walk x [] m = flown_none m ∙ sym (walk_none flying x m)
  flown-walk x (q ∷ qs) m =
      by-walk flying x q qs m (λ (y : Store). flown_over pace (q ∷ qs) m ≡ y)
      (λ h. flown-first q qs m ∙ rw (flown-gap m q h) (flown-walk x qs m))
      (λ h. flown-first q qs m ∙ rw (flown-live m q h) (flown-walk (add32 x 1) qs (renewed_at m q (flown_by pace (record_in m q)).after)))

  retold-flown : (x : ℕ) (l : List Segment) → retold flying x l ≡ map (sent_out pace) l
  retold-flown x [] = retold_none flying x
  retold-flown x (s ∷ l) = retold-first flying x s l ∙ rw (retold-flown (add32 x 1) l)

  module _ (qs : List ℕ) (m : Store) where
    pub flown-marks : (flown_over pace qs m).marks ≡ m.marks
    flown-marks = rw (flown-walk 0 qs m) (walk-marks flying 0 qs m)

    pub flown-room : (flown_over pace qs m).room ≡ m.room
    flown-room = rw (flown-walk 0 qs m) (walk-room flying 0 qs m)

    module _ (z : Sized 8 m) (b : Below (length m.marks) qs) where
      pub flown-sized : Sized 8 (flown_over pace qs m)
      flown-sized = rw (flown-walk 0 qs m) (walk-sized flying 0 qs m z b)

      pub flown-other : (t : ℕ) → Apart t qs → cell 8 (flown_over pace qs m) t ≡ cell 8 m t
      flown-other t a = rw (flown-walk 0 qs m) (walk-other flying 0 qs m z b t a)

      pub flown-seen : Once qs → segments_at (flown_over pace qs m) qs ≡ map (sent_out pace) (segments_at m qs)
      flown-seen o = rw (flown-walk 0 qs m) (walk-seen flying 0 qs m z b o ∙ retold-flown 0 (segments_at m qs))

-- ---- segments that leave the queue: no place is a gap

module _ (conv current rx_rto : ℕ) where
  abbrev launching : ℕ → Record → Record
  launching sn r = numbered conv sn current rx_rto r

  pub launched_none : (sn : ℕ) (m : Store) → launched_over conv current rx_rto sn [] m ≡ m
  unfolding launched_over
  launched_none sn m = refl

  pub launched-first : (sn q : ℕ) (qs : List ℕ) (m : Store) → launched_over conv current rx_rto sn (q ∷ qs) m ≡ launched_over conv current rx_rto (add32 sn 1) qs (renewed_at m q (numbered conv sn current rx_rto (record_in m q)))
  unfolding launched_over
  launched-first sn q qs m = refl

  launched-walk : (sn : ℕ) (qs : List ℕ) (m : Store) → Each (λ (q : ℕ). mark_in m q ≡ 0 → ⊥) qs → launched_over conv current rx_rto sn qs m ≡ walk launching sn qs m
  launched-walk sn [] m l = launched_none sn m ∙ sym (walk_none launching sn m)
  launched-walk sn (q ∷ qs) m l =
      let r = numbered conv sn current rx_rto (record_in m q) in
      launched-first sn q qs m
      ∙ launched-walk (add32 sn 1) qs (renewed_at m q r) (rw (renewed-marks m q r) l.1)
      ∙ sym (walk-live launching sn q qs m l.0)

  retold-launched : (sn : ℕ) (l : List Segment) → retold launching sn l ≡ rule.numbered_from conv current rx_rto sn l
  unfolding retold rule.numbered_from
  retold-launched sn [] = refl
  retold-launched sn (s ∷ l) = rw (retold-launched (add32 sn 1) l)

  module _ (sn : ℕ) (qs : List ℕ) (m : Store) (l : Each (λ (q : ℕ). mark_in m q ≡ 0 → ⊥) qs) where
    pub launched-marks : (launched_over conv current rx_rto sn qs m).marks ≡ m.marks
    launched-marks = rw (launched-walk sn qs m l) (walk-marks launching sn qs m)

    pub launched-room : (launched_over conv current rx_rto sn qs m).room ≡ m.room
    launched-room = rw (launched-walk sn qs m l) (walk-room launching sn qs m)

    module _ (z : Sized 8 m) (b : Below (length m.marks) qs) where
      pub launched-sized : Sized 8 (launched_over conv current rx_rto sn qs m)
      launched-sized = rw (launched-walk sn qs m l) (walk-sized launching sn qs m z b)

      pub launched-other : (t : ℕ) → Apart t qs → cell 8 (launched_over conv current rx_rto sn qs m) t ≡ cell 8 m t
      launched-other t a = rw (launched-walk sn qs m l) (walk-other launching sn qs m z b t a)

      pub launched-seen : Once qs → segments_at (launched_over conv current rx_rto sn qs m) qs ≡ rule.numbered_from conv current rx_rto sn (segments_at m qs)
      launched-seen o = rw (launched-walk sn qs m l) (walk-seen launching sn qs m z b o ∙ retold-launched sn (segments_at m qs))
