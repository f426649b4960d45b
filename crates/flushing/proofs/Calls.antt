-- What flush_ack and flush put out: their lengths, by which 13 is decided, follow from sizes alone, and their bytes are what waited and then the
-- pieces. And what they leave well formed: the wait of the probe. Assumes nothing.
use Prim.Native.Nat.{ℕ, ◌+◌, ◌/◌, ◌%◌, ◌^◌}
use native.Mathlib.Nat.{mod-eq_of_lt}
use native.Mathlib.Omega.{arith}
use mathlib.Core.Path.{◌≡◌, refl, sym, ap, ◌∙◌}
use mathlib.Core.Bool.{Bool, true, false}
use mathlib.Core.Logic.{inl, inr, ⊎_elim}
use mathlib.Core.List.{List, [], ◌∷◌, ◌++◌, map, map-append}
use lib.ListN.{length, take, replicate, length-append}
use lib.Dec.{eqb}
use borrow.Author.Tests.{eqb-false}
use Rattle.serial.specs.Branch.{pick, pick-ap}
use Rattle.serial.specs.Wrap.{add32, not_before}
use Rattle.wire.specs.Commands.{ask, tell}
use Rattle.wire.specs.declared.Header.{Header}
use Rattle.wire.specs.Header.{header_bytes}
use Rattle.sending.specs.Rules.{Segment}
use Rattle.block.specs.declared.probe.Probe.{Probe}
use Rattle.block.specs.Sizes.{Within}
use Rattle.block.specs.WellFormed.{ProbeFits}
use Rattle.flushing.specs.Probing.{ask_set, tell_set, ask_bit, longer_wait, armed, probed, probe_wnd_size}
use Rattle.flushing.specs.Pack.{flat, pack_sizes, pack_all_sizes}
use Rattle.flushing.specs.Pieces.{Ack, Piece, piece_bytes, piece_size, push_piece, record_of, sent_out, numbered_from, ack_pieces, probe_piece, probe_pieces, due_pieces, segment_size, probe_sizes, due_sizes, flush_sizes}
use Rattle.flushing.specs.declared.headers.Told.{Told}
use Rattle.flushing.specs.Windows.{leaving}
use Rattle.flushing.specs.Due.{goes_out, due_of}
use Rattle.flushing.specs.declared.due.Pace.{Pace}
use Rattle.flushing.specs.Rules.{Outgoing, told_by, flushed_ack, moved_out, window, pace, probing, sent, pieces_of, flushed}
use Rattle.flushing.proofs.Packing.{pack-sizes, joined, all-sizes, all-joined}

-- ---- pieces

-- a header has 24 bytes
pub header-size : (h : Header) → length (header_bytes h) ≡ 24
unfolding header_bytes
header-size h = refl

pub piece-size : (p : Piece) → length (piece_bytes p) ≡ piece_size p
piece-size p = length-append (header_bytes p.header) p.payload ∙ rw (header-size p.header)

pub piece-sizes : (ps : List Piece) → map length (map piece_bytes ps) ≡ map piece_size ps
piece-sizes [] = refl
piece-sizes (p ∷ ps) = rw (piece-size p, piece-sizes ps)

pub ack-piece-sizes : (t : Told) (acks : List Ack) → map piece_size (ack_pieces t acks) ≡ replicate (length acks) 24
ack-piece-sizes t [] = refl
ack-piece-sizes t (a ∷ acks) = rw (ack-piece-sizes t acks)

three-sizes : (a b c : List Piece) (x y z : List ℕ) → map piece_size a ≡ x → map piece_size b ≡ y → map piece_size c ≡ z
    → map piece_size (a ++ (b ++ c)) ≡ x ++ (y ++ z)
three-sizes a b c x y z d e f =
    map-append piece_size a (b ++ c) ∙ ap (λ (l : List ℕ). map piece_size a ++ l) (map-append piece_size b c) ∙ rw (d, e, f)

one-probe : (t : Told) (cmd : ℕ) (set : Bool) (acks : List Ack) → map piece_size (probe_piece t cmd set acks) ≡ pick set (24 ∷ []) []
unfolding probe_piece
one-probe t cmd set acks = pick-ap (map piece_size) set _ []

probe-sizes : (t : Told) (bits : ℕ) (acks : List Ack) → map piece_size (probe_pieces t bits acks) ≡ probe_sizes bits
unfolding probe_sizes
probe-sizes t bits acks =
    map-append piece_size (probe_piece t ask (ask_set bits) acks) (probe_piece t tell (tell_set bits) acks)
    ∙ rw (one-probe t ask (ask_set bits) acks, one-probe t tell (tell_set bits) acks)

due-sizes : (t : Told) (p : Pace) (l : List Segment) → map piece_size (due_pieces t p l) ≡ due_sizes p l
unfolding due_pieces due_sizes
due-sizes t p [] = refl
due-sizes t p (s ∷ l) =
    pick-ap (map piece_size) (goes_out (due_of p (record_of s))) (push_piece t (sent_out p s) ∷ due_pieces t p l) (due_pieces t p l)
    ∙ rw (due-sizes t p l)

due_append : (p : Pace) (x y : List Segment) → due_sizes p (x ++ y) ≡ due_sizes p x ++ due_sizes p y
unfolding due_sizes
due_append p [] y = refl
due_append p (s ∷ x) y =
    rw (due_append p x y)
    (sym (pick-ap (λ (l : List ℕ). l ++ due_sizes p y) (goes_out (due_of p (record_of s))) (segment_size s ∷ due_sizes p x) (due_sizes p x)))

-- what leaves the queue is fresh
fresh_sizes : (p : Pace) (conv current rx_rto next : ℕ) (l : List Segment) → due_sizes p (numbered_from conv current rx_rto next l) ≡ map segment_size l
unfolding due_sizes numbered_from due_of pick
fresh_sizes p conv current rx_rto next [] = refl
fresh_sizes p conv current rx_rto next (s ∷ l) =
    ap (λ (k : List ℕ). segment_size s ∷ k) (fresh_sizes p conv current rx_rto (add32 next 1) l)

-- ---- the calls

module _ (o : Outgoing) where
  pub ack-sizes : map length (flushed_ack o).datagrams ≡ (pack_sizes o.settings.mtu (length o.waiting) (replicate (length o.acks) 24)).0
  unfolding flushed_ack
  ack-sizes =
      pack-sizes o.settings.mtu o.waiting (map piece_bytes (ack_pieces (told_by o) o.acks))
      ∙ rw (piece-sizes (ack_pieces (told_by o) o.acks), ack-piece-sizes (told_by o) o.acks)

  pub ack-joined : flat (flushed_ack o).datagrams ++ (flushed_ack o).after.waiting ≡ o.waiting ++ flat (map piece_bytes (ack_pieces (told_by o) o.acks))
  unfolding flushed_ack
  ack-joined = joined o.settings.mtu o.waiting (map piece_bytes (ack_pieces (told_by o) o.acks))

  pub flush-sizes : map length (flushed o).datagrams ≡ pack_all_sizes o.settings.mtu (length o.waiting) (map piece_size (pieces_of o))
  unfolding flushed
  flush-sizes = all-sizes o.settings.mtu o.waiting (map piece_bytes (pieces_of o)) ∙ rw (piece-sizes (pieces_of o))

  pub flush-joined : flat (flushed o).datagrams ≡ o.waiting ++ flat (map piece_bytes (pieces_of o))
  unfolding flushed
  flush-joined = all-joined o.settings.mtu o.waiting (map piece_bytes (pieces_of o))

  -- how many leave the queue
  abbrev leaves : ℕ
  leaves = leaving (add32 o.sending.una (window o)) o.sending.next (length o.sending.waiting)

  -- the sizes of a flush's pieces, by what it finds
  pub flush-piece-sizes : map piece_size (pieces_of o) ≡ flush_sizes (length o.acks) (probing o).bits (pace o) o.sending.flying (take leaves o.sending.waiting)
  unfolding moved_out
  flush-piece-sizes =
      let fresh = numbered_from o.settings.conv o.clock.current o.rx_rto o.sending.next (take leaves o.sending.waiting) in
      three-sizes (ack_pieces (told_by o) o.acks) (probe_pieces (told_by o) (probing o).bits o.acks) (due_pieces (told_by o) (pace o) (sent o).flying) _ _ _
      (ack-piece-sizes (told_by o) o.acks)
      (probe-sizes (told_by o) (probing o).bits o.acks)
      (due-sizes (told_by o) (pace o) (sent o).flying
      ∙ due_append (pace o) o.sending.flying fresh
      ∙ ap (λ (l : List ℕ). due_sizes (pace o) o.sending.flying ++ l) (fresh_sizes (pace o) _ _ _ _ (take leaves o.sending.waiting)))

  -- so that 13 is decided before anything changes
  pub flush-found : map length (flushed o).datagrams
      ≡ pack_all_sizes o.settings.mtu (length o.waiting) (flush_sizes (length o.acks) (probing o).bits (pace o) o.sending.flying (take leaves o.sending.waiting))
  flush-found = flush-sizes ∙ ap (pack_all_sizes o.settings.mtu (length o.waiting)) flush-piece-sizes

-- ---- the probe stays well formed

-- a wait and half of it, of one from 7,000 to 120,000
longer-fits : (wait : ℕ) → Within 7000 wait 120000 → Within 7000 (longer_wait wait) 120000
longer-fits wait w =
    let e : (wait + wait / 2) % 2 ^ 32 ≡ wait + wait / 2 = mod-eq_of_lt (omega (arith, w.high)) in
    record { low = rw e (omega (arith, w.low)); high = omega arith }

either-fits : (t : Bool) (p q : Probe) → ProbeFits p → ProbeFits q → ProbeFits (pick t p q)
unfolding pick
either-fits true p q a b = a
either-fits false p q a b = b

module _ (current : ℕ) (p : Probe) (f : ProbeFits p) where
  probed-fits : ProbeFits (probed current p)
  unfolding probed pick
  probed-fits = of (eqb p.probe_wait 0) refl
    where
      of : (t : Bool) → eqb p.probe_wait 0 ≡ t
          → ProbeFits (pick t (armed current p.bits 7000) (pick (not_before current p.ts_probe) (armed current (ask_bit p.bits) (longer_wait p.probe_wait)) p))
      of true e = record { wait = inr (record { low = omega arith; high = omega arith }) }
      of false e =
          either-fits (not_before current p.ts_probe) _ p
          (record { wait = ⊎_elim (λ z. absurd (eqb-false p.probe_wait 0 e z)) (λ w. inr (longer-fits p.probe_wait w)) f.wait })
          f

  pub probe-fits : (rmt_wnd : ℕ) → ProbeFits (probe_wnd_size rmt_wnd current p)
  unfolding probe_wnd_size
  probe-fits rmt_wnd = either-fits (eqb rmt_wnd 0) (probed current p) _ probed-fits (record { wait = inl refl })
