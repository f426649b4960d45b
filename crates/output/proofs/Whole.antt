-- A flush written: its front and its rear are one list of pieces, and they fit what is lent where the whole does. Assumes nothing.
use Prim.Native.Nat.{ℕ, ◌+◌, ◌≤◌}
use native.Mathlib.Omega.{arith}
use mathlib.Core.Path.{◌≡◌, refl, ap, ◌∙◌}
use mathlib.Core.List.{List, ◌++◌, map, map-append, append_assoc}
use lib.ListN.{length, take, length-append}
use lib.Seq.{length-take-le}
use Rattle.ring.specs.Records.{put}
use Rattle.ring.proofs.Rows.{put-length}
use Rattle.snd_ring.specs.Store.{Store}
use Rattle.block.specs.declared.Kcp.{Kcp}
use Rattle.flushing.specs.Pack.{flat, pack_sizes, pack_all_sizes}
use Rattle.flushing.proofs.Packing.{flat_append, length-flat, rest-most}
use Rattle.packing.specs.declared.packer.Packer.{Packer}
use Rattle.packing.specs.Packer.{holding, sized}
use Rattle.packing.specs.Acks.{acks_of}
use Rattle.packing.specs.Front.{front_pieces, front_sizes}
use Rattle.packing.proofs.Laying.{put_next}
use Rattle.packing.proofs.Turns.{all_append, sized-sum, sized-count, sized-used}
use Rattle.packing.proofs.Fronts.{front-sizes, front_each}
use Rattle.output.specs.Memory.{told_of, plan_of, segments_of, pieces_at, Rear, rear_at, RearFits, written_at, FlushFits}

module _ (b : Kcp) (m : Store) (acks waiting : List ℕ) (wide : b.acklist.waiting ≤ length waiting) {out lengths : List ℕ} (f : FlushFits b m acks out lengths) where
  abbrev mtu : ℕ
  mtu = b.settings.mtu

  abbrev held : ℕ
  held = b.acklist.waiting

  abbrev front : List (List ℕ)
  front = front_pieces (told_of b) (plan_of b).probe.bits (acks_of acks b.acklist.acks)

  abbrev cut : List ℕ × ℕ
  cut = pack_sizes mtu held (map length front)

  abbrev rest : List ℕ
  rest = pack_all_sizes mtu cut.1 (map length (segments_of b m))

  bytes_both : flat (pieces_at b m acks) ≡ flat front ++ flat (segments_of b m)
  unfolding pieces_at
  bytes_both = flat_append front (segments_of b m)

  cuts_both : pack_all_sizes mtu held (map length (pieces_at b m acks)) ≡ cut.0 ++ rest
  unfolding pieces_at
  cuts_both = ap (pack_all_sizes mtu held) (map-append length front (segments_of b m)) ∙ all_append mtu held (map length front) (map length (segments_of b m))

  pub front_fits : (held + length (flat front) ≤ length out) × (length cut.0 ≤ length lengths)
  front_fits =
      let h = f.bytes in
      let c = f.cuts in
      let x = ap length bytes_both ∙ length-append (flat front) (flat (segments_of b m)) in
      let y = ap length cuts_both ∙ length-append cut.0 rest in
      (omega arith, omega arith)

  -- p is how far the front came, o and n are the lent bytes and lengths then
  module _ {p : Packer} {o n : List ℕ} (far : p ≡ sized mtu (holding held) (map length front)) (eo : o ≡ put out 0 (take held waiting ++ flat front)) (en : n ≡ put lengths 0 cut.0) where
    behind : p.start + p.used ≡ held + length (flat front)
    behind = rw far (let s = sized-sum mtu (holding held) (map length front) in let l = length-flat front in omega arith)

    counted : p.count ≡ length cut.0
    counted = rw far (let c = sized-count mtu (holding held) (map length front) in omega arith)

    used : p.used ≡ cut.1
    used = rw far (sized-used mtu (holding held) (map length front))

    fore : length (take held waiting ++ flat front) ≡ held + length (flat front)
    fore = let t = length-take-le held waiting wide in let a = length-append (take held waiting) (flat front) in omega arith

    same_out : length o ≡ length out
    same_out = let h = front_fits.0 in let g = fore in rw eo (put-length out 0 (take held waiting ++ flat front) (omega arith))

    same-lengths : length n ≡ length lengths
    same-lengths = let h = front_fits.1 in rw en (put-length lengths 0 cut.0 (omega arith))

    pub rear-fits : mtu ≤ 1500 → held ≤ 1500 → RearFits b m o n p
    rear-fits small short =
        let x = ap length bytes_both ∙ length-append (flat front) (flat (segments_of b m)) in
        let y = ap length cuts_both ∙ length-append cut.0 rest in
        let s = behind in
        let h = f.bytes in
        let w = f.few in
        let c = f.cuts in
        let i = same_out in
        let j = same-lengths in
        let k = counted in
        record {
          small = let e = used in let r = rw (← front-sizes (told_of b) (plan_of b).probe.bits acks b.acklist.acks) at (rest-most mtu 1500 small held (front_sizes b.acklist.acks (plan_of b).probe.bits) short (front_each b.acklist.acks (plan_of b).probe.bits)) in omega arith;
          bytes = omega arith;
          few = omega arith;
          cuts = rw used (omega arith);
        }

    -- r is what the rear left
    pub whole_left : {r : Rear} → r ≡ rear_at b m o n p → r ≡ written_at b m acks waiting out lengths
    whole_left e =
        e
        ∙ rw (eo, en, behind, counted, used, bytes_both, cuts_both)
        (ap (λ (l : List ℕ). rear_of l (put (put lengths 0 cut.0) (length cut.0) rest)) bytes-put
        ∙ ap (λ (l : List ℕ). rear_of (put out 0 (take held waiting ++ (flat front ++ flat (segments_of b m)))) l) cuts-put)
      where
        rear_of : List ℕ → List ℕ → Rear
        rear_of x y = record { sender = (written_at b m acks waiting out lengths).sender; tally = (written_at b m acks waiting out lengths).tally; store = (written_at b m acks waiting out lengths).store; out = x; lengths = y }

        bytes-put : put (put out 0 (take held waiting ++ flat front)) (held + length (flat front)) (flat (segments_of b m)) ≡ put out 0 (take held waiting ++ (flat front ++ flat (segments_of b m)))
        bytes-put = put_next out (take held waiting ++ flat front) (flat (segments_of b m)) (held + length (flat front)) fore front_fits.0 ∙ ap (put out 0) (append_assoc (take held waiting) (flat front) (flat (segments_of b m)))

        cuts-put : put (put lengths 0 cut.0) (length cut.0) rest ≡ put lengths 0 (cut.0 ++ rest)
        cuts-put = put_next lengths cut.0 rest (length cut.0) refl front_fits.1
