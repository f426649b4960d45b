-- A row as a record: what the functions read and write at a place, what a renewed row leaves, and that it is what is seen there. Assumes nothing.
use Prim.Native.Nat.{ℕ, ◌+◌, ◌-◌, ◌*◌, ◌/◌, ◌≤◌, ◌<◌}
use native.Mathlib.Omega.{arith}
use mathlib.Core.Path.{◌≡◌, refl, sym, ap, ◌∙◌}
use mathlib.Core.List.{List, [], ◌∷◌, ◌++◌, map}
use lib.ListN.{length, get_or, take, drop, take-append-drop}
use lib.Seq.{take-add}
use Rattle.ring.specs.Lists.{lists}
use Rattle.ring.specs.Records.{put, part, put_slot, part_slot, number_at}
use Rattle.ring.proofs.Rows.{part_length, put_slot-length, part_slot-own, part_slot-other, part_slot-number}
use Rattle.snd_ring.specs.Store.{Store, store, store_of, cell, Sized}
use Rattle.snd_ring.proofs.Splits.{rows-length, row_within, store-room, part-rows, store-part}
use Rattle.snd_ring.proofs.Views.{segment_at, cell-live, in_rows}
use Rattle.transmit.specs.Memory.{conv, frg, sn, ts, resendts, rto, fastack, xmit, segment_of}
use Rattle.transmit.proofs.Numbers.{rows-room}
use Rattle.flushing.specs.declared.due.Record.{Record}
use Rattle.flushing.specs.Pieces.{record_of}
use Rattle.flushing.specs.Pieces as rule
use Rattle.flight.specs.Memory.{record_in, row_of, renewed_at}

-- ---- `record_at` and `put_record_at`

module _ (a : List ℕ) (q : ℕ) where
  abbrev rows : List ℕ
  rows = (store_of 8 (lists a [])).rows

  pub record_by : {x0 x1 x2 x3 x4 x5 x6 x7 : ℕ} → x0 ≡ number_at 8 rows q conv → x1 ≡ number_at 8 rows q frg → x2 ≡ number_at 8 rows q sn → x3 ≡ number_at 8 rows q ts
      → x4 ≡ number_at 8 rows q resendts → x5 ≡ number_at 8 rows q rto → x6 ≡ number_at 8 rows q fastack → x7 ≡ number_at 8 rows q xmit → (room : List ℕ)
      → record { conv = x0; frg = x1; sn = x2; ts = x3; resendts = x4; rto = x5; fastack = x6; xmit = x7 } ≡ record_in (store_of 8 (lists a room)) q
  unfolding record_in
  record_by e0 e1 e2 e3 e4 e5 e6 e7 room = rw (e0, e1, e2, e3, e4, e5, e6, e7, rows-room a [] room)

  pub renewed_by : {slots : ℕ} (r : Record) {y : List ℕ} → slots ≡ length a / 9 → q < slots → y ≡ put_slot 8 (take (length a - slots) (drop slots a)) q 0 (row_of r)
      → (room : List ℕ) → store_of 8 (lists (take slots a ++ (y ++ drop (length a - slots) (drop slots a))) room) ≡ renewed_at (store_of 8 (lists a room)) q r
  unfolding renewed_at
  renewed_by {slots} r {y} e h f room =
      let u = rw (part-rows 8 a room slots e) at f in
      let b = row_within 8 (length a) q (omega arith) in
      let l = rows-length 8 (lists a room) in
      let v = ap length u ∙ put_slot-length 8 (store_of 8 (lists a room)).rows q 0 (row_of r) (omega arith) (omega arith) in
      store-part 8 a room slots e y v ∙ rw (u, store-room 8 (lists a room))

-- ---- what stands there already is put

joined : (l : List ℕ) (at n : ℕ) → take at l ++ part l at n ++ drop (at + n) l ≡ l
unfolding part
joined l at n = rw (← take-add at n l) (take-append-drop (at + n) l)

put_same : (l : List ℕ) (at n : ℕ) → at + n ≤ length l → put l at (part l at n) ≡ l
unfolding put
put_same l at n h = rw (part_length l at n h) (joined l at n)

-- ---- what is seen at a place is its record

pub record_is : (m : Store) (q : ℕ) → record_of (segment_of (segment_at 8 m q)) ≡ record_in m q
unfolding record_in
record_is m q =
    rw (
      part_slot-number 8 m.rows q 8 conv (omega arith),
      part_slot-number 8 m.rows q 8 frg (omega arith),
      part_slot-number 8 m.rows q 8 sn (omega arith),
      part_slot-number 8 m.rows q 8 ts (omega arith),
      part_slot-number 8 m.rows q 8 resendts (omega arith),
      part_slot-number 8 m.rows q 8 rto (omega arith),
      part_slot-number 8 m.rows q 8 fastack (omega arith),
      part_slot-number 8 m.rows q 8 xmit (omega arith),
    )

-- ---- a renewed row

-- eight numbers, one by one
eight : (l : List ℕ) → length l ≡ 8 → get_or l 0 0 ∷ get_or l 1 0 ∷ get_or l 2 0 ∷ get_or l 3 0 ∷ get_or l 4 0 ∷ get_or l 5 0 ∷ get_or l 6 0 ∷ get_or l 7 0 ∷ [] ≡ l
eight (a ∷ b ∷ c ∷ d ∷ e ∷ f ∷ g ∷ h ∷ []) n = refl
eight [] n = absurd (omega arith)
eight (a ∷ []) n = absurd (omega arith)
eight (a ∷ b ∷ []) n = absurd (omega arith)
eight (a ∷ b ∷ c ∷ []) n = absurd (omega arith)
eight (a ∷ b ∷ c ∷ d ∷ []) n = absurd (omega arith)
eight (a ∷ b ∷ c ∷ d ∷ e ∷ []) n = absurd (omega arith)
eight (a ∷ b ∷ c ∷ d ∷ e ∷ f ∷ []) n = absurd (omega arith)
eight (a ∷ b ∷ c ∷ d ∷ e ∷ f ∷ g ∷ []) n = absurd (omega arith)
eight (a ∷ b ∷ c ∷ d ∷ e ∷ f ∷ g ∷ h ∷ i ∷ l) n = absurd (omega arith)

-- with the record that stands there already, all stays
pub renewed_same : (m : Store) → Sized 8 m → (q : ℕ) → q < length m.marks → renewed_at m q (record_in m q) ≡ m
unfolding renewed_at
renewed_same m z q h =
    let a = in_rows 8 m z q h in
    let n = part_length m.rows (q * 8 + 0) 8 (omega arith) in
    let e : row_of (record_in m q) ≡ part_slot 8 m.rows q 0 8 = ap row_of (sym (record_is m q)) ∙ eight (part_slot 8 m.rows q 0 8) n in
    rw e (ap (λ (l : List ℕ). store m.marks l m.room) (put_same m.rows (q * 8 + 0) 8 (omega arith)))

module _ (m : Store) (q : ℕ) (r : Record) where
  pub renewed-marks : (renewed_at m q r).marks ≡ m.marks
  unfolding renewed_at
  renewed-marks = refl

  pub renewed-room : (renewed_at m q r).room ≡ m.room
  unfolding renewed_at
  renewed-room = refl

module _ (m : Store) (z : Sized 8 m) (q : ℕ) (h : q < length m.marks) (r : Record) where
  pub renewed-sized : Sized 8 (renewed_at m q r)
  unfolding renewed_at
  renewed-sized = record {
    most = z.most;
    rows-size = put_slot-length 8 m.rows q 0 (row_of r) (omega arith) (in_rows 8 m z q h) ∙ z.rows-size;
    room-size = z.room-size;
  }

  -- it is seen
  pub renewed-own : (get_or m.marks q 0 ≡ 0 → ⊥) → map segment_of (cell 8 (renewed_at m q r) q) ≡ rule.segment_from r (segment_at 8 m q).payload ∷ []
  unfolding renewed_at
  renewed-own live = ap (map segment_of) (cell-live 8 (renewed_at m q r) q live) ∙ rw (part_slot-own 8 m.rows q 0 (row_of r) (omega arith) (in_rows 8 m z q h))

  -- and the others stay
  pub renewed-other : (t : ℕ) → (t ≡ q → ⊥) → cell 8 (renewed_at m q r) t ≡ cell 8 m t
  unfolding cell renewed_at
  renewed-other t d = rw (part_slot-other 8 m.rows q 0 (row_of r) (omega arith) (in_rows 8 m z q h) t 0 8 d (omega arith))
