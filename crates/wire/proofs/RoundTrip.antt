-- "Reading what was written gives it back", and writing what was read gives the bytes back, wherever they stand. Assumes nothing.
use Prim.Native.Nat.{ℕ, ◌+◌, ◌≤◌}
use native.Mathlib.Omega.{arith}
use native.Mathlib.Nat.{add-zero}
use mathlib.Core.Path.{◌≡◌, refl, ap, ◌∙◌}
use mathlib.Core.List.{List, ◌++◌}
use lib.ListN.{length, take, drop}
use lib.Seq.{get_or-drop, drop-drop, drop-append_seam}
use Rattle.wire.specs.declared.Header.{Header}
use Rattle.wire.specs.LittleEndian.{Octets}
use Rattle.wire.specs.Header.{header_at, header_bytes, Fit}
use Rattle.wire.proofs.LittleEndian.{number-le_bytes, written_read, written_more, byte_more, le_at_below}

pub header_bytes-length : (h : Header) → length (header_bytes h) ≡ 24
unfolding header_bytes
header_bytes-length h = refl

at_zero : (h : Header) (rest : List ℕ) → Fit h → header_at (header_bytes h ++ rest) 0 ≡ h
unfolding header_at header_bytes
at_zero h rest f =
    rw (
      number-le_bytes 4 h.conv f.conv,
      number-le_bytes 2 h.wnd f.wnd,
      number-le_bytes 4 h.ts f.ts,
      number-le_bytes 4 h.sn f.sn,
      number-le_bytes 4 h.una f.una,
      number-le_bytes 4 h.len f.len,
    )

-- a header at `at` is the one at the front of what is left from there
pub header_at-drop : (s : List ℕ) (at : ℕ) → header_at s at ≡ header_at (drop at s) 0
unfolding header_at
header_at-drop s at = simp (drop-drop, get_or-drop, add-zero)

pub read-written : (p : List ℕ) (h : Header) (rest : List ℕ) → Fit h → header_at (p ++ (header_bytes h ++ rest)) (length p) ≡ h
read-written p h rest f =
    header_at-drop (p ++ (header_bytes h ++ rest)) (length p)
    ∙ ap (λ (l : List ℕ). header_at l 0) (drop-append_seam p (header_bytes h ++ rest)) ∙ at_zero h rest f

pub written-read-header : (s : List ℕ) (at : ℕ) → at + 24 ≤ length s → Octets s → header_bytes (header_at s at) ≡ take 24 (drop at s)
unfolding header_at header_bytes
written-read-header s at h b =
    written_more s 4 at (at + 4) 20 (omega arith) (omega arith) b
    (byte_more s (at + 4) (at + 5) 19 (omega arith) (omega arith)
    (byte_more s (at + 5) (at + 6) 18 (omega arith) (omega arith)
    (written_more s 2 (at + 6) (at + 8) 16 (omega arith) (omega arith) b
    (written_more s 4 (at + 8) (at + 12) 12 (omega arith) (omega arith) b
    (written_more s 4 (at + 12) (at + 16) 8 (omega arith) (omega arith) b
    (written_more s 4 (at + 16) (at + 20) 4 (omega arith) (omega arith) b
    (written_read s 4 (at + 20) (omega arith) b)))))))

-- the numbers of a header that was read fit it
pub header_at-fit : (s : List ℕ) (at : ℕ) → at + 24 ≤ length s → Octets s → Fit (header_at s at)
unfolding header_at
header_at-fit s at h b = record {
  conv = le_at_below s 4 at (omega arith) b;
  cmd = b (at + 4);
  frg = b (at + 5);
  wnd = le_at_below s 2 (at + 6) (omega arith) b;
  ts = le_at_below s 4 (at + 8) (omega arith) b;
  sn = le_at_below s 4 (at + 12) (omega arith) b;
  una = le_at_below s 4 (at + 16) (omega arith) b;
  len = le_at_below s 4 (at + 20) (omega arith) b;
}
