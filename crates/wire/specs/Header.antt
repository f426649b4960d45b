-- "The header is laid out as 24 bytes, little-endian: conv 4, cmd 1, frg 1, wnd 2, ts 4, sn 4, una 4, len 4".
-- Assumes nothing.
use Rattle.std.specs.Prelude.{ℕ, ◌+◌, ◌<◌, ◌^◌, List, [], ◌∷◌, ◌++◌, get_or}
use Rattle.wire.specs.declared.Header.{Header}
use Rattle.wire.specs.LittleEndian.{le_at, le_bytes}

-- the header whose 24 bytes stand at `at`
unfoldable pub header_at : List ℕ → ℕ → Header
header_at s at = record {
  conv = le_at 4 s at;
  cmd = get_or s (at + 4) 0;
  frg = get_or s (at + 5) 0;
  wnd = le_at 2 s (at + 6);
  ts = le_at 4 s (at + 8);
  sn = le_at 4 s (at + 12);
  una = le_at 4 s (at + 16);
  len = le_at 4 s (at + 20);
}

-- the 24 bytes of a header
unfoldable pub header_bytes : Header → List ℕ
header_bytes h =
    le_bytes 4 h.conv ++ (h.cmd ∷ h.frg ∷ [])
    ++ le_bytes 2 h.wnd ++ le_bytes 4 h.ts ++ le_bytes 4 h.sn ++ le_bytes 4 h.una ++ le_bytes 4 h.len

-- each number of a header fits its bytes, as that of any value of the type does
pub record Fit (h : Header) : Type 0 where
  pub conv : h.conv < 2 ^ 32
  pub cmd : h.cmd < 2 ^ 8
  pub frg : h.frg < 2 ^ 8
  pub wnd : h.wnd < 2 ^ 16
  pub ts : h.ts < 2 ^ 32
  pub sn : h.sn < 2 ^ 32
  pub una : h.una < 2 ^ 32
  pub len : h.len < 2 ^ 32

abbrev pub conv_of : Header → ℕ
conv_of h = h.conv

abbrev pub sn_of : Header → ℕ
sn_of h = h.sn
