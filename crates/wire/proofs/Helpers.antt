-- What the helpers' promises are under 24 bytes and from there on. Assumes nothing.
use Rattle.std.specs.Prelude.{Ok, Err}
use Prim.Native.Nat.{ℕ, ◌^◌, ◌≤◌, ◌<◌}
use mathlib.Core.Path.{◌≡◌, refl, sym, ap, ◌∙◌}
use mathlib.Core.List.{List, [], ◌∷◌, ◌++◌}
use lib.ListN.{length, drop, length-drop}
use native.Mathlib.Omega.{arith}
use borrow.Author.Tests.{lt-ltb, le-ltb}
use Rattle.serial.specs.Branch.{pick_true, pick-false}
use Rattle.wire.specs.declared.Header.{Header}
use Rattle.wire.specs.LittleEndian.{le_bytes}
use Rattle.wire.specs.Header.{header_at, conv_of}
use Rattle.wire.specs.Helpers.{under_24, short_header, got, Got, with_conv, put_of, ConvSet}
use Rattle.wire.proofs.LittleEndian.{number-le_bytes}

module _ (s : List ℕ) (short : length s < 24) where
  pub got-short : (field : Header → ℕ) → Got field s (Err under_24)
  unfolding got short_header
  got-short field =
      let t = lt-ltb (length s) 24 short in record { answer = sym (pick_true _ _ t); refusal = sym (pick_true _ _ t); values = sym (pick_true _ _ t) }

  pub set-short : (conv : ℕ) → ConvSet s conv (Err under_24) s
  unfolding put_of short_header with_conv
  set-short conv =
      let t = lt-ltb (length s) 24 short in record { answer = sym (pick_true _ _ t); refusal = sym (pick_true _ _ t); values = refl; bytes = sym (pick_true _ _ t) }

module _ (s : List ℕ) (whole : 24 ≤ length s) where
  pub got_whole : (field : Header → ℕ) {n : ℕ} → n ≡ field (header_at s 0) → Got field s (Ok n)
  unfolding got short_header
  got_whole field e =
      let t = le-ltb (length s) 24 whole in
      record {
        answer = ap Ok e ∙ sym (pick-false _ _ t);
        refusal = sym (pick-false _ _ t);
        values = ap (λ (n : ℕ). n ∷ []) e ∙ sym (pick-false _ _ t);
      }

  pub set_whole : (conv : ℕ) → ConvSet s conv (Ok tt) (le_bytes 4 conv ++ drop 4 s)
  unfolding put_of short_header with_conv
  set_whole conv =
      let t = le-ltb (length s) 24 whole in
      record {
        answer = sym (pick-false _ _ t);
        refusal = sym (pick-false _ _ t);
        values = refl;
        bytes = sym (pick-false _ _ t);
      }

-- what was set is got
pub set-got : (s : List ℕ) (conv : ℕ) → 24 ≤ length s → conv < 2 ^ 32 → got conv_of (with_conv s conv) ≡ Ok conv
unfolding got with_conv header_at
set-got s conv whole fits =
    let e : with_conv s conv ≡ le_bytes 4 conv ++ drop 4 s = pick-false _ _ (le-ltb (length s) 24 whole) in
    let l : 24 ≤ length (le_bytes 4 conv ++ drop 4 s) = simp length-drop (omega arith) in
    ap (got conv_of) e ∙ pick-false _ _ (le-ltb _ 24 l) ∙ ap Ok (number-le_bytes 4 conv fits)
