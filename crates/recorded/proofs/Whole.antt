-- Whether a whole step stands at a place of the recording, either side of the test. Assumes nothing.
use Rattle.std.proofs.Common.{◌≡◌, ℕ, ◌+◌, ◌-◌, ◌<◌, ◌≤◌, Bool, true, false, leb, List, length, sym, refl, ◌∙◌, arith, le-leb, leb-false, leb-true}
use borrow.Author.Tests.{lt-leb}
use Rattle.block.proofs.Together.{goes, stops}
use Rattle.recorded.specs.declared.rows.Row.{Row}
use Rattle.recorded.specs.Rows.{row_at, whole_at, Whole}

module _ (s : List ℕ) (at : ℕ) (h : at ≤ length s) where
  pub cut_short : length s - at < 44 → (false ≡ whole_at s at) × (false ≡ true → Whole s at)
  unfolding whole_at
  cut_short l = (stops _ (lt-leb (at + 44) (length s) (omega arith)), λ e. let z : ◌≡◌ {A = ℕ} 0 1 = cc in absurd (omega arith))

  -- the bytes that follow are all there, or not
  shift : (w : ℕ) → 44 ≤ length s - at → leb w (length s - at - 44) ≡ leb (at + 44 + w) (length s)
  shift w l = go (leb w (length s - at - 44)) refl
    where
      go : (t : Bool) → leb w (length s - at - 44) ≡ t → leb w (length s - at - 44) ≡ leb (at + 44 + w) (length s)
      go true e = let k = leb-true w (length s - at - 44) e in e ∙ sym (le-leb (at + 44 + w) (length s) (omega arith))
      go false e = let k = leb-false w (length s - at - 44) e in e ∙ sym (lt-leb (at + 44 + w) (length s) (omega arith))

  pub all_there : 44 ≤ length s - at → {r : Row} → r ≡ row_at s at → {w : ℕ} → w ≡ r.bytes
      → (leb w (length s - at - 44) ≡ whole_at s at) × (leb w (length s - at - 44) ≡ true → Whole s at)
  unfolding whole_at
  all_there l {r} e {w} f =
      let k : leb w (length s - at - 44) ≡ leb (at + 44 + (row_at s at).bytes) (length s) = rw (f, e) (shift (row_at s at).bytes l) in
      (k ∙ goes _ (le-leb (at + 44) (length s) (omega arith)), λ t. record { numbers = omega arith; bytes = leb-true _ _ (sym k ∙ t) })
