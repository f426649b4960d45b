-- What a host is told of each answer. Assumes nothing.
use Rattle.std.specs.Prelude.{Result, Ok, Err}
use Prim.Native.Nat.{ℕ}
use mathlib.Core.Path.{◌≡◌, refl, sym, ap, ◌∙◌}
use mathlib.Core.Bool.{Bool, true, false, not}
use mathlib.Core.List.{List}
use borrow.Author.Tests.{not-true, not-false}
use Rattle.serial.specs.Branch.{pick, pick-false}
use Rattle.block.specs.declared.Kcp.{Kcp}
use Rattle.words.specs.Words.{block_of, is_block}
use Rattle.kcp_c.specs.Answered.{Answered}
use Rattle.kcp_c.specs.Tests.{tested}
use Rattle.wire.specs.declared.ShortHeader.{ShortHeader}

pub answered-short : {r answer : Result ℕ ShortHeader} {x : ShortHeader} (before : ℕ) → r ≡ answer → r ≡ Err x → Answered answer before 16 before
answered-short before e s = rw (sym e ∙ s) (record { refusal = refl; place = refl })

pub answered_is : {r answer : Result ℕ ShortHeader} (before n : ℕ) → r ≡ answer → r ≡ Ok n → Answered answer before 0 n
answered_is before n e s = rw (sym e ∙ s) (record { refusal = refl; place = refl })

-- any two answers, and any two numbers at the place afterwards, that meet the promise coincide
pub answered_one : {answer : Result ℕ ShortHeader} {before r r' after after' : ℕ} → Answered answer before r after → Answered answer before r' after' → (r ≡ r') × (after ≡ after')
answered_one t u = (t.refusal ∙ sym u.refusal, t.place ∙ sym u.place)

-- of t, which tells whether the words l are a block, the code asks whether it fails; then b tells whether block and memory are well formed
module _ (fits : Kcp → Bool) (l : List ℕ) {t : Bool} (e : t ≡ is_block l) where
  pub tested_none : not t ≡ true → 15 ≡ tested fits l
  unfolding tested
  tested_none h = sym (pick-false 0 15 (rw (sym e ∙ not-true t h) refl))

  pub tested_by : not t ≡ false → {k : Kcp} → k ≡ block_of l → {b : Bool} → b ≡ fits k → pick b 0 15 ≡ tested fits l
  unfolding tested
  tested_by h held is = ap (λ x. pick x 0 15) (rw (sym e ∙ not-false t h) (is ∙ ap fits held))
