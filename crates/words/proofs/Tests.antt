-- Which words are those of a block: the test as facts, both ways. Assumes nothing.
use Prim.Native.Nat.{ℕ, ◌<◌}
use mathlib.Core.Path.{◌≡◌, sym, ◌∙◌}
use mathlib.Core.Bool.{Bool, true, false, not}
use mathlib.Core.List.{List}
use lib.ListN.{length}
use borrow.Author.Tests.{not-false}
use Rattle.block.proofs.Exact.{Exactly, exactly_eq, exactly_lt, exactly_both}
use Rattle.words.specs.Words.{at, is_block}

pub exactly-block : (l : List ℕ) → Exactly (is_block l) ((length l ≡ 35) × (at l 0 < 64))
unfolding is_block
exactly-block l = exactly_both (exactly_eq (length l) 35) (exactly_lt (at l 0) 64)

pub block_length : (l : List ℕ) → is_block l ≡ true → length l ≡ 35
block_length l h = ((exactly-block l).holds h).0

-- the same where the code asked whether the test t of it fails
pub held-length : (l : List ℕ) {t : Bool} → t ≡ is_block l → not t ≡ false → length l ≡ 35
held-length l {t} e h = block_length l (sym e ∙ not-false t h)
