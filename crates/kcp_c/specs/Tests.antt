-- Whether a block that a host keeps as words, and a lent memory, are well formed: "15 | BadPool | block or lent memory not well formed", and else 0.
-- Assumes nothing.
use Rattle.std.specs.Prelude.{ℕ, Bool, ◌&&◌, List}
use Rattle.serial.specs.Branch.{pick}
use Rattle.block.specs.declared.Kcp.{Kcp}
use Rattle.words.specs.Words.{block_of, is_block}

-- by the test that the calls make of block and memory
unfoldable pub tested : (Kcp → Bool) → List ℕ → ℕ
tested fits l = pick (is_block l && fits (block_of l)) 0 15
