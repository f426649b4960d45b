-- What a host is promised that keeps its control block as a list of words: document 01's number of the refusal, or 0, is returned, and
-- refused words stay as they were. Assumes nothing.
use Rattle.std.specs.Prelude.{ℕ, ◌≡◌, Bool, ◌&&◌, List, eqb, length}
use Rattle.serial.specs.Branch.{pick}
use Rattle.block.specs.declared.Kcp.{Kcp}
use Rattle.block.specs.Fresh.{Lent, lent_sizes}
use Rattle.words.specs.Words.{words_of, block_of, is_block}

-- the words l after a setter f
unfoldable pub set_words : (Kcp → Kcp) → List ℕ → List ℕ
set_words f l = pick (is_block l) (words_of (f (block_of l))) l

-- of a setter f that answers n for a block: its answer r for the words l, and what stands there afterwards; 15 where they are no block
pub record WordsSet (f : Kcp → Kcp) (n : ℕ) (l : List ℕ) (r : ℕ) (after : List ℕ) : Type 0 where
  pub refusal : r ≡ pick (is_block l) n 15
  pub words : after ≡ set_words f l

-- as many words as a block has, and lent sizes within the limits
unfoldable pub can_make : Lent → List ℕ → Bool
can_make m l = eqb (length l) 35 && lent_sizes m

-- of a constructor of the block k that is lent m: its answer r for the words l, and what stands there afterwards
pub record WordsMade (m : Lent) (k : Kcp) (l : List ℕ) (r : ℕ) (after : List ℕ) : Type 0 where
  pub refusal : r ≡ pick (can_make m l) 0 15
  pub words : after ≡ pick (can_make m l) (words_of k) l
