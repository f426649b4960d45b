-- What a host is promised of a send, over a block that it keeps as a list of words: document 01's number of the refusal, or 0, is returned;
-- words that are no block are refused by 15, and then all is as it was. Assumes nothing.
use Rattle.std.specs.Result.{result_unwrap_or}
use Rattle.std.specs.Prelude.{ℕ, ◌≡◌, List, Result}
use Rattle.serial.specs.Branch.{pick}
use Rattle.ring.specs.Lists.{Lists}
use Rattle.snd_ring.specs.Store.{Store, store_of}
use Rattle.words.specs.Words.{block_of, is_block}
use Rattle.host.specs.Words.{set_words}
use Rattle.kcp_send.specs.Send.{send_of}
use Rattle.block.specs.declared.refusal.Refusal.{Refusal}
use Rattle.block.specs.Refusals.{number_of_answer}

-- the number n at a place that gets a count, once the answer is told
abbrev pub count_in : ℕ → Result ℕ Refusal → ℕ
count_in n a = result_unwrap_or a n

-- of a send over the lent lists p: its answer, and the memory, the words and the place of the count afterwards
pub record WordsSent (p : Lists) (bytes l : List ℕ) (n r : ℕ) (m : Store) (l' : List ℕ) (n' : ℕ) : Type 0 where
  pub refusal : r ≡ pick (is_block l) (number_of_answer (send_of (block_of l) p bytes).answer) 15
  pub words : l' ≡ set_words (λ k. (send_of k p bytes).block) l
  pub store : m ≡ pick (is_block l) (send_of (block_of l) p bytes).store (store_of 8 p)
  pub count : n' ≡ pick (is_block l) (count_in n (send_of (block_of l) p bytes).answer) n
