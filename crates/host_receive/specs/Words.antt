-- What a host is promised of the calls that are handed the receive memory, over a block that it keeps as a list of words: document 01's number of
-- the refusal, or 0, is returned; words that are no block are refused by 15, and then all is as it was. Assumes nothing.
use Rattle.std.specs.Result.{result_unwrap_or}
use Rattle.std.specs.Prelude.{ℕ, ◌≡◌, List, Result}
use Rattle.serial.specs.Branch.{pick}
use Rattle.ring.specs.Lists.{Lists}
use Rattle.block.specs.declared.Kcp.{Kcp}
use Rattle.block.specs.declared.set.Set.{Set}
use Rattle.block.specs.Refusals.{number_of_answer}
use Rattle.words.specs.Words.{block_of, is_block}
use Rattle.host.specs.Words.{set_words}
use Rattle.kcp_receive.specs.Calls.{peeksize_of, recv_of}
use Rattle.block.specs.declared.refusal.Refusal.{Refusal}

-- of a call f that answers nothing but whether it was refused: its answer r for the words l, and what stands there afterwards
pub record Called (f : Kcp → Set) (l : List ℕ) (r : ℕ) (after : List ℕ) : Type 0 where
  pub refusal : r ≡ pick (is_block l) (number_of_answer (f (block_of l)).answer) 15
  pub words : after ≡ set_words (λ k. (f k).block) l

-- the number n at a place that gets a length, once the answer is told
abbrev pub length_in : ℕ → Result ℕ Refusal → ℕ
length_in n a = result_unwrap_or a n

pub record WordsPeeked (p : Lists) (l : List ℕ) (n r after : ℕ) : Type 0 where
  pub refusal : r ≡ pick (is_block l) (number_of_answer (peeksize_of (block_of l) p)) 15
  pub length : after ≡ pick (is_block l) (length_in n (peeksize_of (block_of l) p)) n

-- of a recv: its answer, and the words, the buffer and the place of the length afterwards
pub record WordsReceived (p : Lists) (buf l : List ℕ) (n r : ℕ) (buf' l' : List ℕ) (n' : ℕ) : Type 0 where
  pub refusal : r ≡ pick (is_block l) (number_of_answer (recv_of (block_of l) p buf).answer) 15
  pub words : l' ≡ set_words (λ k. (recv_of k p buf).block) l
  pub buffer : buf' ≡ pick (is_block l) (recv_of (block_of l) p buf).buf buf
  pub length : n' ≡ pick (is_block l) (length_in n (recv_of (block_of l) p buf).answer) n
