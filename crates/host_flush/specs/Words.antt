-- What a host is promised of flush_ack, flush, update and check of a block which it keeps as a list of words: document 01's number of the refusal, or 0, is
-- returned; how many datagrams went out, or the wait, is put at a place, which a refusal leaves; words that are no block are refused by 15, and then
-- all is as it was. Assumes nothing.
use Rattle.std.specs.Result.{result_unwrap_or}
use Rattle.std.specs.Prelude.{ℕ, ◌≡◌, List, Result, Ok, Err}
use Rattle.serial.specs.Branch.{pick}
use Rattle.ring.specs.Lists.{Lists}
use Rattle.snd_ring.specs.Store.{Store, store_of}
use Rattle.block.specs.declared.Kcp.{Kcp}
use Rattle.block.specs.Refusals.{number_of_answer}
use Rattle.words.specs.Words.{block_of, is_block}
use Rattle.host.specs.Words.{set_words}
use Rattle.packing.specs.FlushAck.{Writing}
use Rattle.output.specs.Memory.{Out, FlushOut}
use Rattle.kcp_flush.specs.Calls.{check_of}
use Rattle.block.specs.declared.refusal.Refusal.{Refusal}

-- the datagrams of a call that is done; n is what stood at their place
abbrev pub count_in : ℕ → Result Unit Refusal → ℕ → ℕ
count_in n (Ok done) datagrams = datagrams
count_in n (Err why) datagrams = n

-- what a host is left with: the number returned, what stands at the place, the words, and the bytes and lengths
pub record Left : Type 0 where
  pub number : ℕ
  pub datagrams : ℕ
  pub words : List ℕ
  pub written : Writing

-- of a call f of a block, for the words l, where w is lent and n stands at the place
pub record WordsOut (f : Kcp → Out) (w : Writing) (l : List ℕ) (n : ℕ) (o : Left) : Type 0 where
  pub refusal : o.number ≡ pick (is_block l) (number_of_answer (f (block_of l)).answer) 15
  pub count : o.datagrams ≡ pick (is_block l) (count_in n (f (block_of l)).answer (f (block_of l)).datagrams) n
  pub words : o.words ≡ set_words (λ k. (f k).block) l
  pub bytes : o.written ≡ pick (is_block l) (f (block_of l)).written w

-- the same of one that is handed the send memory too, and what it leaves of that
pub record WordsFlushed (f : Kcp → FlushOut) (snd : Lists) (w : Writing) (l : List ℕ) (n : ℕ) (o : Left) (m : Store) : Type 0 where
  pub out : WordsOut (λ k. (f k).out) w l n o
  pub sends : m ≡ pick (is_block l) (f (block_of l)).store (store_of 8 snd)

-- the wait of an answer
abbrev pub wait_in : ℕ → Result ℕ Refusal → ℕ
wait_in n a = result_unwrap_or a n

pub record WordsChecked (snd : Lists) (current : ℕ) (l : List ℕ) (n r after : ℕ) : Type 0 where
  pub refusal : r ≡ pick (is_block l) (number_of_answer (check_of (block_of l) snd current)) 15
  pub wait : after ≡ pick (is_block l) (wait_in n (check_of (block_of l) snd current)) n
