-- What a host is promised of a datagram that goes into a block which it keeps as a list of words: document 01's number of the refusal, or 0, is
-- returned; words that are no block are refused by 15, and then all is as it was. Assumes nothing.
use Rattle.std.specs.Prelude.{ℕ, ◌≡◌, List, [], ◌∷◌, Result}
use Rattle.serial.specs.Branch.{pick}
use Rattle.ring.specs.Lists.{Lists}
use Rattle.snd_ring.specs.Store.{Store, store_of}
use Rattle.block.specs.Refusals.{row_of, number_of_answer, values_of_count}
use Rattle.words.specs.Words.{block_of, is_block}
use Rattle.host.specs.Words.{set_words}
use Rattle.kcp_input.specs.Input.{input_of}
use Rattle.block.specs.declared.refusal.Refusal.{Refusal}

-- the bytes consumed, or what goes with the refusal, and 0 where there is none
abbrev pub values_in : Result ℕ Refusal → List ℕ
values_in a = (row_of (values_of_count a)).first ∷ (row_of (values_of_count a)).second ∷ []

-- what a host is left with: the number returned, the two values, the skipped pushes, the words and the lent memory
pub record Left : Type 0 where
  pub number : ℕ
  pub values : List ℕ
  pub skipped : ℕ
  pub words : List ℕ
  pub rcv : Lists
  pub acks : List ℕ
  pub snd : Store

-- of a datagram s into the words l, with the memory of both sides and the ack memory
pub record WordsRead (rcv : Lists) (acks waiting : List ℕ) (snd : Lists) (s l : List ℕ) (o : Left) : Type 0 where
  pub refusal : o.number ≡ pick (is_block l) (number_of_answer (input_of (block_of l) rcv acks waiting snd s).answer) 15
  pub values : o.values ≡ pick (is_block l) (values_in (input_of (block_of l) rcv acks waiting snd s).answer) (0 ∷ 0 ∷ [])
  pub skips : o.skipped ≡ pick (is_block l) (input_of (block_of l) rcv acks waiting snd s).skipped 0
  pub words : o.words ≡ set_words (λ k. (input_of k rcv acks waiting snd s).block) l
  pub receives : o.rcv ≡ pick (is_block l) (input_of (block_of l) rcv acks waiting snd s).rcv rcv
  pub list : o.acks ≡ pick (is_block l) (input_of (block_of l) rcv acks waiting snd s).acks acks
  pub sends : o.snd ≡ pick (is_block l) (input_of (block_of l) rcv acks waiting snd s).snd (store_of 8 snd)
