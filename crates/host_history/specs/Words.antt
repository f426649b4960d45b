-- Demand 3 over the exported functions: a host keeps its block as words beside the memory that it lends, and each function that makes a call leaves of both
-- what its contract says (host/specs to host_flush/specs; that it does: proofs/Exports). Assumes nothing.
use Rattle.std.specs.Prelude.{ℕ, ◌≡◌, true, List, [], ◌∷◌}
use Rattle.serial.specs.Branch.{pick}
use Rattle.block.specs.Fresh.{Lent}
use Rattle.words.specs.Words.{block_of, is_block}
use Rattle.host.specs.Words.{set_words}
use Rattle.history.specs.Calls.{Call, Memory, lent_to, leaves}
use Rattle.history.specs.History.{History, Turn, on_own, on_other, SoundCalls}

-- the words, and what is lent
pub record Held : Type 0 where
  pub words : List ℕ
  pub lent : Lent

-- the memory without its block
abbrev pub lent_of : Memory → Lent
lent_of m = record { rcv = m.rcv; snd = m.snd; acks = m.acks; waiting = m.waiting }

-- what the function leaves that makes the call c; where the words are no block, all as it was
unfoldable pub words_leave : Call → Held → Held
words_leave c h = record {
  words = set_words (λ k. (leaves c (lent_to k h.lent)).block) h.words;
  lent = pick (is_block h.words) (lent_of (leaves c (lent_to (block_of h.words) h.lent))) h.lent;
}

-- a call on other memory leaves the block's own
unfoldable pub step_words : Held → Turn → Held
step_words h (on_own c) = words_leave c h
step_words h (on_other l c) = record { words = (words_leave c (record { words = h.words; lent = l })).words; lent = h.lent }

unfoldable pub run_words : Held → List Turn → Held
run_words h [] = h
run_words h (t ∷ turns) = run_words (step_words h t) turns

-- what the host holds is a block, that of the history, in the history's memory; so all that is said there is said of it
pub record HeldSound (start : Memory) (h : History) (x : Held) : Type 0 where
  pub block : is_block x.words ≡ true
  pub words : block_of x.words ≡ h.now.block
  pub lent : x.lent ≡ lent_of h.now
  pub sound : SoundCalls start h
