-- What a host holds goes with the history of the block, from what a constructor leaves on. Assumes nothing.
use Prim.Native.Nat.{ℕ, ◌<◌}
use native.Mathlib.Omega.{arith}
use mathlib.Core.Path.{◌≡◌, refl}
use mathlib.Core.Bool.{Bool, true, false}
use mathlib.Core.List.{List, [], ◌∷◌}
use lib.ListN.{length}
use lib.Dec.{eqb}
use Rattle.serial.specs.Branch.{pick}
use Rattle.block.specs.declared.Kcp.{Kcp}
use Rattle.block.specs.Fresh.{fresh, Lent, lent_sizes}
use Rattle.receiving.proofs.Laws.{and_right}
use Rattle.words.specs.Words.{bit, words_of, block_of, is_block}
use Rattle.words.proofs.Back.{block_back}
use Rattle.words.proofs.Tests.{exactly-block}
use Rattle.host.specs.Words.{set_words, can_make, WordsMade}
use Rattle.history.specs.Calls.{Call, Memory, lent_to, leaves}
use Rattle.history.specs.History.{History, Turn, on_own, on_other, step, run, OwnOrRefused, begun, SoundCalls}
use Rattle.history.proofs.History as calls
use Rattle.host_history.specs.Words.{Held, lent_of, words_leave, step_words, run_words, HeldSound}

-- ---- a block's words are a block

bit-small : (b : Bool) → bit b < 2
bit-small true = omega arith
bit-small false = omega arith

is_block_lem : (k : Kcp) → is_block (words_of k) ≡ true
unfolding words_of
is_block_lem k =
    let a = bit-small k.settings.nodelay in
    let b = bit-small k.settings.nocwnd in
    let c = bit-small k.settings.stream in
    let d = bit-small k.settings.input_conv in
    let e = bit-small k.clock.updated in
    let f = bit-small k.sender.dead in
    (exactly-block (words_of k)).tests (refl, omega arith)

-- the words of a block that a history has are that block's alone
same_block : (start : Memory) (h : History) → SoundCalls start h → block_of (words_of h.now.block) ≡ h.now.block
same_block start h s =
    let r = s.own.receiver in
    let a = r.window.high in
    let b = r.most in
    let c = s.short in
    block_back h.now.block (record { ssthresh = c.ssthresh; snd = c.snd; rcv = omega arith; rmt = c.rmt; cwnd = c.cwnd; largest = omega arith })

-- ---- the host's words go with the history

-- h is told of what x holds, whatever turns come next
record Goes (start : Memory) (h : History) (x : Held) : Type 0 where
  words : x.words ≡ words_of h.now.block
  lent : x.lent ≡ lent_of h.now
  on : (turns : List Turn) → OwnOrRefused h turns → SoundCalls start (run h turns)

module _ (start : Memory) where
  -- what a call leaves of the words
  left-words : (h : History) (x : Held) → Goes start h x → (c : Call) (l : Lent)
      → set_words (λ k. (leaves c (lent_to k l)).block) x.words ≡ words_of (leaves c (lent_to h.now.block l)).block
  unfolding set_words run pick
  left-words h x g c l =
      let k = h.now.block in
      let e = same_block start h (g.on [] tt) in
      rw (g.words, is_block_lem k, e)

  step-goes : (h : History) (x : Held) → Goes start h x → (t : Turn) → OwnOrRefused h (t ∷ []) → Goes start (step h t) (step_words x t)
  unfolding step step_words words_leave run pick
  step-goes h x g (on_own c) o = record {
    words = rw g.lent (left-words h x g c (lent_of h.now));
    lent = rw (g.words, is_block_lem h.now.block, same_block start h (g.on [] tt), g.lent);
    on = λ turns p. g.on (on_own c ∷ turns) p;
  }
  step-goes h x g (on_other l c) o = record {
    words = left-words h x g c l;
    lent = g.lent;
    on = λ turns p. g.on (on_other l c ∷ turns) (o.0, p);
  }

  run-goes : (turns : List Turn) (h : History) (x : Held) → Goes start h x → OwnOrRefused h turns → Goes start (run h turns) (run_words x turns)
  unfolding run run_words
  run-goes [] h x g o = g
  run-goes (on_own c ∷ turns) h x g o = run-goes turns (step h (on_own c)) (step_words x (on_own c)) (step-goes h x g (on_own c) tt) o
  run-goes (on_other l c ∷ turns) h x g o = run-goes turns (step h (on_other l c)) (step_words x (on_other l c)) (step-goes h x g (on_other l c) (o.0, tt)) o.1

-- from words in which a constructor made a block, as it answers 0
module _ (conv : ℕ) (stream : Bool) (interval : ℕ) (l : Lent) (words after : List ℕ) where
  abbrev first : Memory
  first = lent_to (fresh conv stream interval) l

  abbrev held : Held
  held = record { words = after; lent = l }

  pub host-history : WordsMade l (fresh conv stream interval) words 0 after → (turns : List Turn) → OwnOrRefused (begun first) turns
      → HeldSound first (run (begun first) turns) (run_words held turns)
  unfolding can_make begun pick
  host-history made turns o = go (can_make l words) refl made.refusal made.words
    where
      go : (b : Bool) → can_make l words ≡ b → ◌≡◌ {A = ℕ} 0 (pick b 0 15) → after ≡ pick b (words_of (fresh conv stream interval)) words
          → HeldSound first (run (begun first) turns) (run_words held turns)
      go true e n a =
          let sizes = and_right (eqb (length words) 35) (lent_sizes l) e in
          let g : Goes first (begun first) held = record { words = a; lent = refl; on = calls.history conv stream interval l sizes } in
          let x = run-goes first turns (begun first) held g o in
          let h = run (begun first) turns in
          let s = calls.history conv stream interval l sizes turns o in
          record {
            block = rw x.words (is_block_lem h.now.block);
            words = rw x.words (same_block first h s);
            lent = x.lent;
            sound = s;
          }
      go false e n a = let z : ◌≡◌ {A = ℕ} 0 15 = n in absurd (omega arith)
