-- What a host is told of flush_ack, flush, update and check, by whether its words are a block, and that it is told one thing only. Assumes nothing.
use Rattle.std.specs.Prelude.{Option}
use Rattle.std.specs.Prelude.{Result}
use Prim.Native.Nat.{ℕ, ◌<◌}
use mathlib.Core.Path.{◌≡◌, refl, sym, ap, ◌∙◌, subst}
use mathlib.Core.Bool.{Bool, true, false, not}
use mathlib.Core.List.{List}
use lib.Dec.{eqb}
use lib.ListN.{length}
use borrow.Author.Tests.{not-true, not-false, eqb-true}
use Rattle.serial.specs.Branch.{pick, pick_true, pick-false}
use Rattle.ring.specs.Lists.{Lists}
use Rattle.snd_ring.specs.Store.{Store, store_of}
use Rattle.block.specs.declared.Kcp.{Kcp}
use Rattle.block.specs.declared.refusal.Refusal.TheVariants.{BadPool}
use Rattle.block.specs.Refusals.{number_of_answer}
use Rattle.block.specs.Sizes.{ack_sizes}
use Rattle.words.specs.Words.{at, words_of, block_of, is_block, with_flags, with_probe_words, with_cwnd_words, with_clock_words, with_turn_words, with_count_words, with_snd_words, with_sent_words}
use Rattle.words.proofs.Back.{words_back}
use Rattle.host.specs.Words.{set_words}
use Rattle.packing.specs.FlushAck.{Writing}
use Rattle.output.specs.Memory.{Out, FlushOut}
use Rattle.output.proofs.Keeps.{Kept, Same, Keeps, either}
use Rattle.kcp_flush.specs.Calls.{unflushed, turn_of, check_of}
use Rattle.kcp_flush.proofs.Calls.{turn_unsized, turn-kept}
use Rattle.host_flush.specs.Words.{count_in, Left, WordsOut, WordsFlushed, wait_in, WordsChecked}
use Rattle.block.specs.declared.refusal.Refusal.{Refusal}

-- ---- the words that are written

-- of what a flush or an update can change, and no others
sent-words : (k b : Kcp) → Kept k b → with_sent_words b (words_of k) ≡ words_of b
unfolding with_flags with_probe_words with_cwnd_words with_clock_words with_count_words with_snd_words words_of
sent-words k b e = rw (e.settings, e.estimator, e.receiver, e.interval, e.own, e.peer, e.una)

turned-words : (k b : Kcp) → Kept k b → Same k b → with_turn_words b (words_of k) ≡ words_of b
unfolding with_flags with_probe_words with_cwnd_words with_clock_words words_of
turned-words k b e s = rw (e.settings, e.estimator, e.receiver, e.interval, e.own, e.peer, s.sender, s.acklist)

left-words : (k : Kcp) (o : FlushOut) → Keeps k o → pick (eqb o.out.datagrams 0) (with_turn_words o.out.block (words_of k)) (with_sent_words o.out.block (words_of k)) ≡ words_of o.out.block
left-words k o e =
    either (λ (l : List ℕ). l ≡ words_of o.out.block) (eqb o.out.datagrams 0)
    (λ z. turned-words k o.out.block e.0 (e.1 (eqb-true o.out.datagrams 0 z)))
    (λ z. sent-words k o.out.block e.0)

-- ---- what is told

-- the sizes of the ack memory are none: 15, whether the words are a block or not
module _ (snd : Lists) (acks : List ℕ) (w : Writing) (time : Option ℕ) {t : Bool} (e : t ≡ ack_sizes (length acks) (length w.waiting)) (h : not t ≡ true) where
  abbrev call : Kcp → FlushOut
  call k = turn_of k snd acks w time

  bad : (k : Kcp) → call k ≡ unflushed k snd w BadPool
  bad k = sym (turn_unsized k snd acks w time (sym e ∙ not-true t h))

  pub flush_unsized : (l : List ℕ) (n : ℕ) → ((i : ℕ) → at l i < 4294967296) → WordsFlushed call snd w l n (record { number = 15; datagrams = n; words = l; written = w }) (store_of 8 snd)
  unfolding set_words
  flush_unsized l n range =
      let o = bad (block_of l) in
      let back : (z : is_block l ≡ true) → l ≡ words_of (call (block_of l)).out.block = λ z. sym (words_back l z range) ∙ ap (λ (x : FlushOut). words_of x.out.block) (sym o) in
      record {
        out = record {
          refusal = either (λ (x : ℕ). 15 ≡ x) (is_block l) (λ z. ap (λ (x : FlushOut). number_of_answer x.out.answer) (sym o)) (λ z. refl);
          count = either (λ (x : ℕ). n ≡ x) (is_block l) (λ z. ap (λ (x : FlushOut). count_in n x.out.answer x.out.datagrams) (sym o)) (λ z. refl);
          words = either (λ (x : List ℕ). l ≡ x) (is_block l) back (λ z. refl);
          bytes = either (λ (x : Writing). w ≡ x) (is_block l) (λ z. ap (λ (x : FlushOut). x.out.written) (sym o)) (λ z. refl);
        };
        sends = either (λ (x : Store). store_of 8 snd ≡ x) (is_block l) (λ z. ap (λ (x : FlushOut). x.store) (sym o)) (λ z. refl);
      }

-- t tells whether the words l are a block
module _ (l : List ℕ) {t : Bool} (e : t ≡ is_block l) where
  -- they are none
  module _ (h : not t ≡ true) where
    none : is_block l ≡ false
    none = sym e ∙ not-true t h

    pub out_none : (f : Kcp → Out) (w : Writing) (n : ℕ) → WordsOut f w l n (record { number = 15; datagrams = n; words = l; written = w })
    unfolding set_words
    out_none f w n = record { refusal = sym (pick-false _ _ none); count = sym (pick-false _ _ none); words = sym (pick-false _ _ none); bytes = sym (pick-false _ _ none) }

    pub flush_none : (f : Kcp → FlushOut) (snd : Lists) (w : Writing) (n : ℕ) → WordsFlushed f snd w l n (record { number = 15; datagrams = n; words = l; written = w }) (store_of 8 snd)
    flush_none f snd w n = record { out = out_none (λ k. (f k).out) w n; sends = sym (pick-false _ _ none) }

    pub check_none : (snd : Lists) (current n : ℕ) → WordsChecked snd current l n 15 n
    check_none snd current n = record { refusal = sym (pick-false _ _ none); wait = sym (pick-false _ _ none) }

  -- they are the block b
  module _ (h : not t ≡ false) {b : Kcp} (held : b ≡ block_of l) where
    gives : {A : Type 0} (f : Kcp → A) (z : A) → f b ≡ pick (is_block l) (f (block_of l)) z
    gives f z = ap f held ∙ sym (pick_true _ _ (sym e ∙ not-false t h))

    -- o is what the call left, and r, d, x what was told of it
    pub out-done : (f : Kcp → Out) (w : Writing) (n : ℕ) {o : Out} → o ≡ f b → {r d : ℕ} {x : List ℕ} → r ≡ number_of_answer o.answer → d ≡ count_in n o.answer o.datagrams → x ≡ words_of o.block
        → WordsOut f w l n (record { number = r; datagrams = d; words = x; written = o.written })
    unfolding set_words
    out-done f w n is p q s = record {
      refusal = p ∙ ap (λ (o : Out). number_of_answer o.answer) is ∙ gives (λ k. number_of_answer (f k).answer) 15;
      count = q ∙ ap (λ (o : Out). count_in n o.answer o.datagrams) is ∙ gives (λ k. count_in n (f k).answer (f k).datagrams) n;
      words = s ∙ ap (λ (o : Out). words_of o.block) is ∙ gives (λ k. words_of (f k).block) l;
      bytes = ap (λ (o : Out). o.written) is ∙ gives (λ k. (f k).written) w;
    }

    pub flush-done : (f : Kcp → FlushOut) (snd : Lists) (w : Writing) (n : ℕ) {o : FlushOut} → o ≡ f b → {r d : ℕ} {x : List ℕ} → r ≡ number_of_answer o.out.answer
        → d ≡ count_in n o.out.answer o.out.datagrams → x ≡ words_of o.out.block
        → WordsFlushed f snd w l n (record { number = r; datagrams = d; words = x; written = o.out.written }) o.store
    flush-done f snd w n is p q s = record {
      out = out-done (λ k. (f k).out) w n (ap (λ (o : FlushOut). o.out) is) p q s;
      sends = ap (λ (o : FlushOut). o.store) is ∙ gives (λ k. (f k).store) (store_of 8 snd);
    }

    -- the same where the words that it can have changed are written
    pub turn-done : (snd : Lists) (acks : List ℕ) (w : Writing) (time : Option ℕ) (n : ℕ) → ((i : ℕ) → at l i < 4294967296) → (o : FlushOut) → o ≡ turn_of b snd acks w time → {r d : ℕ} {x : List ℕ}
        → r ≡ number_of_answer o.out.answer → d ≡ count_in n o.out.answer o.out.datagrams → x ≡ pick (eqb o.out.datagrams 0) (with_turn_words o.out.block l) (with_sent_words o.out.block l)
        → WordsFlushed (λ k. turn_of k snd acks w time) snd w l n (record { number = r; datagrams = d; words = x; written = o.out.written }) o.store
    unfolding block_of
    turn-done snd acks w time n range o is p q s =
        let held-block : is_block l ≡ true = sym e ∙ not-false t h in
        let keeps : Keeps (block_of l) o = subst (Keeps (block_of l)) (sym (is ∙ ap (λ (k : Kcp). turn_of k snd acks w time) held)) (turn-kept (block_of l) snd acks w (range 18) time) in
        flush-done (λ k. turn_of k snd acks w time) snd w n is p q
        (s ∙ ap (λ (m : List ℕ). pick (eqb o.out.datagrams 0) (with_turn_words o.out.block m) (with_sent_words o.out.block m)) (sym (words_back l held-block range)) ∙ left-words (block_of l) o keeps)

    pub check_done : (snd : Lists) (current n : ℕ) {a : Result ℕ Refusal} → a ≡ check_of b snd current → {r d : ℕ} → r ≡ number_of_answer a → d ≡ wait_in n a → WordsChecked snd current l n r d
    check_done snd current n is p q = record {
      refusal = p ∙ ap number_of_answer is ∙ gives (λ k. number_of_answer (check_of k snd current)) 15;
      wait = q ∙ ap (wait_in n) is ∙ gives (λ k. wait_in n (check_of k snd current)) n;
    }

-- any two outcomes that meet the promise coincide
pub out_one : {f : Kcp → Out} {w : Writing} {l : List ℕ} {n : ℕ} {o p : Left} → WordsOut f w l n o → WordsOut f w l n p → o ≡ p
out_one u v = rw (u.refusal, v.refusal, u.count, v.count, u.words, v.words, u.bytes, v.bytes)

pub flush_one : {f : Kcp → FlushOut} {snd : Lists} {w : Writing} {l : List ℕ} {n : ℕ} {o p : Left} {x y : Store} → WordsFlushed f snd w l n o x → WordsFlushed f snd w l n p y → (o ≡ p) × (x ≡ y)
flush_one {f} u v = (out_one {f = λ k. (f k).out} u.out v.out, u.sends ∙ sym v.sends)

pub check_one : {snd : Lists} {current : ℕ} {l : List ℕ} {n r s a b : ℕ} → WordsChecked snd current l n r a → WordsChecked snd current l n s b → (r ≡ s) × (a ≡ b)
check_one u v = (u.refusal ∙ sym v.refusal, u.wait ∙ sym v.wait)
