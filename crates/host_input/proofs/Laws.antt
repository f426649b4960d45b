-- What a host is told of a datagram, by whether its words are a block, and that it is told one thing only. Assumes nothing.
use Rattle.std.specs.Prelude.{Result, Ok, Err}
use Prim.Native.Nat.{ℕ}
use mathlib.Core.Path.{◌≡◌, sym, ap, ◌∙◌}
use mathlib.Core.Bool.{Bool, true, false, not}
use borrow.Author.Tests.{not-true, not-false}
use mathlib.Core.List.{List, [], ◌∷◌}
use Rattle.serial.specs.Branch.{pick, pick_true, pick-false}
use Rattle.ring.specs.Lists.{Lists}
use Rattle.snd_ring.specs.Store.{store_of}
use Rattle.block.specs.declared.Kcp.{Kcp}
use Rattle.block.specs.declared.refusal.Refusal.{Refusal}
use Rattle.block.specs.declared.refusal.Values.{Values}
use Rattle.block.specs.Refusals.{values_of, row_of, number_of_answer}
use Rattle.words.specs.Words.{words_of, block_of, is_block}
use Rattle.host.specs.Words.{set_words}
use Rattle.input.specs.Datagram.{ReadOut}
use Rattle.kcp_input.specs.Input.{input_of}
use Rattle.host_input.specs.Words.{values_in, Left, WordsRead}

-- the values of an answer that is a count, and of one that is a refusal
pub values-counted : {a : Result ℕ Refusal} {n : ℕ} → a ≡ Ok n → (n ∷ 0 ∷ []) ≡ values_in a
values-counted e = ap values_in (sym e)

pub values-refused : {a : Result ℕ Refusal} {why : Refusal} {v : Values} → a ≡ Err why → v ≡ row_of (values_of why) → (v.first ∷ v.second ∷ []) ≡ values_in a
values-refused e f = ap (λ (v : Values). v.first ∷ v.second ∷ []) f ∙ ap values_in (sym e)

module _ (rcv : Lists) (acks waiting : List ℕ) (snd : Lists) (s l : List ℕ) {t : Bool} (e : t ≡ is_block l) where
  -- the words are no block
  pub read_none : not t ≡ true → WordsRead rcv acks waiting snd s l (record { number = 15; values = 0 ∷ 0 ∷ []; skipped = 0; words = l; rcv = rcv; acks = acks; snd = store_of 8 snd })
  unfolding set_words
  read_none h =
      let none : is_block l ≡ false = sym e ∙ not-true t h in
      record {
        refusal = sym (pick-false _ _ none);
        values = sym (pick-false _ _ none);
        skips = sym (pick-false _ _ none);
        words = sym (pick-false _ _ none);
        receives = sym (pick-false _ _ none);
        list = sym (pick-false _ _ none);
        sends = sym (pick-false _ _ none);
      }

  -- they are the block b, and input left o
  module _ {b : Kcp} (h : not t ≡ false) (read : b ≡ block_of l) (o : ReadOut) (is : o ≡ input_of b rcv acks waiting snd s) where
    gives : {A : Type 0} (f : ReadOut → A) (z : A) → f o ≡ pick (is_block l) (f (input_of (block_of l) rcv acks waiting snd s)) z
    gives f z =
        let held : is_block l ≡ true = sym e ∙ not-false t h in
        ap f (is ∙ ap (λ (k : Kcp). input_of k rcv acks waiting snd s) read) ∙ sym (pick_true _ _ held)

    pub read_done : {n : ℕ} {v a : List ℕ} → n ≡ number_of_answer o.answer → v ≡ values_in o.answer → a ≡ words_of o.block
        → WordsRead rcv acks waiting snd s l (record { number = n; values = v; skipped = o.skipped; words = a; rcv = o.rcv; acks = o.acks; snd = o.snd })
    unfolding set_words
    read_done n v w = record {
      refusal = n ∙ gives (λ o. number_of_answer o.answer) 15;
      values = v ∙ gives (λ o. values_in o.answer) (0 ∷ 0 ∷ []);
      skips = gives (λ o. o.skipped) 0;
      words = w ∙ gives (λ o. words_of o.block) l;
      receives = gives (λ o. o.rcv) rcv;
      list = gives (λ o. o.acks) acks;
      sends = gives (λ o. o.snd) (store_of 8 snd);
    }

-- any two outcomes that meet the promise coincide
pub read_one : {rcv : Lists} {acks waiting : List ℕ} {snd : Lists} {s l : List ℕ} {o o' : Left} → WordsRead rcv acks waiting snd s l o → WordsRead rcv acks waiting snd s l o' → o ≡ o'
read_one u v =
    rw (u.refusal, v.refusal, u.values, v.values, u.skips, v.skips, u.words, v.words, u.receives, v.receives, u.list, v.list, u.sends, v.sends)
