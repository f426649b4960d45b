-- What a host is told, by whether its words are a block, and that it is told one thing only. Assumes nothing.
use Rattle.std.specs.Prelude.{Result, Ok, Err}
use Prim.Native.Nat.{ℕ, ◌<◌}
use mathlib.Core.Path.{◌≡◌, sym, ap, ◌∙◌}
use mathlib.Core.Bool.{Bool, true, false, not}
use mathlib.Core.List.{List}
use lib.ListN.{set}
use borrow.Author.Tests.{not-true, not-false}
use Rattle.serial.specs.Branch.{pick, pick_true, pick-false}
use Rattle.ring.specs.Lists.{Lists}
use Rattle.block.specs.declared.Kcp.{Kcp}
use Rattle.block.specs.declared.set.Set.{Set}
use Rattle.block.specs.Refusals.{number_of_answer}
use Rattle.words.specs.Words.{at, words_of, block_of, is_block, with_rcv_words, with_windows}
use Rattle.words.proofs.Back.{words_back}
use Rattle.host.specs.Words.{set_words}
use Rattle.block.specs.declared.refusal.Refusal.{Refusal}
use Rattle.kcp_receive.specs.Calls.{move_buf_of, peeksize_of, RecvOut, recv_of, set_wndsize_of}
use Rattle.host_receive.proofs.Changes.{move-words, window-words, recv-words, recv-refused}
use Rattle.host_receive.specs.Words.{Called, length_in, WordsPeeked, WordsReceived}

-- of t, which tells whether the words l are a block, the code asks whether it fails
module _ (l : List ℕ) {t : Bool} (e : t ≡ is_block l) where
  -- they are none
  module _ (h : not t ≡ true) where
    none : is_block l ≡ false
    none = sym e ∙ not-true t h

    words-stay : (f : Kcp → Kcp) → l ≡ set_words f l
    unfolding set_words
    words-stay f = sym (pick-false _ _ none)

    pub called_none : (f : Kcp → Set) → Called f l 15 l
    called_none f = record { refusal = sym (pick-false _ _ none); words = words-stay (λ k. (f k).block) }

    pub peeked_none : (p : Lists) (n : ℕ) → WordsPeeked p l n 15 n
    peeked_none p n = record { refusal = sym (pick-false _ _ none); length = sym (pick-false _ _ none) }

    pub received_none : (p : Lists) (buf : List ℕ) (n : ℕ) → WordsReceived p buf l n 15 buf l n
    received_none p buf n = record {
      refusal = sym (pick-false _ _ none);
      words = words-stay (λ k. (recv_of k p buf).block);
      buffer = sym (pick-false _ _ none);
      length = sym (pick-false _ _ none);
    }

  -- they are a block
  module _ (h : not t ≡ false) where
    is : is_block l ≡ true
    is = sym e ∙ not-false t h

    -- the block b
    module _ {b : Kcp} (held : b ≡ block_of l) where
      -- what a function of the block gives
      gives : {A : Type 0} (f : Kcp → A) (z : A) → f b ≡ pick (is_block l) (f (block_of l)) z
      gives f z = ap f held ∙ sym (pick_true _ _ is)

      pub peeked : (p : Lists) (n : ℕ) {a : Result ℕ Refusal} {r n' : ℕ} → a ≡ peeksize_of b p → r ≡ number_of_answer a → n' ≡ length_in n a → WordsPeeked p l n r n'
      peeked p n q c d = record {
        refusal = c ∙ ap number_of_answer q ∙ gives (λ k. number_of_answer (peeksize_of k p)) 15;
        length = d ∙ ap (length_in n) q ∙ gives (λ k. length_in n (peeksize_of k p)) n;
      }

      module _ (w : (i : ℕ) → at l i < 4294967296) where
        -- x of the words are written: what that leaves of a block's words are the words of the block that f leaves
        written : (f : Kcp → Kcp) (x : List ℕ → List ℕ) → x (words_of b) ≡ words_of (f b) → x l ≡ set_words f l
        unfolding set_words
        written f x s = ap x (sym (words_back l is w) ∙ ap words_of (sym held)) ∙ s ∙ gives (λ k. words_of (f k)) l

        called : (f : Kcp → Set) (x : Kcp → List ℕ → List ℕ) → x (f b).block (words_of b) ≡ words_of (f b).block → (s : Set) {r : ℕ} {a : List ℕ}
            → s ≡ f b → a ≡ x s.block l → r ≡ number_of_answer s.answer → Called f l r a
        called f x y s q v n = record {
          refusal = n ∙ ap (λ (s : Set). number_of_answer s.answer) q ∙ gives (λ k. number_of_answer (f k).answer) 15;
          words = v ∙ ap (λ (s : Set). x s.block l) q ∙ written (λ k. (f k).block) (x (f b).block) y;
        }

        pub moved : (p : Lists) (s : Set) {r : ℕ} {a : List ℕ} → s ≡ move_buf_of b p → a ≡ with_rcv_words s.block.receiver l → r ≡ number_of_answer s.answer → Called (λ k. move_buf_of k p) l r a
        moved p = called (λ k. move_buf_of k p) (λ k. with_rcv_words k.receiver) (move-words b p)

        pub windowed : (p : Lists) (sndwnd rcvwnd : ℕ) (s : Set) {r : ℕ} {a : List ℕ} → s ≡ set_wndsize_of b p sndwnd rcvwnd → a ≡ with_windows s.block l → r ≡ number_of_answer s.answer
            → Called (λ k. set_wndsize_of k p sndwnd rcvwnd) l r a
        windowed p sndwnd rcvwnd = called (λ k. set_wndsize_of k p sndwnd rcvwnd) with_windows (window-words b p sndwnd rcvwnd)

        module _ (p : Lists) (buf : List ℕ) (n : ℕ) (o : RecvOut) (q : o ≡ recv_of b p buf) where
          receives : {r n' : ℕ} {a : List ℕ} → a ≡ set_words (λ k. (recv_of k p buf).block) l → r ≡ number_of_answer o.answer → n' ≡ length_in n o.answer → WordsReceived p buf l n r o.buf a n'
          receives v c d = record {
            refusal = c ∙ ap (λ (y : RecvOut). number_of_answer y.answer) q ∙ gives (λ k. number_of_answer (recv_of k p buf).answer) 15;
            words = v;
            buffer = ap (λ (y : RecvOut). y.buf) q ∙ gives (λ k. (recv_of k p buf).buf) buf;
            length = d ∙ ap (λ (y : RecvOut). length_in n y.answer) q ∙ gives (λ k. length_in n (recv_of k p buf).answer) n;
          }

          -- refused: nothing is written
          pub refused : {why : Refusal} {r : ℕ} → o.answer ≡ Err why → r ≡ number_of_answer o.answer → WordsReceived p buf l n r o.buf l n
          refused {why} t c =
              receives
              (written (λ k. (recv_of k p buf).block) (λ m. m) (ap words_of (sym (recv-refused b p buf (sym (ap (λ (y : RecvOut). y.answer) q) ∙ t)))))
              c
              (sym (ap (length_in n) t))

          -- a length: the receive side, and then the bits of the probe
          pub received : {m : ℕ} {s a : List ℕ} → o.answer ≡ Ok m → s ≡ with_rcv_words o.block.receiver l → a ≡ set s 15 o.block.probe.bits → WordsReceived p buf l n 0 o.buf a m
          received {m} t u v =
              receives
              (v ∙ ap (λ (y : List ℕ). set y 15 o.block.probe.bits) u
              ∙ ap (λ (y : RecvOut). set (with_rcv_words y.block.receiver l) 15 y.block.probe.bits) q
              ∙ written (λ k. (recv_of k p buf).block) (λ y. set (with_rcv_words (recv_of b p buf).block.receiver y) 15 (recv_of b p buf).block.probe.bits) (recv-words b p buf))
              (sym (ap number_of_answer t))
              (sym (ap (length_in n) t))

-- ---- any two outcomes that meet a promise coincide

pub called_one : {f : Kcp → Set} {l a a' : List ℕ} {r r' : ℕ} → Called f l r a → Called f l r' a' → (r ≡ r') × (a ≡ a')
called_one u v = (u.refusal ∙ sym v.refusal, u.words ∙ sym v.words)

pub peeked_one : {p : Lists} {l : List ℕ} {n r r' a a' : ℕ} → WordsPeeked p l n r a → WordsPeeked p l n r' a' → (r ≡ r') × (a ≡ a')
peeked_one u v = (u.refusal ∙ sym v.refusal, u.length ∙ sym v.length)

module _ {p : Lists} {buf l b b' a a' : List ℕ} {n r r' m m' : ℕ} where
  pub received_one : WordsReceived p buf l n r b a m → WordsReceived p buf l n r' b' a' m' → (r ≡ r') × (b ≡ b') × (a ≡ a') × (m ≡ m')
  received_one u v = (u.refusal ∙ sym v.refusal, u.buffer ∙ sym v.buffer, u.words ∙ sym v.words, u.length ∙ sym v.length)
