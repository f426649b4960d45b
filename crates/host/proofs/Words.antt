-- What a host is told of the words of a block: by a setter, and by a constructor. Assumes nothing.
use Rattle.std.specs.Prelude.{Result, Ok, Err}
use Prim.Native.Nat.{ℕ, ◌<◌}
use mathlib.Core.Path.{◌≡◌, refl, sym, ap, ◌∙◌}
use mathlib.Core.Bool.{Bool, true, false, not}
use mathlib.Core.List.{List}
use lib.IntN.{ℤ}
use lib.ListN.{length, set}
use borrow.Author.Tests.{eq-eqb, ne_eqb, not-true, not-false}
use Rattle.serial.specs.Branch.{pick, pick_true, pick-false}
use Rattle.block.specs.declared.Kcp.{Kcp}
use Rattle.block.specs.declared.set.Set.{Set}
use Rattle.block.specs.declared.refusal.Refusal.{Refusal}
use Rattle.block.specs.declared.refusal.Refusal.TheVariants.{InvalidMtu}
use Rattle.block.specs.Fresh.{Lent, lent_sizes, made_of, Makes}
use Rattle.block.specs.Sizes.{mtu_size, mss_of}
use Rattle.block.specs.Parts.{with_settings, with_mtu}
use Rattle.block.specs.Setters.{set_mtu, set_interval, set_nodelay, set_rx_minrto, set_fast_resend, set_maximum_resend_times, input_conv, set_conv}
use Rattle.words.specs.Words.{at, words_of, block_of, is_block, with_flags, with_mtu_words, with_nodelay_words}
use Rattle.words.proofs.Back.{words_back}
use Rattle.host.specs.Words.{set_words, WordsSet, can_make, WordsMade}

-- ---- setters

module _ (f : Kcp → Kcp) (n : ℕ) (l : List ℕ) where
  pub set-refused : {t : Bool} → t ≡ is_block l → not t ≡ true → WordsSet f n l 15 l
  unfolding set_words
  set-refused {t} e h =
      let no_block : is_block l ≡ false = sym e ∙ not-true t h in
      record { refusal = sym (pick-false n 15 no_block); words = sym (pick-false (words_of (f (block_of l))) l no_block) }

  -- the words that a setter writes, x of them in l: what it leaves of a block's words are the words of the block that it leaves
  pub set-done : {t : Bool} {r : ℕ} {a : List ℕ} (x : List ℕ → List ℕ) → t ≡ is_block l → not t ≡ false → ((i : ℕ) → at l i < 4294967296) → x (words_of (block_of l)) ≡ words_of (f (block_of l))
      → r ≡ n → a ≡ x l → WordsSet f n l r a
  unfolding set_words
  set-done {t} x e h w s d c =
      let held : is_block l ≡ true = sym e ∙ not-false t h in
      record {
        refusal = d ∙ sym (pick_true n 15 held);
        words = c ∙ ap x (sym (words_back l held w)) ∙ s ∙ sym (pick_true (words_of (f (block_of l))) l held);
      }

pub nodelay-put : (l : List ℕ) (nodelay : Bool) (interval resend : ℤ) (nc : Bool) {m : List ℕ} {x b : Kcp} → m ≡ with_nodelay_words x l → x ≡ set_nodelay b nodelay interval resend nc → b ≡ block_of l
    → m ≡ with_nodelay_words (set_nodelay (block_of l) nodelay interval resend nc) l
nodelay-put l nodelay interval resend nc d e f = rw (d, e, f)

-- what each writes in the words of a block
module _ (k : Kcp) where
  pub mtu-words : (mtu : ℕ) → with_mtu_words (set_mtu k mtu).block.settings (words_of k) ≡ words_of (set_mtu k mtu).block
  unfolding with_mtu_words words_of set_mtu pick
  mtu-words mtu = go (mtu_size mtu)
    where
      left : Bool → Set
      left t = pick t (record { block = with_settings k (with_mtu k.settings mtu (mss_of mtu)); answer = Ok tt }) (record { block = k; answer = Err (InvalidMtu mtu) })

      go : (t : Bool) → with_mtu_words (left t).block.settings (words_of k) ≡ words_of (left t).block
      go true = refl
      go false = refl

  pub interval-words : (x : ℕ) → set (words_of k) 28 (set_interval k x).clock.interval ≡ words_of (set_interval k x)
  unfolding words_of
  interval-words x = refl

  pub nodelay-words : (nodelay : Bool) (interval resend : ℤ) (nc : Bool) → with_nodelay_words (set_nodelay k nodelay interval resend nc) (words_of k) ≡ words_of (set_nodelay k nodelay interval resend nc)
  unfolding with_nodelay_words words_of
  nodelay-words nodelay interval resend nc = refl

  pub minrto-words : (x : ℕ) → set (words_of k) 26 (set_rx_minrto k x).estimator.minrto ≡ words_of (set_rx_minrto k x)
  unfolding words_of
  minrto-words x = refl

  pub resend-words : (x : ℕ) → set (words_of k) 32 (set_fast_resend k x).settings.fastresend ≡ words_of (set_fast_resend k x)
  unfolding words_of
  resend-words x = refl

  pub dead-words : (x : ℕ) → set (words_of k) 34 (set_maximum_resend_times k x).settings.dead_link ≡ words_of (set_maximum_resend_times k x)
  unfolding words_of
  dead-words x = refl

  pub await-words : with_flags (input_conv k) (words_of k) ≡ words_of (input_conv k)
  unfolding with_flags words_of
  await-words = refl

  pub conv-words : (x : ℕ) → set (words_of k) 16 (set_conv k x).settings.conv ≡ words_of (set_conv k x)
  unfolding words_of
  conv-words x = refl

-- ---- constructors

made-block : (t : Bool) {k b : Kcp} → made_of t k ≡ Ok b → (t ≡ true) × (b ≡ k)
unfolding made_of pick
made-block true e = (refl, cc)
made-block false e = (cc, cc)

made_none : (t : Bool) (k : Kcp) {why : Refusal} → made_of t k ≡ Err why → t ≡ false
unfolding made_of pick
made_none true k e = cc
made_none false k e = refl

module _ (m : Lent) (k : Kcp) (l : List ℕ) where
  stays : can_make m l ≡ false → WordsMade m k l 15 l
  stays h = record { refusal = sym (pick-false 0 15 h); words = sym (pick-false (words_of k) l h) }

  pub make-short : (length l ≡ 35 → ⊥) → WordsMade m k l 15 l
  unfolding can_make
  make-short h = stays (rw (ne_eqb (length l) 35 h))

  pub make-refused : {x : Result Kcp Refusal} {why : Refusal} → length l ≡ 35 → Makes m k x → x ≡ Err why → WordsMade m k l 15 l
  unfolding can_make
  make-refused h e r = stays (rw (eq-eqb (length l) 35 h) (made_none (lent_sizes m) k (sym e.answer ∙ r)))

  pub make-done : {x : Result Kcp Refusal} {b : Kcp} {a : List ℕ} → length l ≡ 35 → Makes m k x → x ≡ Ok b → a ≡ words_of b → WordsMade m k l 0 a
  unfolding can_make
  make-done {x} {b} h e r w =
      let made : (lent_sizes m ≡ true) × (b ≡ k) = made-block (lent_sizes m) (sym e.answer ∙ r) in
      let can : can_make m l ≡ true = rw (eq-eqb (length l) 35 h) made.0 in
      record { refusal = sym (pick_true 0 15 can); words = w ∙ ap words_of made.1 ∙ sym (pick_true (words_of k) l can) }

-- ---- any two outcomes that meet a promise coincide

pub set_one : {f : Kcp → Kcp} {n : ℕ} {l a a' : List ℕ} {r r' : ℕ} → WordsSet f n l r a → WordsSet f n l r' a' → (r ≡ r') × (a ≡ a')
set_one t u = (t.refusal ∙ sym u.refusal, t.words ∙ sym u.words)

pub made_one : {m : Lent} {k : Kcp} {l a a' : List ℕ} {r r' : ℕ} → WordsMade m k l r a → WordsMade m k l r' a' → (r ≡ r') × (a ≡ a')
made_one t u = (t.refusal ∙ sym u.refusal, t.words ∙ sym u.words)
