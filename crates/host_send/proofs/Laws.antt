-- What a host is told of a send, by whether its words are a block, and that it is told one thing only. Assumes nothing.
use Prim.Native.Nat.{ℕ, ◌<◌}
use mathlib.Core.Path.{◌≡◌, refl, sym, ap, ◌∙◌}
use mathlib.Core.Bool.{Bool, true, false, not}
use mathlib.Core.List.{List}
use borrow.Author.Tests.{not-true, not-false}
use Rattle.serial.specs.Branch.{pick, pick_true, pick-false}
use Rattle.ring.specs.Lists.{Lists}
use Rattle.snd_ring.specs.declared.SndRing.{SndRing}
use Rattle.snd_ring.specs.Store.{Store, store_of}
use Rattle.block.specs.declared.Kcp.{Kcp}
use Rattle.block.specs.declared.sender.Sender.{Sender}
use Rattle.block.specs.Parts.{with_sender, with_snd_ring}
use Rattle.transmit.specs.Fits.{send_fits}
use Rattle.send.proofs.Keep.{send-beside}
use Rattle.words.specs.Words.{at, words_of, block_of, is_block, with_snd_words}
use Rattle.words.proofs.Back.{words_back}
use Rattle.host.specs.Words.{set_words}
use Rattle.kcp_send.specs.Send.{SendOut, send_of}
use Rattle.host_send.specs.Words.{count_in, WordsSent}
use Rattle.block.specs.Refusals.{number_of_answer}

-- ---- a send changes no number of the block but those of its send ring, and so no words but the ring's

abbrev beside : Kcp → SndRing → Kcp
beside k r = with_sender k (with_snd_ring k.sender r)

kept : (k : Kcp) (t : Bool) (a b : SendOut) → a.block ≡ beside k a.block.sender.ring → b.block ≡ beside k b.block.sender.ring
    → (pick t a b).block ≡ beside k (pick t a b).block.sender.ring
unfolding pick
kept k true a b e f = e
kept k false a b e f = f

pub send_changes : (k : Kcp) (p : Lists) (bytes : List ℕ) → (send_of k p bytes).block ≡ beside k (send_of k p bytes).block.sender.ring
unfolding send_of
send_changes k p bytes =
    kept k (send_fits k p) _ _ (ap (λ (s : Sender). with_sender k s) (send-beside k.settings.mss k.settings.stream bytes k.sender (store_of 8 p))) refl

ring-words : (k : Kcp) (r : SndRing) → with_snd_words r (words_of k) ≡ words_of (beside k r)
unfolding with_snd_words words_of
ring-words k r = refl

-- ---- of t, which tells whether the words l are a block, the code asks whether it fails

module _ (l : List ℕ) {t : Bool} (e : t ≡ is_block l) where
  held : not t ≡ false → is_block l ≡ true
  held h = sym e ∙ not-false t h

  module _ (p : Lists) (bytes : List ℕ) (n : ℕ) where
    -- they are none
    pub sent_none : not t ≡ true → WordsSent p bytes l n 15 (store_of 8 p) l n
    unfolding set_words
    sent_none h =
        let none : is_block l ≡ false = sym e ∙ not-true t h in
        record { refusal = sym (pick-false _ _ none); words = sym (pick-false _ _ none); store = sym (pick-false _ _ none); count = sym (pick-false _ _ none) }

    -- they are the block b, and the send of it gives o; the words of o's send ring are written alone
    pub sent-words : {b : Kcp} → not t ≡ false → b ≡ block_of l → ((i : ℕ) → at l i < 4294967296) → (o : SendOut) {r n' : ℕ} {a : List ℕ} → o ≡ send_of b p bytes
        → a ≡ with_snd_words o.block.sender.ring l → r ≡ number_of_answer o.answer → n' ≡ count_in n o.answer → WordsSent p bytes l n r o.store a n'
    unfolding set_words
    sent-words h is w o q v c d =
        let yes-block : is_block l ≡ true = held h in
        let k = block_of l in
        let out : o ≡ send_of k p bytes = q ∙ ap (λ (x : Kcp). send_of x p bytes) is in
        record {
          refusal = c ∙ ap (λ (y : SendOut). number_of_answer y.answer) out ∙ sym (pick_true _ _ yes-block);
          words =
              v ∙ ap (λ (y : SendOut). with_snd_words y.block.sender.ring l) out
              ∙ ap (λ (m : List ℕ). with_snd_words (send_of k p bytes).block.sender.ring m) (sym (words_back l yes-block w))
              ∙ ring-words k (send_of k p bytes).block.sender.ring
              ∙ ap words_of (sym (send_changes k p bytes))
              ∙ sym (pick_true _ _ yes-block);
          store = ap (λ (y : SendOut). y.store) out ∙ sym (pick_true _ _ yes-block);
          count = d ∙ ap (λ (y : SendOut). count_in n y.answer) out ∙ sym (pick_true _ _ yes-block);
        }

-- ---- any two outcomes that meet the promise coincide

module _ {p : Lists} {m m' : Store} {bytes l a a' : List ℕ} {n r r' x x' : ℕ} where
  pub sent_one : WordsSent p bytes l n r m a x → WordsSent p bytes l n r' m' a' x' → (r ≡ r') × (m ≡ m') × (a ≡ a') × (x ≡ x')
  sent_one u v = (u.refusal ∙ sym v.refusal, u.store ∙ sym v.store, u.words ∙ sym v.words, u.count ∙ sym v.count)
