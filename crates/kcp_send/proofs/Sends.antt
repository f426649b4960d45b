-- What the public call send promises, on either side of its test; and that a send leaves what fits fitting. Assumes nothing.
use Rattle.std.specs.Prelude.{Result, Err}
use Prim.Native.Nat.{ℕ}
use mathlib.Core.Path.{◌≡◌, refl, sym, ap, ◌∙◌}
use mathlib.Core.Bool.{Bool, true, false, not}
use mathlib.Core.List.{List}
use lib.ListN.{length}
use borrow.Author.Tests.{not-true, not-false}
use Rattle.serial.specs.Branch.{pick_true, pick-false}
use Rattle.ring.specs.Lists.{Lists}
use Rattle.snd_ring.specs.Store.{Store, store_of}
use Rattle.block.specs.declared.Kcp.{Kcp}
use Rattle.block.specs.declared.sender.Sender.{Sender}
use Rattle.block.specs.declared.refusal.Refusal.TheVariants.{BadPool}
use Rattle.block.specs.Parts.{with_sender}
use Rattle.sending.specs.Send.{Verdict, too_big, pool_full, fits}
use Rattle.transmit.specs.Memory.{Side}
use Rattle.transmit.specs.Fits.{send_fits, SendFits}
use Rattle.transmit.proofs.Exact.{exactly}
use Rattle.send.specs.declared.Sent.{Sent}
use Rattle.send.specs.Memory.{verdict_at, send_at, answer_by, answer_at, number_in, values_in, SentAs}
use Rattle.send.proofs.Keep.{send-keeps}
use Rattle.kcp_send.specs.Send.{SendOut, send_of, Sends}
use Rattle.block.specs.declared.refusal.Refusal.{Refusal}
use Rattle.block.specs.Refusals.{number_of_answer, values_of_count}

-- ---- the answer's number and values are those of the rule's case

module _ (mss : ℕ) (stream : Bool) (bytes : List ℕ) (s : Sender) (m : Store) where
  number_by : (v : Verdict) → number_of_answer (answer_by mss stream bytes s m v) ≡ number_in v
  number_by too_big = refl
  number_by pool_full = refl
  number_by fits = refl

  values_by : (v : Verdict) → values_of_count (answer_by mss stream bytes s m v) ≡ values_in (length bytes) v
  values_by too_big = refl
  values_by pool_full = refl
  values_by fits = refl

  pub answer-number : number_of_answer (answer_at mss stream bytes s m) ≡ number_in (verdict_at mss stream bytes s m)
  unfolding answer_at
  answer-number = number_by (verdict_at mss stream bytes s m)

  pub answer-values : values_of_count (answer_at mss stream bytes s m) ≡ values_in (length bytes) (verdict_at mss stream bytes s m)
  unfolding answer_at
  answer-values = values_by (verdict_at mss stream bytes s m)

module _ (k : Kcp) (l : Lists) (bytes : List ℕ) {t : Bool} (tested : t ≡ send_fits k l) where
  -- ---- the memory is not well formed: 15, and all as it was

  pub unsent : not t ≡ true → Sends k l bytes (record { block = k; answer = Err BadPool; store = store_of 8 l })
  unfolding send_of
  unsent fails =
      let unfit : send_fits k l ≡ false = sym tested ∙ not-true t fails in
      record { is = sym (pick-false _ _ unfit); refusal = sym (pick-false _ _ unfit); values = sym (pick-false _ _ unfit) }

  -- ---- it is

  pub held : not t ≡ false → SendFits k l
  held passes = (exactly k l).holds (sym tested ∙ not-false t passes)

  pub sent : not t ≡ false → (o : Sent) (m : Store) → SentAs k.settings.mss k.settings.stream bytes k.sender (store_of 8 l) o m
      → (b : Kcp) → b ≡ with_sender k o.sender → Sends k l bytes (record { block = b; answer = o.answer; store = m })
  unfolding send_of
  sent passes o m w b e =
      let fit : send_fits k l ≡ true = sym tested ∙ not-false t passes in
      let mss = k.settings.mss in
      let stream = k.settings.stream in
      let s = store_of 8 l in
      let out : Side → Result ℕ Refusal → SendOut = λ x a. record { block = with_sender k x.sender; answer = a; store = x.store } in
      record {
        is =
            rw e
            (ap (λ (x : Side). out x o.answer) w.sends
            ∙ ap (λ (a : Result ℕ Refusal). out (send_at mss stream bytes k.sender s) a) w.answers
            ∙ sym (pick_true _ _ fit));
        refusal = ap number_of_answer w.answers ∙ answer-number mss stream bytes k.sender s ∙ sym (pick_true _ _ fit);
        values = ap values_of_count w.answers ∙ answer-values mss stream bytes k.sender s ∙ sym (pick_true _ _ fit);
      }

-- ---- a send leaves what fits fitting: no send, and none of its refusals, has a later one refused by 15; l' is what it leaves of the lent lists

pub send-fits : (k : Kcp) (l : Lists) (bytes : List ℕ) (l' : Lists) → send_fits k l ≡ true → store_of 8 l' ≡ (send_of k l bytes).store → send_fits (send_of k l bytes).block l' ≡ true
unfolding send_of
send-fits k l bytes l' fit e =
    let x = send_at k.settings.mss k.settings.stream bytes k.sender (store_of 8 l) in
    let left : store_of 8 l' ≡ x.store = e ∙ ap (λ (o : SendOut). o.store) (pick_true _ _ fit) in
    rw (pick_true _ _ fit) ((exactly _ _).tests (send-keeps k l ((exactly k l).holds fit) k.settings.stream bytes l' left))
