-- What input promises, on each side of its tests. Assumes nothing.
use Rattle.std.specs.Prelude.{Err}
use Prim.Native.Nat.{ℕ, ◌≤◌, ◌<◌, zero-le}
use mathlib.Core.Path.{◌≡◌, sym, ap, ◌∙◌}
use mathlib.Core.Bool.{Bool, true, false, not}
use mathlib.Core.List.{List}
use lib.ListN.{length}
use borrow.Author.Tests.{not-true, not-false, lt-ltb, le-ltb}
use Rattle.serial.specs.Branch.{pick_true, pick-false}
use Rattle.ring.specs.Lists.{Lists}
use Rattle.snd_ring.specs.Store.{Store, store_of}
use Rattle.block.specs.declared.Kcp.{Kcp}
use Rattle.block.specs.declared.refusal.Refusal.{Refusal}
use Rattle.block.specs.declared.refusal.Refusal.TheVariants.{BadPool, DatagramTooBig, InvalidSegmentSize}
use Rattle.block.specs.Refusals.{number_of, values_of, number_of_answer, values_of_count}
use Rattle.input.specs.declared.Outcome.{Outcome}
use Rattle.input.specs.Datagram.{ReadOut, read_at}
use Rattle.input.proofs.Ends.{read_number, read-values}
use Rattle.kcp_input.specs.Input.{input_fits, unread, input_of, input_number, input_values, Inputs}

module _ (k : Kcp) (rcv : Lists) (acks waiting : List ℕ) (snd : Lists) (s : List ℕ) where
  abbrev out : Outcome → Lists → List ℕ → Store → ReadOut
  out r p l q = record { block = r.block; answer = r.answer; skipped = r.skipped; rcv = p; acks = l; snd = q }

  -- refused before any segment is read
  abbrev Unread : Refusal → Type 0
  Unread why = (r : Outcome) → r ≡ record { block = k; answer = Err why; skipped = 0 } → Inputs k rcv acks waiting snd s (out r rcv acks (store_of 8 snd))

  refuse : (why : Refusal) → input_of k rcv acks waiting snd s ≡ unread k rcv acks (store_of 8 snd) why → input_number k rcv acks waiting snd s ≡ number_of why
      → input_values k rcv acks waiting snd s ≡ values_of why → Unread why
  refuse why f g h r e = rw e (record { is = sym f; refusal = sym g; values = sym h; few = zero-le })

  module _ {t : Bool} (tested : t ≡ input_fits k rcv acks waiting snd) where
    pub bad_pool : not t ≡ true → Unread BadPool
    unfolding input_of input_number input_values
    bad_pool fails = let h = sym tested ∙ not-true t fails in refuse BadPool (pick-false _ _ h) (pick-false _ _ h) (pick-false _ _ h)

    module _ (passes : not t ≡ false) where
      fit : input_fits k rcv acks waiting snd ≡ true
      fit = sym tested ∙ not-false t passes

      pub too_big : 1500 < length s → Unread DatagramTooBig
      unfolding input_of input_number input_values
      too_big l =
          let t = lt-ltb 1500 (length s) l in
          refuse DatagramTooBig (pick_true _ _ fit ∙ pick_true _ _ t) (pick_true _ _ fit ∙ pick_true _ _ t) (pick_true _ _ fit ∙ pick_true _ _ t)

      module _ (short : length s ≤ 1500) where
        pub too_small : length s < 24 → Unread (InvalidSegmentSize (length s))
        unfolding input_of input_number input_values
        too_small l =
            let n = le-ltb 1500 (length s) short in
            let t = lt-ltb (length s) 24 l in
            refuse (InvalidSegmentSize (length s)) (pick_true _ _ fit ∙ pick-false _ _ n ∙ pick_true _ _ t) (pick_true _ _ fit ∙ pick-false _ _ n ∙ pick_true _ _ t)
            (pick_true _ _ fit ∙ pick-false _ _ n ∙ pick_true _ _ t)

        pub reads : 24 ≤ length s → (r : Outcome) (p : Lists) (l : List ℕ) (q : Store) → out r p l q ≡ read_at k rcv acks (store_of 8 snd) s → r.skipped ≤ 62
            → Inputs k rcv acks waiting snd s (out r p l q)
        unfolding input_of input_number input_values
        reads h r p l q e f =
            let n = le-ltb 1500 (length s) short in
            let t = le-ltb (length s) 24 h in
            record {
              is = e ∙ sym (pick_true _ _ fit ∙ pick-false _ _ n ∙ pick-false _ _ t);
              refusal = ap (λ (o : ReadOut). number_of_answer o.answer) e ∙ read_number k rcv acks (store_of 8 snd) s ∙ sym (pick_true _ _ fit ∙ pick-false _ _ n ∙ pick-false _ _ t);
              values = ap (λ (o : ReadOut). values_of_count o.answer) e ∙ read-values k rcv acks (store_of 8 snd) s ∙ sym (pick_true _ _ fit ∙ pick-false _ _ n ∙ pick-false _ _ t);
              few = f;
            }
