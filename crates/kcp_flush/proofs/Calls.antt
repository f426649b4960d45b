-- What flush_ack, flush, update and check promise, at each of their tests; and that their tests give what the functions below them ask. Assumes nothing.
use Rattle.std.specs.Prelude.{Option, Some, None}
use Rattle.std.specs.Option.{is_none}
use Rattle.std.specs.Prelude.{Result, Ok, Err}
use Prim.Native.Nat.{ℕ, ◌*◌, ◌≤◌, ◌<◌, ◌^◌}
use native.Mathlib.Omega.{arith}
use mathlib.Core.Path.{◌≡◌, refl, sym, ap, ◌∙◌}
use mathlib.Core.Bool.{Bool, true, false, not, ◌&&◌}
use mathlib.Core.List.{List, []}
use lib.ListN.{length}
use borrow.Author.Tests.{not-true, not-false}
use Rattle.serial.specs.Branch.{pick, pick_true, pick-false, pick-ap}
use Rattle.ring.specs.Lists.{Lists}
use Rattle.snd_ring.specs.Store.{store_of, Sound}
use Rattle.block.specs.declared.Kcp.{Kcp}
use Rattle.block.specs.declared.refusal.Refusal.TheVariants.{NeedUpdate, BadPool}
use Rattle.block.specs.Refusals.{number_of_answer, values_of_answer, values_of_count}
use Rattle.block.specs.Parts.{with_clock}
use Rattle.block.specs.Sizes.{AckSizes, ack_sizes, pairs}
use Rattle.block.specs.WellFormed.{own_numbers, OwnNumbers, ack_lent}
use Rattle.block.proofs.Exact.{Exactly, exactly_both, own-numbers, acks-exactly}
use Rattle.block.proofs.Together.{goes, stops}
use Rattle.transmit.specs.Fits.{send_lent, SendLent, send_fits}
use Rattle.transmit.proofs.Exact.{lent-exactly, sound_of, exactly}
use Rattle.flushing.specs.declared.clock.Tick.{Tick}
use Rattle.flushing.specs.Clocks.{ticked}
use Rattle.flushing.specs.Rules.{flushed_ack}
use Rattle.packing.specs.FlushAck.{Writing}
use Rattle.output.specs.Memory.{outgoing, Out, unsent, FlushOut, flush_ack_at, flush_at, update_at, turn_at, check_at}
use Rattle.output.proofs.Updates.{update-turn, flush-turn}
use Rattle.output.proofs.Keeps.{Keeps, either, keeps_all, turn-keeps}
use Rattle.kcp_flush.specs.Calls.{ack_fits, flush_fits, flush_ack_of, ack_exceeds, FlushesAck, unflushed, flush_exceeds, flush_of, Flushes, update_of, Updates, turn_of, tick_of, check_of, Checks}
use Rattle.block.specs.declared.refusal.Refusal.{Refusal}

-- a choice between two of which f tells the same
either_way : {A B : Type 0} (f : A → B) (t : Bool) (a b : A) {x : B} → f a ≡ x → f b ≡ x → f (pick t a b) ≡ x
unfolding pick
either_way f true a b p q = p
either_way f false a b p q = q

abbrev values_in : Out → List ℕ
values_in o = values_of_answer o.answer

abbrev values_by : FlushOut → List ℕ
values_by o = values_of_answer o.out.answer

abbrev number_in : Out → ℕ
number_in o = number_of_answer o.answer

abbrev number_by : FlushOut → ℕ
number_by o = number_of_answer o.out.answer

-- ---- the tests

module _ (k : Kcp) (acks waiting : List ℕ) where
  pub ack-exactly : Exactly (ack_fits k acks waiting) (OwnNumbers k × (AckSizes (length acks) (length waiting) × (k.acklist.acks ≤ pairs (length acks))))
  unfolding ack_fits
  ack-exactly = exactly_both (own-numbers k) (acks-exactly k.acklist acks waiting)

  module _ (snd : Lists) where
    pub flush-exactly : Exactly (flush_fits k snd acks waiting) (OwnNumbers k × (SendLent k.sender snd × (AckSizes (length acks) (length waiting) × (k.acklist.acks ≤ pairs (length acks)))))
    unfolding flush_fits
    flush-exactly = exactly_both (own-numbers k) (exactly_both (lent-exactly k.sender snd) (acks-exactly k.acklist acks waiting))

-- the ack memory has room for what is counted
paired : {n a w : ℕ} → AckSizes a w → n ≤ pairs a → (2 * n ≤ a) × (w ≡ 1500)
paired s h = (let p = s.paired in omega arith, s.kept)

together : (a b c : Bool) → (a && (b && c)) ≡ ((a && b) && c)
together true b c = refl
together false b c = refl

never : (a : Bool) → (a && false) ≡ false
never true = refl
never false = refl

-- u tells whether they and the send memory fit
module _ (k : Kcp) (acks waiting : List ℕ) (snd : Lists) {t u : Bool} (own : t ≡ own_numbers k) (sent : u ≡ (t && send_lent k.sender snd)) where
  both : u ≡ (own_numbers k && send_lent k.sender snd)
  both = sent ∙ ap (λ (x : Bool). x && send_lent k.sender snd) own

-- ---- flush_ack

module _ (k : Kcp) (acks : List ℕ) (w : Writing) where
  abbrev fits : Bool
  fits = ack_fits k acks w.waiting

  ack-number : number_in (flush_ack_of k acks w) ≡ pick fits (pick k.clock.updated (pick (ack_exceeds k acks w) 13 0) 9) 15
  unfolding flush_ack_of flush_ack_at flushed_ack outgoing
  ack-number =
      pick-ap number_in fits _ _
      ∙ ap (λ (n : ℕ). pick fits n 15) (pick-ap number_in k.clock.updated _ _ ∙ ap (λ (n : ℕ). pick k.clock.updated n 9) (pick-ap number_in (ack_exceeds k acks w) _ _))

  ack-values : values_in (flush_ack_of k acks w) ≡ []
  unfolding flush_ack_of flush_ack_at
  ack-values = either_way values_in fits _ _ (either_way values_in k.clock.updated _ _ (either_way values_in _ _ _ refl refl) refl) refl

  ack_promise : {o : Out} → o ≡ flush_ack_of k acks w → FlushesAck k acks w o
  ack_promise e = record { is = e; refusal = ap number_in e ∙ ack-number; values = ap values_in e ∙ ack-values }

  -- t tells whether block and memory fit
  module _ {t : Bool} (tested : t ≡ fits) where
    pub ack-bad : not t ≡ true → FlushesAck k acks w (unsent k w BadPool)
    unfolding flush_ack_of
    ack-bad h = ack_promise (sym (pick-false _ _ (sym tested ∙ not-true t h)))

    module _ (passes : not t ≡ false) where
      fit : fits ≡ true
      fit = sym tested ∙ not-false t passes

      pub ack-asks : OwnNumbers k × ((2 * k.acklist.acks ≤ length acks) × (length w.waiting ≡ 1500))
      ack-asks = let f = (ack-exactly k acks w.waiting).holds fit in (f.0, paired f.1.0 f.1.1)

      pub ack-early : not k.clock.updated ≡ true → FlushesAck k acks w (unsent k w NeedUpdate)
      unfolding flush_ack_of
      ack-early h = ack_promise (sym (pick_true _ _ fit ∙ pick-false _ _ (not-true k.clock.updated h)))

      pub ack-done : not k.clock.updated ≡ false → {o : Out} → o ≡ flush_ack_at k acks w → FlushesAck k acks w o
      unfolding flush_ack_of
      ack-done h e = ack_promise (e ∙ sym (pick_true _ _ fit ∙ pick_true _ _ (not-false k.clock.updated h)))

-- ---- flush and update

module _ (k : Kcp) (snd : Lists) (acks : List ℕ) (w : Writing) where
  abbrev well : Bool
  well = flush_fits k snd acks w.waiting

  flush-number : number_by (flush_of k snd acks w) ≡ pick well (pick k.clock.updated (pick (flush_exceeds k snd acks w) 13 0) 9) 15
  unfolding flush_of flush_at
  flush-number =
      pick-ap number_by well _ _
      ∙ ap (λ (n : ℕ). pick well n 15) (pick-ap number_by k.clock.updated _ _ ∙ ap (λ (n : ℕ). pick k.clock.updated n 9) (pick-ap number_by (flush_exceeds k snd acks w) _ _))

  flush-values : values_by (flush_of k snd acks w) ≡ []
  unfolding flush_of flush_at
  flush-values = either_way values_by well _ _ (either_way values_by k.clock.updated _ _ (either_way values_by _ _ _ refl refl) refl) refl

  flush_promise : {o : FlushOut} → o ≡ flush_of k snd acks w → Flushes k snd acks w o
  flush_promise e = record { is = e; refusal = ap number_by e ∙ flush-number; values = ap values_by e ∙ flush-values }

  module _ (current : ℕ) where
    abbrev due : Bool
    due = (ticked k.clock current).flushes

    abbrev later : Kcp
    later = with_clock k (ticked k.clock current).clock

    update-number : number_by (update_of k snd acks w current) ≡ pick well (pick due (pick (flush_exceeds later snd acks w) 13 0) 0) 15
    unfolding update_of update_at flush_at
    update-number =
        pick-ap number_by well _ _
        ∙ ap (λ (n : ℕ). pick well n 15) (pick-ap number_by due _ _ ∙ ap (λ (n : ℕ). pick due n 0) (pick-ap number_by (flush_exceeds later snd acks w) _ _))

    update-values : values_by (update_of k snd acks w current) ≡ []
    unfolding update_of update_at flush_at
    update-values = either_way values_by well _ _ (either_way values_by due _ _ (either_way values_by _ _ _ refl refl) refl) refl

    update_promise : {o : FlushOut} → o ≡ update_of k snd acks w current → Updates k snd acks w current o
    update_promise e = record { is = e; refusal = ap number_by e ∙ update-number; values = ap values_by e ∙ update-values }

  -- the two by one function
  pub flush_by : {o : FlushOut} → o ≡ turn_of k snd acks w None → Flushes k snd acks w o
  flush_by e = flush_promise e

  pub update_by : (current : ℕ) {o : FlushOut} → o ≡ turn_of k snd acks w (Some current) → Updates k snd acks w current o
  update_by current e = update_promise current e

  asks : well ≡ true → OwnNumbers k × ((2 * k.acklist.acks ≤ length acks) × ((length w.waiting ≡ 1500) × Sound 8 k.sender.ring (store_of 8 snd)))
  asks h =
      let f = (flush-exactly k acks w.waiting snd).holds h in
      let p = paired f.1.1.0 f.1.1.1 in
      (f.0, (p.0, (p.1, sound_of {k = k} {l = snd} (record { own = f.0; lent = f.1.0 }))))

  -- what a turn leaves as it was
  module _ (next : k.sender.snd_nxt < 2 ^ 32) where
    by_tick : (t : Tick) → t.clock.interval ≡ k.clock.interval → well ≡ true → Keeps k (turn_at t k (store_of 8 snd) acks w)
    by_tick t e h =
        let a = asks h in
        let full = a.1.1.0 in
        let most = a.0.acklist.waiting in
        turn-keeps t k (store_of 8 snd) acks w e a.1.1.1 (omega arith) next

    update-kept : (current : ℕ) → Keeps k (update_of k snd acks w current)
    unfolding update_of ticked
    update-kept current =
        either (Keeps k) well (λ h. rw (update-turn k (store_of 8 snd) acks w current) (by_tick (ticked k.clock current) refl h)) (λ h. keeps_all k w BadPool (store_of 8 snd))

    flush-kept : Keeps k (flush_of k snd acks w)
    unfolding flush_of
    flush-kept =
        either (Keeps k) well
        (λ h. either (Keeps k) k.clock.updated (λ u. rw (flush-turn k (store_of 8 snd) acks w) (by_tick (record { clock = k.clock; flushes = true }) refl h)) (λ u. keeps_all k w NeedUpdate (store_of 8 snd)))
        (λ h. keeps_all k w BadPool (store_of 8 snd))

    pub turn-kept : (time : Option ℕ) → Keeps k (turn_of k snd acks w time)
    turn-kept (Some current) = update-kept current
    turn-kept None = flush-kept

  -- they do not fit, or the ack memory is of no size
  turn-unfit : (time : Option ℕ) → well ≡ false → unflushed k snd w BadPool ≡ turn_of k snd acks w time
  unfolding flush_of update_of
  turn-unfit (Some current) h = sym (pick-false _ _ h)
  turn-unfit None h = sym (pick-false _ _ h)

  pub turn_unsized : (time : Option ℕ) → ack_sizes (length acks) (length w.waiting) ≡ false → unflushed k snd w BadPool ≡ turn_of k snd acks w time
  unfolding flush_fits ack_lent
  turn_unsized time z =
      turn-unfit time
      (together (own_numbers k) (send_lent k.sender snd) (ack_lent k.acklist acks w.waiting) ∙ rw z (never (own_numbers k && send_lent k.sender snd)))

  -- t tells whether block and memory fit
  module _ (time : Option ℕ) {t : Bool} (tested : t ≡ well) where
    pub turn-bad : not t ≡ true → unflushed k snd w BadPool ≡ turn_of k snd acks w time
    turn-bad h = turn-unfit time (sym tested ∙ not-true t h)

    module _ (passes : not t ≡ false) where
      all-well : well ≡ true
      all-well = sym tested ∙ not-false t passes

      pub turn-asks : OwnNumbers k × ((2 * k.acklist.acks ≤ length acks) × ((length w.waiting ≡ 1500) × Sound 8 k.sender.ring (store_of 8 snd)))
      turn-asks = asks all-well

      pub turn-early : {e : Bool} → e ≡ (is_none time && not k.clock.updated) → e ≡ true → unflushed k snd w NeedUpdate ≡ turn_of k snd acks w time
      unfolding flush_of pick
      turn-early d h = of time (sym d ∙ h)
        where
          of : (s : Option ℕ) → (is_none s && not k.clock.updated) ≡ true → unflushed k snd w NeedUpdate ≡ turn_of k snd acks w s
          of (Some current) e = cc
          of None e = sym (pick_true _ _ all-well ∙ pick-false _ _ (not-true k.clock.updated e))

      pub turn-done : {e : Bool} → e ≡ (is_none time && not k.clock.updated) → e ≡ false → {o : FlushOut} {c : Tick} → c ≡ tick_of k.clock time → o ≡ turn_at c k (store_of 8 snd) acks w
          → o ≡ turn_of k snd acks w time
      unfolding flush_of update_of pick
      turn-done d h {o} f g = of time (sym d ∙ h) (g ∙ ap (λ (c : Tick). turn_at c k (store_of 8 snd) acks w) f)
        where
          of : (s : Option ℕ) → (is_none s && not k.clock.updated) ≡ false → o ≡ turn_at (tick_of k.clock s) k (store_of 8 snd) acks w → o ≡ turn_of k snd acks w s
          of (Some current) e g = g ∙ sym (update-turn k (store_of 8 snd) acks w current) ∙ sym (pick_true _ _ all-well)
          of None e g = g ∙ sym (flush-turn k (store_of 8 snd) acks w) ∙ sym (pick_true _ _ all-well ∙ pick_true _ _ (not-false k.clock.updated e))

-- ---- check

module _ (k : Kcp) (snd : Lists) (current : ℕ) where
  check_promise : {r : Result ℕ Refusal} → r ≡ check_of k snd current → Checks k snd current r
  unfolding check_of
  check_promise e = record {
    is = e;
    refusal = ap number_of_answer e ∙ pick-ap number_of_answer (send_fits k snd) _ _;
    values = ap values_of_count e ∙ pick-ap values_of_count (send_fits k snd) _ _;
  }

  module _ {t : Bool} (tested : t ≡ send_fits k snd) where
    pub check-bad : not t ≡ true → Checks k snd current (Err BadPool)
    unfolding check_of
    check-bad h = check_promise (sym (pick-false _ _ (sym tested ∙ not-true t h)))

    module _ (passes : not t ≡ false) where
      pub check-asks : Sound 8 k.sender.ring (store_of 8 snd)
      check-asks = sound_of {k = k} {l = snd} ((exactly k snd).holds (sym tested ∙ not-false t passes))

      pub check_done : {n : ℕ} → n ≡ check_at current k (store_of 8 snd) → Checks k snd current (Ok n)
      unfolding check_of
      check_done e = check_promise (ap Ok e ∙ sym (pick_true _ _ (sym tested ∙ not-false t passes)))
