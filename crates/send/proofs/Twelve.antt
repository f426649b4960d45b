-- A send is refused by 12 exactly where it needs fewer than 128 new segments and more than there are free slots, gaps among them; and where it is not
-- refused, the end is long enough for the new ones once room is made. Assumes nothing.
use Rattle.std.specs.Prelude.{Ok, Err}
use Prim.Native.Nat.{ℕ, ◌+◌, ◌≤◌, ◌<◌}
use native.Mathlib.Omega.{arith}
use mathlib.Core.Path.{◌≡◌}
use mathlib.Core.Bool.{Bool}
use mathlib.Core.List.{List}
use lib.ListN.{length}
use Rattle.snd_ring.specs.Store.{Store, Sound}
use Rattle.block.specs.declared.sender.Sender.{Sender}
use Rattle.block.specs.declared.refusal.Refusal.TheVariants.{UserBufTooBig, SendPoolFull}
use Rattle.send.specs.Memory.{new, answer_at}
use Rattle.send.proofs.Sends.{free, spaced, judged, judged-full, made-room}

-- only where, and wherever; and where it is not refused
pub record Exactly (mss : ℕ) (stream : Bool) (bytes : List ℕ) (s : Sender) (m : Store) : Type 0 where
  pub only : answer_at mss stream bytes s m ≡ Err SendPoolFull → (new mss stream bytes s m ≤ 127) × (free s m < new mss stream bytes s m)
  pub always : new mss stream bytes s m ≤ 127 → free s m < new mss stream bytes s m → answer_at mss stream bytes s m ≡ Err SendPoolFull
  pub places : {n : ℕ} → answer_at mss stream bytes s m ≡ Ok n
      → (spaced mss stream bytes s m).ring.reach + (spaced mss stream bytes s m).ring.unsent + new mss stream bytes s m ≤ length m.marks

module _ (mss : ℕ) (stream : Bool) (bytes : List ℕ) (s : Sender) (m : Store) where
  -- the answer by cases
  pub answered : {A : Type 0} → (128 ≤ new mss stream bytes s m → answer_at mss stream bytes s m ≡ Err UserBufTooBig → A)
      → (new mss stream bytes s m < 128 → free s m < new mss stream bytes s m → answer_at mss stream bytes s m ≡ Err SendPoolFull → A)
      → (new mss stream bytes s m < 128 → new mss stream bytes s m ≤ free s m → answer_at mss stream bytes s m ≡ Ok (length bytes) → A) → A
  unfolding answer_at
  answered big full all = judged mss stream bytes s m (λ h v. big h (rw v)) (λ h k v. full h k (rw v)) (λ h k v. all h k (rw v))

  -- where it is not refused
  pub accepted : {n : ℕ} → answer_at mss stream bytes s m ≡ Ok n → (n ≡ length bytes) × ((new mss stream bytes s m < 128) × (new mss stream bytes s m ≤ free s m))
  accepted e =
      answered (λ h a. absurd (let z : ◌≡◌ {A = ℕ} 0 1 = cc in omega arith)) (λ h k a. absurd (let z : ◌≡◌ {A = ℕ} 0 1 = cc in omega arith)) (λ h k a. (cc, (h, k)))

  pub twelve-exactly : Sound 8 s.ring m → mss ≤ 1476 → Exactly mss stream bytes s m
  unfolding answer_at
  twelve-exactly o small = record {
    only =
        λ e.
        answered (λ h a. absurd (let z : ◌≡◌ {A = ℕ} 0 1 = cc in omega arith)) (λ h k a. (omega arith, k)) (λ h k a. absurd (let z : ◌≡◌ {A = ℕ} 0 1 = cc in omega arith));
    always = λ h k. rw (judged-full mss stream bytes s m (omega arith) k);
    places = λ e. made-room mss stream bytes s m o small (accepted e).1.1;
  }
