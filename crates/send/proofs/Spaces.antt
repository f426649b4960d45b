-- Room for the new segments: what closing the gaps leaves, and that the end is long enough afterwards. Assumes nothing.
use Prim.Native.Nat.{ℕ, ◌+◌, ◌-◌, ◌≤◌, ◌<◌}
use native.Mathlib.Omega.{arith}
use mathlib.Core.Path.{◌≡◌, refl, sym, ◌∙◌, subst}
use lib.ListN.{length}
use borrow.Author.Tests.{lt-ltb, le-ltb}
use Rattle.serial.specs.Branch.{pick_true, pick-false}
use Rattle.ring.proofs.Places.{by_less}
use Rattle.snd_ring.specs.declared.SndRing.{SndRing}
use Rattle.snd_ring.specs.Store.{Store, flight_of, waiting_of, Sound}
use Rattle.snd_ring.specs.Steps.{settled, closed_ring, closed}
use Rattle.snd_ring.proofs.Closing.{close-flight, close-waiting, close-sound, close-slots, close-reach, close-flying, flying-few}
use Rattle.send.specs.Memory.{Laid, laid, spaced_at}

-- what every step of a send keeps of a ring r and its memory m, where it leaves x
pub record Keeps (r : SndRing) (m : Store) (x : Laid) : Type 0 where
  pub sound : Sound 8 x.ring x.store
  pub slots : length x.store.marks ≡ length m.marks
  pub flight : flight_of 8 x.ring x.store ≡ flight_of 8 r m
  pub flying : x.ring.flying ≡ r.flying

pub keeps_same : (r : SndRing) (m : Store) → Sound 8 r m → Keeps r m (laid r m)
keeps_same r m o = record { sound = o; slots = refl; flight = refl; flying = refl }

pub keeps_on : {r : SndRing} {m : Store} {x y : Laid} → Keeps r m x → Keeps x.ring x.store y → Keeps r m y
keeps_on a b = record { sound = b.sound; slots = b.slots ∙ a.slots; flight = b.flight ∙ a.flight; flying = b.flying ∙ a.flying }

module _ (n : ℕ) (r : SndRing) (m : Store) where
  -- the end is too short, or long enough
  pub spaced_close : length m.marks < r.reach + r.unsent + n → spaced_at n (laid r m) ≡ laid (closed_ring (length m.marks) r) (closed 8 r m)
  unfolding spaced_at
  spaced_close h = pick_true _ _ (lt-ltb (length m.marks) (r.reach + r.unsent + n) h)

  pub spaced-keep : r.reach + r.unsent + n ≤ length m.marks → spaced_at n (laid r m) ≡ laid r m
  unfolding spaced_at
  spaced-keep h = pick-false _ _ (le-ltb (length m.marks) (r.reach + r.unsent + n) h)

  spaced_by : (P : Laid → Type 0) → (r.reach + r.unsent + n ≤ length m.marks → P (laid r m)) → P (laid (closed_ring (length m.marks) r) (closed 8 r m))
      → P (spaced_at n (laid r m))
  spaced_by P a b =
      by_less (length m.marks) (r.reach + r.unsent + n)
      (λ h. subst P (sym (spaced_close h)) b)
      (λ h. subst P (sym (spaced-keep h)) (a h))

  module _ (o : Sound 8 r m) where
    closed-unsent : (closed_ring (length m.marks) r).unsent ≡ r.unsent
    unfolding closed_ring settled
    closed-unsent = refl

    pub spaced-keeps : Keeps r m (spaced_at n (laid r m))
    spaced-keeps =
        spaced_by (Keeps r m) (λ h. keeps_same r m o)
        (record { sound = close-sound 8 r m o; slots = close-slots 8 r m o; flight = close-flight 8 r m o; flying = close-flying 8 r m o })

    pub spaced-waiting : waiting_of 8 (spaced_at n (laid r m)).ring (spaced_at n (laid r m)).store ≡ waiting_of 8 r m
    spaced-waiting = spaced_by (λ (x : Laid). waiting_of 8 x.ring x.store ≡ waiting_of 8 r m) (λ h. refl) (close-waiting 8 r m o)

    pub spaced-unsent : (spaced_at n (laid r m)).ring.unsent ≡ r.unsent
    spaced-unsent = spaced_by (λ (x : Laid). x.ring.unsent ≡ r.unsent) (λ h. refl) closed-unsent

    -- where the slots of no segment are enough, gaps among them, the end is long enough
    pub spaced-room : n ≤ length m.marks - (r.flying + r.unsent)
        → (spaced_at n (laid r m)).ring.reach + (spaced_at n (laid r m)).ring.unsent + n ≤ length m.marks
    spaced-room h =
        spaced_by (λ (x : Laid). x.ring.reach + x.ring.unsent + n ≤ length m.marks) (λ a. a)
        (let a = close-reach 8 r m o in let b = closed-unsent in let d = o.shaped.many in let f = flying-few 8 r m o in omega arith)
