-- The sizes of a flush, stage by stage, and that 13 is decided by them. Assumes nothing.
use Prim.Native.Nat.{ℕ, ◌+◌, ◌/◌, ◌≤◌}
use native.Mathlib.Omega.{arith}
use mathlib.Core.Path.{◌≡◌, refl, sym, ap, ◌∙◌}
use mathlib.Core.List.{List, [], ◌++◌}
use lib.ListN.{length}
use Rattle.ring.specs.Lists.{lists}
use Rattle.snd_ring.specs.Store.{store_of}
use Rattle.block.specs.declared.Kcp.{Kcp}
use Rattle.packing.specs.declared.packer.Packer.{Packer}
use Rattle.packing.specs.Packer.{holding, sized, closed}
use Rattle.packing.specs.Front.{front_sizes}
use Rattle.packing.proofs.Turns.{sized_none, sized_append}
use Rattle.flight.specs.Memory.{flight_places, waiting_places, sizes_over, fresh_sizes}
use Rattle.flight.proofs.Places.{places_none}
use Rattle.flight.proofs.Out.{sizes_none}
use Rattle.due.specs.Pass.{Rung}
use Rattle.due.proofs.Sizing.{rung-numbers}
use Rattle.output.specs.Memory.{plan_of, sizes_at}
use Rattle.output.proofs.Found.{few}

-- front, flight and those that leave, one behind the other
staged : (mtu : ℕ) (p f g h : Packer) (x y z : List ℕ) → f ≡ sized mtu p x → g ≡ sized mtu f y → h ≡ sized mtu g z → h ≡ sized mtu p (x ++ (y ++ z))
staged mtu p f g h x y z a b c =
    c ∙ ap (λ (q : Packer). sized mtu q z) b ∙ sized_append mtu f y z ∙ ap (λ (q : Packer). sized mtu q (y ++ z)) a ∙ sized_append mtu p x (y ++ z)

module _ (b : Kcp) (a : List ℕ) (rung : Rung b.sender.ring a) where
  pub leavers-few : (plan_of b).leavers ≤ b.sender.ring.unsent
  leavers-few = few b (store_of 8 (lists a rung.room)) [] [] rung.sound

  pub within : (b.sender.ring.reach ≤ 65535) × (b.sender.ring.unsent ≤ 65535)
  within = let n = rung-numbers rung {slots = length a / 9} refl in (omega arith, omega arith)

pub sizes-staged : (b : Kcp) (a : List ℕ) {f g h r : Packer} (room : List ℕ)
    → f ≡ sized b.settings.mtu (holding b.acklist.waiting) (front_sizes b.acklist.acks (plan_of b).probe.bits)
    → g ≡ sized b.settings.mtu f (sizes_over (plan_of b).pace (flight_places b.sender.ring (store_of 8 (lists a room))) (store_of 8 (lists a room)))
    → h ≡ sized b.settings.mtu g (fresh_sizes (waiting_places b.sender.ring (store_of 8 (lists a room)) (plan_of b).leavers) (store_of 8 (lists a room)))
    → r ≡ closed h → r ≡ closed (sized b.settings.mtu (holding b.acklist.waiting) (sizes_at b (store_of 8 (lists a room))))
unfolding sizes_at
sizes-staged b a {f} {g} {h} room x y z e = e ∙ ap closed (staged b.settings.mtu (holding b.acklist.waiting) f g h _ _ _ x y z)

-- nothing is in flight, and nothing leaves
pub sizes-front : (b : Kcp) (a : List ℕ) {f r : Packer} (room : List ℕ) → b.sender.ring.reach ≡ 0 → (plan_of b).leavers ≡ 0
    → f ≡ sized b.settings.mtu (holding b.acklist.waiting) (front_sizes b.acklist.acks (plan_of b).probe.bits)
    → r ≡ closed f → r ≡ closed (sized b.settings.mtu (holding b.acklist.waiting) (sizes_at b (store_of 8 (lists a room))))
sizes-front b a {f} room h k x e =
    let m = store_of 8 (lists a room) in
    sizes-staged b a {g = f} {h = f} room x
    (rw (h, places_none (length m.marks) b.sender.ring.start 0, sizes_none (plan_of b).pace m) (sym (sized_none b.settings.mtu f)))
    (rw (k, places_none (length m.marks) b.sender.ring.start b.sender.ring.reach) (sym (sized_none b.settings.mtu f)))
    e

-- all that was packed has gone out
pub closed-sum : (p : Packer) {r : Packer} → r ≡ closed p → r.start ≡ p.start + p.used
unfolding closed
closed-sum p e = ap (λ (x : Packer). x.start) e
