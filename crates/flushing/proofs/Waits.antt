-- Where the source of `check` answers 0 at once, the rule's least is 0: before the first update, where a flush is due, and from a segment on that is
-- due. Assumes nothing.
use Prim.Native.Nat.{ℕ, ◌^◌, ◌-◌, min}
use native.Mathlib.Omega.{arith}
use mathlib.Core.Path.{◌≡◌, refl, sym, ap, ◌∙◌}
use mathlib.Core.Bool.{Bool, true, false}
use mathlib.Core.List.{List, [], ◌∷◌}
use Rattle.serial.specs.Branch.{pick}
use Rattle.serial.specs.Wrap.{sub32, after}
use Rattle.block.specs.declared.clock.Clock.{Clock}
use Rattle.flushing.specs.Clocks.{tm_flush, nearest, tm_packet, wait_of, check_of}

-- once it is 0, it stays 0
nearest_zero : (current resendts : ℕ) → nearest current resendts 0 ≡ 0
unfolding nearest pick
nearest_zero current resendts = of (after resendts current)
  where
    of : (t : Bool) → pick t (min (sub32 resendts current) 0) 0 ≡ 0
    of true = omega arith
    of false = refl

pub packet-zero : (current : ℕ) (l : List ℕ) → tm_packet current l 0 ≡ 0
unfolding tm_packet
packet-zero current [] = refl
packet-zero current (resendts ∷ l) = rw (nearest_zero current resendts) (packet-zero current l)

-- each segment shortens the wait by itself, so that the wait can start from the least of the others
nearest-min : (current resendts a b : ℕ) → nearest current resendts (min a b) ≡ min (nearest current resendts a) b
unfolding nearest pick
nearest-min current resendts a b = of (after resendts current)
  where
    of : (t : Bool) → pick t (min (sub32 resendts current) (min a b)) 0 ≡ min (pick t (min (sub32 resendts current) a) 0) b
    of true = omega arith
    of false = omega arith

packet-min : (current : ℕ) (l : List ℕ) (a b : ℕ) → tm_packet current l (min a b) ≡ min (tm_packet current l a) b
unfolding tm_packet
packet-min current [] a b = refl
packet-min current (resendts ∷ l) a b = rw (nearest-min current resendts a b) (packet-min current l (nearest current resendts a) b)

module _ (c : Clock) (current : ℕ) (l : List ℕ) where
  pub check_shortened : check_of c current l ≡ tm_packet current l (wait_of c.interval (2 ^ 32 - 1) (tm_flush c current))
  unfolding check_of
  check_shortened =
      let flush = tm_flush c current in
      sym (packet-min current l (min (2 ^ 32 - 1) flush) c.interval ∙ ap (λ (n : ℕ). min n c.interval) (packet-min current l (2 ^ 32 - 1) flush))

  pub flush-now : tm_flush c current ≡ 0 → check_of c current l ≡ 0
  unfolding check_of
  flush-now h = rw h (omega arith)

  pub packet-now : tm_packet current l (2 ^ 32 - 1) ≡ 0 → check_of c current l ≡ 0
  unfolding check_of
  packet-now h = rw h (omega arith)
