-- The loop over the segments: what holds at each turn, and what follows from one segment. Assumes nothing.
use Rattle.std.specs.Prelude.{Result, Ok, Err}
use Prim.Native.Nat.{ℕ, ◌+◌, ◌-◌, ◌*◌, ◌≤◌, ◌<◌}
use native.Mathlib.Omega.{arith}
use mathlib.Core.Path.{◌≡◌}
use mathlib.Core.List.{List, []}
use lib.ListN.{length}
use Rattle.ring.specs.Lists.{Lists}
use Rattle.block.specs.declared.refusal.Refusal.{Refusal}
use Rattle.receive.specs.Fits.{Good}
use Rattle.transmit.specs.Fits.{Lies}
use Rattle.input.specs.declared.Walk.{Walk}
use Rattle.input.specs.Segment.{Met, SegmentAs}
use Rattle.input.specs.Datagram.{WalkedAs}
use Rattle.input.proofs.Turns.{Here, here-first, ends, stops, goes, falls}
use Rattle.input.proofs.Segments.{met_by}

-- what is walked from here is the whole, both rings are sound, and no more pushes were skipped than segments read
pub record Going (s : List ℕ) (first : List ℕ → Met) (x : Walk) (rcv : Lists) (acks a : List ℕ) (at : ℕ) : Type 0 where
  pub here : (room : List ℕ) → Here s (first room) at (met_by x rcv acks a room)
  pub good : Good x.block.receiver rcv
  pub lies : Lies x.block.sender a
  pub skips : 24 * x.skipped ≤ at

pub going-first : (s : List ℕ) (x : Walk) (rcv : Lists) (acks a : List ℕ) → Good x.block.receiver rcv → Lies x.block.sender a → x.skipped ≡ 0
    → Going s (met_by x rcv acks a) x rcv acks a 0
going-first s x rcv acks a g l e = record { here = λ room. here-first s (met_by x rcv acks a room); good = g; lies = l; skips = omega arith }

module _ {s : List ℕ} {first : List ℕ → Met} {x : Walk} {rcv : Lists} {acks a : List ℕ} {at : ℕ} (g : Going s first x rcv acks a at) (short : length s ≤ 1500) where
  pub in_datagram : at ≤ length s
  in_datagram = (g.here []).within

  pub few-skipped : x.skipped ≤ 62
  few-skipped = let a = in_datagram in let b = g.skips in omega arith

  pub next_in : 24 ≤ length s - at → at + 24 ≤ length s
  next_in h = let a = in_datagram in omega arith

  -- too few bytes are left for a header
  pub going-ends : length s - at < 24
      → ((room : List ℕ) → WalkedAs s (first room) (met_by x rcv acks a room) (Ok at)) × (Lies x.block.sender a × (x.skipped ≤ 62))
  going-ends h = (λ room. ends s (g.here room) h, (g.lies, few-skipped))

  module _ (h : 24 ≤ length s - at) (y : Walk) (rcv' : Lists) (acks' a' : List ℕ) {b : Result ℕ Refusal}
      (e : (room : List ℕ) → SegmentAs s at (met_by x rcv acks a room) (met_by y rcv' acks' a' room) b) where
    pub going-stops : {why : Refusal} → b ≡ Err why → Lies y.block.sender a' → y.skipped ≤ x.skipped + 1
        → ((room : List ℕ) → WalkedAs s (first room) (met_by y rcv' acks' a' room) b) × (Lies y.block.sender a' × (y.skipped ≤ 62))
    going-stops f r l = let w = g.skips in let z = in_datagram in (λ room. stops s (g.here room) h (e room) f, (r, omega arith))

    module _ {n : ℕ} (f : b ≡ Ok n) where
      pub reaches : (at + 24 ≤ n) × (n ≤ length s)
      reaches = falls s (g.here []) h (e []) f

      pub less : length s - n < length s - at
      less = let l = reaches.0 in let r = reaches.1 in omega arith

      pub going_on : Good y.block.receiver rcv' → Lies y.block.sender a' → y.skipped ≤ x.skipped + 1 → Going s first y rcv' acks' a' n
      going_on good r l =
          let z = reaches.0 in
          let w = g.skips in
          record { here = λ room. goes s (g.here room) h (e room) f; good = good; lies = r; skips = omega arith }
