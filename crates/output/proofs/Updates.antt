-- `turn`, by whether a flush is due, and `check`. Assumes nothing.
use Rattle.std.specs.Prelude.{Ok}
use Prim.Native.Nat.{ℕ, ◌-◌, ◌^◌}
use mathlib.Core.Path.{◌≡◌, refl, sym, ap, ◌∙◌}
use mathlib.Core.Bool.{true, false, not}
use mathlib.Core.List.{List, map}
use borrow.Author.Tests.{not-true, not-false}
use Rattle.serial.specs.Branch.{pick, pick_true, pick-false}
use Rattle.ring.specs.Lists.{lists}
use Rattle.snd_ring.specs.Store.{Store, store_of, Sound}
use Rattle.block.specs.declared.Kcp.{Kcp}
use Rattle.block.specs.declared.clock.Clock.{Clock}
use Rattle.block.specs.Parts.{with_clock}
use Rattle.block.specs.WellFormed.{OwnNumbers}
use Rattle.sending.specs.Rules.{Segment}
use Rattle.transmit.specs.Memory.{seen}
use Rattle.flushing.specs.declared.clock.Tick.{Tick}
use Rattle.flushing.specs.Clocks.{ticked, tm_flush, tm_packet, wait_of}
use Rattle.flushing.proofs.Waits.{packet-zero, check_shortened}
use Rattle.packing.specs.FlushAck.{Writing}
use Rattle.flight.specs.Memory.{flight_places, resendts_over}
use Rattle.flight.proofs.Out.{resendts-seen}
use Rattle.output.specs.Memory.{outgoing, FlushOut, flush_at, update_at, turn_at, check_at}

-- the clock is none of the block's own numbers
pub own_then : (k : Kcp) (c : Clock) → OwnNumbers k → OwnNumbers (with_clock k c)
own_then k c o = record { settings = o.settings; probe = o.probe; receiver = o.receiver; sender = o.sender; acklist = o.acklist }

module _ (t : Tick) (k : Kcp) (m : Store) (acks : List ℕ) (w : Writing) {b : Kcp} (d : b ≡ with_clock k t.clock) where
  pub turn-waits : not t.flushes ≡ true → ◌≡◌ {A = FlushOut} (record { out = record { block = b; answer = Ok tt; datagrams = 0; written = w }; store = m }) (turn_at t k m acks w)
  unfolding turn_at
  turn-waits h = rw d (sym (pick-false _ _ (not-true t.flushes h)))

  pub turn-flushes : not t.flushes ≡ false → {r : FlushOut} → r ≡ flush_at k b m acks w → r ≡ turn_at t k m acks w
  unfolding turn_at
  turn-flushes h f = f ∙ ap (λ (x : Kcp). flush_at k x m acks w) d ∙ sym (pick_true _ _ (not-false t.flushes h))

-- an update is a turn by its own clock, and a flush one by the clock as it is
module _ (k : Kcp) (m : Store) (acks : List ℕ) (w : Writing) where
  pub update-turn : (current : ℕ) → update_at current k m acks w ≡ turn_at (ticked k.clock current) k m acks w
  unfolding update_at turn_at
  update-turn current = refl

  pub flush-turn : flush_at k k m acks w ≡ turn_at (record { clock = k.clock; flushes = true }) k m acks w
  unfolding turn_at pick
  flush-turn = refl

-- ---- check

-- y is the wait with no segment in flight
module _ (current : ℕ) (k : Kcp) (a room : List ℕ) (o : Sound 8 k.sender.ring (store_of 8 (lists a room))) {x y : ℕ} (e : x ≡ tm_flush k.clock current) (f : y ≡ wait_of k.clock.interval (2 ^ 32 - 1) x) where
  abbrev m : Store
  m = store_of 8 (lists a room)

  pub check_by : {r : ℕ} → r ≡ tm_packet current (resendts_over (flight_places k.sender.ring m) m) y → r ≡ check_at current k m
  unfolding check_at outgoing
  check_by g =
      g ∙ rw (f, e, resendts-seen k.sender m o) (sym (check_shortened k.clock current (map (λ (s : Segment). s.resendts) (seen k.sender m).flying)))

  pub check-now : y ≡ 0 → 0 ≡ check_at current k m
  check-now z = check_by (sym (ap (tm_packet current (resendts_over (flight_places k.sender.ring m) m)) z ∙ packet-zero current (resendts_over (flight_places k.sender.ring m) m)))
