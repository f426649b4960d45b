-- What a flush leaves of the send memory and of the window that bounds it, and what flush_ack leaves waiting. Assumes nothing.
use Prim.Native.Nat.{ℕ, ◌<◌}
use native.Mathlib.Omega.{arith}
use mathlib.Core.Path.{◌≡◌, refl, ◌∙◌}
use mathlib.Core.Bool.{Bool, true, false}
use mathlib.Core.List.{[]}
use lib.ListN.{length}
use lib.Dec.{ltb}
use borrow.Author.Tests.{ltb-false}
use Rattle.serial.specs.Branch.{pick}
use Rattle.serial.specs.Wrap.{after, low16, mul64}
use Rattle.snd_ring.specs.Store.{Store, Sound}
use Rattle.block.specs.declared.Kcp.{Kcp}
use Rattle.block.specs.declared.congestion.Congestion.{Congestion}
use Rattle.transmit.proofs.Seen.{AsLarge}
use Rattle.sending.specs.declared.Window.{Window}
use Rattle.sending.specs.Rules.{cut_to, grown}
use Rattle.flushing.specs.Windows.{halved, resent_fast, timed_out, at_least_one, congestion_after}
use Rattle.flight.specs.Memory.{launched_at, flight_places}
use Rattle.flight.proofs.Seen.{launched_same, flown-sound}
use Rattle.flight.proofs.Walks.{flown-marks}
use Rattle.input.specs.Datagram.{grown_by}
use Rattle.output.specs.Memory.{plan_of, moved_at, flown_store}
use Rattle.output.proofs.Found.{few, moved-sound}
use Rattle.history.specs.History.{Short}
use Rattle.history.proofs.Segments.{pick_of}

-- ---- the windows keep 16 bits

halved-short : (n : ℕ) → n < 65536 → halved n < 65536
halved-short n h = omega arith

module _ (mss : ℕ) (c : Congestion) (s : Short c) where
  fast-short : (inflight resent : ℕ) → Short (resent_fast mss inflight resent c)
  unfolding resent_fast
  fast-short inflight resent = record { snd = s.snd; rmt = s.rmt; cwnd = omega arith; ssthresh = halved-short (low16 inflight) (omega arith) }

  pub flush-window : (inflight resent window : ℕ) (change lost : Bool) → window < 65536 → Short (congestion_after mss inflight resent window change lost c)
  unfolding congestion_after timed_out at_least_one
  flush-window inflight resent window change lost h =
      let fast : Short (pick change (resent_fast mss inflight resent c) c) = pick_of Short change (λ t. fast-short inflight resent) s in
      let late : Short (pick lost (timed_out mss window (pick change (resent_fast mss inflight resent c) c)) (pick change (resent_fast mss inflight resent c) c)) =
      pick_of Short lost (λ t. record { snd = fast.snd; rmt = fast.rmt; cwnd = omega arith; ssthresh = halved-short window h }) fast in
      pick_of Short _ (λ t. record { snd = late.snd; rmt = late.rmt; cwnd = omega arith; ssthresh = late.ssthresh }) late

  cut_short : (w : Window) → (cut_to mss c.rmt_wnd w).cwnd < 65536
  unfolding cut_to pick
  cut_short w = go (ltb c.rmt_wnd w.cwnd) refl
    where
      go : (t : Bool) → ltb c.rmt_wnd w.cwnd ≡ t → (pick t (record { cwnd = c.rmt_wnd; incr = mul64 c.rmt_wnd mss }) w).cwnd < 65536
      go true e = s.rmt
      go false e = let a = ltb-false c.rmt_wnd w.cwnd e in let b = s.rmt in omega arith

  pub input-window : (before una : ℕ) → Short (grown_by mss before una c)
  unfolding grown_by grown
  input-window before una =
      pick_of Short (after una before)
      (λ t. record { snd = s.snd; rmt = s.rmt; cwnd = pick_of (λ (w : Window). w.cwnd < 65536) _ (λ u. cut_short _) s.cwnd; ssthresh = s.ssthresh })
      s

-- ---- the send memory

module _ (k : Kcp) (m : Store) (o : Sound 8 k.sender.ring m) where
  pub out-sound : Sound 8 (moved_at k m).sender.ring (flown_store k m)
  out-sound = flown-sound (moved_at k m).sender (moved_at k m).store (moved-sound k m [] [] o) (plan_of k).pace

  out-marks : (flown_store k m).marks ≡ m.marks
  unfolding launched_at
  out-marks =
      flown-marks (plan_of k).pace (flight_places (moved_at k m).sender.ring (moved_at k m).store) (moved_at k m).store
      ∙ launched_same k.sender m o k.settings.conv k.clock.current k.estimator.rto (plan_of k).leavers (few k m [] [] o)

  pub out-large : AsLarge m (flown_store k m)
  out-large =
      let e : length (flown_store k m).marks ≡ length m.marks = rw out-marks in
      let a = o.shaped.sized in
      let b = out-sound.shaped.sized in
      record { marks = e; rows = omega arith; room = omega arith }
