-- The two passes agree: what the size pass found before anything changed is what the write pass puts out of the memory once segments have left the queue;
-- so where that is no more than is lent, the write pass fits. And the write pass by the rules. Assumes nothing.
use Prim.Native.Nat.{ℕ, ◌+◌, ◌≤◌, ◌<◌, ◌^◌}
use native.Mathlib.Omega.{arith}
use mathlib.Core.Path.{◌≡◌, sym, ap, ◌∙◌}
use mathlib.Core.List.{List, map}
use lib.ListN.{length}
use Rattle.snd_ring.specs.Store.{Store, Sound}
use Rattle.block.specs.declared.sender.Sender.{Sender}
use Rattle.sending.specs.Rules.{Segment, with_flying}
use Rattle.transmit.specs.Memory.{seen}
use Rattle.transmit.specs.Fits.{Lies}
use Rattle.flushing.specs.declared.due.Pace.{Pace}
use Rattle.flushing.specs.declared.headers.Told.{Told}
use Rattle.flushing.specs.Pieces.{piece_bytes, sent_out, due_pieces, tallied}
use Rattle.flushing.proofs.Packing.{length-flat}
use Rattle.packing.specs.declared.packer.Packer.{Packer}
use Rattle.packing.specs.Packer.{sized}
use Rattle.packing.proofs.Turns.{sized_append, sized-sum, sized-count}
use Rattle.flight.specs.Memory.{flight_places, waiting_places, launched_at, sizes_over, fresh_sizes, pieces_over}
use Rattle.flight.proofs.Seen.{flown-sound, seen-flown, launched-sound}
use Rattle.flight.proofs.Out.{pieces-seen, sizes-seen, tally-seen, sizes-launched}
use Rattle.due.specs.Pass.{Rung, Pass, bytes_put, lengths_put, pass_over, Roomy}

-- what the size pass asks
pub rung_of : {s : Sender} {a : List ℕ} → Lies s a → Rung s.ring a
rung_of l = record { room = l.room; sound = l.sound }

-- u is what `due_sizes` answers, and v what `fresh_sizes` answers after it
module _ (conv current rx_rto k : ℕ) (s : Sender) (m : Store) (o : Sound 8 s.ring m) (few : k ≤ s.ring.unsent) (told : Told) (pace : Pace) (mtu : ℕ) (p : Packer) where
  abbrev later : Sender
  later = (launched_at conv current rx_rto k s m).sender

  abbrev after : Store
  after = (launched_at conv current rx_rto k s m).store

  pub passes-agree : {u v : Packer} → u ≡ sized mtu p (sizes_over pace (flight_places s.ring m) m) → v ≡ sized mtu u (fresh_sizes (waiting_places s.ring m k) m)
      → v ≡ sized mtu p (map length (pieces_over told pace (flight_places later.ring after) after))
  passes-agree e f =
      f
      ∙ rw e (sized_append mtu p (sizes_over pace (flight_places s.ring m) m) (fresh_sizes (waiting_places s.ring m k) m))
      ∙ ap (sized mtu p) (sym (sizes-launched conv current rx_rto k s m o few pace) ∙ sizes-seen later after (launched-sound s m o conv current rx_rto k few) told pace)

-- v is what the pieces come to
pub roomy_by : (mtu : ℕ) (p v : Packer) (out lengths : List ℕ) (ps : List (List ℕ)) → v ≡ sized mtu p (map length ps) → p.used ≤ 1500
    → v.start + v.used ≤ length out → v.start + v.used < 2 ^ 32 → v.count ≤ length lengths → Roomy mtu p out lengths ps
roomy_by mtu p v out lengths ps e small b w c =
    let s = ap (λ (q : Packer). q.start + q.used) e ∙ sized-sum mtu p (map length ps) in
    let n = ap (λ (q : Packer). q.count) e ∙ sized-count mtu p (map length ps) in
    let l = length-flat ps in
    record { small = small; bytes = omega arith; few = omega arith; cuts = omega arith }

-- ---- the write pass by the rules: what it leaves of the segments in flight, puts out and counts

module _ (told : Told) (pace : Pace) (dead_link mtu : ℕ) (s : Sender) (x : Pass) (o : Sound 8 s.ring x.store) where
  abbrev gone : Pass
  gone = pass_over told pace dead_link mtu (flight_places s.ring x.store) x

  abbrev flying : List Segment
  flying = (seen s x.store).flying

  abbrev pieces : List (List ℕ)
  pieces = map piece_bytes (due_pieces told pace flying)

  pub pass-seen : seen s gone.store ≡ with_flying (seen s x.store) (map (sent_out pace) flying)
  unfolding pass_over
  pass-seen = seen-flown s x.store o pace

  pub pass-sound : Sound 8 s.ring gone.store
  unfolding pass_over
  pass-sound = flown-sound s x.store o pace

  pub pass-tally : gone.tally ≡ tallied dead_link pace flying x.tally
  unfolding pass_over
  pass-tally = tally-seen s x.store o dead_link pace x.tally

  pub pass-out : gone.out ≡ bytes_put x.packer x.out pieces
  unfolding pass_over
  pass-out = ap (bytes_put x.packer x.out) (pieces-seen s x.store o told pace)

  pub pass-lengths : gone.lengths ≡ lengths_put mtu x.packer x.lengths pieces
  unfolding pass_over
  pass-lengths = ap (lengths_put mtu x.packer x.lengths) (pieces-seen s x.store o told pace)

  pub pass-packer : gone.packer ≡ sized mtu x.packer (map length pieces)
  unfolding pass_over
  pass-packer = ap (λ (ps : List (List ℕ)). sized mtu x.packer (map length ps)) (pieces-seen s x.store o told pace)
