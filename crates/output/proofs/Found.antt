-- What a flush finds in the memory is what the rules are asked of: its pieces, their sizes, what is counted, and what is seen afterwards. Assumes nothing.
use Prim.Native.Nat.{ℕ, ◌≤◌}
use mathlib.Core.Path.{◌≡◌, refl, sym, ap, ◌∙◌}
use mathlib.Core.List.{List, ◌++◌, map, map-append, append_assoc}
use lib.ListN.{length, take}
use Rattle.snd_ring.specs.Store.{Store, Sound}
use Rattle.block.specs.declared.Kcp.{Kcp}
use Rattle.sending.specs.Rules.{Sending, with_flying}
use Rattle.transmit.specs.Memory.{seen}
use Rattle.flushing.specs.Pack.{flat, pack_all_sizes}
use Rattle.flushing.specs.Pieces.{piece_bytes, ack_pieces, probe_pieces, due_pieces, tallied, sent_out}
use Rattle.flushing.specs.Rules.{Outgoing, moved_out, sent, tally, pieces_of, flushed}
use Rattle.flushing.proofs.Packing.{all-sizes}
use Rattle.flushing.proofs.Calls.{flush-joined}
use Rattle.packing.specs.Acks.{acks_from, acks_of}
use Rattle.packing.specs.Front.{front_pieces}
use Rattle.packing.proofs.Fronts.{front-sizes, front-rule}
use Rattle.flight.specs.Memory.{launched_sender, launched_at, flight_places, pieces_over}
use Rattle.flight.proofs.Seen.{seen-moved, seen-flown, leaving-few, launched-sound}
use Rattle.flight.proofs.Out.{pieces-seen, sizes-seen, tally-seen, sizes-launched}
use Rattle.output.specs.Memory.{outgoing, told_of, plan_of, sizes_at, moved_at, flown_store, after_flush, pieces_at, uncounted, tally_at, settled_by}

module _ (b : Kcp) (m : Store) (acks waiting : List ℕ) (o : Sound 8 b.sender.ring m) where
  abbrev asked : Outgoing
  asked = outgoing b m acks waiting

  pub few : (plan_of b).leavers ≤ b.sender.ring.unsent
  few = leaving-few b.sender m o b.settings.conv b.clock.current b.estimator.rto (plan_of b).window (plan_of b).leavers refl

  pub moved-sound : Sound 8 (moved_at b m).sender.ring (moved_at b m).store
  moved-sound = launched-sound b.sender m o b.settings.conv b.clock.current b.estimator.rto (plan_of b).leavers few

  pub moved-seen : seen (moved_at b m).sender (moved_at b m).store ≡ sent asked
  unfolding outgoing
  moved-seen = seen-moved b.sender m o b.settings.conv b.clock.current b.estimator.rto (plan_of b).window (plan_of b).leavers refl

  -- ---- the pieces, and their sizes

  segments : pieces_over (told_of b) (plan_of b).pace (flight_places (moved_at b m).sender.ring (moved_at b m).store) (moved_at b m).store
      ≡ map piece_bytes (due_pieces (told_of b) (plan_of b).pace (sent asked).flying)
  segments =
      pieces-seen (moved_at b m).sender (moved_at b m).store moved-sound (told_of b) (plan_of b).pace
      ∙ ap (λ (s : Sending). map piece_bytes (due_pieces (told_of b) (plan_of b).pace s.flying)) moved-seen

  pub pieces-found : map piece_bytes (pieces_of asked) ≡ pieces_at b m acks
  unfolding outgoing pieces_at
  pieces-found =
      ap (map piece_bytes) (sym (append_assoc (ack_pieces (told_of b) (acks_of acks b.acklist.acks)) (probe_pieces (told_of b) (plan_of b).probe.bits (acks_of acks b.acklist.acks)) _))
      ∙ map-append piece_bytes (ack_pieces (told_of b) (acks_of acks b.acklist.acks) ++ probe_pieces (told_of b) (plan_of b).probe.bits (acks_of acks b.acklist.acks)) _
      ∙ rw (← front-rule (told_of b) (plan_of b).probe.bits acks b.acklist.acks, ← segments)

  pub sizes-found : map length (pieces_at b m acks) ≡ sizes_at b m
  unfolding sizes_at pieces_at
  sizes-found =
      map-append length (front_pieces (told_of b) (plan_of b).probe.bits (acks_of acks b.acklist.acks)) _
      ∙ rw (
        front-sizes (told_of b) (plan_of b).probe.bits acks b.acklist.acks,
        ← sizes-seen (moved_at b m).sender (moved_at b m).store moved-sound (told_of b) (plan_of b).pace,
        sizes-launched b.settings.conv b.clock.current b.estimator.rto (plan_of b).leavers b.sender m o few (plan_of b).pace,
      )

  -- ---- the datagrams

  pub bytes-found : flat (flushed asked).datagrams ≡ take b.acklist.waiting waiting ++ flat (pieces_at b m acks)
  unfolding outgoing
  bytes-found = flush-joined asked ∙ rw pieces-found

  pub lengths-found : map length (flushed asked).datagrams ≡ pack_all_sizes b.settings.mtu (length (take b.acklist.waiting waiting)) (sizes_at b m)
  unfolding flushed outgoing
  lengths-found =
      all-sizes b.settings.mtu (take b.acklist.waiting waiting) (map piece_bytes (pieces_of asked))
      ∙ ap (pack_all_sizes b.settings.mtu (length (take b.acklist.waiting waiting))) (ap (map length) pieces-found ∙ sizes-found)

  -- ---- what is counted

  pub tally-found : tally_at b m ≡ tally asked
  unfolding outgoing
  tally-found =
      tally-seen (moved_at b m).sender (moved_at b m).store moved-sound b.settings.dead_link (plan_of b).pace (uncounted b)
      ∙ ap (λ (s : Sending). tallied b.settings.dead_link (plan_of b).pace s.flying (uncounted b)) moved-seen

  -- ---- THE LAW: what is seen after the flush is what the rule leaves

  abbrev after : Kcp
  after = after_flush b (moved_at b m).sender.ring (flushed asked).after

  next-found : (flushed asked).after.sending.next ≡ (moved_at b m).sender.snd_nxt
  unfolding flushed seen
  next-found = ap (λ (s : Sending). s.next) (sym moved-seen)

  same-sending : seen after.sender (flown_store b m) ≡ seen (moved_at b m).sender (flown_store b m)
  unfolding seen launched_at launched_sender
  same-sending = ap (λ (n : ℕ). record { una = b.sender.snd_una; next = n; flying = (seen (moved_at b m).sender (flown_store b m)).flying; waiting = (seen (moved_at b m).sender (flown_store b m)).waiting }) next-found

  sending_after : seen after.sender (flown_store b m) ≡ (flushed asked).after.sending
  unfolding flushed outgoing
  sending_after =
      same-sending
      ∙ seen-flown (moved_at b m).sender (moved_at b m).store moved-sound (plan_of b).pace
      ∙ ap (λ (s : Sending). with_flying s (map (sent_out (plan_of b).pace) s.flying)) moved-seen

  pub flush-seen : outgoing after (flown_store b m) acks waiting ≡ (flushed asked).after
  unfolding outgoing flushed acks_from
  flush-seen = rw sending_after

  -- the block's numbers are those of the rule
  pub settled-found : settled_by b (moved_at b m).sender (tally_at b m) ≡ after
  unfolding flushed outgoing launched_at launched_sender seen moved_out
  settled-found = rw (tally-found, ← next-found)
