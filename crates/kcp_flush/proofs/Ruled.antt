-- flush_ack, flush and update do what the rules say, where block and memory are well formed; and no datagram that they put out is longer than 1,500
-- bytes. Assumes nothing.
use Prim.Native.Nat.{ℕ, ◌+◌, ◌≤◌}
use native.Mathlib.Omega.{arith}
use mathlib.Core.Path.{◌≡◌, refl}
use mathlib.Core.Bool.{Bool, true, false}
use mathlib.Core.List.{List, [], map, map-append}
use lib.ListN.{length, take, drop, replicate, length-take}
use lib.Seq.{take_at}
use Rattle.serial.specs.Branch.{pick, pick_true}
use Rattle.ring.specs.Lists.{Lists}
use Rattle.ring.specs.Records.{put}
use Rattle.snd_ring.specs.Store.{Store, store_of, Sound}
use Rattle.block.specs.declared.Kcp.{Kcp}
use Rattle.block.specs.declared.refusal.Refusal.{Refusal}
use Rattle.block.specs.declared.refusal.Refusal.TheVariants.{NeedUpdate, OutTooSmall, BadPool}
use Rattle.block.specs.Parts.{with_clock}
use Rattle.block.specs.WellFormed.{OwnNumbers}
use Rattle.transmit.proofs.Exact.{sound_of}
use Rattle.flushing.specs.Clocks.{ticked}
use Rattle.flushing.specs.Pack.{flat}
use Rattle.flushing.specs.Rules.{Outgoing, Outcome, exceeds, refused, unless_exceeding, once_updated, flushed_ack, flushed, flush_ack_rule, flush_rule, update_rule}
use Rattle.flushing.proofs.Packing.{AtMost, at_most_append, each-most, all_most}
use Rattle.flushing.proofs.Calls.{ack-sizes}
use Rattle.packing.specs.Acks.{acks_from, acks_of}
use Rattle.packing.specs.Front.{front_pieces, front_sizes}
use Rattle.packing.specs.FlushAck.{Writing, room_of}
use Rattle.packing.proofs.AckBytes.{each_alike}
use Rattle.packing.proofs.Fronts.{front-sizes, front_each}
use Rattle.flight.specs.Memory.{flight_places}
use Rattle.flight.proofs.Seen.{flight_below, flight-fit}
use Rattle.due.proofs.Writing.{pieces-most}
use Rattle.output.specs.Memory.{outgoing, told_of, plan_of, moved_at, segments_of, pieces_at, sizes_at, Out, unsent, FlushOut, flush_ack_at, flush_at, update_at}
use Rattle.output.proofs.Found.{moved-sound, sizes-found, lengths-found, flush-seen}
use Rattle.kcp_flush.specs.Calls.{ack_fits, flush_fits, flush_ack_of, unflushed, flush_of, update_of}
use Rattle.kcp_flush.specs.Ruled.{Ruled}
use Rattle.kcp_flush.proofs.Calls.{flush-exactly}

-- nothing was put
put_none : (l : List ℕ) → l ≡ put l 0 []
unfolding put
put_none l = refl

module _ (acks : List ℕ) (w : Writing) where
  -- refused: all as it was
  unsent_ruled : (k : Kcp) (m : Store) (why : Refusal) → Ruled (refused why (outgoing k m acks w.waiting)) acks w (unsent k w why) m
  unfolding flat
  unsent_ruled k m why = record { answer = refl; after = refl; count = refl; out = put_none w.out; lengths = put_none w.lengths }

  -- a choice that rule and call make alike, of what a flush leaves, and of what flush_ack leaves
  either : (t : Bool) {r s : Outcome} {o p : FlushOut} → Ruled r acks w o.out o.store → Ruled s acks w p.out p.store → Ruled (pick t r s) acks w (pick t o p).out (pick t o p).store
  unfolding pick
  either true x y = x
  either false x y = y

  one_of : (m : Store) (t : Bool) {r s : Outcome} {o p : Out} → Ruled r acks w o m → Ruled s acks w p m → Ruled (pick t r s) acks w (pick t o p) m
  unfolding pick
  one_of m true x y = x
  one_of m false x y = y

  -- a flush of the block b, which 13 leaves as k was
  module _ (k b : Kcp) (m : Store) (o : Sound 8 b.sender.ring m) where
    abbrev asked : Outgoing
    asked = outgoing b m acks w.waiting

    abbrev left : FlushOut
    left = flush_at k b m acks w

    pub flushed_ruled : Ruled (unless_exceeding (room_of w) (outgoing k m acks w.waiting) (flushed asked)) acks w left.out left.store
    unfolding flush_at unless_exceeding put
    flushed_ruled =
        either (exceeds (room_of w) (map length (flushed asked).datagrams)) (unsent_ruled k m OutTooSmall)
        (record { answer = refl; after = flush-seen b m acks w.waiting o; count = refl; out = refl; lengths = refl })

module _ (k : Kcp) (snd : Lists) (acks : List ℕ) (w : Writing) (fit : flush_fits k snd acks w.waiting ≡ true) where
  abbrev m : Store
  m = store_of 8 snd

  sound : Sound 8 k.sender.ring m
  sound = let f = (flush-exactly k acks w.waiting snd).holds fit in sound_of {k = k} {l = snd} (record { own = f.0; lent = f.1.0 })

  pub flush_ruled : Ruled (flush_rule (room_of w) (outgoing k m acks w.waiting)) acks w (flush_of k snd acks w).out (flush_of k snd acks w).store
  unfolding flush_of once_updated outgoing
  flush_ruled = rw (pick_true _ (unflushed k snd w BadPool) fit) (either acks w k.clock.updated (flushed_ruled acks w k k m sound) (unsent_ruled acks w k m NeedUpdate))

  pub update_ruled : (current : ℕ) → Ruled (update_rule (room_of w) current (outgoing k m acks w.waiting)) acks w (update_of k snd acks w current).out (update_of k snd acks w current).store
  unfolding update_of update_at update_rule outgoing put flat
  update_ruled current =
      rw (pick_true _ (unflushed k snd w BadPool) fit)
      (either acks w (ticked k.clock current).flushes
      (flushed_ruled acks w k (with_clock k (ticked k.clock current).clock) m sound)
      (record { answer = refl; after = refl; count = refl; out = refl; lengths = refl }))

-- flush_ack looks at no send memory, so m is any
module _ (k : Kcp) (m : Store) (acks : List ℕ) (w : Writing) (fit : ack_fits k acks w.waiting ≡ true) where
  abbrev found : Outgoing
  found = outgoing k m acks w.waiting

  abbrev rest : List ℕ
  rest = (flushed_ack found).after.waiting

  waiting_left : take (length rest) (put w.waiting 0 rest) ≡ rest
  unfolding put
  waiting_left = take_at rest (drop (0 + length rest) w.waiting) (length rest) refl

  acks-sent : Ruled (unless_exceeding (room_of w) found (flushed_ack found)) acks w (flush_ack_at k acks w) m
  unfolding flush_ack_at unless_exceeding flushed_ack outgoing acks_from
  acks-sent =
      one_of acks w m (exceeds (room_of w) (map length (flushed_ack found).datagrams)) (unsent_ruled acks w k m OutTooSmall)
      (record { answer = refl; after = rw waiting_left; count = refl; out = refl; lengths = refl })

  pub ack_ruled : Ruled (flush_ack_rule (room_of w) found) acks w (flush_ack_of k acks w) m
  unfolding flush_ack_of once_updated outgoing
  ack_ruled = rw (pick_true _ (unsent k w BadPool) fit) (one_of acks w m k.clock.updated acks-sent (unsent_ruled acks w k m NeedUpdate))

-- ---- "Datagram in or out: at most 1,500 bytes"

module _ (b : Kcp) (m : Store) (acks waiting : List ℕ) (o : Sound 8 b.sender.ring m) (own : OwnNumbers b) where
  segments-most : AtMost 1500 (map length (segments_of b m))
  segments-most =
      let q = moved-sound b m acks waiting o in
      let s = moved_at b m in
      pieces-most (told_of b) (plan_of b).pace (flight_places s.sender.ring s.store) s.store q.shaped.sized (flight_below s.sender s.store q) (flight-fit s.sender s.store q)

  pieces-short : AtMost 1500 (map length (pieces_at b m acks))
  unfolding pieces_at
  pieces-short =
      let front = front_pieces (told_of b) (plan_of b).probe.bits (acks_of acks b.acklist.acks) in
      rw (map-append length front (segments_of b m), front-sizes (told_of b) (plan_of b).probe.bits acks b.acklist.acks)
      (at_most_append 1500 (front_sizes b.acklist.acks (plan_of b).probe.bits) (map length (segments_of b m)) (front_each b.acklist.acks (plan_of b).probe.bits) segments-most)

  waits-short : length (take b.acklist.waiting waiting) ≤ 1500
  waits-short = let a = length-take b.acklist.waiting waiting in let h = own.acklist.waiting in omega arith

  pub flush-short : AtMost 1500 (map length (flushed (outgoing b m acks waiting)).datagrams)
  flush-short =
      rw (lengths-found b m acks waiting o)
      (all_most b.settings.mtu 1500 own.settings.mtu.high (length (take b.acklist.waiting waiting)) (sizes_at b m) waits-short (rw (← sizes-found b m acks waiting o) pieces-short))

  pub ack-short : AtMost 1500 (map length (flushed_ack (outgoing b m acks waiting)).datagrams)
  unfolding outgoing
  ack-short =
      let acked = length (outgoing b m acks waiting).acks in
      rw (ack-sizes (outgoing b m acks waiting))
      (each-most b.settings.mtu 1500 own.settings.mtu.high (length (take b.acklist.waiting waiting)) (replicate acked 24) waits-short (each_alike 1500 24 acked (omega arith)))
