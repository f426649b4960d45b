-- A flush of which nothing goes out, by its sizes: nothing leaves the queue, no memory changes, and nothing is counted. Assumes nothing.
use Prim.Native.Nat.{ℕ, ◌+◌, ◌<◌, ◌^◌}
use native.Mathlib.Omega.{arith}
use mathlib.Core.Path.{◌≡◌, refl, sym, ap, ◌∙◌}
use mathlib.Core.List.{List, [], ◌∷◌, ◌++◌, map}
use lib.ListN.{length, take}
use Rattle.snd_ring.specs.Store.{Store, Sound}
use Rattle.block.specs.declared.Kcp.{Kcp}
use Rattle.transmit.specs.Memory.{Side, side}
use Rattle.flushing.specs.Pack.{flat, sum_of, pack_all_sizes}
use Rattle.flushing.proofs.Packing.{length-flat, sum_append, all_none}
use Rattle.packing.specs.Front.{front_sizes}
use Rattle.packing.proofs.Laying.{put_none}
use Rattle.flight.specs.Memory.{flight_places, waiting_places, launched_at, flown_over, tally_over, sizes_over, fresh_sizes}
use Rattle.flight.proofs.Seen.{flight_below}
use Rattle.flight.proofs.Idle.{flown-stays, tally-stays, none-fresh, launched-stays}
use Rattle.output.specs.Memory.{plan_of, moved_at, flown_store, pieces_at, sizes_at, uncounted, tally_at, Rear, written_at}
use Rattle.output.proofs.Found.{sizes-found}

no_bytes : (l : List ℕ) → length l ≡ 0 → l ≡ []
no_bytes [] e = refl
no_bytes (x ∷ l) e = absurd (omega arith)

module _ (b : Kcp) (m : Store) (acks waiting : List ℕ) (o : Sound 8 b.sender.ring m) (next : b.sender.snd_nxt < 2 ^ 32) (none : b.acklist.waiting + sum_of (sizes_at b m) ≡ 0) where
  abbrev flight : List ℕ
  flight = sizes_over (plan_of b).pace (flight_places b.sender.ring m) m

  abbrev fresh : List ℕ
  fresh = fresh_sizes (waiting_places b.sender.ring m (plan_of b).leavers) m

  pub parts : (sum_of (front_sizes b.acklist.acks (plan_of b).probe.bits) ≡ 0) × (sum_of flight ≡ 0) × (sum_of fresh ≡ 0)
  unfolding sizes_at
  parts =
      let s = sum_append (front_sizes b.acklist.acks (plan_of b).probe.bits) (flight ++ fresh) in
      let t = sum_append flight fresh in
      (omega arith, omega arith, omega arith)

  pub moved : moved_at b m ≡ side b.sender m
  moved =
      ap (λ (n : ℕ). launched_at b.settings.conv b.clock.current b.estimator.rto n b.sender m)
      (none-fresh (length m.marks) b.sender.ring.start b.sender.ring.reach (plan_of b).leavers m parts.2)
      ∙ launched-stays b.settings.conv b.clock.current b.estimator.rto b.sender m next

  stays : flown_store b m ≡ m
  stays =
      ap (λ (x : Side). flown_over (plan_of b).pace (flight_places x.sender.ring x.store) x.store) moved
      ∙ flown-stays (plan_of b).pace (flight_places b.sender.ring m) m o.shaped.sized (flight_below b.sender m o) parts.1

  pub counted : tally_at b m ≡ uncounted b
  counted =
      ap (λ (x : Side). tally_over b.settings.dead_link (plan_of b).pace (flight_places x.sender.ring x.store) x.store (uncounted b)) moved
      ∙ tally-stays (plan_of b).pace b.settings.dead_link (flight_places b.sender.ring m) m (uncounted b) o.shaped.sized (flight_below b.sender m o) parts.1

  bytes : take b.acklist.waiting waiting ++ flat (pieces_at b m acks) ≡ []
  bytes =
      let z : b.acklist.waiting ≡ 0 = omega arith in
      let l = length-flat (pieces_at b m acks) ∙ ap sum_of (sizes-found b m acks waiting o) in
      rw (no_bytes (flat (pieces_at b m acks)) (omega arith), z)

  cuts : pack_all_sizes b.settings.mtu b.acklist.waiting (map length (pieces_at b m acks)) ≡ []
  cuts = rw (sizes-found b m acks waiting o) (all_none b.settings.mtu b.acklist.waiting (sizes_at b m) none)

  pub idle-written : (out lengths : List ℕ) → ◌≡◌ {A = Rear} (record { sender = b.sender; tally = uncounted b; store = m; out = out; lengths = lengths }) (written_at b m acks waiting out lengths)
  idle-written out lengths =
      sym (rw (counted, stays, ap (λ (x : Side). x.sender) moved, bytes, cuts, put_none out 0, put_none lengths 0))
