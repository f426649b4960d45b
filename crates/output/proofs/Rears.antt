-- The segments of a flush: what their launch and their writing ask, and that what they leave is `rear_at`. Assumes nothing.
use Prim.Native.Nat.{ℕ, ◌+◌, ◌≤◌, ◌<◌, ◌^◌}
use native.Mathlib.Omega.{arith}
use mathlib.Core.Path.{◌≡◌, sym, ap, ◌∙◌, subst}
use mathlib.Core.List.{List, [], map}
use lib.ListN.{length, length-append}
use Rattle.ring.specs.Lists.{lists}
use Rattle.ring.specs.Records.{put}
use Rattle.ring.proofs.Rows.{put-length}
use Rattle.snd_ring.specs.Store.{Store, store_of, Sound}
use Rattle.block.specs.declared.Kcp.{Kcp}
use Rattle.block.specs.declared.sender.Sender.{Sender}
use Rattle.transmit.specs.Memory.{Side, side}
use Rattle.transmit.specs.Fits.{Lies}
use Rattle.transmit.proofs.Exact.{lies_of}
use Rattle.flushing.specs.declared.due.Tally.{Tally}
use Rattle.flushing.specs.Pack.{flat, datagram_size, pack_sizes, pack_all_sizes}
use Rattle.flushing.proofs.Packing.{AtMost, length-flat, rest-most}
use Rattle.packing.specs.declared.packer.Packer.{Packer}
use Rattle.packing.specs.Packer.{sized}
use Rattle.packing.proofs.Turns.{sized-sum, sized-count, sized-used, put_all}
use Rattle.flight.specs.Memory.{flight_places, pieces_over}
use Rattle.flight.proofs.Seen.{flight_below, flight-fit}
use Rattle.due.proofs.Writing.{pieces-most}
use Rattle.due.specs.Pass.{Pass, pass, pass_over, Roomy}
use Rattle.output.specs.Memory.{told_of, plan_of, moved_at, flown_store, segments_of, uncounted, tally_at, rear_at, RearFits}
use Rattle.output.proofs.Found.{few, moved-sound}

module _ (b : Kcp) (a room : List ℕ) (o : Sound 8 b.sender.ring (store_of 8 (lists a room))) where
  abbrev m : Store
  m = store_of 8 (lists a room)

  pub launch-asks : Lies b.sender a × ((plan_of b).leavers ≤ b.sender.ring.unsent)
  launch-asks = (lies_of b.sender a room o, few b m [] [] o)

  -- ---- s and n are the sending side and the memory once segments have left the queue

  module _ {s : Sender} {n : Store} (e : side s n ≡ moved_at b m) where
    pub write-sound : Sound 8 s.ring n
    write-sound = subst (λ (x : Side). Sound 8 x.sender.ring x.store) (sym e) (moved-sound b m [] [] o)

    abbrev written : Store → Sender → List (List ℕ)
    written x y = pieces_over (told_of b) (plan_of b).pace (flight_places y.ring x) x

    module _ {out lengths : List ℕ} {p : Packer} (f : RearFits b m out lengths p) where
      cuts_fit : p.count + length (pack_sizes b.settings.mtu p.used (map length (segments_of b m))).0 ≤ length lengths
      unfolding pack_all_sizes
      cuts_fit =
          let h = f.cuts in
          let ks = pack_sizes b.settings.mtu p.used (map length (segments_of b m)) in
          let l = length-append ks.0 (datagram_size ks.1) in
          omega arith

      pub write-roomy : Roomy b.settings.mtu p out lengths (written n s)
      write-roomy =
          subst (λ (x : Side). Roomy b.settings.mtu p out lengths (written x.store x.sender)) (sym e)
          (record { small = f.small; bytes = f.bytes; few = f.few; cuts = cuts_fit })

      -- ---- x is what the write pass left

      module _ (small : b.settings.mtu ≤ 1500) {st : Store} {to ls : List ℕ} {pk : Packer} {t : Tally} (w : pass st to ls pk t ≡ pass_over (told_of b) (plan_of b).pace b.settings.dead_link b.settings.mtu (flight_places s.ring n) (pass n out lengths p (uncounted b))) where
        whole : pass st to ls pk t ≡ pass_over (told_of b) (plan_of b).pace b.settings.dead_link b.settings.mtu (flight_places (moved_at b m).sender.ring (moved_at b m).store) (pass (moved_at b m).store out lengths p (uncounted b))
        whole = w ∙ ap (λ (y : Side). pass_over (told_of b) (plan_of b).pace b.settings.dead_link b.settings.mtu (flight_places y.sender.ring y.store) (pass y.store out lengths p (uncounted b))) e

        left : pass st to ls pk t ≡ pass (flown_store b m) (put out (p.start + p.used) (flat (segments_of b m))) (put lengths p.count (pack_sizes b.settings.mtu p.used (map length (segments_of b m))).0)
            (sized b.settings.mtu p (map length (segments_of b m))) (tally_at b m)
        unfolding pass_over
        left = whole

        pub rear_left : {d : List ℕ} → d ≡ put ls pk.count (datagram_size pk.used)
            → record { sender = s; tally = t; store = st; out = to; lengths = d } ≡ rear_at b m out lengths p
        rear_left c =
            (rw (c, ap (λ (y : Side). y.sender) e)
            (ap
            (λ (x : Pass).
            record { sender = (moved_at b m).sender; tally = x.tally; store = x.store; out = x.out; lengths = put x.lengths x.packer.count (datagram_size x.packer.used) })
            left
            ∙ ap
            (λ (d : List ℕ).
            record { sender = (moved_at b m).sender; tally = tally_at b m; store = flown_store b m; out = put out (p.start + p.used) (flat (segments_of b m)); lengths = d })
            (put_all b.settings.mtu p lengths (map length (segments_of b m)) cuts_fit)))

        each : AtMost 1500 (map length (segments_of b m))
        each =
            let q = moved-sound b m [] [] o in
            let s = moved_at b m in
            pieces-most (told_of b) (plan_of b).pace (flight_places s.sender.ring s.store) s.store q.shaped.sized (flight_below s.sender s.store q) (flight-fit s.sender s.store q)

        -- what waits then goes out
        pub finish-asks : (pk.start + pk.used < 2 ^ 32) × (pk.used < 2 ^ 16) × (pk.count + length (datagram_size pk.used) ≤ length ls)
        unfolding pack_all_sizes
        finish-asks =
            let ks = map length (segments_of b m) in
            let cut = pack_sizes b.settings.mtu p.used ks in
            let h = f.few in
            let c = f.cuts in
            rw (ap (λ (x : Pass). x.packer) left, ap (λ (x : Pass). x.lengths) left)
            (let sum = sized-sum b.settings.mtu p ks in
            let u = sized-used b.settings.mtu p ks in
            let v = sized-count b.settings.mtu p ks in
            let t = length-flat (segments_of b m) in
            let most = rest-most b.settings.mtu 1500 small p.used ks f.small each in
            let l = length-append cut.0 (datagram_size cut.1) in
            let k = put-length lengths p.count cut.0 cuts_fit in
            (omega arith, omega arith, rw (u, v) (omega arith)))
