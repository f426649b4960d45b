-- A flush: 13 is decided by its sizes, and what it leaves is what the rules say. Assumes nothing.
use Rattle.std.specs.Prelude.{Ok}
use Prim.Native.Nat.{ℕ, ◌+◌, ◌≤◌, ◌<◌, ◌^◌}
use native.Mathlib.Omega.{arith}
use mathlib.Core.Path.{◌≡◌, refl, sym, ap, ◌∙◌}
use mathlib.Core.Bool.{Bool, true, false, ◌||◌}
use mathlib.Core.List.{List, map}
use lib.ListN.{length, length-map}
use lib.Seq.{length-take-le}
use lib.Dec.{ltb}
use borrow.Author.Tests.{lt-ltb, le-ltb}
use Rattle.serial.specs.Branch.{pick_true, pick-false}
use Rattle.ring.specs.Records.{put}
use Rattle.snd_ring.specs.Store.{Store, Sound}
use Rattle.block.specs.declared.Kcp.{Kcp}
use Rattle.block.specs.declared.sender.Sender.{Sender}
use Rattle.block.specs.declared.refusal.Refusal.TheVariants.{OutTooSmall}
use Rattle.flushing.specs.declared.due.Tally.{Tally}
use Rattle.flushing.specs.Pack.{flat, sum_of, pack_all_sizes}
use Rattle.flushing.specs.Rules.{exceeds, flushed}
use Rattle.flushing.proofs.Packing.{length-flat, all-sum, all_none}
use Rattle.packing.specs.declared.packer.Packer.{Packer}
use Rattle.packing.specs.Packer.{holding, sized, closed}
use Rattle.packing.specs.FlushAck.{Writing, writing, room_of}
use Rattle.packing.proofs.Laying.{put_none}
use Rattle.packing.proofs.Turns.{closed-start, closed-count}
use Rattle.output.specs.Memory.{outgoing, unsent, sizes_at, pieces_at, moved_at, flown_store, uncounted, Rear, written_at, FlushFits, settled_by, after_flush, FlushOut, flush_at}
use Rattle.output.proofs.Found.{sizes-found, bytes-found, lengths-found, settled-found}
use Rattle.output.proofs.Still.{idle-written}

either_true : (a : Bool) {c : Bool} → c ≡ true → (a || c) ≡ true
either_true true e = refl
either_true false e = e

module _ (k b : Kcp) (m : Store) (acks waiting out lengths : List ℕ) (o : Sound 8 b.sender.ring m) (wide : b.acklist.waiting ≤ length waiting)
    {p : Packer} (e : p ≡ closed (sized b.settings.mtu (holding b.acklist.waiting) (sizes_at b m))) where
  abbrev mtu : ℕ
  mtu = b.settings.mtu

  abbrev held : ℕ
  held = b.acklist.waiting

  abbrev w : Writing
  w = writing waiting out lengths

  abbrev datagrams : List (List ℕ)
  datagrams = (flushed (outgoing b m acks waiting)).datagrams

  lengths_are : map length datagrams ≡ pack_all_sizes mtu held (sizes_at b m)
  lengths_are = rw (length-take-le held waiting wide) at (lengths-found b m acks waiting o)

  start_is : p.start ≡ sum_of (map length datagrams)
  start_is = rw (e, lengths_are) (let s = closed-start mtu (holding held) (sizes_at b m) in omega arith)

  count_is : p.count ≡ length (map length datagrams)
  count_is = rw (e, lengths_are) (let s = closed-count mtu (holding held) (sizes_at b m) in omega arith)

  -- ---- refused

  refused : exceeds (room_of w) (map length datagrams) ≡ true → ◌≡◌ {A = FlushOut} (record { out = unsent k w OutTooSmall; store = m }) (flush_at k b m acks w)
  unfolding flush_at
  refused h = sym (pick_true _ _ h)

  pub no_bytes : length out < p.start → ◌≡◌ {A = FlushOut} (record { out = unsent k w OutTooSmall; store = m }) (flush_at k b m acks w)
  unfolding exceeds
  no_bytes h = refused (rw (lt-ltb (length out) (sum_of (map length datagrams)) (rw start_is at h)))

  pub no_lengths : length lengths < p.count → ◌≡◌ {A = FlushOut} (record { out = unsent k w OutTooSmall; store = m }) (flush_at k b m acks w)
  unfolding exceeds
  no_lengths h = refused (either_true (ltb (length out) (sum_of (map length datagrams))) (lt-ltb (length lengths) (length (map length datagrams)) (rw count_is at h)))

  -- ---- written

  module _ (bytes : p.start ≤ length out) (few : p.count ≤ length lengths) where
    fits : exceeds (room_of w) (map length datagrams) ≡ false
    unfolding exceeds
    fits = rw (le-ltb (length out) (sum_of (map length datagrams)) (rw start_is at bytes), le-ltb (length lengths) (length (map length datagrams)) (rw count_is at few))

    piece-sum : held + length (flat (pieces_at b m acks)) ≡ p.start
    piece-sum =
        let l = length-flat (pieces_at b m acks) ∙ ap sum_of (sizes-found b m acks waiting o) in
        let s = all-sum mtu held (sizes_at b m) in
        let t = start_is ∙ ap sum_of lengths_are in
        omega arith

    pub flush_fits : p.start < 2 ^ 32 → FlushFits b m acks out lengths
    flush_fits h =
        let s = piece-sum in
        record {
          bytes = omega arith;
          few = omega arith;
          cuts = let c = count_is ∙ ap length lengths_are in rw (sizes-found b m acks waiting o) (omega arith);
        }

    -- nothing goes out
    module _ (nothing : p.start ≡ 0) where
      none : held + sum_of (sizes_at b m) ≡ 0
      none = sym (all-sum mtu held (sizes_at b m)) ∙ ap sum_of (sym lengths_are) ∙ sym start_is ∙ nothing

      no_datagram : p.count ≡ 0
      no_datagram = count_is ∙ ap length (lengths_are ∙ all_none mtu held (sizes_at b m) none)

    -- s, t and so on are what the writing left, and blk the block after it
    pub flush-done : {s : Sender} {t : Tally} {st : Store} {to ls : List ℕ} → ◌≡◌ {A = Rear} (record { sender = s; tally = t; store = st; out = to; lengths = ls }) (written_at b m acks waiting out lengths)
        → {blk : Kcp} → blk ≡ settled_by b s t
        → ◌≡◌ {A = FlushOut} (record { out = record { block = blk; answer = Ok tt; datagrams = p.count; written = writing waiting to ls }; store = st }) (flush_at k b m acks w)
    unfolding flush_at
    flush-done {s} {t} {st} {to} {ls} x {blk} y =
        let bs : to ≡ put out 0 (flat datagrams) = ap (λ (z : Rear). z.out) x ∙ ap (put out 0) (sym (bytes-found b m acks waiting o)) in
        let ns : ls ≡ put lengths 0 (map length datagrams) = ap (λ (z : Rear). z.lengths) x ∙ ap (put lengths 0) (ap (pack_all_sizes mtu held) (sizes-found b m acks waiting o) ∙ sym lengths_are) in
        let bl = y ∙ ap (λ (z : Rear). settled_by b z.sender z.tally) x ∙ settled-found b m acks waiting o in
        let c : p.count ≡ length datagrams = count_is ∙ length-map datagrams length in
        rw (bl, bs, ns, c, ap (λ (z : Rear). z.store) x)
        (ap
        (λ (wa : List ℕ).
        record {
          out = record {
            block = after_flush b (moved_at b m).sender.ring (flushed (outgoing b m acks waiting)).after;
            answer = Ok tt;
            datagrams = length datagrams;
            written = writing wa (put out 0 (flat datagrams)) (put lengths 0 (map length datagrams));
          };
          store = flown_store b m;
        })
        (sym (put_none waiting 0))
        ∙ sym (pick-false _ _ fits))

    -- blk is the block after a flush of which nothing goes out
    pub flush-idle : p.start ≡ 0 → b.sender.snd_nxt < 2 ^ 32 → {blk : Kcp} → blk ≡ settled_by b b.sender (uncounted b)
        → ◌≡◌ {A = FlushOut} (record { out = record { block = blk; answer = Ok tt; datagrams = 0; written = w }; store = m }) (flush_at k b m acks w)
    flush-idle z next y = rw (← no_datagram z) (flush-done (idle-written b m acks waiting o next (none z) out lengths) y)
