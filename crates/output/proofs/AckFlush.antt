-- What `flush_ack` of the block makes of the packed acks, refused or sent. Assumes nothing.
use Rattle.std.specs.Prelude.{Ok}
use Prim.Native.Nat.{ℕ, ◌≤◌}
use native.Mathlib.Omega.{arith}
use mathlib.Core.Path.{◌≡◌, ap, ◌∙◌}
use mathlib.Core.Bool.{Bool, true, false}
use mathlib.Core.List.{List, map}
use lib.ListN.{length, take, replicate}
use lib.Seq.{length-take-le}
use Rattle.std.proofs.Common.{Result, Ok, Err, refl}
use Rattle.serial.specs.Branch.{pick, pick-ap}
use Rattle.block.specs.declared.Kcp.{Kcp}
use Rattle.block.specs.declared.refusal.Refusal.{Refusal}
use Rattle.block.specs.declared.refusal.Refusal.TheVariants.{OutTooSmall}
use Rattle.flushing.specs.declared.headers.Told.{Told}
use Rattle.flushing.specs.Pack.{pack}
use Rattle.flushing.specs.Rules.{exceeds}
use Rattle.flushing.proofs.Packing.{pack-rest, rest-most}
use Rattle.packing.specs.declared.flush_ack.Sent.{Sent}
use Rattle.packing.specs.Acks.{acks_of, ack_bytes}
use Rattle.packing.specs.FlushAck.{Writing, sent, room_of, put_out}
use Rattle.packing.specs.FlushAck as packing
use Rattle.packing.proofs.AckBytes.{each_alike, ack-sizes}
use Rattle.output.specs.Memory.{Out, told_of, unsent, acked, flush_ack_at}

-- the outcome of the block, by that of the packing
abbrev out_of : Kcp → Result Sent Refusal × Writing → Out
out_of k (Err why, w) = unsent k w why
out_of k (Ok s, w) = record { block = acked k s.waiting; answer = Ok tt; datagrams = s.datagrams; written = w }

abbrev rest_of : Result Sent Refusal × Writing → ℕ
rest_of (Err why, w) = 0
rest_of (Ok s, w) = s.waiting

-- what is not sent is refused by 13
no_room : (b : Bool) (why : Refusal) (v w : Writing) (s : Sent) (x : Writing) → ◌≡◌ {A = Result Sent Refusal × Writing} (Err why, v) (pick b (Err OutTooSmall, w) (Ok s, x)) → why ≡ OutTooSmall
unfolding pick
no_room true why v w s x e = let f : ◌≡◌ {A = Result Sent Refusal} (Err why) (Err OutTooSmall) = ap (λ (y : Result Sent Refusal × Writing). y.0) e in cc
no_room false why v w s x e = let f : ◌≡◌ {A = Result Sent Refusal} (Err why) (Ok s) = ap (λ (y : Result Sent Refusal × Writing). y.0) e in cc

pick_at : (b : Bool) (n : ℕ) → n ≤ 1500 → pick b 0 n ≤ 1500
unfolding pick
pick_at true n h = omega arith
pick_at false n h = h

module _ (k : Kcp) (acks : List ℕ) (w : Writing) where
  abbrev held : ℕ
  held = k.acklist.waiting

  abbrev n : ℕ
  n = k.acklist.acks

  abbrev packed : List (List ℕ) × List ℕ
  packed = pack k.settings.mtu (take held w.waiting) (ack_bytes (told_of k) (acks_of acks n))

  by-packing : out_of k (packing.flush_ack_at (told_of k) k.settings.mtu acks n held w) ≡ flush_ack_at k acks w
  unfolding packing.flush_ack_at flush_ack_at
  by-packing =
      pick-ap (out_of k) (exceeds (room_of w) (map length packed.0)) (Err OutTooSmall, w) (Ok (sent (length packed.0) (length packed.1)), put_out packed w)

  pub rest-small : k.settings.mtu ≤ 1500 → held ≤ 1500 → length w.waiting ≡ 1500 → length packed.1 ≤ 1500
  rest-small m h l =
      rw (pack-rest k.settings.mtu (take held w.waiting) (ack_bytes (told_of k) (acks_of acks n)), ack-sizes (told_of k) acks 0 n)
      (rest-most k.settings.mtu 1500 m (length (take held w.waiting)) (replicate n 24) (let a = length-take-le held w.waiting (omega arith) in omega arith) (each_alike 1500 24 n (omega arith)))

  -- r is what the packing answered, v what it wrote
  module _ {t : Told} (told : t ≡ told_of k) {r : Result Sent Refusal} {v : Writing} (e : (r, v) ≡ packing.flush_ack_at t k.settings.mtu acks n held w) where
    whole : out_of k (r, v) ≡ flush_ack_at k acks w
    whole = ap (out_of k) (rw told at e) ∙ by-packing

    pub ack-refused : ((s : Sent) → r ≡ Ok s → ⊥) → ◌≡◌ {A = Out} (unsent k v OutTooSmall) (flush_ack_at k acks w)
    unfolding packing.flush_ack_at
    ack-refused f = go r refl
      where
        go : (x : Result Sent Refusal) → r ≡ x → ◌≡◌ {A = Out} (unsent k v OutTooSmall) (flush_ack_at k acks w)
        go (Ok s) h = absurd (f s h)
        go (Err why) h =
            let c : why ≡ OutTooSmall = no_room (exceeds (room_of w) (map length packed.0)) why v w (sent (length packed.0) (length packed.1)) (put_out packed w) (rw (told, h) at e) in
            rw c at (rw h at whole)

    pub ack-sent : {s : Sent} → r ≡ Ok s → ◌≡◌ {A = Out} (record { block = acked k s.waiting; answer = Ok tt; datagrams = s.datagrams; written = v }) (flush_ack_at k acks w)
    ack-sent f = rw f at whole

    -- no more bytes wait than a datagram has
    pub ack-small : {s : Sent} → r ≡ Ok s → k.settings.mtu ≤ 1500 → held ≤ 1500 → length w.waiting ≡ 1500 → s.waiting ≤ 1500
    unfolding packing.flush_ack_at
    ack-small {s} f m h l =
        let b = exceeds (room_of w) (map length packed.0) in
        let c : s.waiting ≡ pick b 0 (length packed.1) = ap rest_of (rw (told, f) at e) ∙ pick-ap rest_of b (Err OutTooSmall, w) (Ok (sent (length packed.0) (length packed.1)), put_out packed w) in
        rw c (pick_at b (length packed.1) (rest-small m h l))
