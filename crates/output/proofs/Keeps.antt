-- What flush and update leave of a block as it was; and where nothing goes out, the sending side and the ack memory too. Assumes nothing.
use Prim.Native.Nat.{ℕ, zero, suc, ◌+◌, ◌≤◌, ◌<◌, ◌^◌}
use native.Mathlib.Omega.{arith}
use mathlib.Core.Path.{◌≡◌, refl, sym, ap, ◌∙◌, subst}
use mathlib.Core.Bool.{Bool, true, false}
use mathlib.Core.List.{List, [], ◌∷◌, map}
use lib.ListN.{length}
use lib.Seq.{length-take-le}
use lib.Dec.{ltb}
use Rattle.serial.specs.Branch.{pick}
use Rattle.snd_ring.specs.Store.{Store, Sound}
use Rattle.block.specs.declared.Kcp.{Kcp}
use Rattle.block.specs.declared.congestion.Congestion.{Congestion}
use Rattle.block.specs.declared.refusal.Refusal.{Refusal}
use Rattle.block.specs.declared.refusal.Refusal.TheVariants.{OutTooSmall}
use Rattle.block.specs.Parts.{with_clock}
use Rattle.transmit.specs.Memory.{Side}
use Rattle.flushing.specs.declared.clock.Tick.{Tick}
use Rattle.flushing.specs.declared.due.Tally.{Tally}
use Rattle.flushing.specs.Pack.{sum_of}
use Rattle.flushing.specs.Windows.{resent_fast, timed_out, at_least_one, congestion_after}
use Rattle.flushing.specs.Rules.{exceeds, flushed}
use Rattle.flushing.proofs.Packing.{all-sum}
use Rattle.packing.specs.Front.{front_sizes}
use Rattle.packing.specs.FlushAck.{Writing, room_of}
use Rattle.flight.specs.Memory.{launched_sender, launched_at}
use Rattle.output.specs.Memory.{outgoing, unsent, plan_of, moved_at, sizes_at, uncounted, tally_at, settled_by, after_flush, FlushOut, flush_at, turn_at}
use Rattle.output.proofs.Found.{lengths-found, settled-found}
use Rattle.output.proofs.Still.{parts, moved, counted}

pub record Kept (k b : Kcp) : Type 0 where
  pub settings : b.settings ≡ k.settings
  pub estimator : b.estimator ≡ k.estimator
  pub receiver : b.receiver ≡ k.receiver
  pub interval : b.clock.interval ≡ k.clock.interval
  pub own : b.congestion.snd_wnd ≡ k.congestion.snd_wnd
  pub peer : b.congestion.rmt_wnd ≡ k.congestion.rmt_wnd
  pub una : b.sender.snd_una ≡ k.sender.snd_una
  pub start : b.sender.ring.start ≡ k.sender.ring.start

pub record Same (k b : Kcp) : Type 0 where
  pub sender : b.sender ≡ k.sender
  pub acklist : b.acklist ≡ k.acklist

abbrev pub Keeps : Kcp → FlushOut → Type 0
Keeps k o = Kept k o.out.block × (o.out.datagrams ≡ 0 → Same k o.out.block)

-- a choice, each side with what was found
pub either : {A : Type 0} (P : A → Type 0) (t : Bool) {a b : A} → (t ≡ true → P a) → (t ≡ false → P b) → P (pick t a b)
unfolding pick
either P true f g = f refl
either P false f g = g refl

pub keeps_all : (k : Kcp) (w : Writing) (why : Refusal) (m : Store) → Keeps k (record { out = unsent k w why; store = m })
keeps_all k w why m =
    (record { settings = refl; estimator = refl; receiver = refl; interval = refl; own = refl; peer = refl; una = refl; start = refl }, λ e. record { sender = refl; acklist = refl })

-- ---- the windows of congestion keep the own and the peer's

abbrev Windows : Congestion → Congestion → Type 0
Windows c d = (d.snd_wnd ≡ c.snd_wnd) × (d.rmt_wnd ≡ c.rmt_wnd)

after-keeps : (mss inflight resent window : ℕ) (change lost : Bool) (c : Congestion) → Windows c (congestion_after mss inflight resent window change lost c)
unfolding congestion_after resent_fast timed_out at_least_one
after-keeps mss inflight resent window change lost c =
    let d = pick change (resent_fast mss inflight resent c) c in
    let x : Windows c d = either (Windows c) change (λ e. (refl, refl)) (λ e. (refl, refl)) in
    let y : Windows c (pick lost (timed_out mss window d) d) = either (Windows c) lost (λ e. x) (λ e. x) in
    either (Windows c) (ltb (pick lost (timed_out mss window d) d).cwnd 1) (λ e. y) (λ e. y)

-- ---- a flush of the block b

no-acks : (n bits : ℕ) → sum_of (front_sizes n bits) ≡ 0 → n ≡ 0
unfolding front_sizes sum_of
no-acks zero bits e = refl
no-acks (suc n) bits e = absurd (omega arith)

nothing : (l : List (List ℕ)) → length l ≡ 0 → map length l ≡ []
nothing [] e = refl
nothing (x ∷ l) e = absurd (omega arith)

module _ (b : Kcp) (m : Store) (acks waiting : List ℕ) (o : Sound 8 b.sender.ring m) (wide : b.acklist.waiting ≤ length waiting) where
  abbrev after : Kcp
  after = settled_by b (moved_at b m).sender (tally_at b m)

  kept : Kept b after
  unfolding launched_at launched_sender
  kept =
      let w = after-keeps _ _ _ _ _ _ b.congestion in
      record { settings = refl; estimator = refl; receiver = refl; interval = refl; own = w.0; peer = w.1; una = refl; start = refl }

  module _ (next : b.sender.snd_nxt < 2 ^ 32) (none : length (flushed (outgoing b m acks waiting)).datagrams ≡ 0) where
    empty : b.acklist.waiting + sum_of (sizes_at b m) ≡ 0
    unfolding sum_of
    empty =
        sym (all-sum b.settings.mtu b.acklist.waiting (sizes_at b m))
        ∙ ap sum_of (sym (rw (length-take-le b.acklist.waiting waiting wide) at (lengths-found b m acks waiting o)) ∙ nothing (flushed (outgoing b m acks waiting)).datagrams none)

    same-sender : after.sender ≡ b.sender
    same-sender =
        ap (λ (t : Tally). (settled_by b (moved_at b m).sender t).sender) (counted b m acks waiting o next empty)
        ∙ ap (λ (s : Side). (settled_by b s.sender (uncounted b)).sender) (moved b m acks waiting o next empty)

    same-acklist : after.acklist ≡ b.acklist
    same-acklist =
        let e = empty in
        let a : b.acklist.acks ≡ 0 = no-acks b.acklist.acks (plan_of b).probe.bits (parts b m acks waiting o next empty).0 in
        let h : b.acklist.waiting ≡ 0 = omega arith in
        ap (λ (n : ℕ). record { acks = n; waiting = 0 }) (sym a) ∙ ap (λ (n : ℕ). record { acks = b.acklist.acks; waiting = n }) (sym h)

-- ---- a turn of the block k

module _ (t : Tick) (k : Kcp) (m : Store) (acks : List ℕ) (w : Writing) (same : t.clock.interval ≡ k.clock.interval) (o : Sound 8 k.sender.ring m) (wide : k.acklist.waiting ≤ length w.waiting) (next : k.sender.snd_nxt < 2 ^ 32) where
  abbrev now : Kcp
  now = with_clock k t.clock

  found : settled_by now (moved_at now m).sender (tally_at now m) ≡ after_flush now (moved_at now m).sender.ring (flushed (outgoing now m acks w.waiting)).after
  found = settled-found now m acks w.waiting o

  by-clock : {b : Kcp} → Kept now b → Kept k b
  by-clock e = record { settings = e.settings; estimator = e.estimator; receiver = e.receiver; interval = e.interval ∙ same; own = e.own; peer = e.peer; una = e.una; start = e.start }

  flush-keeps : Keeps k (flush_at k now m acks w)
  unfolding flush_at
  flush-keeps =
      either (Keeps k) (exceeds (room_of w) (map length (flushed (outgoing now m acks w.waiting)).datagrams)) (λ e. keeps_all k w OutTooSmall m)
      (λ e. (subst (Kept k) found (by-clock (kept now m acks w.waiting o wide)), λ z. subst (Same k) found (record { sender = same-sender now m acks w.waiting o wide next z; acklist = same-acklist now m acks w.waiting o wide next z })))

  pub turn-keeps : Keeps k (turn_at t k m acks w)
  unfolding turn_at
  turn-keeps =
      either (Keeps k) t.flushes (λ e. flush-keeps)
      (λ e. (record { settings = refl; estimator = refl; receiver = refl; interval = same; own = refl; peer = refl; una = refl; start = refl }, λ z. record { sender = refl; acklist = refl }))
