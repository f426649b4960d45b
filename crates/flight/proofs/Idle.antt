-- What does not go out changes nothing: no row, and nothing that is counted; and where none leaves the queue, all stays. Assumes nothing.
use Prim.Native.Nat.{ℕ, zero, suc, ◌+◌, ◌-◌, ◌<◌, ◌^◌}
use native.Mathlib.Omega.{arith}
use mathlib.Core.Path.{◌≡◌, refl, sym, ap, ◌∙◌}
use mathlib.Core.Bool.{Bool, true, false}
use mathlib.Core.List.{List, [], ◌∷◌}
use lib.ListN.{length}
use Rattle.serial.specs.Branch.{pick}
use Rattle.serial.specs.Wrap.{add32}
use Rattle.snd_ring.specs.Store.{Store, Sized}
use Rattle.snd_ring.proofs.Marks.{by-live}
use Rattle.block.specs.declared.sender.Sender.{Sender}
use Rattle.transmit.specs.Memory.{side}
use Rattle.flushing.specs.declared.due.Pace.{Pace}
use Rattle.flushing.specs.declared.due.Due.{Due}
use Rattle.flushing.specs.declared.due.Due.TheVariants.{Idle, Fresh, TimedOut, Fast}
use Rattle.flushing.specs.declared.due.Tally.{Tally}
use Rattle.flushing.specs.Due.{due_of, sent_as, flown_by, goes_out, with_sent}
use Rattle.flushing.specs.Pack.{sum_of}
use Rattle.flushing.proofs.Packing.{sum_append}
use Rattle.flight.specs.Places.{places_of}
use Rattle.flight.specs.Memory.{record_in, mark_in, launched_sender, launched_at, flown_at, flown_over, tallied_at, tally_over, goes_at, size_in, size_at, sizes_over, fresh_sizes}
use Rattle.flight.proofs.Places.{Below, places_none}
use Rattle.flight.proofs.Rows.{renewed_same}
use Rattle.flight.proofs.Walks.{flown-gap, flown-live, flown_none, flown-first, launched_none}
use Rattle.flight.proofs.Out.{goes-live, sizes-first, tally_none, tally-first, tallied-gap, tallied-live}

-- ---- one place

idle-due : (d : Due) → goes_out d ≡ false → d ≡ Idle
idle-due Idle h = refl
idle-due Fresh h = cc
idle-due TimedOut h = cc
idle-due Fast h = cc

-- of a segment that is idle, and of a gap
module _ (pace : Pace) (m : Store) (q : ℕ) (z : (mark_in m q ≡ 0 → ⊥) → goes_out (due_of pace (record_in m q)) ≡ false) where
  idle-row : due_of pace (record_in m q) ≡ Idle → (flown_by pace (record_in m q)).after ≡ record_in m q
  unfolding flown_by sent_as
  idle-row d = rw d

  idle-count : due_of pace (record_in m q) ≡ Idle → (dead_link xmit : ℕ) (t : Tally) → with_sent dead_link (due_of pace (record_in m q)) xmit t ≡ t
  unfolding with_sent
  idle-count d dead_link xmit t = rw d

  pub flown-idle : Sized 8 m → q < length m.marks → flown_at pace m q ≡ m
  flown-idle s h =
      by-live (mark_in m q) (λ y _. flown-gap pace m q y)
      (λ y _. flown-live pace m q y ∙ rw (idle-row (idle-due (due_of pace (record_in m q)) (z y))) (renewed_same m s q h))

  pub tallied-idle : (dead_link : ℕ) (t : Tally) → tallied_at dead_link pace m q t ≡ t
  tallied-idle dead_link t =
      by-live (mark_in m q) (λ y _. tallied-gap dead_link pace m q t y)
      (λ y _. tallied-live dead_link pace m q t y ∙ idle-count (idle-due (due_of pace (record_in m q)) (z y)) dead_link _ t)

-- ---- places of which none has a size

no_size : (t : Bool) (n : ℕ) → 0 < n → sum_of (pick t (n ∷ []) []) ≡ 0 → t ≡ false
unfolding pick sum_of
no_size true n h e = absurd (omega arith)
no_size false n h e = refl

module _ (pace : Pace) where
  none-goes : (m : Store) (q : ℕ) → sum_of (size_at pace m q) ≡ 0 → (mark_in m q ≡ 0 → ⊥) → goes_out (due_of pace (record_in m q)) ≡ false
  unfolding size_at
  none-goes m q e h = sym (goes-live pace m q h) ∙ no_size (goes_at pace m q) (size_in m q) (omega arith) e

  module _ (m : Store) (q : ℕ) (qs : List ℕ) (e : sum_of (sizes_over pace (q ∷ qs) m) ≡ 0) where
    parts : (sum_of (size_at pace m q) ≡ 0) × (sum_of (sizes_over pace qs m) ≡ 0)
    parts = let s = sym (sum_append (size_at pace m q) (sizes_over pace qs m)) ∙ ap sum_of (sym (sizes-first pace q qs m)) ∙ e in (omega arith, omega arith)

  pub flown-stays : (qs : List ℕ) (m : Store) → Sized 8 m → Below (length m.marks) qs → sum_of (sizes_over pace qs m) ≡ 0 → flown_over pace qs m ≡ m
  flown-stays [] m s b e = flown_none pace m
  flown-stays (q ∷ qs) m s b e =
      flown-first pace q qs m
      ∙ rw (flown-idle pace m q (none-goes m q (parts m q qs e).0) s b.0) (flown-stays qs m s b.1 (parts m q qs e).1)

  pub tally-stays : (dead_link : ℕ) (qs : List ℕ) (m : Store) (t : Tally) → Sized 8 m → Below (length m.marks) qs → sum_of (sizes_over pace qs m) ≡ 0 → tally_over dead_link pace qs m t ≡ t
  tally-stays dead_link [] m t s b e = tally_none dead_link pace m t
  tally-stays dead_link (q ∷ qs) m t s b e =
      let z = none-goes m q (parts m q qs e).0 in
      tally-first dead_link pace q qs m t
      ∙ rw (flown-idle pace m q z s b.0, tallied-idle pace m q z dead_link t) (tally-stays dead_link qs m t s b.1 (parts m q qs e).1)

-- ---- none leaves the queue

pub none-fresh : (p s from k : ℕ) (m : Store) → sum_of (fresh_sizes (places_of p s from k) m) ≡ 0 → k ≡ 0
unfolding places_of sum_of
none-fresh p s from zero m e = refl
none-fresh p s from (suc k) m e = absurd (omega arith)

pub launched-stays : (conv current rx_rto : ℕ) (s : Sender) (m : Store) → s.snd_nxt < 2 ^ 32 → launched_at conv current rx_rto 0 s m ≡ side s m
unfolding launched_at launched_sender
launched-stays conv current rx_rto s m h =
    let n : add32 s.snd_nxt 0 ≡ s.snd_nxt = omega arith in
    let r : s.ring.reach + 0 ≡ s.ring.reach = omega arith in
    let f : s.ring.flying + 0 ≡ s.ring.flying = omega arith in
    let u : s.ring.unsent - 0 ≡ s.ring.unsent = omega arith in
    rw (places_none (length m.marks) s.ring.start s.ring.reach, launched_none conv current rx_rto s.snd_nxt m, n, r, f, u)
