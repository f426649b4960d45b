-- The law between the memory functions and the rules: what is seen in the memory afterwards, and what goes out of it, is the rule's outcome of what was
-- seen before; the ring stays sound. Assumes nothing.
use Prim.Native.Nat.{ℕ, zero, suc, ◌+◌, ◌-◌, ◌≤◌, ◌<◌, zero-le, suc-le-suc}
use native.Mathlib.Omega.{arith}
use native.Mathlib.Decide.{ℕ_discrete}
use mathlib.Core.Path.{◌≡◌, refl, sym, ap, ◌∙◌}
use mathlib.Core.Bool.{Bool, true, false, not}
use mathlib.Core.List.{List, ◌++◌, map}
use lib.ListN.{length, get_or, take, drop, length-map}
use lib.Seq.{take_at, drop_at}
use Rattle.serial.specs.Branch.{pick}
use Rattle.serial.specs.Wrap.{add32, not_before}
use Rattle.ring.specs.Places.{place}
use Rattle.ring.proofs.Places.{place-zero}
use Rattle.ring.proofs.Counting.{count_add}
use Rattle.ring.proofs.Sequences.{map_append}
use Rattle.snd_ring.specs.declared.SndRing.{SndRing}
use Rattle.snd_ring.specs.Marks.{lives}
use Rattle.snd_ring.specs.Store.{Store, flight_of, waiting_of, Sized, Sound}
use Rattle.snd_ring.specs.Store as memory
use Rattle.snd_ring.specs.Steps.{ring}
use Rattle.snd_ring.proofs.Tests.{all_live}
use Rattle.snd_ring.proofs.Views.{seen-length, seen_add, seen-kept, waiting-length}
use Rattle.block.specs.declared.sender.Sender.{Sender}
use Rattle.sending.specs.Rules.{Segment, with_flying}
use Rattle.transmit.specs.Memory.{segment_of, seen}
use Rattle.flushing.specs.declared.due.Pace.{Pace}
use Rattle.flushing.specs.Windows.{leaving}
use Rattle.flushing.specs.Pieces.{sent_out}
use Rattle.flushing.specs.Pieces as rule
use Rattle.flushing.specs.Rules.{moved_out}
use Rattle.flight.specs.Places.{places_of, Each}
use Rattle.flight.specs.Memory.{mark_in, flight_places, waiting_places, launched_over, launched_sender, launched_at, flown_over}
use Rattle.flight.proofs.Places.{Below, Once, places_each, places_below, places-apart, places-once, seen-places}
use Rattle.flight.proofs.Walks.{segments_at, flown-marks, flown-sized, flown-other, flown-seen, launched-marks, launched-sized, launched-other, launched-seen}

-- a ring is as sound where the marks are the same and the sizes agree
sound-kept : (r : SndRing) (m m' : Store) → Sound 8 r m → m'.marks ≡ m.marks → Sized 8 m' → Sound 8 r m'
sound-kept r m m' o e z = record {
  shaped = record { sized = z; inside = rw e o.shaped.inside; many = rw e o.shaped.many };
  marked = rw e o.marked;
}

-- what is seen along indices is the segments at their places
segments-seen : (m : Store) (s from n : ℕ) → map segment_of (memory.seen 8 m s from n) ≡ segments_at m (places_of (length m.marks) s from n)
segments-seen m s from n = ap (map segment_of) (seen-places 8 m s from n)

segments_by : (m m' : Store) (s from n : ℕ) → m'.marks ≡ m.marks → map segment_of (memory.seen 8 m' s from n) ≡ segments_at m' (places_of (length m.marks) s from n)
segments_by m m' s from n e = segments-seen m' s from n ∙ ap (λ (l : List ℕ). segments_at m' (places_of (length l) s from n)) e

-- ---- the walk of a flush

module _ (s : Sender) (m : Store) (o : Sound 8 s.ring m) where
  abbrev p : ℕ
  p = length m.marks

  abbrev start : ℕ
  start = s.ring.start

  inside : start < p
  inside = o.shaped.inside

  pub flight_below : Below p (flight_places s.ring m)
  flight_below = let a = o.shaped.many in places_below p start inside 0 s.ring.reach (omega arith)

  pub flight-once : Once (flight_places s.ring m)
  flight-once = let a = o.shaped.many in places-once p start inside 0 s.ring.reach (omega arith)

  pub flight-fit : Each (λ (q : ℕ). mark_in m q ≤ 1477) (flight_places s.ring m)
  flight-fit = places_each p start (λ (q : ℕ). mark_in m q ≤ 1477) 0 s.ring.reach (λ i a b. o.marked.fit i (omega arith))

  pub flight-segments : (seen s m).flying ≡ segments_at m (flight_places s.ring m)
  unfolding seen flight_of
  flight-segments = segments-seen m start 0 s.ring.reach

  module _ (pace : Pace) where
    abbrev flown : Store
    flown = flown_over pace (flight_places s.ring m) m

    flown_same : flown.marks ≡ m.marks
    flown_same = flown-marks pace (flight_places s.ring m) m

    pub flown-sound : Sound 8 s.ring flown
    flown-sound = sound-kept s.ring m flown o flown_same (flown-sized pace (flight_places s.ring m) m o.shaped.sized flight_below)

    flown-flight : map segment_of (flight_of 8 s.ring flown) ≡ map (sent_out pace) (map segment_of (flight_of 8 s.ring m))
    unfolding flight_of
    flown-flight =
        segments_by m flown start 0 s.ring.reach flown_same
        ∙ flown-seen pace (flight_places s.ring m) m o.shaped.sized flight_below flight-once
        ∙ ap (map (sent_out pace)) (sym (segments-seen m start 0 s.ring.reach))

    flown-waiting : waiting_of 8 s.ring flown ≡ waiting_of 8 s.ring m
    unfolding waiting_of
    flown-waiting =
        let a = o.shaped.many in
        seen-kept 8 m flown start s.ring.reach s.ring.unsent (ap length flown_same)
        (λ i b c. flown-other pace (flight_places s.ring m) m o.shaped.sized flight_below (place p start i) (places-apart p start inside i 0 s.ring.reach (omega arith) (omega arith) (λ d e. omega arith)))

    pub seen-flown : seen s flown ≡ with_flying (seen s m) (map (sent_out pace) (seen s m).flying)
    unfolding seen
    seen-flown = rw (flown-flight, flown-waiting)

  -- ---- the first k that wait leave the queue

  module _ (conv current rx_rto k : ℕ) (few : k ≤ s.ring.unsent) where
    abbrev reach : ℕ
    reach = s.ring.reach

    abbrev leavers : List ℕ
    leavers = waiting_places s.ring m k

    abbrev later : Store
    later = launched_over conv current rx_rto s.snd_nxt leavers m

    abbrev further : SndRing
    further = ring start (reach + k) (s.ring.flying + k) (s.ring.unsent - k)

    many : reach + k ≤ p
    many = let a = o.shaped.many in omega arith

    pub leavers-live : Each (λ (q : ℕ). mark_in m q ≡ 0 → ⊥) leavers
    leavers-live = places_each p start (λ (q : ℕ). mark_in m q ≡ 0 → ⊥) reach k (λ i a b. o.marked.waits i a (omega arith))

    pub leavers-fit : Each (λ (q : ℕ). mark_in m q ≤ 1477) leavers
    leavers-fit = places_each p start (λ (q : ℕ). mark_in m q ≤ 1477) reach k (λ i a b. o.marked.fit i (omega arith))

    pub leavers_below : Below p leavers
    leavers_below = places_below p start inside reach k many

    pub launched_same : later.marks ≡ m.marks
    launched_same = launched-marks conv current rx_rto s.snd_nxt leavers m leavers-live

    -- the ring that reaches further is sound
    all-wait : lives m.marks start reach k ≡ k
    all-wait = all_live m.marks start reach k (λ i a b. o.marked.waits i a (omega arith))

    further-sound : Sound 8 further m
    further-sound = record {
      shaped = record { sized = o.shaped.sized; inside = inside; many = let a = o.shaped.many in omega arith };
      marked = record {
        fit = λ i a. o.marked.fit i (omega arith);
        waits = λ i a b. o.marked.waits i (omega arith) (omega arith);
        counted =
            let z : 0 + reach ≡ reach = omega arith in
            let a = rw z at (count_add 1 m.marks start 0 reach k) in
            let b = o.marked.counted in
            let c = all-wait in
            omega arith;
        normal = λ a z. first (ℕ_discrete reach 0) a z;
      };
    }
      where
        first : Dec (reach ≡ 0) → 0 < reach + k → get_or m.marks start 0 ≡ 0 → ⊥
        first (yes e) a z =
            let y = place-zero p start inside in
            o.marked.waits 0 (omega arith) (omega arith) (ap (λ (q : ℕ). get_or m.marks q 0) y ∙ z)
        first (no d) a z = o.marked.normal (omega arith) z

    pub launched-sound : Sound 8 (launched_at conv current rx_rto k s m).sender.ring (launched_at conv current rx_rto k s m).store
    unfolding launched_at launched_sender
    launched-sound =
        sound-kept further m later further-sound launched_same (launched-sized conv current rx_rto s.snd_nxt leavers m leavers-live o.shaped.sized leavers_below)

    -- what stands at other indices stays
    others : (from n : ℕ) → from + n ≤ p → ((i : ℕ) → from ≤ i → i < from + n → reach ≤ i → i < reach + k → ⊥) → memory.seen 8 later start from n ≡ memory.seen 8 m start from n
    others from n h d =
        seen-kept 8 m later start from n (ap length launched_same)
        (λ i a b. launched-other conv current rx_rto s.snd_nxt leavers m leavers-live o.shaped.sized leavers_below (place p start i) (places-apart p start inside i reach k many (omega arith) (d i a b)))

    -- those that leave, and those that go on waiting
    abbrev leave : List Segment
    leave = map segment_of (memory.seen 8 m start reach k)

    abbrev stay : List Segment
    stay = map segment_of (memory.seen 8 m start (reach + k) (s.ring.unsent - k))

    parts : map segment_of (waiting_of 8 s.ring m) ≡ leave ++ stay
    unfolding waiting_of
    parts =
        let e : s.ring.unsent ≡ k + (s.ring.unsent - k) = omega arith in
        ap (λ (n : ℕ). map segment_of (memory.seen 8 m start reach n)) e
        ∙ rw (seen_add 8 m start reach k (s.ring.unsent - k)) (map_append segment_of (memory.seen 8 m start reach k) (memory.seen 8 m start (reach + k) (s.ring.unsent - k)))

    leave-length : length leave ≡ k
    leave-length = length-map (memory.seen 8 m start reach k) segment_of ∙ seen-length 8 m start reach k ∙ all-wait

    launched-flight : map segment_of (flight_of 8 further later) ≡ map segment_of (flight_of 8 s.ring m) ++ rule.numbered_from conv current rx_rto s.snd_nxt leave
    unfolding flight_of
    launched-flight =
        let z : 0 + reach ≡ reach = omega arith in
        let e =
        segments_by m later start reach k launched_same
        ∙ launched-seen conv current rx_rto s.snd_nxt leavers m leavers-live o.shaped.sized leavers_below (places-once p start inside reach k many)
        ∙ ap (rule.numbered_from conv current rx_rto s.snd_nxt) (sym (segments-seen m start reach k)) in
        rw (seen_add 8 later start 0 reach k, z, others 0 reach (omega arith) (λ i a b c d. omega arith))
        (map_append segment_of (memory.seen 8 m start 0 reach) (memory.seen 8 later start reach k) ∙ ap (λ (l : List Segment). map segment_of (memory.seen 8 m start 0 reach) ++ l) e)

    launched-waiting : map segment_of (waiting_of 8 further later) ≡ stay
    unfolding waiting_of
    launched-waiting = let a = o.shaped.many in rw (others (reach + k) (s.ring.unsent - k) (omega arith) (λ i a b c d. omega arith))

    pub leavers-seen : take k (seen s m).waiting ≡ segments_at m leavers
    unfolding seen
    leavers-seen = rw (parts, take_at leave stay k leave-length) (segments-seen m start reach k)

    -- the outcome of the rule by which k leave
    pub seen-launched : seen (launched_at conv current rx_rto k s m).sender (launched_at conv current rx_rto k s m).store
        ≡ record {
          una = s.snd_una;
          next = add32 s.snd_nxt k;
          flying = (seen s m).flying ++ rule.numbered_from conv current rx_rto s.snd_nxt (take k (seen s m).waiting);
          waiting = drop k (seen s m).waiting;
        }
    unfolding seen launched_at launched_sender
    seen-launched = rw (launched-flight, launched-waiting, parts, take_at leave stay k leave-length, drop_at leave stay k leave-length)

  -- ---- with as many as the window lets leave

  waiting-many : length (seen s m).waiting ≡ s.ring.unsent
  unfolding seen
  waiting-many = length-map (waiting_of 8 s.ring m) segment_of ∙ waiting-length 8 s.ring m o

  seen-numbers : ((seen s m).una ≡ s.snd_una) × ((seen s m).next ≡ s.snd_nxt)
  unfolding seen
  seen-numbers = (refl, refl)

  leaving-within : (limit next n : ℕ) → leaving limit next n ≤ n
  unfolding leaving pick
  leaving-within limit next zero = zero-le
  leaving-within limit next (suc n) = go (not (not_before next limit)) (leaving-within limit (add32 next 1) n)
    where
      go : (b : Bool) → leaving limit (add32 next 1) n ≤ n → pick b (suc (leaving limit (add32 next 1) n)) 0 ≤ suc n
      go true h = suc-le-suc h
      go false h = zero-le

  module _ (conv current rx_rto window k : ℕ) (e : k ≡ leaving (add32 s.snd_una window) s.snd_nxt s.ring.unsent) where
    pub leaving-few : k ≤ s.ring.unsent
    leaving-few = rw e (leaving-within (add32 s.snd_una window) s.snd_nxt s.ring.unsent)

    pub seen-moved : seen (launched_at conv current rx_rto k s m).sender (launched_at conv current rx_rto k s m).store ≡ moved_out conv current rx_rto window (seen s m)
    unfolding moved_out
    seen-moved = seen-launched conv current rx_rto k leaving-few ∙ rw (waiting-many, seen-numbers.0, seen-numbers.1, e)
