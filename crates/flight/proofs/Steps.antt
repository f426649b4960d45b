-- What the steps of the code find and leave, in the words of `specs/Memory.antt`. Assumes nothing.
use Prim.Native.Nat.{ℕ, zero, suc, ◌+◌, ◌-◌, ◌/◌, ◌≤◌, ◌<◌, min}
use native.Mathlib.Omega.{arith}
use mathlib.Core.Path.{◌≡◌, refl, sym, ap, ◌∙◌}
use mathlib.Core.Bool.{true, ◌&&◌}
use mathlib.Core.List.{List, [], ◌∷◌, ◌++◌}
use lib.ListN.{length, get_or}
use lib.Dec.{ltb}
use borrow.Author.Tests.{lt-ltb}
use Rattle.serial.specs.Branch.{pick}
use Rattle.serial.specs.Wrap.{add32, sub32}
use Rattle.ring.specs.Lists.{lists}
use Rattle.ring.specs.Places.{place}
use Rattle.ring.specs.Records.{number_at}
use Rattle.ring.proofs.Counting.{count_le}
use Rattle.snd_ring.specs.Store.{Store, store_of}
use Rattle.snd_ring.specs.Steps.{ring}
use Rattle.snd_ring.proofs.Marks.{by-live}
use Rattle.snd_ring.proofs.Splits.{marks-length, mark-read}
use Rattle.block.specs.declared.sender.Sender.{Sender}
use Rattle.transmit.specs.Memory.{resendts, side}
use Rattle.transmit.specs.Fits.{Lies}
use Rattle.transmit.proofs.Numbers.{rows-room}
use Rattle.flushing.specs.Due.{numbered}
use Rattle.flushing.specs.Clocks.{nearest, tm_packet}
use Rattle.flight.specs.declared.Runs.{Runs}
use Rattle.flight.specs.declared.Reckoning.{Reckoning}
use Rattle.flight.specs.Places.{places_of, run_of, over, Covers}
use Rattle.flight.specs.Memory.{record_in, renewed_at, launched_over, launched_sender, launched_at, resendts_at, resendts_over, reckoned_of}
use Rattle.flight.proofs.Places.{over_append, places-next, places-end, run-next, run_end, run_all}
use Rattle.flight.proofs.Walks.{launched-first, launched_none}
use Rattle.flight.proofs.Out.{resendts-first, resendts-gap, resendts-live}

-- ---- the places that the code counts by `slots` are those of the memory

module _ (a : List ℕ) {slots : ℕ} (e : slots ≡ length a / 9) (room : List ℕ) (start from n : ℕ) where
  pub places_by : places_of (length (store_of 8 (lists a room)).marks) start from n ≡ places_of slots start from n
  places_by = ap (λ (p : ℕ). places_of p start from n) (marks-length 8 (lists a room) ∙ sym e)

  -- as the runs that cover them
  pub runs_by : {r : Runs} → Covers slots start from n r → places_of (length (store_of 8 (lists a room)).marks) start from n ≡ run_of r.from (r.to - r.from) ++ run_of 0 (r.rest - 0)
  runs_by {r} c = places_by ∙ c.places ∙ ap (λ (l : List ℕ). run_of r.from (r.to - r.from) ++ l) (sym (run_all r.rest))

-- the mark that is read at place q
pub mark-at : (a : List ℕ) (q : ℕ) → q < length a / 9 → (room : List ℕ) → get_or a q 0 ≡ get_or (store_of 8 (lists a room)).marks q 0
mark-at a q h room = mark-read 8 a room q 0 h

-- ---- `launch`

-- no more are in flight than the indices
pub flying-few : {s : Sender} {a : List ℕ} → Lies s a → s.ring.flying ≤ s.ring.reach
flying-few {s} {a} l =
    let e = l.sound.marked.counted in
    let h = count_le 1 (store_of 8 (lists a l.room)).marks s.ring.start 0 s.ring.reach in
    omega arith

module _ (conv current rx_rto : ℕ) (p s from k i sn : ℕ) (m : Store) where
  abbrev left : ℕ → ℕ → Store → Store
  left i sn m = launched_over conv current rx_rto sn (places_of p s (from + i) (k - i)) m

  pub launch-next : i < k → {q : ℕ} → (q ≡ place p s (from + i)) × (q < p) → {x : ℕ} → x ≡ add32 sn 1 → {n : Store}
      → n ≡ renewed_at m q (numbered conv sn current rx_rto (record_in m q)) → left (i + 1) x n ≡ left i sn m
  launch-next h e f g =
      rw (places-next p s from k i h, launched-first conv current rx_rto sn (place p s (from + i)) (places_of p s (from + (i + 1)) (k - (i + 1))) m, g, f, e.0)

  pub launch-end : k ≤ i → left i sn m ≡ m
  launch-end h = rw (places-end p s from k i h) (launched_none conv current rx_rto sn m)

pub launch_all : (conv current rx_rto p s from k sn : ℕ) (m : Store) → launched_over conv current rx_rto sn (places_of p s (from + 0) (k - 0)) m ≡ launched_over conv current rx_rto sn (places_of p s from k) m
launch_all conv current rx_rto p s from k sn m = let e : from + 0 ≡ from = omega arith in let f : k - 0 ≡ k = omega arith in rw (e, f)

pub launch-done : (conv current rx_rto k : ℕ) (s : Sender) (a room : List ℕ) {m : Store}
    → m ≡ launched_over conv current rx_rto s.snd_nxt (places_of (length a / 9) s.ring.start s.ring.reach k) (store_of 8 (lists a room)) → {x : ℕ} → x ≡ add32 s.snd_nxt k
    → side (record { snd_una = s.snd_una; snd_nxt = x; ring = ring s.ring.start (s.ring.reach + k) (s.ring.flying + k) (s.ring.unsent - k); xmit = s.xmit; dead = s.dead }) m
    ≡ launched_at conv current rx_rto k s (store_of 8 (lists a room))
unfolding launched_at launched_sender
launch-done conv current rx_rto k s a room f g = rw (f, g, places_by a refl room s.ring.start s.ring.reach k)

-- ---- `tm_packet`

module _ (current : ℕ) where
  tm_append : (x y : List ℕ) (tm : ℕ) → tm_packet current (x ++ y) tm ≡ tm_packet current y (tm_packet current x tm)
  unfolding tm_packet
  tm_append [] y tm = refl
  tm_append (n ∷ x) y tm = tm_append x y (nearest current n tm)

  -- at the end of the wait or later, and not past
  later-stays : current < 4294967296 → (resendts tm : ℕ) {x : ℕ} → x ≡ sub32 resendts (add32 current tm) → x < 2147483648 - tm → nearest current resendts tm ≡ tm
  unfolding nearest pick
  later-stays k resendts tm {x} e h =
      let w : sub32 resendts current ≡ x + tm = omega arith in
      rw (w, lt-ltb (x + tm) 2147483648 (omega arith)) (of (x + tm) tm (omega arith))
    where
      of : (wait tm : ℕ) → tm ≤ wait → pick (ltb 0 wait && true) (min wait tm) 0 ≡ tm
      of zero tm h = omega arith
      of (suc n) tm h = rw (lt-ltb 0 (suc n) (omega arith)) (omega arith)

  module _ (a : List ℕ) (q : ℕ) (h : q < length a / 9) (tm : ℕ) where
    pub tm-gap : get_or a q 0 ≡ 0 → (room : List ℕ) → tm ≡ tm_packet current (resendts_at (store_of 8 (lists a room)) q) tm
    unfolding tm_packet
    tm-gap z room = rw (resendts-gap (store_of 8 (lists a room)) q (sym (mark-at a q h room) ∙ z))

    pub tm-live : (get_or a q 0 ≡ 0 → ⊥) → {x : ℕ} → x ≡ number_at 8 (store_of 8 (lists a [])).rows q resendts → {r : ℕ} → r ≡ nearest current x tm
        → (room : List ℕ) → r ≡ tm_packet current (resendts_at (store_of 8 (lists a room)) q) tm
    unfolding tm_packet record_in
    tm-live z f g room = rw (resendts-live (store_of 8 (lists a room)) q (λ y. z (mark-at a q h room ∙ y)), g, f, rows-room a [] room)

    -- a segment that is to be resent then, gap or not
    tm-later : current < 4294967296 → {x : ℕ} → x ≡ number_at 8 (store_of 8 (lists a [])).rows q resendts → {y : ℕ} → y ≡ sub32 x (add32 current tm) → y < 2147483648 - tm
        → (room : List ℕ) → tm ≡ tm_packet current (resendts_at (store_of 8 (lists a room)) q) tm
    tm-later k {x} f g n room = by-live (get_or a q 0) (λ z _. tm-gap z room) (λ z _. tm-live z f (sym (later-stays k x tm g n)) room)

    pub step_stays : current < 4294967296 → {w : Reckoning} → w ≡ reckoned_of current tm → {x : ℕ} → x ≡ number_at 8 (store_of 8 (lists a [])).rows q resendts → {y : ℕ} → y ≡ sub32 x w.until → y < w.ahead
        → (room : List ℕ) → w ≡ reckoned_of current (tm_packet current (resendts_at (store_of 8 (lists a room)) q) tm)
    step_stays k {w} d {x} f {y} g n room =
        let u = ap (λ (v : Reckoning). v.ahead) d in
        d ∙ ap (reckoned_of current) (tm-later k f (g ∙ ap (λ (v : Reckoning). sub32 x v.until) d) (omega arith) room)

  module _ (m : Store) where
    pub tm-next : (q to tm : ℕ) → q < to → {x : ℕ} → x ≡ tm_packet current (resendts_at m q) tm
        → tm_packet current (resendts_over (run_of (q + 1) (to - (q + 1))) m) x ≡ tm_packet current (resendts_over (run_of q (to - q)) m) tm
    tm-next q to tm h e = rw (run-next q to h, resendts-first q (run_of (q + 1) (to - (q + 1))) m, tm_append (resendts_at m q), e)

    pub tm-end : (q to tm : ℕ) → to ≤ q → tm_packet current (resendts_over (run_of q (to - q)) m) tm ≡ tm
    unfolding tm_packet resendts_over over
    tm-end q to tm h = rw (run_end q to h)

    pub tm_both : (x y : List ℕ) (tm : ℕ) {u v : ℕ} → u ≡ tm_packet current (resendts_over x m) tm → v ≡ tm_packet current (resendts_over y m) u → v ≡ tm_packet current (resendts_over (x ++ y) m) tm
    unfolding resendts_over
    tm_both x y tm e f = rw (over_append (resendts_at m) x y, tm_append (over (resendts_at m) x)) (f ∙ rw e)
