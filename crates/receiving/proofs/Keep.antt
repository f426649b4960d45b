-- Every event leaves a well-formed receive side well formed, and a push that is taken finds a slot. Assumes nothing.
use Prim.Native.Nat.{ℕ, ◌-◌, ◌*◌, ◌^◌, ◌<◌, ◌≤◌, max}
use native.Mathlib.Omega.{arith}
use mathlib.Core.Path.{◌≡◌, refl}
use mathlib.Core.Bool.{Bool, true, false, cond, not, ◌&&◌}
use lib.ListN.{length, length-append, length-take, length-drop, length-map}
use lib.Dec.{ltb}
use borrow.Author.Tests.{ltb-true, ltb-false, not-true}
use Rattle.serial.specs.Window.{distance, in_window}
use Rattle.receiving.specs.Rules.{Segment, numbers, marks, Receiving, ready, insert, is_held, moved, move_buf, skipped, reached, taken, stored, push, message, Answer, empty, expecting, longer, gives, recv_answer, freed, received, recv, too_large, widens, widened, set_window, fresh, Ordered, WellFormed}
use Rattle.receiving.specs.History.{Event, Small, event_push, event_recv, event_move, event_window, leaves, in_use}
use Rattle.receiving.proofs.Laws.{and_left, and_right, Moves, moves-ready, insert-ordered, insert-length, ordered_wider, ordered-length}

-- a window that passes leaves room for twice itself
pub small-enough : (slots v : ℕ) → widens slots v ≡ true → 2 * max v 128 ≤ slots
unfolding too_large
small-enough slots v e =
    let positive = and_left (ltb 0 v) (not (too_large slots v)) e in
    let fits = not-true (too_large slots v) (and_right (ltb 0 v) (not (too_large slots v)) e) in
    ltb-false slots (2 * max v 128) (rw positive at fits)

module _ (slots : ℕ) (r : Receiving) (w : WellFormed slots r) where
  pub well-moved : WellFormed slots (move_buf r)
  unfolding move_buf moved
  well-moved = record {
    awaited = omega arith;
    ordered = m.ordered;
    queued = let q = w.queued in let l = w.windowed in let i = m.within in rw (length-append, length-take) (omega arith);
    least = w.least;
    windowed = w.windowed;
    fits = w.fits;
  }
    where
      m : Moves r.largest r.next r.next (r.window - length r.queue) r.held (ready r.next (r.window - length r.queue) (numbers r.held))
      m = moves-ready r.largest r.next r.next (r.window - length r.queue) r.held (let a = w.awaited in omega arith) w.ordered

  pub well-freed : (n : ℕ) → WellFormed slots (freed n r)
  unfolding freed
  well-freed n = record {
    awaited = w.awaited;
    ordered = w.ordered;
    least = w.least;
    windowed = w.windowed;
    fits = w.fits;
    queued = let q = w.queued in rw length-drop (omega arith);
  }

  -- a segment in the window that is not held
  module _ (s : Segment) (small : s.sn < 2 ^ 32) (inside : in_window r.next r.window s.sn ≡ true) where
    pub insert-well : is_held s.sn (numbers r.held) ≡ false → Ordered r.next 0 r.largest (numbers (insert r.next s r.held))
    insert-well e =
        let d = ltb-true (distance r.next s.sn) r.window inside in let l = w.windowed in
        insert-ordered r.next s w.awaited small r.largest 0 r.held w.ordered (omega arith) (omega arith) e

    pub insert-room : is_held s.sn (numbers r.held) ≡ false → in_use r < slots
    unfolding in_use
    insert-room e =
        let a = ordered-length r.next r.largest 0 (numbers (insert r.next s r.held)) (insert-well e) in
        let c = length-map (insert r.next s r.held) (λ (x : Segment). x.sn) in
        let b = insert-length r.next s r.held in
        let q = w.queued in let f = w.fits in omega arith

    pub well-stored : WellFormed slots (stored s r)
    unfolding stored
    well-stored = go (is_held s.sn (numbers r.held)) refl
      where
        go : (b : Bool) → is_held s.sn (numbers r.held) ≡ b
            → WellFormed slots (cond b r (record { next = r.next; window = r.window; largest = r.largest; queue = r.queue; held = insert r.next s r.held }))
        go true e = w
        go false e = record { awaited = w.awaited; ordered = insert-well e; queued = w.queued; least = w.least; windowed = w.windowed; fits = w.fits }

  pub well-window : (v : ℕ) → WellFormed slots (set_window slots v r)
  unfolding set_window too_large widened
  well-window v = go (ltb 0 v && not (too_large slots v)) refl
    where
      go : (b : Bool) → (ltb 0 v && not (too_large slots v)) ≡ b → WellFormed slots (cond b (widened (max v 128) r) r)
      go true e =
          let f = w.fits in let q = w.queued in let l = small-enough slots v e in
          record {
            awaited = w.awaited;
            ordered = ordered_wider r.next r.largest 0 (max r.largest (max v 128)) (numbers r.held) (omega arith) w.ordered;
            queued = omega arith;
            least = omega arith;
            windowed = omega arith;
            fits = omega arith;
          }
      go false e = w

module _ (slots : ℕ) (r : Receiving) (w : WellFormed slots r) where
  pub well-push : (full : Bool) (s : Segment) → s.sn < 2 ^ 32 → WellFormed slots (push full s r)
  unfolding push reached
  well-push full s small = go (reached full r.next r.window s) refl
    where
      go : (b : Bool) → reached full r.next r.window s ≡ b → WellFormed slots (cond b (move_buf (stored s r)) r)
      go true e = well-moved slots (stored s r) (well-stored slots r w s small (and_left (in_window r.next r.window s.sn) (not (skipped full r.next r.window s)) e))
      go false e = w

  pub well-received : (a : Answer) → WellFormed slots (received a r)
  unfolding received
  well-received empty = w
  well-received expecting = w
  well-received longer = w
  well-received (gives n) = well-moved slots (freed (message (marks r.queue)) r) (well-freed slots r w (message (marks r.queue)))

  pub well_event : (c : Event) → Small c → WellFormed slots (leaves slots c r)
  unfolding leaves recv
  well_event (event_push full s) small = well-push full s small
  well_event (event_recv room) small = well-received (recv_answer room r)
  well_event event_move small = well-moved slots r w
  well_event (event_window v) small = well-window slots r w v

  -- no push is turned away for want of a slot
  pub well-room : (full : Bool) (s : Segment) → s.sn < 2 ^ 32 → taken full r s ≡ true → in_use r < slots
  unfolding taken reached
  well-room full s small t =
      let both = and_left (reached full r.next r.window s) (not (is_held s.sn (numbers r.held))) t in
      insert-room slots r w s small (and_left (in_window r.next r.window s.sn) (not (skipped full r.next r.window s)) both)
      (not-true (is_held s.sn (numbers r.held)) (and_right (reached full r.next r.window s) (not (is_held s.sn (numbers r.held))) t))

pub well-fresh : (slots : ℕ) → 256 ≤ slots → WellFormed slots fresh
unfolding fresh
well-fresh slots h = record { awaited = omega arith; ordered = omega arith; queued = omega arith; least = omega arith; windowed = omega arith; fits = omega arith }
