-- Demand 3: every sequence of events from a fresh receive side is sound. Assumes nothing.
use Prim.Native.Nat.{ℕ, suc, ◌+◌, ◌-◌, ◌^◌, ◌%◌, ◌<◌, ◌≤◌, max}
use native.Mathlib.Omega.{arith}
use native.Mathlib.Nat.{zero-add}
use mathlib.Core.Path.{◌≡◌, refl, ap, ◌∙◌}
use mathlib.Core.Bool.{Bool, true, false, cond, not, ◌&&◌}
use mathlib.Core.List.{List, [], ◌∷◌, ◌++◌, append_assoc, append-nil}
use lib.ListN.{length, take, drop, length-append, length-take, length-drop, length-map, get_or-append, take-append-drop}
use lib.Dec.{ltb}
use Rattle.serial.specs.Window.{in_window}
use Rattle.receiving.specs.Rules.{Segment, numbers, marks, Receiving, ready, insert, is_held, moved, move_buf, skipped, reached, taken, stored, push, message, Answer, empty, expecting, longer, gives, recv_answer, given, freed, received, recv, too_large, widened, set_window, fresh, WellFormed}
use Rattle.receiving.specs.History.{Event, Small, AllSmall, event_push, event_recv, event_move, event_window, Taken, placed, first, Past, takes, hands, leaves, step, run_from, begun, in_use, none-segment, distance_at, Sound}
use Rattle.receiving.proofs.Laws.{and_left, Numbered, standing, numbered_append, standing_append, numbered_at, standing_at, ordered-length, ordered-high, ordered-rising, Moves, moves-ready, or_else_assoc, first_append, insert-first, insert-length}
use Rattle.receiving.proofs.Keep.{well-stored, well-freed, well_event, well-room, well-fresh}

-- all segments that came, with their places: those of `done` reached the queue, and those of `held` wait
unfoldable pub layout : List Segment → ℕ → List Segment → List Taken
layout done next held = standing 0 done ++ placed (length done) next held

-- what is kept of the pushes taken and the segments handed out
pub record Holds (r : Receiving) (pushes : List Taken) (handed : List Segment) : Type 0 where
  pub awaited : r.next ≡ length (handed ++ r.queue) % 2 ^ 32
  pub numbered : Numbered 0 (handed ++ r.queue)
  pub same : (k : ℕ) → first k pushes ≡ first k (layout (handed ++ r.queue) r.next r.held)
  pub total : length r.queue + length r.held + length handed ≡ length pushes

module _ (slots : ℕ) (r : Receiving) (pushes : List Taken) (handed : List Segment) (w : WellFormed slots r) (t : Holds r pushes handed) where
  abbrev p : ℕ
  p = length (handed ++ r.queue)

  holds-moved : Holds (move_buf r) pushes handed
  unfolding move_buf moved layout
  holds-moved = record {
    awaited = let a = t.awaited in let s = size in rw (← append_assoc handed r.queue (take n r.held)) (omega arith);
    numbered = rw (← append_assoc handed r.queue (take n r.held)) (numbered_append 0 (handed ++ r.queue) (take n r.held) t.numbered (rw zero-add m.numbered));
    same = λ k. t.same k ∙ ap (first k) (rw (m.places, ← append_assoc handed r.queue (take n r.held), standing_append 0 (handed ++ r.queue) (take n r.held), zero-add, size, append_assoc));
    total = let s = t.total in let e = m.enough in rw (length-append, length-take, length-drop) (omega arith);
  }
    where
      n : ℕ
      n = ready r.next (r.window - length r.queue) (numbers r.held)

      m : Moves r.largest p r.next (r.window - length r.queue) r.held n
      m = moves-ready r.largest p r.next (r.window - length r.queue) r.held t.awaited w.ordered

      size : length (handed ++ r.queue ++ take n r.held) ≡ length (handed ++ r.queue) + n
      size = let e = m.enough in rw (length-append, length-take) (omega arith)

  holds-freed : (n : ℕ) → Holds (freed n r) pushes (handed ++ take n r.queue)
  unfolding freed
  holds-freed n = record {
    awaited = rw together t.awaited;
    numbered = rw together t.numbered;
    same = λ k. rw together (t.same k);
    total = let s = t.total in rw (length-append, length-take, length-drop) (omega arith);
  }
    where
      together : handed ++ take n r.queue ++ drop n r.queue ≡ handed ++ r.queue
      together = rw (append_assoc, take-append-drop)

  holds-joined : (s : Segment) → s.sn < 2 ^ 32 → is_held s.sn (numbers r.held) ≡ false → (k : ℕ)
      → first k (pushes ++ placed p r.next (s ∷ [])) ≡ first k (layout (handed ++ r.queue) r.next (insert r.next s r.held))
  unfolding layout
  holds-joined s small e k =
      first_append k pushes (placed p r.next (s ∷ []))
      ∙ rw (t.same k, first_append, or_else_assoc, first_append, insert-first r.next s w.awaited small r.largest p k 0 r.held w.ordered e)

  holds-stored : (s : Segment) → s.sn < 2 ^ 32 → Holds (stored s r) (pushes ++ placed p r.next (cond (not (is_held s.sn (numbers r.held))) (s ∷ []) [])) handed
  unfolding stored placed
  holds-stored s small = go (is_held s.sn (numbers r.held)) refl
    where
      with-s : Receiving
      with-s = record { next = r.next; window = r.window; largest = r.largest; queue = r.queue; held = insert r.next s r.held }

      go : (b : Bool) → is_held s.sn (numbers r.held) ≡ b → Holds (cond b r with-s) (pushes ++ placed p r.next (cond (not b) (s ∷ []) [])) handed
      go true e = rw append-nil t
      go false e = record {
        awaited = t.awaited;
        numbered = t.numbered;
        same = holds-joined s small e;
        total = let a = t.total in let b = insert-length r.next s r.held in rw length-append (omega arith);
      }

  holds-window : (v : ℕ) → Holds (set_window slots v r) pushes handed
  unfolding set_window widened
  holds-window v = go (ltb 0 v && not (too_large slots v))
    where
      go : (b : Bool) → Holds (cond b (widened (max v 128) r) r) pushes handed
      go true = record { awaited = t.awaited; numbered = t.numbered; same = t.same; total = t.total }
      go false = t

module _ (slots : ℕ) (r : Receiving) (pushes : List Taken) (handed : List Segment) (w : WellFormed slots r) (t : Holds r pushes handed) where
  holds-push : (full : Bool) (s : Segment) → s.sn < 2 ^ 32
      → Holds (push full s r) (pushes ++ placed (length (handed ++ r.queue)) r.next (cond (taken full r s) (s ∷ []) [])) handed
  unfolding push taken reached placed
  holds-push full s small = go (reached full r.next r.window s) refl
    where
      go : (b : Bool) → reached full r.next r.window s ≡ b
          → Holds (cond b (move_buf (stored s r)) r) (pushes ++ placed (length (handed ++ r.queue)) r.next (cond (b && not (is_held s.sn (numbers r.held))) (s ∷ []) [])) handed
      go true e =
          holds-moved slots (stored s r) (pushes ++ placed (length (handed ++ r.queue)) r.next (cond (not (is_held s.sn (numbers r.held))) (s ∷ []) [])) handed
          (well-stored slots r w s small (and_left (in_window r.next r.window s.sn) (not (skipped full r.next r.window s)) e))
          (holds-stored slots r pushes handed w t s small)
      go false e = rw append-nil t

  holds-received : (a : Answer) → Holds (received a r) pushes (handed ++ take (given a r) r.queue)
  unfolding received given
  holds-received empty = rw append-nil t
  holds-received expecting = rw append-nil t
  holds-received longer = rw append-nil t
  holds-received (gives n) =
      holds-moved slots (freed (message (marks r.queue)) r) pushes (handed ++ take (message (marks r.queue)) r.queue)
      (well-freed slots r w (message (marks r.queue))) (holds-freed slots r pushes handed w t (message (marks r.queue)))

  holds_event : (c : Event) → Small c → Holds (leaves slots c r) (pushes ++ placed (length (handed ++ r.queue)) r.next (takes c r)) (handed ++ hands c r)
  unfolding leaves takes hands placed recv
  holds_event (event_push full s) small = rw (append-nil handed) (holds-push full s small)
  holds_event (event_recv room) small = rw (append-nil pushes) (holds-received (recv_answer room r))
  holds_event event_move small = rw (append-nil pushes, append-nil handed) (holds-moved slots r pushes handed w t)
  holds_event (event_window v) small = rw (append-nil pushes, append-nil handed) (holds-window slots r pushes handed w t v)

-- the largest window kept is the largest that was in force
module _ (slots : ℕ) (r : Receiving) (w : WellFormed slots r) where
  peak_event : (c : Event) → (leaves slots c r).largest ≡ max r.largest (leaves slots c r).window
  unfolding leaves move_buf moved recv received freed push stored set_window widened
  peak_event (event_push full s) = go (reached full r.next r.window s) (is_held s.sn (numbers r.held))
    where
      put : Bool → Receiving
      put c = cond c r (record { next = r.next; window = r.window; largest = r.largest; queue = r.queue; held = insert r.next s r.held })

      go : (b c : Bool) → (cond b (move_buf (put c)) r).largest ≡ max r.largest (cond b (move_buf (put c)) r).window
      go true true = let l = w.windowed in omega arith
      go true false = let l = w.windowed in omega arith
      go false c = let l = w.windowed in omega arith
  peak_event (event_recv room) = go (recv_answer room r)
    where
      go : (a : Answer) → (received a r).largest ≡ max r.largest (received a r).window
      go empty = let l = w.windowed in omega arith
      go expecting = let l = w.windowed in omega arith
      go longer = let l = w.windowed in omega arith
      go (gives n) = let l = w.windowed in omega arith
  peak_event event_move = let l = w.windowed in omega arith
  peak_event (event_window v) = go (ltb 0 v && not (too_large slots v))
    where
      go : (b : Bool) → (cond b (widened (max v 128) r) r).largest ≡ max r.largest (cond b (widened (max v 128) r) r).window
      go true = refl
      go false = let l = w.windowed in omega arith

-- ---- over any events

length-placed : (p next : ℕ) (l : List Segment) → length (placed p next l) ≡ length l
unfolding placed
length-placed p next [] = refl
length-placed p next (s ∷ l) = ap suc (length-placed p next l)

module _ (slots : ℕ) where
  -- what every event keeps, so that a history of the block's calls can take it step by step
  pub record Inv (h : Past) : Type 0 where
    pub well : WellFormed slots h.now
    pub holds : Holds h.now h.pushes h.handed
    pub counted : h.moves ≡ length (h.handed ++ h.now.queue)
    pub peak : h.now.largest ≡ h.peak

  pub inv-step : (h : Past) (c : Event) → Small c → Inv h → Inv (step slots h c)
  unfolding step
  inv-step h c small i =
      let q : ℕ = length (h.handed ++ h.now.queue) in
      let t = holds_event slots h.now h.pushes h.handed i.well i.holds c small in
      record {
        well = well_event slots h.now i.well c small;
        holds = rw i.counted t;
        counted =
            let before = i.holds.total in let after = t.total in let k = i.counted in
            let e = length-append h.pushes (placed q h.now.next (takes c h.now)) in
            let f = length-placed q h.now.next (takes c h.now) in
            let a = length-append h.handed h.now.queue in
            let b = length-append (h.handed ++ hands c h.now) (leaves slots c h.now).queue in
            omega arith;
        peak = rw (← i.peak) (peak_event slots h.now i.well c);
      }

  pub inv-begun : 256 ≤ slots → Inv begun
  unfolding begun layout standing placed fresh
  inv-begun b = record {
    well = well-fresh slots b;
    holds = record { awaited = refl; numbered = tt; same = λ k. refl; total = refl };
    counted = refl;
    peak = refl;
  }

  pub inv-well : (h : Past) → Inv h → WellFormed slots h.now
  inv-well h i = i.well

  pub inv-run : (events : List Event) → AllSmall events → (h : Past) → Inv h → Inv (run_from slots h events)
  unfolding run_from
  inv-run [] small h i = i
  inv-run (c ∷ events) small h i = inv-run events small.1 (step slots h c) (inv-step h c small.0 i)

  pub inv-sound : (h : Past) → Inv h → Sound slots h
  unfolding in_use distance_at layout
  inv-sound h i = record {
    rising = λ a b l u. ordered-rising h.now.next h.now.largest 0 (numbers h.now.held) 0 i.well.ordered a b l (rw length-map u);
    inside = λ a u. rw (← i.peak) (ordered-high h.now.next h.now.largest 0 (numbers h.now.held) 0 i.well.ordered a (rw length-map u));
    number = λ k b. let e = numbered_at 0 (h.handed ++ h.now.queue) none-segment i.holds.numbered k (far k b) in rw (← get_or-append h.handed h.now.queue none-segment k b) (omega arith);
    first_taken = λ k b. i.holds.same k ∙ rw (first_append, (rw zero-add at (standing_at 0 (h.handed ++ h.now.queue) none-segment k (far k b))), get_or-append h.handed h.now.queue none-segment k b);
    kept = i.peak;
    counted = i.counted ∙ length-append h.handed h.now.queue;
    total = i.holds.total;
    twice = let q = i.well.queued in let o = ordered-length h.now.next h.now.largest 0 (numbers h.now.held) i.well.ordered in
        let m = length-map h.now.held (λ (x : Segment). x.sn) in let k = i.peak in omega arith;
    room = well-room slots h.now i.well;
  }
    where
      far : (k : ℕ) → k < length h.handed → k < length (h.handed ++ h.now.queue)
      far k b = rw length-append (omega arith)

  -- demand 3
  pub sound : 256 ≤ slots → (events : List Event) → AllSmall events → Sound slots (run_from slots begun events)
  sound b events small = inv-sound (run_from slots begun events) (inv-run events small begun (inv-begun b))
