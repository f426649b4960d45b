-- What the receive side does over any sequence of calls (demand 3): the events of the receive side, what each does, and the record `Sound` of
-- all that holds afterwards. Assumes nothing.
use Rattle.std.specs.Prelude.{ℕ, ◌+◌, ◌-◌, ◌*◌, ◌^◌, ◌%◌, ◌<◌, ◌≤◌, max, ◌≡◌, Bool, true, cond, List, [], ◌∷◌, ◌++◌, length, take, get_or, eqb}
use Rattle.std.proofs.Math.Option.{Option, none, some}
use Rattle.serial.specs.Window.{distance}
use Rattle.receiving.specs.Rules.{Segment, numbers, Receiving, move_buf, taken, push, recv_answer, given, recv, set_window, fresh}

-- what a call of the block does to the receive side; a call may do several of these, or none
pub data Event : Type 0 where
  event_push : Bool → Segment → Event
  event_recv : ℕ → Event
  event_move : Event
  event_window : ℕ → Event

-- a push's number has 32 bits, as that of any header that was read
abbrev pub Small : Event → Type 0
Small (event_push full s) = s.sn < 2 ^ 32
Small (event_recv room) = Unit {0}
Small event_move = Unit {0}
Small (event_window w) = Unit {0}

abbrev pub AllSmall : List Event → Type 0
AllSmall [] = Unit {0}
AllSmall (c ∷ events) = Small c × AllSmall events

-- a push that was taken, and its place
pub record Taken : Type 0 where
  pub place : ℕ
  pub segment : Segment

-- "A taken push has place p + d, where p counts segments ever moved to the queue"
unfoldable pub placed : ℕ → ℕ → List Segment → List Taken
placed p next [] = []
placed p next (s ∷ l) = record { place = p + distance next s.sn; segment = s } ∷ placed p next l

-- the receive side, and what happened: the pushes taken and the segments handed out, oldest first; how many segments ever moved to the queue;
-- and the largest receive window that was in force
pub record Past : Type 0 where
  pub now : Receiving
  pub pushes : List Taken
  pub handed : List Segment
  pub moves : ℕ
  pub peak : ℕ

-- the push that an event takes
unfoldable pub takes : Event → Receiving → List Segment
takes (event_push full s) r = cond (taken full r s) (s ∷ []) []
takes (event_recv room) r = []
takes event_move r = []
takes (event_window w) r = []

-- the segments that it hands out
unfoldable pub hands : Event → Receiving → List Segment
hands (event_push full s) r = []
hands (event_recv room) r = take (given (recv_answer room r) r) r.queue
hands event_move r = []
hands (event_window w) r = []

module _ (slots : ℕ) where
  unfoldable pub leaves : Event → Receiving → Receiving
  leaves (event_push full s) r = push full s r
  leaves (event_recv room) r = recv room r
  leaves event_move r = move_buf r
  leaves (event_window w) r = set_window slots w r

  -- what was held or came in and is no longer held has moved to the queue
  unfoldable pub step : Past → Event → Past
  step h c = record {
    now = leaves c h.now;
    pushes = h.pushes ++ placed h.moves h.now.next (takes c h.now);
    handed = h.handed ++ hands c h.now;
    moves = h.moves + length (takes c h.now) + length h.now.held - length (leaves c h.now).held;
    peak = max h.peak (leaves c h.now).window;
  }

  unfoldable pub run_from : Past → List Event → Past
  run_from h [] = h
  run_from h (c ∷ events) = run_from (step h c) events

-- nothing has happened yet
unfoldable pub begun : Past
begun = record { now = fresh; pushes = []; handed = []; moves = 0; peak = fresh.window }

-- the first push taken for place k
unfoldable pub first : ℕ → List Taken → Option Segment
first k [] = none
first k (t ∷ pushes) = let rest = first k pushes in cond (eqb t.place k) (some t.segment) rest

unfoldable pub in_use : Receiving → ℕ
in_use r = length r.queue + length r.held

unfoldable pub none-segment : Segment
none-segment = record { sn = 0; frg = 0; payload = [] }

-- how far the i-th held segment lies past the next number awaited
unfoldable pub distance_at : Receiving → ℕ → ℕ
distance_at r i = distance r.next (get_or (numbers r.held) i 0)

-- demand 3
pub record Sound (slots : ℕ) (h : Past) : Type 0 where
  -- held segments stand in strictly rising order of distance, each inside the largest window in force so far
  pub rising : (i j : ℕ) → i < j → j < length h.now.held → distance_at h.now i < distance_at h.now j
  pub inside : (i : ℕ) → i < length h.now.held → distance_at h.now i < h.peak
  -- the k-th segment handed out carries number k modulo 2^32, and is the first push taken for that place
  pub number : (k : ℕ) → k < length h.handed → (get_or h.handed k none-segment).sn ≡ k % 2 ^ 32
  pub first_taken : (k : ℕ) → k < length h.handed → first k h.pushes ≡ some (get_or h.handed k none-segment)
  -- the block keeps that window
  pub kept : h.now.largest ≡ h.peak
  -- p: every segment that ever moved to the queue is in it or was handed out
  pub counted : h.moves ≡ length h.handed + length h.now.queue
  -- slots in use equal pushes taken less segments handed out, and never pass twice that window
  pub total : in_use h.now + length h.handed ≡ length h.pushes
  pub twice : in_use h.now ≤ 2 * h.peak
  -- so no push is turned away for want of a slot
  pub room : (full : Bool) (s : Segment) → s.sn < 2 ^ 32 → taken full h.now s ≡ true → in_use h.now < slots
