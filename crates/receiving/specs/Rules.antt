-- The receive side's rules over lists of segments: 01's Push, `move_buf`, recv and peeksize, the window setter, and refusals 5, 6, 7 and 14.
-- Every decision is a function of numbers, lists of numbers and the segment that came, so that the functions over memory make the same. Assumes nothing.
use Rattle.std.specs.Prelude.{ℕ, suc, zero, ◌+◌, ◌-◌, ◌*◌, ◌^◌, ◌≤◌, ◌<◌, max, Bool, false, cond, not, ◌&&◌, ◌||◌, List, [], ◌∷◌, ◌++◌, map, length, take, drop, ltb, leb, eqb}
use Rattle.serial.specs.Wrap.{add32}
use Rattle.serial.specs.Window.{distance, in_window, acknowledged}
use Rattle.ring.specs.Sequences.{inserted}

pub record Segment : Type 0 where
  pub sn : ℕ
  pub frg : ℕ
  pub payload : List ℕ

-- the next number awaited, the receive window and the largest yet set, the queue, and the held segments
pub record Receiving : Type 0 where
  pub next : ℕ
  pub window : ℕ
  pub largest : ℕ
  pub queue : List Segment
  pub held : List Segment

abbrev pub numbers : List Segment → List ℕ
numbers l = map (λ (s : Segment). s.sn) l

abbrev pub marks : List Segment → List ℕ
marks l = map (λ (s : Segment). s.frg) l

abbrev pub sizes : List Segment → List ℕ
sizes l = map (λ (s : Segment). length s.payload) l

abbrev pub payloads : List Segment → List (List ℕ)
payloads l = map (λ (s : Segment). s.payload) l

-- ---- "held segments then move to the queue while the front is rcv_nxt and the queue is shorter than rcv_wnd; `move_buf` does this alone"

-- how many of the held numbers move, with room in the queue for so many
unfoldable pub ready : ℕ → ℕ → List ℕ → ℕ
ready next zero held = 0
ready next (suc room) [] = 0
ready next (suc room) (n ∷ held) = let more = ready (add32 next 1) room held in cond (eqb n next) (suc more) 0

-- the first n held segments move
unfoldable pub moved : ℕ → Receiving → Receiving
moved n r = record {
  next = add32 r.next n;
  window = r.window;
  largest = r.largest;
  queue = r.queue ++ take n r.held;
  held = drop n r.held;
}

unfoldable pub move_buf : Receiving → Receiving
move_buf r = moved (ready r.next (r.window - length r.queue) (numbers r.held)) r

-- ---- a push; `full` says whether the ack list is full

-- "Where it would be acknowledged and the ack list is full, it is skipped"
unfoldable pub skipped : Bool → ℕ → ℕ → Segment → Bool
skipped full next window s = acknowledged next window s.sn && full

-- "Otherwise, if acknowledged, (sn, ts) joins the list"
unfoldable pub listed : Bool → ℕ → ℕ → Segment → Bool
listed full next window s = acknowledged next window s.sn && not (skipped full next window s)

-- whether sn is held
unfoldable pub is_held : ℕ → List ℕ → Bool
is_held sn [] = false
is_held sn (n ∷ held) = eqb n sn || is_held sn held

-- "Unless the push was skipped, whenever d < rcv_wnd"
unfoldable pub reached : Bool → ℕ → ℕ → Segment → Bool
reached full next window s = in_window next window s.sn && not (skipped full next window s)

-- "with d < rcv_wnd and sn not held the push is *taken*"
unfoldable pub taken : Bool → Receiving → Segment → Bool
taken full r s = reached full r.next r.window s && not (is_held s.sn (numbers r.held))

-- "and stored in order": behind as many of the held numbers, from the front, as lie no farther than d
unfoldable pub nearer : ℕ → ℕ → List ℕ → ℕ
nearer next d [] = 0
nearer next d (n ∷ held) = let more = nearer next d held in cond (ltb d (distance next n)) 0 (suc more)

unfoldable pub insert : ℕ → Segment → List Segment → List Segment
insert next s held = inserted held (nearer next (distance next s.sn) (numbers held)) s

unfoldable pub stored : Segment → Receiving → Receiving
stored s r = cond (is_held s.sn (numbers r.held)) r
    (record { next = r.next; window = r.window; largest = r.largest; queue = r.queue; held = insert r.next s r.held })

unfoldable pub push : Bool → Segment → Receiving → Receiving
push full s r = cond (reached full r.next r.window s) (move_buf (stored s r)) r

-- ---- "recv joins segments from the queue front up to the first frg 0 or the queue's end"

-- how many segments that is, by their fragment marks
unfoldable pub message : List ℕ → ℕ
message [] = 0
message (f ∷ queue) = let more = message queue in cond (eqb f 0) 1 (suc more)

-- their bytes, end to end
unfoldable pub joined : List (List ℕ) → List ℕ
joined [] = []
joined (x ∷ l) = x ++ joined l

-- how many bytes those are
unfoldable pub sum : List ℕ → ℕ
sum [] = 0
sum (x ∷ l) = x + sum l

-- refusals 5, 6 and 7, or a length
pub data Answer : Type 0 where
  empty : Answer
  expecting : Answer
  longer : Answer
  gives : ℕ → Answer

-- "6 | front frg > 0 and queue shorter than frg + 1", "frg + 1 is a whole number here: 255 asks for 256 segments"
abbrev pub expects : ℕ → ℕ → Bool
expects frg queued = ltb 0 frg && ltb queued (frg + 1)

-- "5 | recv or peeksize, queue empty"; "It answers the message's length, as peeksize does": by the marks and the sizes of the queue
unfoldable pub peeked : List ℕ → List ℕ → Answer
peeked [] sizes = empty
peeked (f ∷ marks) sizes = cond (expects f (suc (length marks))) expecting (gives (sum (take (message (f ∷ marks)) sizes)))

unfoldable pub peek : List Segment → Answer
peek queue = peeked (marks queue) (sizes queue)

-- "7 | message longer than the buffer"
unfoldable pub unless_longer : ℕ → Answer → Answer
unless_longer room empty = empty
unless_longer room expecting = expecting
unless_longer room longer = longer
unless_longer room (gives n) = cond (ltb room n) longer (gives n)

unfoldable pub recv_answer : ℕ → Receiving → Answer
recv_answer room r = unless_longer room (peek r.queue)

-- how many segments an answer hands out
unfoldable pub given : Answer → Receiving → ℕ
given empty r = 0
given expecting r = 0
given longer r = 0
given (gives n) r = message (marks r.queue)

-- "it frees their slots": the queue without its first n
unfoldable pub freed : ℕ → Receiving → Receiving
freed n r = record { next = r.next; window = r.window; largest = r.largest; queue = drop n r.queue; held = r.held }

-- "moves held segments"
unfoldable pub received : Answer → Receiving → Receiving
received empty r = r
received expecting r = r
received longer r = r
received (gives n) r = move_buf (freed (message (marks r.queue)) r)

unfoldable pub recv : ℕ → Receiving → Receiving
recv room r = received (recv_answer room r) r

-- "and sets the tell bit if the queue was at or over rcv_wnd and now is under"
abbrev pub tells : ℕ → ℕ → ℕ → Bool
tells window before after = leb window before && ltb after window

-- ---- the window setter, with the lent slots; "14 | rcvwnd > 0 and 2·max(rcvwnd, 128) > R | both windows as they were"

-- the window that a setter asks for: at least 128
abbrev pub wanted : ℕ → ℕ
wanted rcvwnd = max rcvwnd 128

unfoldable pub too_large : ℕ → ℕ → Bool
too_large slots rcvwnd = ltb 0 rcvwnd && ltb slots (2 * wanted rcvwnd)

-- a number of 0 asks for nothing
abbrev pub widens : ℕ → ℕ → Bool
widens slots rcvwnd = ltb 0 rcvwnd && not (too_large slots rcvwnd)

unfoldable pub widened : ℕ → Receiving → Receiving
widened w r = record { next = r.next; window = w; largest = max r.largest w; queue = r.queue; held = r.held }

unfoldable pub set_window : ℕ → ℕ → Receiving → Receiving
set_window slots rcvwnd r = cond (widens slots rcvwnd) (widened (wanted rcvwnd) r) r

-- ---- a fresh receive side, and a well-formed one

unfoldable pub fresh : Receiving
fresh = record { next = 0; window = 128; largest = 128; queue = []; held = [] }

-- "held numbers rising as in demand 3": the distances of the numbers l rise strictly, from lo up to, not including, hi
abbrev pub Ordered : ℕ → ℕ → ℕ → List ℕ → Type 0
Ordered next lo hi [] = lo ≤ hi
Ordered next lo hi (n ∷ l) = (lo ≤ distance next n) × (n < 2 ^ 32) × Ordered next (suc (distance next n)) hi l

pub record WellFormed (slots : ℕ) (r : Receiving) : Type 0 where
  pub awaited : r.next < 2 ^ 32
  pub ordered : Ordered r.next 0 r.largest (numbers r.held)
  pub queued : length r.queue ≤ r.largest
  pub least : 128 ≤ r.window
  pub windowed : r.window ≤ r.largest
  pub fits : 2 * r.largest ≤ slots
