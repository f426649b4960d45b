-- The memory functions at small closed cases: three slots, of which the ring starts at the last. Assumes nothing.
use Rattle.std.specs.Prelude.{ℕ, true, false, ◌≡◌, refl, List, [], ◌∷◌, ◌++◌, replicate, Ok, Err}
use Rattle.serial.specs.Branch.{pick}
use Rattle.serial.specs.Window.{distance}
use Rattle.ring.specs.Lists.{lists}
use Rattle.ring.specs.Records.{put, part}
use Rattle.ring.specs.Places.{place, along}
use Rattle.rcv_ring.specs.Places.{payload_at}
use Rattle.rcv_ring.specs.Moves.{ring, cleared, stored_at, dropped_by}
use Rattle.rcv_ring.specs.Views.{span, kept, held_of, held_at, leading, ready_of}
use Rattle.block.specs.declared.receiver.Receiver.{Receiver}
use Rattle.block.specs.declared.refusal.Refusal.TheVariants.{UserBufTooSmall}
use Rattle.receiving.specs.Rules.{Segment, empty, expecting, longer, gives, skipped, listed, reached, message, sum, peeked, unless_longer}
use Rattle.receive.specs.Memory.{held_by, queue_by, seen, Side, side, ready_at, move_buf_at, stored_in, moved_at, push_at, acks_at, list_at, skips_at, peek_at, answer_at, message_at, freed_at, handed_at, bytes_at, recv_by, recv_at, tell_bit}

-- the window is as narrow as the ring
awaits : ℕ → ℕ → ℕ → ℕ → Receiver
awaits next start queued reach = record { rcv_nxt = next; rcv_wnd = 2; largest = 2; ring = ring start queued reach }

seg : ℕ → ℕ → List ℕ → Segment
seg n f b = record { sn = n; frg = f; payload = b }

-- old words and bytes, none of them in use
none : Side
unfolding awaits
none = side (awaits 4294967295 2 0 0) (lists (9 ∷ 4294967295 ∷ 65536 ∷ []) (replicate 4428 6))

-- number 0 comes before 4294967295, whose frg is 1: it is held at distance 1, round the end, and the word of distance 0 is cleared
early : Side
unfolding awaits
early = side (awaits 4294967295 2 0 2) (lists (196608 ∷ 4294967295 ∷ 0 ∷ []) (3 ∷ 4 ∷ replicate 4426 6))

-- 4294967295 comes, and both move to the queue, across the wrap
both : Side
unfolding awaits
both = side (awaits 1 2 2 0) (lists (196608 ∷ 4294967295 ∷ 131073 ∷ []) (3 ∷ 4 ∷ replicate 2950 6 ++ 1 ∷ replicate 1475 6))

pushes : (push_at false none.receiver none.lent (seg 0 0 (3 ∷ 4 ∷ [])) ≡ early) × (push_at false early.receiver early.lent (seg 4294967295 1 (1 ∷ [])) ≡ both)
unfolding none early both awaits seg push_at reached skipped distance pick stored_in held_at stored_at cleared place put moved_at move_buf_at ready_at ready_of leading
pushes = (refl, refl)

-- a repeat leaves all, and so does a skipped push
leaves : (push_at false early.receiver early.lent (seg 0 7 (9 ∷ [])) ≡ early) × (push_at true early.receiver early.lent (seg 4294967295 1 (1 ∷ [])) ≡ early)
unfolding early awaits seg push_at reached skipped distance pick stored_in held_at place moved_at move_buf_at ready_at ready_of leading
leaves = (refl, refl)

views : ((seen early.receiver early.lent).held ≡ seg 0 0 (3 ∷ 4 ∷ []) ∷ []) × ((seen both.receiver both.lent).queue ≡ seg 4294967295 1 (1 ∷ []) ∷ seg 0 0 (3 ∷ 4 ∷ []) ∷ [])
unfolding early both awaits seg seen held_by held_of kept queue_by span payload_at place part
views = (refl, refl)

-- the acks: the old number 0 joins a list with room, and no list that is full
acks : (acks_at false both.receiver (seg 0 0 []) 1 ≡ 2)
    × (list_at false both.receiver (seg 0 0 []) 50 1 (8 ∷ 8 ∷ 8 ∷ 8 ∷ []) ≡ 8 ∷ 8 ∷ 0 ∷ 50 ∷ [])
    × (skips_at false both.receiver (seg 0 0 []) ≡ 0)
    × (acks_at true both.receiver (seg 0 0 []) 1 ≡ 1)
    × (list_at true both.receiver (seg 0 0 []) 50 1 (8 ∷ 8 ∷ 8 ∷ 8 ∷ []) ≡ 8 ∷ 8 ∷ 8 ∷ 8 ∷ [])
    × (skips_at true both.receiver (seg 0 0 []) ≡ 1)
unfolding both awaits seg acks_at list_at skips_at listed skipped distance pick put
acks = (refl, refl, refl, refl, refl, refl)

-- one message of three bytes: too long for two; the first segment alone waits for the other
answers : (answer_at 4 early.receiver early.lent.records ≡ empty)
    × (answer_at 4 (awaits 0 2 1 1) both.lent.records ≡ expecting)
    × (answer_at 2 both.receiver both.lent.records ≡ longer)
    × (answer_at 4 both.receiver both.lent.records ≡ gives 3)
unfolding early both awaits answer_at unless_longer peek_at peeked span message sum place
answers = (refl, refl, refl, refl)

-- handed out into four bytes: the last stays, and the empty ring starts at place 0. Refused, all stays
out : (recv_at both.receiver both.lent (8 ∷ 8 ∷ 8 ∷ 8 ∷ []) ≡ record { receiver = awaits 1 0 0 0; answer = Ok 3; buf = 1 ∷ 3 ∷ 4 ∷ 8 ∷ [] })
    × (recv_at both.receiver both.lent (8 ∷ 8 ∷ []) ≡ record { receiver = both.receiver; answer = Err UserBufTooSmall; buf = 8 ∷ 8 ∷ [] })
unfolding both awaits recv_at recv_by answer_at unless_longer peek_at peeked span message sum place handed_at freed_at message_at dropped_by move_buf_at ready_at ready_of leading bytes_at put part along payload_at
out = (refl, refl)

-- the tell bit, whatever other bits are set
tells : (tell_bit 0 ≡ 2) × (tell_bit 1 ≡ 3) × (tell_bit 2 ≡ 2) × (tell_bit 7 ≡ 7)
unfolding tell_bit pick
tells = (refl, refl, refl, refl)
