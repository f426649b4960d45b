-- The rule and the memory function of send at closed cases. Assumes nothing.
use Rattle.std.specs.Prelude.{ℕ, ◌+◌, ◌*◌, true, false, ◌≡◌, refl, List, [], ◌∷◌, ◌++◌, map, replicate, Ok, Err}
use Rattle.serial.specs.Branch.{pick}
use Rattle.ring.specs.Counting.{at_least}
use Rattle.ring.specs.Places.{place, along}
use Rattle.ring.specs.Records.{put, part}
use Rattle.snd_ring.specs.declared.SndRing.{SndRing}
use Rattle.snd_ring.specs.Store.{Store, store, cell, seen as seen_along, flight_of, waiting_of}
use Rattle.snd_ring.specs.Steps.{ring, written, settled, slid_one, slid, closed, closed_ring, filled as filled_in}
use Rattle.block.specs.declared.sender.Sender.{Sender}
use Rattle.block.specs.declared.refusal.Refusal.TheVariants.{UserBufTooBig, SendPoolFull}
use Rattle.sending.specs.Rules.{Segment, Sending}
use Rattle.sending.specs.Send.{fills, joins, pieces, needed, too_big, pool_full, fits, verdict, waits, cut, last_of, filled, queued, left_by, send}
use Rattle.transmit.specs.Memory.{Side, seen}
use Rattle.send.specs.Memory.{last_length, queued_at, spaced_at, verdict_at, filled_at, sent_at, left_at, send_at, answer_at}

-- ---- by numbers

-- "mss 1376: send of 1376 gives one segment, 1377 two (frg 1, 0); 174,752 gives 127; 174,753 refused by 8"
counts : (needed 1376 false 0 0 1376 ≡ 1) × (needed 1376 false 0 0 1377 ≡ 2) × (needed 1376 false 0 0 174752 ≡ 127) × (needed 1376 false 0 0 174753 ≡ 128)
unfolding needed joins fills pieces pick
counts = (refl, refl, refl, refl)

marks : (bytes : List ℕ) → map (λ (s : Segment). s.frg) (cut 1376 false 2 bytes) ≡ 1 ∷ 0 ∷ []
unfolding cut pick
marks bytes = refl

-- "8 before 12", and 12 by one slot
refusals : (verdict 128 0 ≡ too_big) × (verdict 128 1024 ≡ too_big) × (verdict 127 126 ≡ pool_full) × (verdict 127 127 ≡ fits)
unfolding verdict pick
refusals = (refl, refl, refl, refl)

-- "Empty send: plain queues one empty segment, stream queues none"
empties : (needed 1376 false 0 0 0 ≡ 1) × (needed 1376 true 0 0 0 ≡ 0) × (needed 1376 true 1 1000 0 ≡ 0)
unfolding needed joins fills pieces pick
empties = (refl, refl, refl)

-- in stream mode what is left after the fill counts: 127, and 128 by one byte more; a segment longer than the mss is not filled
afters : (needed 1376 true 1 1000 (376 + 127 * 1376) ≡ 127) × (needed 1376 true 1 1000 (377 + 127 * 1376) ≡ 128) × (fills 76 true 1 1000 ≡ false) × (joins 76 true 1 1000 80 ≡ 0)
unfolding needed joins fills pieces pick
afters = (refl, refl, refl, refl)

-- ---- the rule

with : List Segment → Sending
with l = record { una = 5; next = 9; flying = waits 3 (8 ∷ []) ∷ []; waiting = l }

empty-sends : (send 1376 false [] (with []) 1 ≡ with (waits 0 [] ∷ [])) × (send 1376 true [] (with []) 1 ≡ with [])
unfolding send left_by verdict queued filled needed joins fills pieces cut last_of pick with
empty-sends = (refl, refl)

-- cut at 2: frg 2, 1, 0; in stream mode the last queued one, whose frg was 7, is filled first, and every frg is 0
cuts : (send 2 false (1 ∷ 2 ∷ 3 ∷ 4 ∷ 5 ∷ []) (with (waits 7 (6 ∷ []) ∷ [])) 3
    ≡ with (waits 7 (6 ∷ []) ∷ waits 2 (1 ∷ 2 ∷ []) ∷ waits 1 (3 ∷ 4 ∷ []) ∷ waits 0 (5 ∷ []) ∷ []))
    × (send 2 true (1 ∷ 2 ∷ 3 ∷ 4 ∷ []) (with (waits 7 (6 ∷ []) ∷ [])) 2 ≡ with (waits 0 (6 ∷ 1 ∷ []) ∷ waits 0 (2 ∷ 3 ∷ []) ∷ waits 0 (4 ∷ []) ∷ []))
unfolding send left_by verdict queued filled needed joins fills pieces cut last_of pick with
cuts = (refl, refl)

-- 12 leaves all, also what would have been filled; 8 leaves the fill
refused : (send 2 true (1 ∷ 2 ∷ 3 ∷ 4 ∷ []) (with (waits 7 (6 ∷ []) ∷ [])) 1 ≡ with (waits 7 (6 ∷ []) ∷ []))
    × (send 2 true (replicate 256 1) (with (waits 7 (6 ∷ []) ∷ [])) 1 ≡ with (waits 0 (6 ∷ 1 ∷ []) ∷ []))
    × (send 2 false (replicate 256 1) (with (waits 7 (6 ∷ []) ∷ [])) 1 ≡ with (waits 7 (6 ∷ []) ∷ []))
unfolding send left_by verdict queued filled needed joins fills pieces cut last_of pick with
refused = (refl, refl, refl)

-- ---- the memory: three slots with old contents, none in use, and the ring starts at place 2

empty : Store
empty = store (7 ∷ 8 ∷ 9 ∷ []) (replicate 24 5) (replicate 4428 6)

side_of : SndRing → Sender
side_of r = record { snd_una = 0; snd_nxt = 0; ring = r; xmit = 0; dead = false }

-- three bytes cut at 2, at places 2 and 0
two : Side
two = send_at 2 false (1 ∷ 2 ∷ 3 ∷ []) (side_of (ring 2 0 0 0)) empty

two_is : (two.sender.ring ≡ ring 2 0 0 2) × (two.store.marks ≡ 2 ∷ 8 ∷ 3 ∷ [])
    × (two.store.rows ≡ 0 ∷ 0 ∷ 0 ∷ 0 ∷ 0 ∷ 0 ∷ 0 ∷ 0 ∷ 5 ∷ 5 ∷ 5 ∷ 5 ∷ 5 ∷ 5 ∷ 5 ∷ 5 ∷ 0 ∷ 1 ∷ 0 ∷ 0 ∷ 0 ∷ 0 ∷ 0 ∷ 0 ∷ [])
    × (answer_at 2 false (1 ∷ 2 ∷ 3 ∷ []) (side_of (ring 2 0 0 0)) empty ≡ Ok 3)
unfolding two answer_at send_at left_at verdict_at verdict sent_at filled_at last_length spaced_at queued_at written put place needed joins fills pieces cut pick empty side_of
two_is = (refl, refl, refl, refl)

-- what is seen in it: frg 1, 0
two-seen : (seen two.sender two.store).waiting ≡ waits 1 (1 ∷ 2 ∷ []) ∷ waits 0 (3 ∷ []) ∷ []
unfolding two seen waiting_of seen_along along cell part send_at left_at verdict_at verdict sent_at filled_at last_length spaced_at queued_at written put place needed joins fills pieces cut pick empty side_of
two-seen = refl

-- in stream mode a byte joins the second, and one goes to place 1; two more bytes than that find no slot, and all is as it was; 8 leaves the fill
three : ((seen (send_at 2 true (4 ∷ 5 ∷ []) two.sender two.store).sender (send_at 2 true (4 ∷ 5 ∷ []) two.sender two.store).store).waiting
    ≡ waits 1 (1 ∷ 2 ∷ []) ∷ waits 0 (3 ∷ 4 ∷ []) ∷ waits 0 (5 ∷ []) ∷ [])
    × (answer_at 2 true (4 ∷ 5 ∷ 6 ∷ 7 ∷ []) two.sender two.store ≡ Err SendPoolFull)
    × ((send_at 2 true (4 ∷ 5 ∷ 6 ∷ 7 ∷ []) two.sender two.store).store.marks ≡ two.store.marks)
    × (answer_at 2 true (replicate 256 4) two.sender two.store ≡ Err UserBufTooBig)
    × ((send_at 2 true (replicate 256 4) two.sender two.store).store.marks ≡ 3 ∷ 8 ∷ 3 ∷ [])
unfolding two answer_at seen waiting_of seen_along along cell part send_at left_at verdict_at verdict sent_at filled_at filled_in last_length spaced_at queued_at written put place needed joins fills pieces cut pick empty side_of
three = (refl, refl, refl, refl, refl)

-- ---- four slots: from place 3 on a segment, a gap and a segment in flight, and one that waits

four : Store
four = store (0 ∷ 2 ∷ 1 ∷ 3 ∷ []) (replicate 32 5) (replicate 1476 1 ++ (replicate 1476 2 ++ (replicate 1476 3 ++ replicate 1476 4)))

full : Sender
full = side_of (ring 3 3 2 1)

-- the end is too short for one more, so the gap is closed: the first segment is at place 0 now, and the new one at place 3
closes : ((send_at 2 false (8 ∷ 9 ∷ []) full four).sender.ring ≡ ring 0 2 2 2)
    × ((send_at 2 false (8 ∷ 9 ∷ []) full four).store.marks ≡ 3 ∷ 2 ∷ 1 ∷ 3 ∷ [])
    × (map (λ (s : Segment). s.payload) (seen (send_at 2 false (8 ∷ 9 ∷ []) full four).sender (send_at 2 false (8 ∷ 9 ∷ []) full four).store).flying ≡ (4 ∷ 4 ∷ []) ∷ (2 ∷ []) ∷ [])
    × (map (λ (s : Segment). s.payload) (seen (send_at 2 false (8 ∷ 9 ∷ []) full four).sender (send_at 2 false (8 ∷ 9 ∷ []) full four).store).waiting ≡ [] ∷ (8 ∷ 9 ∷ []) ∷ [])
unfolding answer_at seen flight_of waiting_of seen_along along cell part send_at left_at verdict_at verdict sent_at filled_at last_length spaced_at closed_ring closed settled slid slid_one at_least queued_at written put place needed joins fills pieces cut pick four full side_of
closes = (refl, refl, refl, refl)

-- two more: 12, and the gap is not closed. Where nothing waits a place behind and the gap are free: two segments fit, and three do not
gaps : (answer_at 2 false (8 ∷ 9 ∷ 8 ∷ []) full four ≡ Err SendPoolFull) × ((send_at 2 false (8 ∷ 9 ∷ 8 ∷ []) full four).store.marks ≡ four.marks)
    × (answer_at 1 false (8 ∷ 9 ∷ []) (side_of (ring 3 3 2 0)) four ≡ Ok 2)
    × ((send_at 1 false (8 ∷ 9 ∷ []) (side_of (ring 3 3 2 0)) four).sender.ring ≡ ring 0 2 2 2)
    × (answer_at 1 false (8 ∷ 9 ∷ 8 ∷ []) (side_of (ring 3 3 2 0)) four ≡ Err SendPoolFull)
unfolding answer_at send_at left_at verdict_at verdict sent_at filled_at last_length spaced_at closed_ring closed settled slid slid_one at_least queued_at written put place needed joins fills pieces cut pick four full side_of
gaps = (refl, refl, refl, refl, refl)
