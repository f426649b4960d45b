-- The rules at work: 01's starred rows on a push, messages by their marks, the window setter, and a history that is computed. Assumes nothing.
use Rattle.std.specs.Prelude.{ℕ, ◌≡◌, refl, Bool, true, false, List, [], ◌∷◌}
use Rattle.serial.specs.Window.{distance, acknowledged}
use Rattle.ring.specs.Sequences.{inserted}
use Rattle.receiving.specs.Rules.{Segment, Receiving, ready, moved, move_buf, skipped, listed, is_held, reached, taken, nearer, insert, stored, push, message, sum, empty, expecting, gives, peeked, peek, unless_longer, recv_answer, given, freed, received, recv, tells, too_large, widened, set_window, fresh}
use Rattle.receiving.specs.History.{Event, event_push, event_recv, event_move, event_window, placed, takes, hands, leaves, step, run_from, begun}

at : ℕ → Receiving
at n = record { next = n; window = 128; largest = 128; queue = []; held = [] }

seg : ℕ → ℕ → ℕ → Segment
seg n f b = record { sn = n; frg = f; payload = b ∷ [] }

-- whether a push is acknowledged, and whether it is taken
verdict : ℕ → ℕ → List Bool
verdict n sn = acknowledged n 128 sn ∷ taken false (at n) (seg sn 0 7) ∷ []

-- "rcv_nxt 4294967290, window 128: sn 121 taken, 122 neither acked nor taken, 4294967289 acked only"; and at rcv_nxt 0 the border 2^31 + 128
rows : (verdict 4294967290 121 ≡ true ∷ true ∷ [])
    × (verdict 4294967290 122 ≡ false ∷ false ∷ [])
    × (verdict 4294967290 4294967289 ≡ true ∷ false ∷ [])
    × (verdict 0 2147483775 ≡ false ∷ false ∷ [])
    × (verdict 0 2147483776 ≡ true ∷ false ∷ [])
unfolding verdict seg at taken reached skipped distance is_held
rows = (refl, refl, refl, refl, refl)

-- with the ack list full the same push is skipped: no ack, not stored; and one that would get no ack is not skipped
full : (skipped true 4294967290 128 (seg 121 0 7) ≡ true)
    × (listed true 4294967290 128 (seg 121 0 7) ≡ false)
    × (taken true (at 4294967290) (seg 121 0 7) ≡ false)
    × (listed false 4294967290 128 (seg 121 0 7) ≡ true)
    × (skipped true 4294967290 128 (seg 122 0 7) ≡ false)
unfolding seg at taken reached skipped listed distance is_held
full = (refl, refl, refl, refl, refl)

-- "frg + 1 is a whole number here: 255 asks for 256 segments"; without a frg 0 a message has the whole queue, and else it ends there
messages : (peeked (255 ∷ 0 ∷ []) (1 ∷ 1 ∷ []) ≡ expecting)
    × (peeked (1 ∷ 5 ∷ 3 ∷ []) (10 ∷ 20 ∷ 30 ∷ []) ≡ gives 60)
    × (message (1 ∷ 5 ∷ 3 ∷ []) ≡ 3)
    × (peeked (2 ∷ 0 ∷ 7 ∷ []) (10 ∷ 20 ∷ 30 ∷ []) ≡ gives 30)
    × (message (2 ∷ 0 ∷ 7 ∷ []) ≡ 2)
    × (peeked [] [] ≡ empty)
    × (peeked (0 ∷ []) (0 ∷ []) ≡ gives 0)
unfolding peeked message sum
messages = (refl, refl, refl, refl, refl, refl, refl)

-- "sets the tell bit if the queue was at or over rcv_wnd and now is under"
tell : (tells 128 128 127 ≡ true) × (tells 128 130 128 ≡ false) × (tells 128 127 126 ≡ false)
tell = (refl, refl, refl)

-- of 256 slots a window of 128 is the largest; 0 asks for nothing, and less than 128 is raised to it
windows : (set_window 256 128 (at 7) ≡ at 7)
    × ((set_window 258 129 (at 7)).window ≡ 129)
    × ((set_window 258 129 (at 7)).largest ≡ 129)
    × (set_window 256 129 (at 7) ≡ at 7)
    × (too_large 256 129 ≡ true)
    × (set_window 256 1 (at 7) ≡ at 7)
    × (too_large 256 1 ≡ false)
    × (set_window 258 0 (at 7) ≡ at 7)
unfolding set_window too_large widened at
windows = (refl, refl, refl, refl, refl, refl, refl, refl)

-- 2, then 0 twice with other payloads, a recv that finds a fragment missing, 1, skipped and then taken, and two recvs, the first with too small a buffer
events : List Event
unfolding seg
events =
    event_push false (seg 2 0 12)
    ∷ event_push false (seg 0 1 10)
    ∷ event_push false (seg 0 1 99)
    ∷ event_recv 100
    ∷ event_push true (seg 1 0 98)
    ∷ event_push false (seg 1 0 11)
    ∷ event_recv 1
    ∷ event_recv 2
    ∷ []

history : ((run_from 256 begun events).handed ≡ seg 0 1 10 ∷ seg 1 0 11 ∷ [])
    × ((run_from 256 begun events).now.queue ≡ seg 2 0 12 ∷ [])
    × ((run_from 256 begun events).now.next ≡ 3)
    × ((run_from 256 begun events).moves ≡ 3)
    × ((run_from 256 begun events).pushes ≡ record { place = 2; segment = seg 2 0 12 } ∷ record { place = 0; segment = seg 0 1 10 } ∷ record { place = 1; segment = seg 1 0 11 } ∷ [])
unfolding inserted nearer begun run_from step events seg takes hands leaves push taken reached skipped distance is_held insert stored move_buf moved ready message sum peeked peek unless_longer recv_answer given freed received recv fresh placed
history = (refl, refl, refl, refl, refl)

-- two held ahead of a gap, a push held twice keeps the first payload, and a window that is raised
gap : List Event
unfolding seg
gap =
    event_push false (seg 1 0 11)
    ∷ event_push false (seg 3 0 13)
    ∷ event_push false (seg 2 0 12)
    ∷ event_push false (seg 2 0 99)
    ∷ event_window 200
    ∷ event_move
    ∷ []

held : ((run_from 400 begun gap).now.held ≡ seg 1 0 11 ∷ seg 2 0 12 ∷ seg 3 0 13 ∷ [])
    × ((run_from 400 begun gap).now.largest ≡ 200)
    × ((run_from 400 begun gap).moves ≡ 0)
unfolding inserted nearer begun run_from step gap seg takes hands leaves push taken reached skipped distance is_held insert stored move_buf moved ready set_window too_large widened fresh placed
held = (refl, refl, refl)
