-- The definitions at small closed cases: a ring of four slots round its end, with a gap. Assumes nothing.
use Rattle.std.specs.Prelude.{ℕ, ◌≡◌, refl, true, false, List, [], ◌∷◌, ◌++◌, replicate}
use Rattle.serial.specs.Branch.{pick}
use Rattle.wire.specs.Header.{header_bytes}
use Rattle.ring.specs.Places.{place}
use Rattle.ring.specs.Records.{put, part}
use Rattle.snd_ring.specs.declared.SndRing.{SndRing}
use Rattle.snd_ring.specs.Store.{Store, store}
use Rattle.snd_ring.specs.Steps.{ring}
use Rattle.block.specs.declared.sender.Sender.{Sender}
use Rattle.transmit.specs.Memory.{side}
use Rattle.flushing.specs.declared.due.Pace.{Pace}
use Rattle.flushing.specs.Due.{resends_fast, due_of, longer_rto, sent_as, flown_by, dies, with_sent}
use Rattle.flight.specs.Places.{places_of, run_of, over}
use Rattle.flight.specs.Memory.{record_in, renewed_at, flight_places, launched_over, launched_sender, launched_at, flown_at, flown_over, tallied_at, tally_over, goes_at, size_at, sizes_over, fresh_sizes, piece_at, pieces_over, resendts_at, resendts_over}

-- index 0 stands at place 3
places : places_of 4 3 0 3 ≡ 3 ∷ 0 ∷ 1 ∷ []
unfolding places_of place
places = refl

runs : places_of 4 3 0 3 ≡ run_of 3 1 ++ run_of 0 2
unfolding places_of run_of place
runs = refl

-- a row: conv 9 and rto 400, sent at 500
row : ℕ → ℕ → ℕ → ℕ → List ℕ
row sn resendts fastack xmit = 9 ∷ 0 ∷ sn ∷ 500 ∷ resendts ∷ 400 ∷ fastack ∷ xmit ∷ []

-- 10 and 11 in flight, 10 of one byte and 11 of two; a gap, in whose row a segment stands that was never sent; and an empty one that waits, whose row is
-- old: a is the row of 10, and b that of the one that waits
four : List ℕ → List ℕ → Store
four a b = store (3 ∷ 0 ∷ 1 ∷ 2 ∷ []) (row 11 2000 0 1 ++ (row 12 0 0 0 ++ (b ++ a))) (replicate 1476 1 ++ (replicate 1476 2 ++ (replicate 1476 3 ++ replicate 1476 4)))

before : Store
before = four (row 10 900 0 1) (row 77 5 6 7)

flying : SndRing
flying = ring 3 3 2 1

sender : ℕ → SndRing → Sender
sender next r = record { snd_una = 10; snd_nxt = next; ring = r; xmit = 5; dead = false }

-- what waits leaves the queue: it gets its number and the block's conv 7, and was sent no time
launch : launched_at 7 1000 200 1 (sender 4294967295 flying) before
    ≡ side (sender 0 (ring 3 4 3 0)) (four (row 10 900 0 1) (7 ∷ 0 ∷ 4294967295 ∷ 1000 ∷ 1000 ∷ 200 ∷ 0 ∷ 0 ∷ []))
unfolding launched_at launched_sender launched_over places_of place renewed_at record_in put sender four before flying row
launch = refl

pace : Pace
pace = record { current = 1000; rx_rto = 200; rtomin = 25; resent = 2; nodelay = false; fastlimit = 5 }

-- the time of 10 is up, that of 11 is not, and the gap is passed over: 10 is sent again, with its own conv and twice its rto
flown : flown_over pace (flight_places flying before) before ≡ four (9 ∷ 0 ∷ 10 ∷ 1000 ∷ 1800 ∷ 800 ∷ 0 ∷ 2 ∷ []) (row 77 5 6 7)
unfolding flown_over flown_at places_of place pick record_in renewed_at flown_by due_of sent_as longer_rto resends_fast put pace four before flying row
flown = refl

tally : tally_over 20 pace (flight_places flying before) before (record { xmit = 5; dead = false; lost = false; change = false })
    ≡ record { xmit = 6; dead = false; lost = true; change = false }
unfolding tally_over tallied_at flown_at places_of place pick record_in renewed_at flown_by due_of sent_as longer_rto resends_fast with_sent dies put pace four before flying row
tally = refl

-- its size, and that of the one that is about to leave
sizes : (sizes_over pace (flight_places flying before) before ≡ 25 ∷ []) × (fresh_sizes (2 ∷ []) before ≡ 24 ∷ [])
unfolding sizes_over over size_at goes_at places_of place pick record_in due_of resends_fast pace four before flying row
sizes = (refl, refl)

-- its bytes: the conv is its own and not the one told
pieces : pieces_over (record { conv = 7; wnd = 128; una = 3 }) pace (flight_places flying before) before
    ≡ (9 ∷ 0 ∷ 0 ∷ 0 ∷ 81 ∷ 0 ∷ 128 ∷ 0 ∷ 232 ∷ 3 ∷ 0 ∷ 0 ∷ 10 ∷ 0 ∷ 0 ∷ 0 ∷ 3 ∷ 0 ∷ 0 ∷ 0 ∷ 1 ∷ 0 ∷ 0 ∷ 0 ∷ 4 ∷ []) ∷ []
unfolding pieces_over piece_at goes_at flown_at places_of place pick record_in renewed_at flown_by due_of sent_as longer_rto resends_fast header_bytes put part pace four before flying row
pieces = refl

-- when they are to be resent
resends : resendts_over (flight_places flying before) before ≡ 900 ∷ 2000 ∷ []
unfolding resendts_over over resendts_at places_of place pick four before flying row
resends = refl
