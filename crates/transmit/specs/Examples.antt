-- The memory functions at small closed cases. Assumes nothing.
use Rattle.std.specs.Prelude.{ℕ, ◌≡◌, refl, false, List, [], ◌∷◌, ◌++◌, Some}
use Rattle.serial.specs.Branch.{pick}
use Rattle.ring.specs.Counting.{at_least}
use Rattle.ring.specs.Places.{place, along}
use Rattle.ring.specs.Records.{put, part}
use Rattle.snd_ring.specs.declared.SndRing.{SndRing}
use Rattle.snd_ring.specs.Marks.{passed}
use Rattle.snd_ring.specs.Store.{Store, store, cell, flight_of}
use Rattle.snd_ring.specs.Store as memory
use Rattle.snd_ring.specs.Steps.{ring, settled, advanced, dropped, gapped, taken_out}
use Rattle.block.specs.declared.sender.Sender.{Sender}
use Rattle.sending.specs.Rules.{acknowledged_by, una_of, in_range, seek, meets, found, gains, fastack_of}
use Rattle.sending.specs.Flights.{raised_flights}
use Rattle.transmit.specs.Portions.{flight_at, written_back, put_back, raised_run}
use Rattle.transmit.specs.Memory.{flying_numbers, side, shrunk_at, una_at, ends_at, sought, removed_at, shrunk_side, ack_at, raised_one, raised_from, fastack_at}

-- a row by its number and its fastack, sent at 100
row : ℕ → ℕ → List ℕ
row n k = 7 ∷ 0 ∷ n ∷ 100 ∷ 0 ∷ 0 ∷ k ∷ 1 ∷ []

-- four slots, of which index 0 stands at place 3: 10 and 11 in flight, a gap where 12 stood, and 13; x are the marks, and 10 and 11 have the fastack k
four : List ℕ → ℕ → Store
four x k = store x (row 11 k ++ (row 12 0 ++ (row 13 0 ++ row 10 k))) []

flying : List ℕ
flying = 1 ∷ 0 ∷ 1 ∷ 1 ∷ []

-- the next number is 14
sender : ℕ → SndRing → Sender
sender una r = record { snd_una = una; snd_nxt = 14; ring = r; xmit = 5; dead = false }

-- una 12 drops two and the gap behind them, and snd_una is the front number
two : una_at 12 (sender 10 (ring 3 4 3 0)) (four flying 0) ≡ sender 13 (ring 2 1 1 0)
unfolding una_at shrunk_at flying_numbers acknowledged_by una_of dropped advanced settled passed at_least flight_of memory.seen along cell place part sender four flying row
two = refl

-- una 14 drops all: an empty ring starts at place 0, and snd_una is snd_nxt
all : una_at 14 (sender 10 (ring 3 4 3 0)) (four flying 0) ≡ sender 14 (ring 0 0 0 0)
unfolding una_at shrunk_at flying_numbers acknowledged_by una_of dropped advanced settled passed at_least flight_of memory.seen along cell place part sender four flying row
all = refl

-- an ack of 11, in the middle, leaves a gap
middle : ack_at 11 (sender 10 (ring 3 4 3 0)) (four flying 0) ≡ side (sender 10 (ring 3 4 2 0)) (four (0 ∷ 0 ∷ 1 ∷ 1 ∷ []) 0)
unfolding ack_at shrunk_side pick removed_at shrunk_at found in_range meets seek sought ends_at flying_numbers una_of taken_out gapped dropped advanced settled passed at_least flight_of memory.seen along cell place part sender four flying row
middle = refl

-- one of 10, the front, moves the start
front : ack_at 10 (sender 10 (ring 3 4 3 0)) (four flying 0) ≡ side (sender 11 (ring 0 3 2 0)) (four (1 ∷ 0 ∷ 1 ∷ 0 ∷ []) 0)
unfolding ack_at shrunk_side pick removed_at shrunk_at found in_range meets seek sought ends_at flying_numbers una_of taken_out gapped dropped advanced settled passed at_least flight_of memory.seen along cell place part sender four flying row
front = refl

-- the search for 12 passes the gap, though 12 stands in its row, and stops at 13, the first greater number: nothing is removed
stop : sought 12 (ring 3 4 3 0) (four flying 0) 0 4 ≡ 3
unfolding sought ends_at place four flying row
stop = refl

none : ack_at 12 (sender 10 (ring 3 4 3 0)) (four flying 0) ≡ side (sender 10 (ring 3 4 3 0)) (four flying 0)
unfolding ack_at shrunk_side pick removed_at shrunk_at found in_range meets seek sought ends_at flying_numbers una_of taken_out gapped dropped advanced settled passed at_least flight_of memory.seen along cell place part sender four flying row
none = refl

-- a fastack for 13 raises 10 and 11, and passes the gap
raised : fastack_at (Some (record { sn = 13; ts = 100 })) (sender 10 (ring 3 4 3 0)) (four flying 0) ≡ four flying 1
unfolding fastack_at pick in_range raised_from raised_one fastack_of gains place put sender four flying row
raised = refl

-- the same by the two runs of its places, of which place 1 is a gap, and by the records of the second run once the walk has raised them
by_runs : raised_run 13 100 0 3 (raised_run 13 100 3 1 (four flying 0)) ≡ four flying 1
unfolding raised_run written_back fastack_of gains pick put four flying row
by_runs = refl

by_records : put_back (raised_flights 13 100 (flight_at (four flying 0) 0 ∷ flight_at (four flying 0) 1 ∷ flight_at (four flying 0) 2 ∷ [])) 0 0 3 (raised_run 13 100 3 1 (four flying 0)) ≡ four flying 1
unfolding put_back raised_run written_back fastack_of gains pick put four flying row
by_records = refl
