-- `parse_fastack` goes over places, and over portions of them: what each of its functions leaves. That this is the walk over the indices in flight
-- (Memory's `raised_from`): proofs/Portions. Assumes nothing.
use Rattle.std.specs.Prelude.{ℕ, zero, suc, ◌+◌, ◌<◌, ◌≡◌, cond, List, get_or, eqb}
use Rattle.ring.specs.Records.{number_at}
use Rattle.snd_ring.specs.Store.{Store}
use Rattle.snd_ring.specs.Steps.{renumbered}
use Rattle.sending.specs.declared.Flight.{Flight}
use Rattle.sending.specs.Flights.{raised_flight}
use Rattle.transmit.specs.Memory.{sn, ts, fastack}

-- the flight record at place q
abbrev pub flight_at : Store → ℕ → Flight
flight_at m q = record { number = number_at 8 m.rows q sn; ts = number_at 8 m.rows q ts; fastack = number_at 8 m.rows q fastack }

-- what a list has where it has no record
abbrev pub none : Flight
none = record { number = 0; ts = 0; fastack = 0 }

-- the first n of fs are those at the places from q on
abbrev pub Gathered : Store → ℕ → ℕ → List Flight → Type 0
Gathered m q n fs = (j : ℕ) → j < n → get_or fs j none ≡ flight_at m (q + j)

-- the fastack of f is written at place q; a gap is passed over
unfoldable pub written_back : Flight → ℕ → Store → Store
written_back f q m = cond (eqb (get_or m.marks q 0) 0) m (renumbered 8 m q fastack f.fastack)

-- those of the n records of fs from record j on, of which record 0 has place q
unfoldable pub put_back : List Flight → ℕ → ℕ → ℕ → Store → Store
put_back fs q j zero m = m
put_back fs q j (suc n) m = put_back fs q (suc j) n (written_back (get_or fs j none) (q + j) m)

-- the n places from q on after the acks of a datagram
unfoldable pub raised_run : ℕ → ℕ → ℕ → ℕ → Store → Store
raised_run max_ack latest_ts q zero m = m
raised_run max_ack latest_ts q (suc n) m = raised_run max_ack latest_ts (suc q) n (written_back (raised_flight max_ack latest_ts (flight_at m q)) q m)
