-- (a) of an input's end over flight records alone: "every flight record numbered before it, with ts not later than latest_ts, gains one fastack". What
-- one gains is said in Rules. Assumes nothing.
use Rattle.std.specs.Prelude.{ℕ, List, map}
use Rattle.sending.specs.declared.Flight.{Flight}
use Rattle.sending.specs.Rules.{fastack_of}

-- one of them afterwards
abbrev pub raised_flight : ℕ → ℕ → Flight → Flight
raised_flight max_ack latest_ts f =
    record { number = f.number; ts = f.ts; fastack = fastack_of max_ack latest_ts f.number f.ts f.fastack }

-- those of a list, each so
abbrev pub raised_flights : ℕ → ℕ → List Flight → List Flight
raised_flights max_ack latest_ts fs = map (raised_flight max_ack latest_ts) fs
