-- The rules of the sending side on closed cases, each of which the Rust was seen to answer so. Assumes nothing.
use Rattle.std.specs.Prelude.{ℕ, ◌+◌, ◌^◌, ◌≡◌, refl, true, false, List, [], ◌∷◌, ◌++◌, map, Some, None}
use Rattle.serial.specs.Branch.{pick}
use Rattle.sending.specs.declared.Flight.{Flight}
use Rattle.sending.specs.declared.Ack.{Ack}
use Rattle.sending.specs.Rules.{acknowledged_by, una_of, in_range, seek, meets, Segment, Sending, raised, later, gains, fastack_of, parse_fastack, past_threshold, rounded_up, opened, cut_to, grown}
use Rattle.sending.specs.Flights.{raised_flights}

-- una exactly 2^31 past a number drops it not, and one less drops it; the front number is the new snd_una, or snd_nxt
una : (acknowledged_by 2147483648 (0 ∷ 1 ∷ []) ≡ 0) × (acknowledged_by 2147483647 (0 ∷ 1 ∷ []) ≡ 2) × (acknowledged_by 1 (0 ∷ 1 ∷ 2 ∷ []) ≡ 1) × (una_of 9 (3 ∷ []) ≡ 3) × (una_of 9 [] ≡ 9)
unfolding acknowledged_by una_of
una = (refl, refl, refl, refl, refl)

-- the search at the number wrap: 0 is not found behind a number that is greater as a plain one, 4294967295 is
wrapped : List ℕ
wrapped = 4294967294 ∷ 4294967295 ∷ 0 ∷ 1 ∷ []

search : (in_range 4294967294 2 0 ≡ true) × (meets 0 wrapped ≡ false) × (seek 4294967295 wrapped ≡ 1) × (meets 4294967295 wrapped ≡ true) × (meets 1 (0 ∷ 1 ∷ []) ≡ true) × (in_range 5 7 7 ≡ false)
unfolding wrapped in_range seek meets
search = (refl, refl, refl, refl, refl, refl)

-- the first ack counts whatever it is; a later one with the same ts does not
ack : ℕ → ℕ → Ack
ack sn ts = record { sn = sn; ts = ts }

latest : (later None (ack 1 10) ≡ ack 1 10) × (later (Some (ack 1 10)) (ack 3 10) ≡ ack 1 10) × (later (Some (ack 1 10)) (ack 3 11) ≡ ack 3 11) × (later (Some (ack 1 10)) (ack 0 11) ≡ ack 1 10)
unfolding ack later pick
latest = (refl, refl, refl, refl)

-- a ts exactly 2^31 before latest_ts does not count, one less does; fastack wraps
fast : (fastack_of 2 (10 + 2 ^ 31) 0 10 0 ≡ 0) × (fastack_of 2 2147483657 0 10 0 ≡ 1) × (fastack_of 2 10 2 10 7 ≡ 7) × (fastack_of 2 10 1 10 4294967295 ≡ 0)
unfolding fastack_of gains pick
fast = (refl, refl, refl, refl)

-- of three flight records two gain one: the second is not numbered before 2
flight : ℕ → ℕ → Flight
flight sn n = record { number = sn; ts = 10; fastack = n }

two : raised_flights 2 10 (flight 0 4 ∷ flight 2 7 ∷ flight 1 5 ∷ []) ≡ flight 0 5 ∷ flight 2 7 ∷ flight 1 6 ∷ []
unfolding flight fastack_of gains pick
two = refl

-- where the first two of them are lent, the last stays
first_two : raised_flights 2 10 (flight 0 4 ∷ flight 2 7 ∷ []) ++ (flight 1 5 ∷ []) ≡ flight 0 5 ∷ flight 2 7 ∷ flight 1 5 ∷ []
unfolding flight fastack_of gains pick
first_two = refl

-- numbers from 0 up to 3 were sent
three : List Segment → List Segment → Sending
three l m = record { una = 0; next = 3; flying = l; waiting = m }

-- max_ack that was never sent counts for none, and no ack for none; one in flight counts
none : ((s : Sending) → parse_fastack None s ≡ s) × (in_range 0 3 1000 ≡ false) × (in_range 0 3 1 ≡ true)
    × ((l m : List Segment) → parse_fastack (Some (ack 1000 10)) (three l m) ≡ three l m)
    × ((l m : List Segment) → parse_fastack (Some (ack 1 10)) (three l m) ≡ three (map (raised 1 10) l) m)
unfolding in_range parse_fastack three ack
none = ((λ s. refl), refl, refl, (λ l m. refl), (λ l m. refl))

-- the growth from scratch, one ack each, and with the cast: mss 26, (2002, 2954952) gives cwnd 48117, of 113653 uncast
grow : (grown 1376 2 128 (record { cwnd = 1; incr = 1376 }) ≡ record { cwnd = 2; incr = 2752 })
    × (grown 1376 2 128 (record { cwnd = 2; incr = 2752 }) ≡ record { cwnd = 2; incr = 3526 })
    × (grown 1376 2 128 (record { cwnd = 2; incr = 3526 }) ≡ record { cwnd = 4; incr = 4148 })
    × (grown 26 2 65535 (record { cwnd = 2002; incr = 2954952 }) ≡ record { cwnd = 48117; incr = 2954953 })
    × (grown 1376 2 2 (record { cwnd = 2; incr = 9 }) ≡ record { cwnd = 2; incr = 9 })
    × (grown 1376 2 3 (record { cwnd = 2; incr = 3526 }) ≡ record { cwnd = 3; incr = 4128 })
unfolding grown cut_to opened rounded_up past_threshold pick
grow = (refl, refl, refl, refl, refl, refl)
