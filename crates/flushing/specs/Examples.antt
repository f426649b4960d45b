-- The rules of the way out on closed cases: 01's starred rows, and what the Rust was seen to do. Assumes nothing.
use Rattle.std.specs.Prelude.{ℕ, zero, suc, ◌≡◌, refl, Bool, true, false, List, [], ◌∷◌, ◌++◌, map, length, Ok, Err}
use Rattle.serial.specs.Branch.{pick}
use Rattle.serial.specs.Wrap.{signed32}
use Rattle.wire.specs.Header.{header_bytes}
use Rattle.block.specs.declared.settings.Settings.{Settings}
use Rattle.block.specs.declared.clock.Clock.{Clock}
use Rattle.block.specs.declared.congestion.Congestion.{Congestion}
use Rattle.block.specs.declared.probe.Probe.{Probe}
use Rattle.block.specs.declared.refusal.Refusal.TheVariants.{NeedUpdate, OutTooSmall}
use Rattle.block.specs.Fresh.{fresh_settings, fresh_clock, fresh_congestion, fresh_probe}
use Rattle.sending.specs.Rules.{Segment, Sending}
use Rattle.sending.specs.Send.{verdict, fills, joins, pieces, needed, cut, last_of, filled, queued, left_by, send}
use Rattle.flushing.specs.declared.due.Record.{Record}
use Rattle.flushing.specs.declared.due.Pace.{Pace}
use Rattle.flushing.specs.declared.due.Due.TheVariants.{Idle, Fresh, TimedOut, Fast}
use Rattle.flushing.specs.declared.due.Tally.{Tally}
use Rattle.flushing.specs.Windows.{window_of, leaving, leaving_between, resent_of, resent_fast, timed_out, at_least_one, congestion_after}
use Rattle.flushing.specs.Probing.{ask_bit, probed, probe_wnd_size}
use Rattle.flushing.specs.Due.{rtomin_of, pace_of, resends_fast, due_of, longer_rto, sent_as, flown_by, dies, with_sent}
use Rattle.flushing.specs.Clocks.{far, restarted, due_from, next_flush, ticked, tm_flush, nearest, tm_packet, check_of}
use Rattle.flushing.specs.Pack.{sum_of, datagram_of, goes, stays, pack, pack_all, datagram_size, goes_size, stays_size, pack_sizes, pack_all_sizes}
use Rattle.flushing.specs.Pieces.{Ack, last_ack_of, probe_piece, numbered_from, due_pieces, tallied}
use Rattle.flushing.specs.Rules.{Outgoing, Outcome, Room, flushed_ack, moved_out, flushed, exceeds, unless_exceeding, once_updated, flush_ack_rule, flush_rule, update_rule, check_rule}

-- ---- numbers

-- "Probe waits: 7000, 10500, 15750, 23625, 35437, 53155, 79732, 119598, 120000, 120000": each flush as the wait is over
waits : ℕ → Probe → List ℕ
waits zero p = []
waits (suc n) p = let q = probe_wnd_size 0 p.ts_probe p in q.probe_wait ∷ waits n q

probe-waits : waits 10 fresh_probe ≡ 7000 ∷ 10500 ∷ 15750 ∷ 23625 ∷ 35437 ∷ 53155 ∷ 79732 ∷ 119598 ∷ 120000 ∷ 120000 ∷ []
unfolding waits probe_wnd_size probed ask_bit pick
probe-waits = refl

-- how many leave: at the number wrap; where snd_nxt lies at the limit, or past it; and at a distance of exactly 2^31, and of one more
leave : (leaving 2 4294967294 9 ≡ 4) × (leaving 2 4294967294 3 ≡ 3) × (leaving 7 7 9 ≡ 0) × (leaving 7 8 9 ≡ 0) × (leaving 2147483648 0 2 ≡ 2) × (leaving 2147483649 0 2 ≡ 0)
    × (leaving_between 4 9 ≡ 4) × (leaving_between 4294967295 9 ≡ 0) × (leaving_between 2147483648 2 ≡ 2) × (leaving_between 2147483649 2 ≡ 0)
unfolding leaving leaving_between pick
leave = (refl, refl, refl, refl, refl, refl, refl, refl, refl, refl)

-- a segment's own rto is never cut, and wraps: doubled, or half as much again
pace : Bool → Pace
pace nodelay = record { current = 1000; rx_rto = 200; rtomin = 25; resent = 2; nodelay = nodelay; fastlimit = 5 }

rtos : Bool → ℕ → ℕ → List ℕ
rtos nodelay zero rto = []
rtos nodelay (suc n) rto = let next = longer_rto (pace nodelay) rto in next ∷ rtos nodelay n next

rto : (rtos false 2 200 ≡ 400 ∷ 800 ∷ [])
    × (rtos false 8 1677721600 ≡ 3355443200 ∷ 2415919104 ∷ 536870912 ∷ 1073741824 ∷ 2147483648 ∷ 0 ∷ 200 ∷ 400 ∷ [])
    × (rtos true 2 2209672840 ≡ 3314509260 ∷ 676796594 ∷ [])
unfolding pace rtos longer_rto pick
rto = (refl, refl, refl)

-- a record that was sent xmit times, with so many fastacks, to be resent at 1,000 or after
sent_before : ℕ → ℕ → ℕ → Record
sent_before xmit fastack resendts = record { conv = 7; frg = 3; sn = 4; ts = 9; resendts = resendts; rto = 400; fastack = fastack; xmit = xmit }

-- five fast resends and no more, but for fastlimit 0; the time is asked before fastack; exactly 2^31 waits
dues : (due_of (pace false) (sent_before 0 9 0) ≡ Fresh)
    × (due_of (pace false) (sent_before 1 9 1000) ≡ TimedOut)
    × (due_of (pace false) (sent_before 5 2 1001) ≡ Fast)
    × (due_of (pace false) (sent_before 6 2 1001) ≡ Idle)
    × (due_of (pace false) (sent_before 5 1 1001) ≡ Idle)
    × (due_of (record { current = 1000; rx_rto = 200; rtomin = 0; resent = 2; nodelay = true; fastlimit = 0 }) (sent_before 6 2 1001) ≡ Fast)
    × (due_of (pace false) (sent_before 1 0 2147484648) ≡ Idle)
    × (due_of (pace false) (sent_before 1 0 2147484649) ≡ TimedOut)
unfolding pace sent_before due_of resends_fast pick
dues = (refl, refl, refl, refl, refl, refl, refl, refl)

-- only a fresh one waits an eighth longer; a timeout leaves fastack; a fast resend keeps the rto
records : (sent_as (pace false) Fresh (sent_before 0 0 0) ≡ record { conv = 7; frg = 3; sn = 4; ts = 1000; resendts = 1225; rto = 200; fastack = 0; xmit = 1 })
    × (sent_as (pace false) TimedOut (sent_before 1 9 1000) ≡ record { conv = 7; frg = 3; sn = 4; ts = 1000; resendts = 1800; rto = 800; fastack = 9; xmit = 2 })
    × (sent_as (pace false) Fast (sent_before 5 2 1001) ≡ record { conv = 7; frg = 3; sn = 4; ts = 1000; resendts = 1400; rto = 400; fastack = 0; xmit = 6 })
    × (sent_as (pace false) Idle (sent_before 6 2 1001) ≡ sent_before 6 2 1001)
unfolding pace sent_before sent_as longer_rto pick
records = (refl, refl, refl, refl)

-- the block counts timeouts only; a limit of 0 makes the first transmission dead; dead stays dead
tally_of : ℕ → Bool → Bool → Bool → Tally
tally_of xmit dead lost change = record { xmit = xmit; dead = dead; lost = lost; change = change }

counts : (with_sent 20 Fast 3 (tally_of 7 false false false) ≡ tally_of 7 false false true)
    × (with_sent 20 TimedOut 3 (tally_of 7 false false true) ≡ tally_of 8 false true true)
    × (with_sent 0 Fresh 1 (tally_of 7 false false false) ≡ tally_of 7 true false false)
    × (with_sent 20 Fast 20 (tally_of 7 false false false) ≡ tally_of 7 true false true)
    × (with_sent 20 Fresh 1 (tally_of 7 true false false) ≡ tally_of 7 true false false)
    × (with_sent 0 Idle 9 (tally_of 7 false false false) ≡ tally_of 7 false false false)
unfolding tally_of with_sent dies
counts = (refl, refl, refl, refl, refl, refl)

-- after a fast resend: cwnd = ssthresh + (resent as u16), modulo 2^16, and at least 1. After a loss: half the window of this flush, at least 2
congestion : ℕ → ℕ → ℕ → ℕ → ℕ → Congestion
congestion snd rmt cwnd ssthresh incr = record { snd_wnd = snd; rmt_wnd = rmt; cwnd = cwnd; ssthresh = ssthresh; incr = incr }

full : ℕ → ℕ → ℕ → Congestion
full cwnd ssthresh incr = congestion 65535 65535 cwnd ssthresh incr

windows : (congestion_after 1376 3 65534 65535 true false (full 9 9 9) ≡ full 1 2 1376)
    × (congestion_after 1376 3 65535 65535 true false (full 9 9 9) ≡ full 1 2 1376)
    × (congestion_after 1376 3 65536 65535 true false (full 9 9 9) ≡ full 2 2 2752)
    × (congestion_after 1376 100 65537 65535 true false (full 9 9 9) ≡ full 51 50 70176)
    × (congestion_after 1376 10 2 65535 true false (full 9 9 9) ≡ full 7 5 9632)
    × (congestion_after 1376 8 2 65535 true true (full 9 9 9) ≡ full 1 32767 1376)
    × (congestion_after 1376 8 2 0 false true (full 9 9 9) ≡ full 1 2 1376)
    × (congestion_after 1376 8 2 32 false false (full 0 9 9) ≡ full 1 9 1376)
    × (window_of true (congestion 32 128 1 2 0) ≡ 32)
    × (window_of false (congestion 32 128 1 2 0) ≡ 1)
    × (resent_of 0 ≡ 4294967295)
unfolding full congestion congestion_after resent_fast timed_out at_least_one window_of resent_of pick
windows = (refl, refl, refl, refl, refl, refl, refl, refl, refl, refl, refl)

-- "Updated block, clock 10,000 before ts_flush: update only stores the time. 10,001 before: ts_flush restarts and a flush runs". 10,000 past it
-- restarts too; less does not, and where an interval more is past, the next flush counts from now. The first update flushes
clock : ℕ → ℕ → Bool → Clock
clock current ts_flush updated = record { current = current; interval = 100; ts_flush = ts_flush; updated = updated }

ticks : (ticked (clock 5 20000 true) 10000 ≡ record { clock = clock 10000 20000 true; flushes = false })
    × (ticked (clock 5 20000 true) 9999 ≡ record { clock = clock 9999 10099 true; flushes = true })
    × (ticked (clock 5 20000 true) 30000 ≡ record { clock = clock 30000 30100 true; flushes = true })
    × (ticked (clock 5 100 true) 150 ≡ record { clock = clock 150 200 true; flushes = true })
    × (ticked (clock 5 100 true) 350 ≡ record { clock = clock 350 450 true; flushes = true })
    × (ticked (clock 5 100 true) 99 ≡ record { clock = clock 99 100 true; flushes = false })
    × (ticked (clock 0 100 false) 5000000 ≡ record { clock = clock 5000000 5000100 true; flushes = true })
    × (ticked (clock 5 100 true) 2147483748 ≡ record { clock = clock 2147483748 2147483848 true; flushes = true })
unfolding clock ticked due_from restarted far next_flush signed32 pick
ticks = (refl, refl, refl, refl, refl, refl, refl, refl)

-- check: 0 before the first update; to the flush, cut to the interval 10,000 before it and 0 at 10,001; to the nearest segment, and 0 where one is due
checks : (check_of (clock 0 100 false) 50 [] ≡ 0)
    × (check_of (clock 0 1100 true) 1040 [] ≡ 60)
    × (check_of (clock 0 1100 true) 4294958396 [] ≡ 100)
    × (check_of (clock 0 1100 true) 4294958395 [] ≡ 0)
    × (check_of (clock 0 1100 true) 1040 (1090 ∷ 1070 ∷ 2000 ∷ []) ≡ 30)
    × (check_of (clock 0 1100 true) 1040 (1090 ∷ 1040 ∷ 2000 ∷ []) ≡ 0)
    × (check_of (clock 0 1100 true) 1040 (2147484688 ∷ []) ≡ 0)
unfolding clock check_of tm_flush restarted far tm_packet nearest signed32 pick
checks = (refl, refl, refl, refl, refl, refl, refl)

-- ---- packing

-- datagrams over the mtu in force: segments cut before it was lowered, and bytes that waited; a long piece alone makes an empty write first
cuts : (pack_all_sizes 50 0 (1500 ∷ 1500 ∷ 72 ∷ 50 ∷ 28 ∷ []) ≡ 1500 ∷ 1500 ∷ 72 ∷ 50 ∷ 28 ∷ [])
    × (pack_all_sizes 50 1488 (24 ∷ []) ≡ 1488 ∷ 24 ∷ [])
    × (pack_sizes 50 0 (24 ∷ 24 ∷ 24 ∷ []) ≡ (48 ∷ [], 24))
    × (pack {A = ℕ} 3 (1 ∷ 2 ∷ []) ((3 ∷ []) ∷ (4 ∷ []) ∷ []) ≡ ((1 ∷ 2 ∷ 3 ∷ []) ∷ [], 4 ∷ []))
    × (pack_all {A = ℕ} 3 [] [] ≡ [])
unfolding pack_all_sizes pack_sizes goes_size stays_size datagram_size pack_all pack goes stays datagram_of pick
cuts = (refl, refl, refl, refl, refl)

-- ---- whole calls

room : Room
room = record { bytes = 65536; lengths = 64 }

blank : Sending
blank = record { una = 0; next = 0; flying = []; waiting = [] }

block : Settings → Clock → Congestion → Probe → ℕ → ℕ → Sending → List Ack → Outgoing
block settings clock congestion probe rcv_nxt queued sending acks = record {
  settings = settings;
  clock = clock;
  rx_rto = 200;
  congestion = congestion;
  probe = probe;
  rcv_nxt = rcv_nxt;
  rcv_wnd = 128;
  queued = queued;
  sending = sending;
  xmit = 0;
  dead = false;
  acks = acks;
  waiting = [];
}

-- "Plain, conv 0x11223344, send "hi", update(0): no datagram, cwnd 1. update(100): one datagram of 26 bytes .. resendts 325"
hi : Outgoing
hi = block (fresh_settings 287454020 false) (fresh_clock 100) fresh_congestion fresh_probe 0 0 (send 1376 false (104 ∷ 105 ∷ []) blank 128) []

first : Outcome
first = update_rule room 0 hi

second : Outcome
second = update_rule room 100 first.after

resends : Outcome → List ℕ
resends o = map (λ (s : Segment). s.resendts) o.after.sending.flying

hi-row : (first.datagrams ≡ [])
    × (first.after.congestion.cwnd ≡ 1)
    × (second.datagrams ≡ (68 ∷ 51 ∷ 34 ∷ 17 ∷ 81 ∷ 0 ∷ 128 ∷ 0 ∷ 100 ∷ 0 ∷ 0 ∷ 0 ∷ 0 ∷ 0 ∷ 0 ∷ 0 ∷ 0 ∷ 0 ∷ 0 ∷ 0 ∷ 2 ∷ 0 ∷ 0 ∷ 0 ∷ 104 ∷ 105 ∷ []) ∷ [])
    × (map length second.datagrams ≡ 26 ∷ [])
    × (resends second ≡ 325 ∷ [])
unfolding room blank block hi first second resends update_rule unless_exceeding exceeds sum_of ticked due_from restarted far signed32 next_flush flushed window_of probe_wnd_size probed leaving moved_out numbered_from pace_of rtomin_of resent_of due_pieces due_of resends_fast sent_as longer_rto flown_by tallied with_sent dies congestion_after at_least_one pack_all pack goes stays datagram_of pick header_bytes probe_piece send left_by verdict queued filled needed joins fills pieces cut last_of
hi-row = (refl, refl, refl, refl, refl)

-- 13 leaves all: one byte too few, or no length; of a first update the clock too, so that flush still gives 9
narrow : ℕ → ℕ → Room
narrow bytes lengths = record { bytes = bytes; lengths = lengths }

tight : (update_rule (narrow 25 64) 100 first.after ≡ record { answer = Err OutTooSmall; after = first.after; datagrams = [] })
    × (update_rule (narrow 26 0) 100 first.after ≡ record { answer = Err OutTooSmall; after = first.after; datagrams = [] })
    × (update_rule (narrow 26 1) 100 first.after ≡ second)
    × (flush_rule room hi ≡ record { answer = Err NeedUpdate; after = hi; datagrams = [] })
    × (flush_ack_rule room hi ≡ record { answer = Err NeedUpdate; after = hi; datagrams = [] })
unfolding room narrow blank block hi first second resends update_rule once_updated unless_exceeding exceeds sum_of ticked due_from restarted far signed32 next_flush flushed_ack flushed window_of probe_wnd_size probed ask_bit leaving moved_out numbered_from pace_of rtomin_of resent_of due_pieces due_of resends_fast sent_as longer_rto flown_by tallied with_sent dies congestion_after resent_fast timed_out at_least_one pack_all pack goes stays datagram_of pick header_bytes probe_piece last_ack_of send left_by verdict queued filled needed joins fills pieces cut last_of
tight = (refl, refl, refl, refl, refl)

-- a block of conv 1 at time 0 that was updated and flushes every 100, and the headers that it sends: no window of congestion, the peer's rmt
quiet : ℕ → Settings
quiet conv = record { conv = conv; mtu = 1400; mss = 1376; nodelay = true; nocwnd = true; stream = false; input_conv = false; fastresend = 0; fastlimit = 5; dead_link = 20 }

updated : ℕ → ℕ → Probe → ℕ → ℕ → Sending → List Ack → Outgoing
updated conv rmt probe rcv_nxt queued sending acks = block (quiet conv) (clock 0 100 true) (congestion 32 rmt 1 2 1376) probe rcv_nxt queued sending acks

head : ℕ → ℕ → ℕ → ℕ → ℕ → ℕ → ℕ → List ℕ
head conv cmd wnd ts sn una len = header_bytes (record { conv = conv; cmd = cmd; frg = 0; wnd = wnd; ts = ts; sn = sn; una = una; len = len })

at55 : List Ack
at55 = record { sn = 0; ts = 55 } ∷ []

-- a segment of one byte that waits
waits_one : Segment
waits_one = record { conv = 0; frg = 0; sn = 0; ts = 0; resendts = 0; rto = 0; fastack = 0; xmit = 0; payload = 98 ∷ [] }

-- a first update that is refused leaves the block without one
unready : Outgoing
unready = block (quiet 1) (fresh_clock 100) fresh_congestion fresh_probe 0 0 (record { una = 0; next = 0; flying = []; waiting = waits_one ∷ [] }) []

unmoved : (update_rule (narrow 24 1) 7 unready ≡ record { answer = Err OutTooSmall; after = unready; datagrams = [] })
    × ((update_rule (narrow 25 1) 7 unready).answer ≡ Ok tt)
    × ((update_rule (narrow 25 1) 7 unready).datagrams ≡ (head 1 81 128 7 0 0 1 ++ (98 ∷ [])) ∷ [])
    × ((flush_rule (narrow 25 1) unready).answer ≡ Err NeedUpdate)
unfolding narrow block quiet clock congestion waits_one unready head update_rule once_updated unless_exceeding exceeds sum_of ticked due_from restarted far signed32 next_flush flushed_ack flushed window_of probe_wnd_size probed ask_bit leaving moved_out numbered_from pace_of rtomin_of resent_of due_pieces due_of resends_fast sent_as longer_rto flown_by tallied with_sent dies congestion_after resent_fast timed_out at_least_one pack_all pack goes stays datagram_of pick header_bytes probe_piece last_ack_of
unmoved = (refl, refl, refl, refl)

-- an ack of a push at 55, and a tell: "An ask or tell carries sn and ts of the last ack of the same flush, else 0", so not of one that a flush_ack put
-- out before. Its bytes wait, an update that is not due leaves them, and check does not see them
told : Outgoing
told = updated 1 128 (record { bits = 2; ts_probe = 0; probe_wait = 0 }) 1 1 blank at55

acked : Outcome
acked = flush_ack_rule room told

same : ((update_rule room 100 told).datagrams ≡ (head 1 82 127 55 0 1 0 ++ head 1 84 127 55 0 1 0) ∷ [])
    × (acked.datagrams ≡ [])
    × (acked.after.waiting ≡ head 1 82 127 55 0 1 0)
    × (acked.after.acks ≡ [])
    × ((update_rule room 99 acked.after).datagrams ≡ [])
    × ((update_rule room 99 acked.after).after.waiting ≡ head 1 82 127 55 0 1 0)
    × (check_rule 40 acked.after ≡ check_rule 40 told)
    × ((update_rule room 100 acked.after).datagrams ≡ (head 1 82 127 55 0 1 0 ++ head 1 84 127 0 0 1 0) ∷ [])
    × ((update_rule room 100 acked.after).after.probe.bits ≡ 0)
unfolding room blank block congestion clock quiet updated head at55 told acked update_rule once_updated unless_exceeding exceeds sum_of ticked due_from restarted far signed32 next_flush flushed_ack flushed window_of probe_wnd_size probed ask_bit leaving moved_out numbered_from pace_of rtomin_of resent_of due_pieces due_of resends_fast sent_as longer_rto flown_by tallied with_sent dies congestion_after resent_fast timed_out at_least_one pack_all pack goes stays datagram_of pick header_bytes probe_piece last_ack_of check_of tm_flush tm_packet nearest
same = (refl, refl, refl, refl, refl, refl, refl, refl, refl)

-- waiting bytes are bytes: another conv, and a push more, do not change them
bytes : (flush_rule room (record {
  settings = quiet 2;
  clock = clock 0 100 true;
  rx_rto = 200;
  congestion = congestion 32 128 1 2 1376;
  probe = fresh_probe;
  rcv_nxt = 2;
  rcv_wnd = 128;
  queued = 2;
  sending = blank;
  xmit = 0;
  dead = false;
  acks = record { sn = 1; ts = 56 } ∷ [];
  waiting = acked.after.waiting;
})).datagrams ≡ (head 1 82 127 55 0 1 0 ++ head 2 82 126 56 1 2 0) ∷ []
unfolding room blank block congestion clock quiet updated head at55 told acked update_rule once_updated unless_exceeding exceeds sum_of ticked due_from restarted far signed32 next_flush flushed_ack flushed window_of probe_wnd_size probed ask_bit leaving moved_out numbered_from pace_of rtomin_of resent_of due_pieces due_of resends_fast sent_as longer_rto flown_by tallied with_sent dies congestion_after resent_fast timed_out at_least_one pack_all pack goes stays datagram_of pick header_bytes probe_piece last_ack_of
bytes = refl

-- a segment of one byte in flight, sent at 10 under this conv
flies : ℕ → ℕ → Segment
flies conv sn = record { conv = conv; frg = 0; sn = sn; ts = 10; resendts = 210; rto = 200; fastack = 0; xmit = 1; payload = 97 ∷ [] }

-- a resend carries the conv that its segment got when first sent; its ts is now. The block counts both timeouts
both : Outgoing
both = updated 9 128 fresh_probe 0 0 (record { una = 0; next = 1; flying = flies 1 0 ∷ []; waiting = waits_one ∷ [] }) []

fresh : Outcome
fresh = update_rule room 100 both

late : Outcome
late = update_rule room 300 fresh.after

convs : (fresh.datagrams ≡ (head 9 81 128 100 1 0 1 ++ (98 ∷ [])) ∷ [])
    × (resends fresh ≡ 210 ∷ 300 ∷ [])
    × (late.datagrams ≡ (head 1 81 128 300 0 0 1 ++ (97 ∷ head 9 81 128 300 1 0 1 ++ (98 ∷ []))) ∷ [])
    × (resends late ≡ 600 ∷ 600 ∷ [])
    × (late.after.xmit ≡ 2)
    × (late.after.congestion ≡ congestion 32 128 1 16 1376)
unfolding room blank block congestion clock quiet updated head flies waits_one both fresh late resends update_rule once_updated unless_exceeding exceeds sum_of ticked due_from restarted far signed32 next_flush flushed_ack flushed window_of probe_wnd_size probed ask_bit leaving moved_out numbered_from pace_of rtomin_of resent_of due_pieces due_of resends_fast sent_as longer_rto flown_by tallied with_sent dies congestion_after resent_fast timed_out at_least_one pack_all pack goes stays datagram_of pick header_bytes probe_piece last_ack_of
convs = (refl, refl, refl, refl, refl, refl)

-- rmt_wnd 0: nothing fresh, resends go on; the first flush arms the probe, and the ask goes out when its time is up
shut : Outgoing
shut = updated 1 0 fresh_probe 0 0 (record { una = 0; next = 1; flying = flies 1 0 ∷ []; waiting = waits_one ∷ [] }) []

armed : Outcome
armed = update_rule room 250 shut

asked : Outcome
asked = update_rule room 7250 armed.after

probes : (armed.datagrams ≡ (head 1 81 128 250 0 0 1 ++ (97 ∷ [])) ∷ [])
    × (armed.after.sending.waiting ≡ waits_one ∷ [])
    × (armed.after.probe ≡ record { bits = 0; ts_probe = 7250; probe_wait = 7000 })
    × (asked.datagrams ≡ (head 1 83 128 0 0 0 0 ++ (head 1 81 128 7250 0 0 1 ++ (97 ∷ []))) ∷ [])
    × (asked.after.probe ≡ record { bits = 0; ts_probe = 17750; probe_wait = 10500 })
unfolding room blank block congestion clock quiet updated head flies waits_one shut armed asked update_rule once_updated unless_exceeding exceeds sum_of ticked due_from restarted far signed32 next_flush flushed_ack flushed window_of probe_wnd_size probed ask_bit leaving moved_out numbered_from pace_of rtomin_of resent_of due_pieces due_of resends_fast sent_as longer_rto flown_by tallied with_sent dies congestion_after resent_fast timed_out at_least_one pack_all pack goes stays datagram_of pick header_bytes probe_piece last_ack_of
probes = (refl, refl, refl, refl, refl)
