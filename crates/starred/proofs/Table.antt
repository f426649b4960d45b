-- The starred worked values, as one table under one statement: what the definitions give is what the paper says, row by row.
-- A further row is one more line of `table`. Assumes nothing.
use Prim.Native.Nat.{ℕ, zero, suc}
use mathlib.Core.Path.{◌≡◌, refl}
use mathlib.Core.Bool.{Bool, true, false}
use mathlib.Core.List.{List, [], ◌∷◌, map}
use lib.IntN.{ℤ, pos, negsuc}
use lib.ListN.{length, replicate}
use Rattle.serial.specs.Branch.{pick}
use Rattle.serial.specs.Wrap.{signed32, timediff}
use Rattle.serial.specs.Window.{distance, acknowledged}
use Rattle.estimator.specs.declared.Estimator.{Estimator}
use Rattle.estimator.specs.Estimate.{fresh, timed, measured}
use Rattle.receiving.specs.Rules.{Receiving, skipped, is_held, reached, taken}
use Rattle.sending.specs.Rules.{Segment}
use Rattle.sending.specs.Send.{Verdict, too_big, pool_full, fits, verdict, fills, joins, pieces, needed, cut, last_of, filled, queued, left_by, send}
use Rattle.wire.specs.Header.{header_bytes}
use Rattle.block.specs.declared.probe.Probe.{Probe}
use Rattle.block.specs.Fresh.{fresh_settings, fresh_clock, fresh_congestion, fresh_probe}
use Rattle.flushing.specs.Windows.{window_of, leaving, resent_of, at_least_one, congestion_after}
use Rattle.flushing.specs.Probing.{ask_bit, probed, probe_wnd_size}
use Rattle.flushing.specs.Due.{rtomin_of, pace_of, due_of, sent_as, flown_by, dies, with_sent}
use Rattle.flushing.specs.Clocks.{far, restarted, due_from, next_flush, ticked}
use Rattle.flushing.specs.Pack.{flat, sum_of, datagram_of, goes, stays, pack, pack_all}
use Rattle.flushing.specs.Pieces.{probe_piece, numbered_from, due_pieces, tallied}
use Rattle.flushing.specs.Rules.{Outgoing, Outcome, moved_out, flushed, exceeds, unless_exceeding, update_rule}

pub data Value : Type 0 where
  signed : ℤ → Value
  flags : List Bool → Value
  numbers : List ℕ → Value

pub record Row : Type 0 where
  pub gives : Value
  pub says : Value

row : Value → Value → Row
row gives says = record { gives = gives; says = says }

-- a receive side that holds nothing
at : ℕ → ℕ → Receiving
at rcv_nxt rcv_wnd = record { next = rcv_nxt; window = rcv_wnd; largest = rcv_wnd; queue = []; held = [] }

-- whether a push is acknowledged, and whether it is taken, with room in the ack list
push : ℕ → ℕ → ℕ → Value
push rcv_nxt rcv_wnd sn = flags (acknowledged rcv_nxt rcv_wnd sn ∷ taken false (at rcv_nxt rcv_wnd) (record { sn = sn; frg = 0; payload = [] }) ∷ [])

-- a fresh estimator that measures one time after the other, at the default interval
after : List ℕ → Estimator
after [] = fresh
after (rtt ∷ earlier) = measured (after earlier) rtt 100

times : Estimator → Value
times e = numbers (e.srtt ∷ e.rttval ∷ e.rto ∷ [])

-- how many segments a send of n bytes needs with mss 1376 where nothing is queued, and the number of its refusal with 128 free slots
refusal : Verdict → ℕ
refusal too_big = 8
refusal pool_full = 12
refusal fits = 0

needs : ℕ → Value
needs n = let new = needed 1376 false 0 0 n in numbers (new ∷ refusal (verdict new 128) ∷ [])

-- what it queues, where nothing was
queues : Bool → ℕ → List Segment
queues stream n = (send 1376 stream (replicate n 0) (record { una = 0; next = 0; flying = []; waiting = [] }) 128).waiting

frgs : List Segment → Value
frgs l = numbers (map (λ (s : Segment). s.frg) l)

sizes : List Segment → Value
sizes l = numbers (map (λ (s : Segment). length s.payload) l)

-- the waits of a probe, each flush as the wait before is over
waits : ℕ → Probe → List ℕ
waits zero p = []
waits (suc n) p = let q = probe_wnd_size 0 p.ts_probe p in q.probe_wait ∷ waits n q

-- a plain block of conv 0x11223344 that has queued "hi", and its first two updates, lent enough
hi : Outgoing
hi = record {
  settings = fresh_settings 287454020 false;
  clock = fresh_clock 100;
  rx_rto = 200;
  congestion = fresh_congestion;
  probe = fresh_probe;
  rcv_nxt = 0;
  rcv_wnd = 128;
  queued = 0;
  sending = send 1376 false (104 ∷ 105 ∷ []) (record { una = 0; next = 0; flying = []; waiting = [] }) 128;
  xmit = 0;
  dead = false;
  acks = [];
  waiting = [];
}

at0 : Outcome
at0 = update_rule (record { bytes = 1500; lengths = 1 }) 0 hi

at100 : Outcome
at100 = update_rule (record { bytes = 1500; lengths = 1 }) 100 at0.after

lengths : Outcome → Value
lengths o = numbers (map length o.datagrams)

pub table : List Row
table =
    -- "timediff(0, 4294967295) = 1; timediff(2147483648, 0) = −2147483648"
    row (signed (timediff 0 4294967295)) (signed (pos 1))
    ∷ row (signed (timediff 2147483648 0)) (signed (negsuc 2147483647))
    -- "rcv_nxt 4294967290, window 128: sn 121 taken, 122 neither acked nor taken, 4294967289 acked only"
    ∷ row (push 4294967290 128 121) (flags (true ∷ true ∷ []))
    ∷ row (push 4294967290 128 122) (flags (false ∷ false ∷ []))
    ∷ row (push 4294967290 128 4294967289) (flags (true ∷ false ∷ []))
    -- "rcv_nxt 0, window 128: sn 2147483775 not acked, 2147483776 acked"
    ∷ row (push 0 128 2147483775) (flags (false ∷ false ∷ []))
    ∷ row (push 0 128 2147483776) (flags (true ∷ false ∷ []))
    -- "Fresh, rtt 50: srtt 50, rttval 25, rto 150; then rtt 90: 55, 28, 167. Fresh, rtt 0: rto 100, srtt 0. Fresh, rtt 10: rto 110"
    ∷ row (times (after (50 ∷ []))) (numbers (50 ∷ 25 ∷ 150 ∷ []))
    ∷ row (times (after (90 ∷ 50 ∷ []))) (numbers (55 ∷ 28 ∷ 167 ∷ []))
    ∷ row (numbers ((after (0 ∷ [])).rto ∷ (after (0 ∷ [])).srtt ∷ [])) (numbers (100 ∷ 0 ∷ []))
    ∷ row (numbers ((after (10 ∷ [])).rto ∷ [])) (numbers (110 ∷ []))
    -- "Probe waits: 7000, 10500, 15750, 23625, 35437, 53155, 79732, 119598, 120000, 120000"
    ∷ row (numbers (waits 10 fresh_probe)) (numbers (7000 ∷ 10500 ∷ 15750 ∷ 23625 ∷ 35437 ∷ 53155 ∷ 79732 ∷ 119598 ∷ 120000 ∷ 120000 ∷ []))
    -- "mss 1376: send of 1376 gives one segment, 1377 two (frg 1, 0); 174,752 gives 127; 174,753 refused by 8"
    ∷ row (sizes (queues false 1376)) (numbers (1376 ∷ []))
    ∷ row (frgs (queues false 1377)) (numbers (1 ∷ 0 ∷ []))
    ∷ row (needs 174752) (numbers (127 ∷ 0 ∷ []))
    ∷ row (needs 174753) (numbers (128 ∷ 8 ∷ []))
    -- "Empty send: plain queues one empty segment, stream queues none"
    ∷ row (sizes (queues false 0)) (numbers (0 ∷ []))
    ∷ row (sizes (queues true 0)) (numbers [])
    -- "Plain, conv 0x11223344, send "hi", update(0): no datagram, cwnd 1. update(100): one datagram of 26 bytes, 44 33 22 11 51 00 80 00 64 00 00 00
    -- 00 00 00 00 00 00 00 00 02 00 00 00 68 69; resendts 325"
    ∷ row (lengths at0) (numbers [])
    ∷ row (numbers (at0.after.congestion.cwnd ∷ [])) (numbers (1 ∷ []))
    ∷ row (lengths at100) (numbers (26 ∷ []))
    ∷ row (numbers (flat at100.datagrams)) (numbers (68 ∷ 51 ∷ 34 ∷ 17 ∷ 81 ∷ 0 ∷ 128 ∷ 0 ∷ 100 ∷ 0 ∷ 0 ∷ 0 ∷ 0 ∷ 0 ∷ 0 ∷ 0 ∷ 0 ∷ 0 ∷ 0 ∷ 0 ∷ 2 ∷ 0 ∷ 0 ∷ 0 ∷ 104 ∷ 105 ∷ []))
    ∷ row (numbers (map (λ (s : Segment). s.resendts) at100.after.sending.flying)) (numbers (325 ∷ []))
    ∷ []

pub worked : map (λ (r : Row). r.gives) table ≡ map (λ (r : Row). r.says) table
unfolding row at push taken reached skipped is_held after times needs queues frgs sizes table pick distance signed32 timed measured send left_by verdict refusal queued filled needed joins fills pieces cut last_of waits probe_wnd_size probed ask_bit hi at0 at100 lengths update_rule unless_exceeding exceeds sum_of flat ticked due_from restarted far next_flush flushed window_of leaving moved_out numbered_from pace_of rtomin_of resent_of due_pieces due_of sent_as flown_by tallied with_sent dies congestion_after at_least_one pack_all pack goes stays datagram_of header_bytes probe_piece
worked = refl
