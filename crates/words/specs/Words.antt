-- A control block as thirty-five words, for a host that keeps it as a list of numbers: the words of a block, the block of words, and which words are
-- those of a block. Two numbers of 16 bits share a word, the low one first, and incr, of 64 bits, is its low and its high half; the flags share word 0,
-- whose other bits are 0. So any number is a block's, but for word 0. What every call that is handed memory tests comes first. Assumes nothing.
use Rattle.std.specs.Prelude.{ℕ, ◌+◌, ◌*◌, ◌/◌, ◌%◌, Bool, ◌&&◌, List, [], ◌∷◌, ltb, eqb, length, get_or, set}
use Rattle.std.specs.Int.{from_bool}
use Rattle.estimator.specs.declared.Estimator.{Estimator}
use Rattle.snd_ring.specs.declared.SndRing.{SndRing}
use Rattle.block.specs.declared.settings.Settings.{Settings}
use Rattle.block.specs.declared.clock.Clock.{Clock}
use Rattle.block.specs.declared.congestion.Congestion.{Congestion}
use Rattle.block.specs.declared.probe.Probe.{Probe}
use Rattle.block.specs.declared.receiver.Receiver.{Receiver}
use Rattle.block.specs.declared.acklist.AckList.{AckList}
use Rattle.block.specs.declared.sender.Sender.{Sender}
use Rattle.block.specs.declared.Kcp.{Kcp}

-- ---- the words of a block

-- a flag as a number
abbrev pub bit : Bool → ℕ
bit b = from_bool b

-- two numbers of 16 bits in a word
abbrev pub pair : ℕ → ℕ → ℕ
pair low high = low + high * 65536

abbrev pub flags_of : Kcp → ℕ
flags_of k =
    bit k.settings.nodelay
    + (2 * bit k.settings.nocwnd
    + (4 * bit k.settings.stream + (8 * bit k.settings.input_conv + (16 * bit k.clock.updated + 32 * bit k.sender.dead))))

unfoldable pub words_of : Kcp → List ℕ
words_of k =
    flags_of k
    ∷ k.settings.mtu ∷ k.settings.mss ∷ k.probe.probe_wait
    ∷ k.receiver.rcv_nxt ∷ pair k.receiver.rcv_wnd k.receiver.largest ∷ k.receiver.ring.start ∷ k.receiver.ring.queued ∷ k.receiver.ring.reach
    ∷ k.sender.ring.start ∷ k.sender.ring.reach ∷ k.sender.ring.flying ∷ k.sender.ring.unsent
    ∷ k.acklist.acks ∷ k.acklist.waiting ∷ k.probe.bits
    ∷ k.settings.conv ∷ k.sender.snd_una ∷ k.sender.snd_nxt
    ∷ pair k.congestion.snd_wnd k.congestion.rmt_wnd ∷ pair k.congestion.cwnd k.congestion.ssthresh
    ∷ k.congestion.incr % 4294967296 ∷ k.congestion.incr / 4294967296
    ∷ k.estimator.srtt ∷ k.estimator.rttval ∷ k.estimator.rto ∷ k.estimator.minrto
    ∷ k.clock.current ∷ k.clock.interval ∷ k.clock.ts_flush ∷ k.probe.ts_probe
    ∷ k.sender.xmit ∷ k.settings.fastresend ∷ k.settings.fastlimit ∷ k.settings.dead_link ∷ []

-- ---- the block of words

-- word i, and its two halves
abbrev pub at : List ℕ → ℕ → ℕ
at l i = get_or l i 0

abbrev pub low : List ℕ → ℕ → ℕ
low l i = at l i % 65536

abbrev pub high : List ℕ → ℕ → ℕ
high l i = at l i / 65536

-- the flag of value v in word 0
abbrev pub flag : List ℕ → ℕ → Bool
flag l v = eqb (at l 0 / v % 2) 1

abbrev pub settings_of : List ℕ → Settings
settings_of l =
    record { conv = at l 16; mtu = at l 1; mss = at l 2; nodelay = flag l 1; nocwnd = flag l 2; stream = flag l 4; input_conv = flag l 8; fastresend = at l 32; fastlimit = at l 33; dead_link = at l 34 }

abbrev pub clock_of : List ℕ → Clock
clock_of l = record { current = at l 27; interval = at l 28; ts_flush = at l 29; updated = flag l 16 }

abbrev pub estimator_of : List ℕ → Estimator
estimator_of l = record { srtt = at l 23; rttval = at l 24; rto = at l 25; minrto = at l 26 }

abbrev pub congestion_of : List ℕ → Congestion
congestion_of l =
    record { snd_wnd = low l 19; rmt_wnd = high l 19; cwnd = low l 20; ssthresh = high l 20; incr = at l 21 + at l 22 * 4294967296 }

abbrev pub probe_of : List ℕ → Probe
probe_of l = record { bits = at l 15; ts_probe = at l 30; probe_wait = at l 3 }

abbrev pub receiver_of : List ℕ → Receiver
receiver_of l =
    record { rcv_nxt = at l 4; rcv_wnd = low l 5; largest = high l 5; ring = record { start = at l 6; queued = at l 7; reach = at l 8 } }

abbrev pub acklist_of : List ℕ → AckList
acklist_of l = record { acks = at l 13; waiting = at l 14 }

abbrev pub sender_of : List ℕ → Sender
sender_of l =
    record { snd_una = at l 17; snd_nxt = at l 18; ring = record { start = at l 9; reach = at l 10; flying = at l 11; unsent = at l 12 }; xmit = at l 31; dead = flag l 32 }

unfoldable pub block_of : List ℕ → Kcp
block_of l =
    record {
      settings = settings_of l;
      clock = clock_of l;
      estimator = estimator_of l;
      congestion = congestion_of l;
      probe = probe_of l;
      receiver = receiver_of l;
      acklist = acklist_of l;
      sender = sender_of l;
    }

-- which words are those of a block
unfoldable pub is_block : List ℕ → Bool
is_block l = eqb (length l) 35 && ltb (at l 0) 64

-- ---- the words l with some of another block's: a call that changes few writes these and no others

unfoldable pub with_flags : Kcp → List ℕ → List ℕ
with_flags k l = set l 0 (flags_of k)

unfoldable pub with_mtu_words : Settings → List ℕ → List ℕ
with_mtu_words s l = set (set l 1 s.mtu) 2 s.mss

unfoldable pub with_rcv_words : Receiver → List ℕ → List ℕ
with_rcv_words r l = set (set (set (set l 4 r.rcv_nxt) 6 r.ring.start) 7 r.ring.queued) 8 r.ring.reach

unfoldable pub with_snd_words : SndRing → List ℕ → List ℕ
with_snd_words r l = set (set (set (set l 9 r.start) 10 r.reach) 11 r.flying) 12 r.unsent

unfoldable pub with_windows : Kcp → List ℕ → List ℕ
with_windows k l = set (set l 5 (pair k.receiver.rcv_wnd k.receiver.largest)) 19 (pair k.congestion.snd_wnd k.congestion.rmt_wnd)

unfoldable pub with_nodelay_words : Kcp → List ℕ → List ℕ
with_nodelay_words k l = set (set (set (set l 0 (flags_of k)) 26 k.estimator.minrto) 28 k.clock.interval) 32 k.settings.fastresend

-- flush and update: the flags, the probe, the window of congestion and the clock
unfoldable pub with_probe_words : Probe → List ℕ → List ℕ
with_probe_words p l = set (set (set l 3 p.probe_wait) 15 p.bits) 30 p.ts_probe

unfoldable pub with_cwnd_words : Congestion → List ℕ → List ℕ
with_cwnd_words c l = set (set (set l 20 (pair c.cwnd c.ssthresh)) 21 (c.incr % 4294967296)) 22 (c.incr / 4294967296)

unfoldable pub with_clock_words : Clock → List ℕ → List ℕ
with_clock_words c l = set (set l 27 c.current) 29 c.ts_flush

abbrev pub with_turn_words : Kcp → List ℕ → List ℕ
with_turn_words k l = with_clock_words k.clock (with_cwnd_words k.congestion (with_probe_words k.probe (with_flags k l)))

-- and where something goes out, the ack memory, snd_nxt, xmit and the send ring too
unfoldable pub with_count_words : Kcp → List ℕ → List ℕ
with_count_words k l = set (set (set (set l 13 k.acklist.acks) 14 k.acklist.waiting) 18 k.sender.snd_nxt) 31 k.sender.xmit

abbrev pub with_sent_words : Kcp → List ℕ → List ℕ
with_sent_words k l = with_snd_words k.sender.ring (with_count_words k (with_turn_words k l))
