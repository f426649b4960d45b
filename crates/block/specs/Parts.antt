-- A block, or a part of one, with one thing changed and all else as it was. Assumes nothing.
use Rattle.std.specs.Prelude.{ℕ, Bool}
use Rattle.estimator.specs.declared.Estimator.{Estimator}
use Rattle.block.specs.declared.settings.Settings.{Settings}
use Rattle.block.specs.declared.clock.Clock.{Clock}
use Rattle.block.specs.declared.congestion.Congestion.{Congestion}
use Rattle.block.specs.declared.probe.Probe.{Probe}
use Rattle.block.specs.declared.receiver.Receiver.{Receiver}
use Rattle.block.specs.declared.acklist.AckList.{AckList}
use Rattle.block.specs.declared.sender.Sender.{Sender}
use Rattle.block.specs.declared.Kcp.{Kcp}
use Rattle.rcv_ring.specs.declared.RcvRing.{RcvRing}
use Rattle.snd_ring.specs.declared.SndRing.{SndRing}

-- ---- a part of the block

abbrev pub with_settings : Kcp → Settings → Kcp
with_settings k x =
    record { settings = x; clock = k.clock; estimator = k.estimator; congestion = k.congestion; probe = k.probe; receiver = k.receiver; acklist = k.acklist; sender = k.sender }

abbrev pub with_clock : Kcp → Clock → Kcp
with_clock k x =
    record { settings = k.settings; clock = x; estimator = k.estimator; congestion = k.congestion; probe = k.probe; receiver = k.receiver; acklist = k.acklist; sender = k.sender }

abbrev pub with_estimator : Kcp → Estimator → Kcp
with_estimator k x =
    record { settings = k.settings; clock = k.clock; estimator = x; congestion = k.congestion; probe = k.probe; receiver = k.receiver; acklist = k.acklist; sender = k.sender }

abbrev pub with_congestion : Kcp → Congestion → Kcp
with_congestion k x =
    record { settings = k.settings; clock = k.clock; estimator = k.estimator; congestion = x; probe = k.probe; receiver = k.receiver; acklist = k.acklist; sender = k.sender }

abbrev pub with_probe : Kcp → Probe → Kcp
with_probe k x =
    record { settings = k.settings; clock = k.clock; estimator = k.estimator; congestion = k.congestion; probe = x; receiver = k.receiver; acklist = k.acklist; sender = k.sender }

abbrev pub with_receiver : Kcp → Receiver → Kcp
with_receiver k x =
    record { settings = k.settings; clock = k.clock; estimator = k.estimator; congestion = k.congestion; probe = k.probe; receiver = x; acklist = k.acklist; sender = k.sender }

abbrev pub with_ack_list : Kcp → AckList → Kcp
with_ack_list k x =
    record { settings = k.settings; clock = k.clock; estimator = k.estimator; congestion = k.congestion; probe = k.probe; receiver = k.receiver; acklist = x; sender = k.sender }

abbrev pub with_sender : Kcp → Sender → Kcp
with_sender k x =
    record { settings = k.settings; clock = k.clock; estimator = k.estimator; congestion = k.congestion; probe = k.probe; receiver = k.receiver; acklist = k.acklist; sender = x }

-- ---- a number of a part

abbrev pub with_conv : Settings → ℕ → Settings
with_conv s x =
    record { conv = x; mtu = s.mtu; mss = s.mss; nodelay = s.nodelay; nocwnd = s.nocwnd; stream = s.stream; input_conv = s.input_conv; fastresend = s.fastresend; fastlimit = s.fastlimit; dead_link = s.dead_link }

abbrev pub with_mtu : Settings → ℕ → ℕ → Settings
with_mtu s x y =
    record { conv = s.conv; mtu = x; mss = y; nodelay = s.nodelay; nocwnd = s.nocwnd; stream = s.stream; input_conv = s.input_conv; fastresend = s.fastresend; fastlimit = s.fastlimit; dead_link = s.dead_link }

abbrev pub with_nodelay : Settings → Bool → Bool → Settings
with_nodelay s x y =
    record { conv = s.conv; mtu = s.mtu; mss = s.mss; nodelay = x; nocwnd = y; stream = s.stream; input_conv = s.input_conv; fastresend = s.fastresend; fastlimit = s.fastlimit; dead_link = s.dead_link }

abbrev pub with_input_conv : Settings → Bool → Settings
with_input_conv s x =
    record { conv = s.conv; mtu = s.mtu; mss = s.mss; nodelay = s.nodelay; nocwnd = s.nocwnd; stream = s.stream; input_conv = x; fastresend = s.fastresend; fastlimit = s.fastlimit; dead_link = s.dead_link }

abbrev pub with_fastresend : Settings → ℕ → Settings
with_fastresend s x =
    record { conv = s.conv; mtu = s.mtu; mss = s.mss; nodelay = s.nodelay; nocwnd = s.nocwnd; stream = s.stream; input_conv = s.input_conv; fastresend = x; fastlimit = s.fastlimit; dead_link = s.dead_link }

abbrev pub with_dead_link : Settings → ℕ → Settings
with_dead_link s x =
    record { conv = s.conv; mtu = s.mtu; mss = s.mss; nodelay = s.nodelay; nocwnd = s.nocwnd; stream = s.stream; input_conv = s.input_conv; fastresend = s.fastresend; fastlimit = s.fastlimit; dead_link = x }

abbrev pub with_interval : Clock → ℕ → Clock
with_interval c x = record { current = c.current; interval = x; ts_flush = c.ts_flush; updated = c.updated }

abbrev pub with_minrto : Estimator → ℕ → Estimator
with_minrto e x = record { srtt = e.srtt; rttval = e.rttval; rto = e.rto; minrto = x }

abbrev pub with_rcv_ring : Receiver → ℕ → RcvRing → Receiver
with_rcv_ring r next ring = record { rcv_nxt = next; rcv_wnd = r.rcv_wnd; largest = r.largest; ring = ring }

abbrev pub with_snd_ring : Sender → SndRing → Sender
with_snd_ring s ring = record { snd_una = s.snd_una; snd_nxt = s.snd_nxt; ring = ring; xmit = s.xmit; dead = s.dead }

abbrev pub with_una : Sender → ℕ → Sender
with_una s una = record { snd_una = una; snd_nxt = s.snd_nxt; ring = s.ring; xmit = s.xmit; dead = s.dead }
