-- "A block is made plain or stream, each with its own fixed defaults: mtu 1400, snd_wnd 32, rcv_wnd 128, rmt_wnd 128, cwnd 0, ssthresh 2,
-- rx_rto 200, rx_minrto 100, interval 100, ts_flush 100, fastlimit 5, dead_link 20, all else 0 or false."
-- The interval, which ts_flush starts from, is a parameter; the largest window yet set is that of rcv_wnd. Assumes nothing.
use Rattle.std.specs.Prelude.{ℕ, ◌≡◌, Bool, true, false, ◌&&◌, List, [], length, Result, Ok, Err}
use Rattle.serial.specs.Branch.{pick}
use Rattle.estimator.specs.Estimate as estimate
use Rattle.ring.specs.Lists.{Lists}
use Rattle.block.specs.declared.settings.Settings.{Settings}
use Rattle.block.specs.declared.clock.Clock.{Clock}
use Rattle.block.specs.declared.congestion.Congestion.{Congestion}
use Rattle.block.specs.declared.probe.Probe.{Probe}
use Rattle.block.specs.declared.receiver.Receiver.{Receiver}
use Rattle.block.specs.declared.acklist.AckList.{AckList}
use Rattle.block.specs.declared.sender.Sender.{Sender}
use Rattle.block.specs.declared.Kcp.{Kcp}
use Rattle.block.specs.declared.refusal.Refusal.TheVariants.{BadPool}
use Rattle.block.specs.Refusals.{number_of_answer, values_of_answer}
use Rattle.block.specs.Sizes.{mss_of, receive_sizes, send_sizes, ack_sizes}
use Rattle.block.specs.declared.refusal.Refusal.{Refusal}

-- "mtu 1400", "fastlimit 5, dead_link 20"
abbrev pub fresh_settings : ℕ → Bool → Settings
fresh_settings conv stream =
    record { conv = conv; mtu = 1400; mss = mss_of 1400; nodelay = false; nocwnd = false; stream = stream; input_conv = false; fastresend = 0; fastlimit = 5; dead_link = 20 }

-- "interval 100, ts_flush 100"
abbrev pub fresh_clock : ℕ → Clock
fresh_clock interval = record { current = 0; interval = interval; ts_flush = interval; updated = false }

-- "snd_wnd 32", "rmt_wnd 128, cwnd 0, ssthresh 2"
abbrev pub fresh_congestion : Congestion
fresh_congestion = record { snd_wnd = 32; rmt_wnd = 128; cwnd = 0; ssthresh = 2; incr = 0 }

abbrev pub fresh_probe : Probe
fresh_probe = record { bits = 0; ts_probe = 0; probe_wait = 0 }

-- "rcv_wnd 128"; "leaves every slot free"
abbrev pub fresh_receiver : Receiver
fresh_receiver = record { rcv_nxt = 0; rcv_wnd = 128; largest = 128; ring = record { start = 0; queued = 0; reach = 0 } }

-- "and the ack list empty"
abbrev pub fresh_ack_list : AckList
fresh_ack_list = record { acks = 0; waiting = 0 }

abbrev pub fresh_sender : Sender
fresh_sender = record { snd_una = 0; snd_nxt = 0; ring = record { start = 0; reach = 0; flying = 0; unsent = 0 }; xmit = 0; dead = false }

-- a fresh block of this conversation, a stream or plain, that flushes at this interval
unfoldable pub fresh : ℕ → Bool → ℕ → Kcp
fresh conv stream interval =
    record {
      settings = fresh_settings conv stream;
      clock = fresh_clock interval;
      estimator = estimate.fresh;
      congestion = fresh_congestion;
      probe = fresh_probe;
      receiver = fresh_receiver;
      acklist = fresh_ack_list;
      sender = fresh_sender;
    }

-- "interval 100, ts_flush 100"
abbrev pub fresh_plain : ℕ → Kcp
fresh_plain conv = fresh conv false 100

abbrev pub fresh_stream : ℕ → Kcp
fresh_stream conv = fresh conv true 100

-- the memory lent to a constructor: that of the receive side, of the send side, and the ack memory
pub record Lent : Type 0 where
  pub rcv : Lists
  pub snd : Lists
  pub acks : List ℕ
  pub waiting : List ℕ

-- "Making a block is handed all three, whose old contents are no fault"
unfoldable pub lent_sizes : Lent → Bool
lent_sizes m =
    receive_sizes (length m.rcv.records) (length m.rcv.room)
    && send_sizes (length m.snd.records) (length m.snd.room)
    && ack_sizes (length m.acks) (length m.waiting)

-- "a size outside the limits gives 15 there too"
unfoldable pub made_of : Bool → Kcp → Result Kcp Refusal
made_of sizes k = pick sizes (Ok k) (Err BadPool)

-- what a constructor of the block k promises of its answer r; it is lent its memory to look at only, so that no byte of it changes
pub record Makes (m : Lent) (k : Kcp) (r : Result Kcp Refusal) : Type 0 where
  pub answer : r ≡ made_of (lent_sizes m) k
  pub refusal : number_of_answer r ≡ pick (lent_sizes m) 0 15
  pub values : values_of_answer r ≡ []
