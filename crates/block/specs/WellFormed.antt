-- "Well formed: .. queue and buffer of the receive side at most the largest window yet set, which the block keeps; .. twice the largest window
-- at most R, and rcv_wnd from 128 to that window; mtu within its limits and mss = mtu − 24; at most A acks; at most 1,500 waiting bytes;
-- probe_wait 0 or 7,000 to 120,000", and of "every slot of a pool is in exactly one of free, queue, buffer" that there are no more in use
-- than slots. Each as a test and as a record of facts; that the one is true exactly when the other holds: proofs/Exact.
-- What no lent memory within the limits could bear is refused by the block's own numbers; the rest needs a lent size. Assumes nothing.
use Rattle.std.specs.Prelude.{ℕ, ◌+◌, ◌*◌, ◌≤◌, ◌<◌, ◌≡◌, Bool, ◌&&◌, ◌||◌, ◌⊎◌, List, length, leb, ltb, eqb}
use Rattle.block.specs.declared.settings.Settings.{Settings}
use Rattle.block.specs.declared.probe.Probe.{Probe}
use Rattle.block.specs.declared.receiver.Receiver.{Receiver}
use Rattle.block.specs.declared.acklist.AckList.{AckList}
use Rattle.block.specs.declared.sender.Sender.{Sender}
use Rattle.block.specs.declared.Kcp.{Kcp}
use Rattle.block.specs.Sizes.{within, Within, mtu_size, mss_of, ack_sizes, pairs}

-- ---- what the block's numbers alone decide

-- "mtu within its limits and mss = mtu − 24"
unfoldable pub settings_fit : Settings → Bool
settings_fit s = mtu_size s.mtu && eqb s.mss (mss_of s.mtu)

pub record SettingsFit (s : Settings) : Type 0 where
  pub mtu : Within 50 s.mtu 1500
  pub mss : s.mss ≡ mss_of s.mtu

-- "probe_wait 0 or 7,000 to 120,000"
unfoldable pub probe_fits : Probe → Bool
probe_fits p = eqb p.probe_wait 0 || within 7000 p.probe_wait 120000

pub record ProbeFits (p : Probe) : Type 0 where
  pub wait : (p.probe_wait ≡ 0) ⊎ Within 7000 p.probe_wait 120000

-- "queue and buffer of the receive side at most the largest window yet set", "rcv_wnd from 128 to that window", which is at most half of 1,024
unfoldable pub receiver_fits : Receiver → Bool
receiver_fits r =
    within 128 r.rcv_wnd r.largest
    && ((leb r.ring.queued r.largest && leb r.ring.reach r.largest) && (leb r.largest 512 && ltb r.ring.start 1024))

pub record ReceiverFits (r : Receiver) : Type 0 where
  pub window : Within 128 r.rcv_wnd r.largest
  pub queue : r.ring.queued ≤ r.largest
  pub buffer : r.ring.reach ≤ r.largest
  pub most : r.largest ≤ 512
  pub start : r.ring.start < 1024

-- no more slots in use than any memory has; as many segments in flight as its reach at most, and one at least where it is not 0
unfoldable pub sender_fits : Sender → Bool
sender_fits s =
    leb (s.ring.reach + s.ring.unsent) 1024
    && ((leb s.ring.flying s.ring.reach && (eqb s.ring.reach 0 || ltb 0 s.ring.flying)) && ltb s.ring.start 1024)

pub record SenderFits (s : Sender) : Type 0 where
  pub used : s.ring.reach + s.ring.unsent ≤ 1024
  pub gaps : s.ring.flying ≤ s.ring.reach
  pub front : (s.ring.reach ≡ 0) ⊎ (0 < s.ring.flying)
  pub start : s.ring.start < 1024

-- "at most 1,500 waiting bytes", and no more acks than any list holds
unfoldable pub acklist_fits : AckList → Bool
acklist_fits a = leb a.acks 4096 && leb a.waiting 1500

pub record AckListFits (a : AckList) : Type 0 where
  pub acks : a.acks ≤ 4096
  pub waiting : a.waiting ≤ 1500

unfoldable pub own_numbers : Kcp → Bool
own_numbers k =
    (settings_fit k.settings && probe_fits k.probe)
    && ((receiver_fits k.receiver && sender_fits k.sender) && acklist_fits k.acklist)

pub record OwnNumbers (k : Kcp) : Type 0 where
  pub settings : SettingsFit k.settings
  pub probe : ProbeFits k.probe
  pub receiver : ReceiverFits k.receiver
  pub sender : SenderFits k.sender
  pub acklist : AckListFits k.acklist

-- ---- what needs a lent size

-- "twice the largest window at most R", and the ring starts within R
abbrev pub receive_numbers : ℕ → Receiver → Bool
receive_numbers slots r = ltb r.ring.start slots && leb (2 * r.largest) slots

pub record ReceiveNumbers (slots : ℕ) (r : Receiver) : Type 0 where
  pub start : r.ring.start < slots
  pub twice : 2 * r.largest ≤ slots

-- no more slots in use than P, and the ring starts within P
abbrev pub send_numbers : ℕ → Sender → Bool
send_numbers slots s = ltb s.ring.start slots && leb (s.ring.reach + s.ring.unsent) slots

pub record SendNumbers (slots : ℕ) (s : Sender) : Type 0 where
  pub start : s.ring.start < slots
  pub used : s.ring.reach + s.ring.unsent ≤ slots

-- "at most A acks"
abbrev pub ack_numbers : ℕ → AckList → Bool
ack_numbers pairs a = leb a.acks pairs

-- the limits of the ack memory, and "at most A acks"
unfoldable pub ack_lent : AckList → List ℕ → List ℕ → Bool
ack_lent a acks waiting = ack_sizes (length acks) (length waiting) && ack_numbers (pairs (length acks)) a
