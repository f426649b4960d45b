-- "As `flush`, `flush_ack`, `update` and `check`, with datagrams put end to end in lent bytes and their lengths in a lent list; .. lent bytes and lengths
-- past those written stay": what they leave of the block and of every lent number and byte. The datagrams of a flush are those of the rules
-- (flushing/specs/Rules), asked of what is seen in the memory; the send ring afterwards is that of flight/specs/Memory. Assumes nothing.
use Rattle.std.specs.Prelude.{ℕ, ◌+◌, ◌≤◌, ◌<◌, ◌^◌, false, List, [], ◌++◌, map, length, take, Result, Ok, Err}
use Rattle.serial.specs.Branch.{pick}
use Rattle.serial.specs.Wrap.{add32, sub32}
use Rattle.ring.specs.Records.{put}
use Rattle.snd_ring.specs.declared.SndRing.{SndRing}
use Rattle.snd_ring.specs.Store.{Store}
use Rattle.block.specs.declared.Kcp.{Kcp}
use Rattle.block.specs.declared.sender.Sender.{Sender}
use Rattle.block.specs.declared.refusal.Refusal.{Refusal}
use Rattle.block.specs.declared.refusal.Refusal.TheVariants.{OutTooSmall}
use Rattle.block.specs.Parts.{with_clock, with_congestion, with_probe, with_ack_list, with_sender}
use Rattle.transmit.specs.Memory.{seen, Side}
use Rattle.flushing.specs.declared.clock.Tick.{Tick}
use Rattle.flushing.specs.declared.due.Tally.{Tally}
use Rattle.flushing.specs.declared.headers.Told.{Told}
use Rattle.flushing.specs.Pack.{flat, pack, pack_all_sizes}
use Rattle.flushing.specs.Windows.{wnd_unused, window_of, leaving, congestion_after}
use Rattle.flushing.specs.Probing.{probe_wnd_size}
use Rattle.flushing.specs.Due.{pace_of}
use Rattle.flushing.specs.Clocks.{ticked}
use Rattle.flushing.specs.Rules.{Outgoing, exceeds, flushed, check_rule}
use Rattle.packing.specs.declared.packer.Packer.{Packer}
use Rattle.packing.specs.Acks.{acks_of, ack_bytes}
use Rattle.packing.specs.Front.{front_pieces, front_sizes}
use Rattle.packing.specs.FlushAck.{Writing, room_of, put_out}
use Rattle.flight.specs.Memory.{flight_places, waiting_places, launched_at, flown_over, tally_over, pieces_over, sizes_over, fresh_sizes}
use Rattle.output.specs.declared.Plan.{Plan}

-- ---- what the calls see

-- of the receive side the block's own numbers and no memory; of the ack memory the acks and the bytes that are counted
unfoldable pub outgoing : Kcp → Store → List ℕ → List ℕ → Outgoing
outgoing k m acks waiting = record {
  settings = k.settings;
  clock = k.clock;
  rx_rto = k.estimator.rto;
  congestion = k.congestion;
  probe = k.probe;
  rcv_nxt = k.receiver.rcv_nxt;
  rcv_wnd = k.receiver.rcv_wnd;
  queued = k.receiver.ring.queued;
  sending = seen k.sender m;
  xmit = k.sender.xmit;
  dead = k.sender.dead;
  acks = acks_of acks k.acklist.acks;
  waiting = take k.acklist.waiting waiting;
}

-- "conv: self.conv, .. wnd: self.wnd_unused(), una: self.rcv_nxt"
abbrev pub told_of : Kcp → Told
told_of k = record { conv = k.settings.conv; wnd = wnd_unused k.receiver.rcv_wnd k.receiver.ring.queued; una = k.receiver.rcv_nxt }

-- ---- what a call leaves: the block, the answer, how many datagrams went out; the bytes that wait, and the lent bytes and lengths

pub record Out : Type 0 where
  pub block : Kcp
  pub answer : Result Unit Refusal
  pub datagrams : ℕ
  pub written : Writing

-- "all as it was"
abbrev pub unsent : Kcp → Writing → Refusal → Out
unsent k w why = record { block = k; answer = Err why; datagrams = 0; written = w }

-- done: these datagrams went out, and these bytes wait
abbrev pub sent_off : Kcp → List (List ℕ) × List ℕ → Writing → Out
sent_off k packed w = record { block = k; answer = Ok tt; datagrams = length packed.0; written = put_out packed w }

-- no ack is left, and so many bytes wait
abbrev pub acked : Kcp → ℕ → Kcp
acked k waiting = with_ack_list k (record { acks = 0; waiting = waiting })

-- ---- `flush_ack`

-- "flush_ack leaves its last bytes waiting"; 13 leaves all
unfoldable pub flush_ack_at : Kcp → List ℕ → Writing → Out
flush_ack_at k acks w =
    let packed = pack k.settings.mtu (take k.acklist.waiting w.waiting) (ack_bytes (told_of k) (acks_of acks k.acklist.acks)) in
    pick (exceeds (room_of w) (map length packed.0)) (unsent k w OutTooSmall) (sent_off (acked k (length packed.1)) packed w)

-- ---- `flush`

-- what it goes by, from the block's numbers alone
abbrev pub plan_of : Kcp → Plan
plan_of k =
    let window = window_of k.settings.nocwnd k.congestion in
    record {
      told = told_of k;
      pace = pace_of k.settings k.clock.current k.estimator.rto;
      probe = probe_wnd_size k.congestion.rmt_wnd k.clock.current k.probe;
      window = window;
      leavers = leaving (add32 k.sender.snd_una window) k.sender.snd_nxt k.sender.ring.unsent;
    }

-- the send ring once segments have left the queue, and once those in flight were looked at
abbrev pub moved_at : Kcp → Store → Side
moved_at k m = launched_at k.settings.conv k.clock.current k.estimator.rto (plan_of k).leavers k.sender m

abbrev pub flown_store : Kcp → Store → Store
flown_store k m = flown_over (plan_of k).pace (flight_places (moved_at k m).sender.ring (moved_at k m).store) (moved_at k m).store

-- the segments that go out
abbrev pub segments_of : Kcp → Store → List (List ℕ)
segments_of k m = pieces_over (told_of k) (plan_of k).pace (flight_places (moved_at k m).sender.ring (moved_at k m).store) (moved_at k m).store

-- what goes out, in order: acks, ask and tell, then the segments in flight that go out; and the sizes of that by what is found before anything changes
unfoldable pub pieces_at : Kcp → Store → List ℕ → List (List ℕ)
pieces_at k m acks =
    front_pieces (told_of k) (plan_of k).probe.bits (acks_of acks k.acklist.acks) ++ segments_of k m

unfoldable pub sizes_at : Kcp → Store → List ℕ
sizes_at k m =
    front_sizes k.acklist.acks (plan_of k).probe.bits
    ++ (sizes_over (plan_of k).pace (flight_places k.sender.ring m) m ++ fresh_sizes (waiting_places k.sender.ring m (plan_of k).leavers) m)

-- what the segments leave, behind a packing that has come as far as p: they are launched, looked at and written, and what waits then goes out
pub record Rear : Type 0 where
  pub sender : Sender
  pub tally : Tally
  pub store : Store
  pub out : List ℕ
  pub lengths : List ℕ

-- before anything is counted
abbrev pub uncounted : Kcp → Tally
uncounted k = record { xmit = k.sender.xmit; dead = k.sender.dead; lost = false; change = false }

abbrev pub tally_at : Kcp → Store → Tally
tally_at k m =
    tally_over k.settings.dead_link (plan_of k).pace (flight_places (moved_at k m).sender.ring (moved_at k m).store) (moved_at k m).store (uncounted k)

abbrev pub rear_at : Kcp → Store → List ℕ → List ℕ → Packer → Rear
rear_at k m out lengths p = record {
  sender = (moved_at k m).sender;
  tally = tally_at k m;
  store = flown_store k m;
  out = put out (p.start + p.used) (flat (segments_of k m));
  lengths = put lengths p.count (pack_all_sizes k.settings.mtu p.used (map length (segments_of k m)));
}

-- they fit what is lent
pub record RearFits (k : Kcp) (m : Store) (out lengths : List ℕ) (p : Packer) : Type 0 where
  pub small : p.used ≤ 1500
  pub bytes : p.start + p.used + length (flat (segments_of k m)) ≤ length out
  pub few : p.start + p.used + length (flat (segments_of k m)) < 2 ^ 32
  pub cuts : p.count + length (pack_all_sizes k.settings.mtu p.used (map length (segments_of k m))) ≤ length lengths

-- the same of all of it, from the bytes that wait on
abbrev pub written_at : Kcp → Store → List ℕ → List ℕ → List ℕ → List ℕ → Rear
written_at k m acks waiting out lengths = record {
  sender = (moved_at k m).sender;
  tally = tally_at k m;
  store = flown_store k m;
  out = put out 0 (take k.acklist.waiting waiting ++ flat (pieces_at k m acks));
  lengths = put lengths 0 (pack_all_sizes k.settings.mtu k.acklist.waiting (map length (pieces_at k m acks)));
}

pub record FlushFits (k : Kcp) (m : Store) (acks out lengths : List ℕ) : Type 0 where
  pub bytes : k.acklist.waiting + length (flat (pieces_at k m acks)) ≤ length out
  pub few : k.acklist.waiting + length (flat (pieces_at k m acks)) < 2 ^ 32
  pub cuts : length (pack_all_sizes k.settings.mtu k.acklist.waiting (map length (pieces_at k m acks))) ≤ length lengths

-- the block with these numbers of a flush: the windows, the probe, whose bits are used up, and the sending side
abbrev pub settled_by : Kcp → Sender → Tally → Kcp
settled_by k s t =
    let p = plan_of k in
    with_sender
    (acked
    (with_probe
    (with_congestion k (congestion_after k.settings.mss (sub32 s.snd_nxt s.snd_una) p.pace.resent p.window t.change t.lost k.congestion))
    (record { bits = 0; ts_probe = p.probe.ts_probe; probe_wait = p.probe.probe_wait }))
    0)
    (record { snd_una = s.snd_una; snd_nxt = s.snd_nxt; ring = s.ring; xmit = t.xmit; dead = t.dead })

-- the block b with what a flush of it leaves; the ring has moved on
abbrev pub after_flush : Kcp → SndRing → Outgoing → Kcp
after_flush b ring o =
    with_sender (acked (with_probe (with_congestion b o.congestion) o.probe) 0)
    (record { snd_una = b.sender.snd_una; snd_nxt = o.sending.next; ring = ring; xmit = o.xmit; dead = o.dead })

-- what a flush leaves, the send ring with it
pub record FlushOut : Type 0 where
  pub out : Out
  pub store : Store

-- b is the block as the flush finds it, k the block before the call, which 13 leaves
unfoldable pub flush_at : Kcp → Kcp → Store → List ℕ → Writing → FlushOut
flush_at k b m acks w =
    let f = flushed (outgoing b m acks w.waiting) in
    pick (exceeds (room_of w) (map length f.datagrams))
    (record { out = unsent k w OutTooSmall; store = m })
    (record { out = sent_off (after_flush b (moved_at b m).sender.ring f.after) (f.datagrams, []) w; store = flown_store b m })

-- ---- `update`

-- the clock is set, and a flush runs where one is due
unfoldable pub update_at : ℕ → Kcp → Store → List ℕ → Writing → FlushOut
update_at current k m acks w =
    let t = ticked k.clock current in
    let b = with_clock k t.clock in
    pick t.flushes (flush_at k b m acks w) (record { out = record { block = b; answer = Ok tt; datagrams = 0; written = w }; store = m })

-- the same with a clock that was set before: a flush is a turn that runs with the clock as it is
unfoldable pub turn_at : Tick → Kcp → Store → List ℕ → Writing → FlushOut
turn_at t k m acks w =
    let b = with_clock k t.clock in
    pick t.flushes (flush_at k b m acks w) (record { out = record { block = b; answer = Ok tt; datagrams = 0; written = w }; store = m })

-- ---- `check`

unfoldable pub check_at : ℕ → Kcp → Store → ℕ
check_at current k m = check_rule current (outgoing k m [] [])
