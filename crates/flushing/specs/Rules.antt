-- `flush_ack`, `flush`, `update` and `check` over lists of segments: "As `flush`, `flush_ack`, `update` and `check`, with datagrams put end to end in
-- lent bytes and their lengths in a lent list"; "flush_ack leaves its last bytes waiting"; refusals 9 and 13. Assumes nothing.
use Rattle.std.specs.Prelude.{ℕ, Bool, false, ◌||◌, List, [], ◌++◌, map, length, take, drop, ltb, Result, Ok, Err}
use Rattle.serial.specs.Branch.{pick}
use Rattle.serial.specs.Wrap.{add32, sub32}
use Rattle.block.specs.declared.settings.Settings.{Settings}
use Rattle.block.specs.declared.clock.Clock.{Clock}
use Rattle.block.specs.declared.congestion.Congestion.{Congestion}
use Rattle.block.specs.declared.probe.Probe.{Probe}
use Rattle.block.specs.declared.refusal.Refusal.{Refusal}
use Rattle.block.specs.declared.refusal.Refusal.TheVariants.{NeedUpdate, OutTooSmall}
use Rattle.sending.specs.Rules.{Segment, Sending, with_flying}
use Rattle.flushing.specs.declared.due.Pace.{Pace}
use Rattle.flushing.specs.declared.due.Tally.{Tally}
use Rattle.flushing.specs.declared.headers.Told.{Told}
use Rattle.flushing.specs.Windows.{wnd_unused, window_of, leaving, congestion_after}
use Rattle.flushing.specs.Probing.{probe_wnd_size}
use Rattle.flushing.specs.Due.{pace_of}
use Rattle.flushing.specs.Clocks.{ticked, check_of}
use Rattle.flushing.specs.Pack.{sum_of, pack, pack_all}
use Rattle.flushing.specs.Pieces.{Ack, Piece, piece_bytes, ack_pieces, numbered_from, sent_out, tallied, flush_pieces}

-- what the calls see of a block: its parts, rx_rto, what the receiving side is told of (rcv_nxt, rcv_wnd, how many are queued), the segments in flight
-- and those that wait, the timeouts counted, whether the link is dead, the acks, and the bytes that wait
pub record Outgoing : Type 0 where
  pub settings : Settings
  pub clock : Clock
  pub rx_rto : ℕ
  pub congestion : Congestion
  pub probe : Probe
  pub rcv_nxt : ℕ
  pub rcv_wnd : ℕ
  pub queued : ℕ
  pub sending : Sending
  pub xmit : ℕ
  pub dead : Bool
  pub acks : List Ack
  pub waiting : List ℕ

-- the same block, and the datagrams that went out
pub record Flushed : Type 0 where
  pub after : Outgoing
  pub datagrams : List (List ℕ)

-- ---- parts

-- "conv: self.conv, .. wnd: self.wnd_unused(), una: self.rcv_nxt"
abbrev pub told_by : Outgoing → Told
told_by o = record { conv = o.settings.conv; wnd = wnd_unused o.rcv_wnd o.queued; una = o.rcv_nxt }

abbrev pub on_clock : Outgoing → Clock → Outgoing
on_clock o clock = record {
  settings = o.settings;
  clock = clock;
  rx_rto = o.rx_rto;
  congestion = o.congestion;
  probe = o.probe;
  rcv_nxt = o.rcv_nxt;
  rcv_wnd = o.rcv_wnd;
  queued = o.queued;
  sending = o.sending;
  xmit = o.xmit;
  dead = o.dead;
  acks = o.acks;
  waiting = o.waiting;
}

-- no ack is left, and these bytes wait
abbrev pub left_waiting : Outgoing → List ℕ → Outgoing
left_waiting o waiting = record {
  settings = o.settings;
  clock = o.clock;
  rx_rto = o.rx_rto;
  congestion = o.congestion;
  probe = o.probe;
  rcv_nxt = o.rcv_nxt;
  rcv_wnd = o.rcv_wnd;
  queued = o.queued;
  sending = o.sending;
  xmit = o.xmit;
  dead = o.dead;
  acks = [];
  waiting = waiting;
}

-- ---- `flush_ack`

-- the acks are packed behind the bytes that wait, and what is not full stays waiting
unfoldable pub flushed_ack : Outgoing → Flushed
flushed_ack o =
    let packed = pack o.settings.mtu o.waiting (map piece_bytes (ack_pieces (told_by o) o.acks)) in
    record { after = left_waiting o packed.1; datagrams = packed.0 }

-- ---- `flush`

-- "move data from snd_queue to snd_buf"
unfoldable pub moved_out : ℕ → ℕ → ℕ → ℕ → Sending → Sending
moved_out conv current rx_rto window s =
    let k = leaving (add32 s.una window) s.next (length s.waiting) in
    record {
      una = s.una;
      next = add32 s.next k;
      flying = s.flying ++ numbered_from conv current rx_rto s.next (take k s.waiting);
      waiting = drop k s.waiting;
    }

module _ (o : Outgoing) where
  abbrev pub window : ℕ
  window = window_of o.settings.nocwnd o.congestion

  abbrev pub pace : Pace
  pace = pace_of o.settings o.clock.current o.rx_rto

  -- the probe once `probe_wnd_size` has run
  abbrev pub probing : Probe
  probing = probe_wnd_size o.congestion.rmt_wnd o.clock.current o.probe

  -- the sending side once segments have left the queue
  abbrev pub sent : Sending
  sent = moved_out o.settings.conv o.clock.current o.rx_rto window o.sending

  -- what the flush counts: no loss and no fast resend yet
  abbrev pub tally : Tally
  tally = tallied o.settings.dead_link pace sent.flying (record { xmit = o.xmit; dead = o.dead; lost = false; change = false })

  abbrev pub pieces_of : List Piece
  pieces_of = flush_pieces (told_by o) o.acks probing.bits pace sent.flying

  -- every piece goes out; the probe's bits are used up, and no byte waits
  unfoldable pub flushed : Flushed
  flushed = record {
    after = record {
      settings = o.settings;
      clock = o.clock;
      rx_rto = o.rx_rto;
      congestion = congestion_after o.settings.mss (sub32 sent.next sent.una) pace.resent window tally.change tally.lost o.congestion;
      probe = record { bits = 0; ts_probe = probing.ts_probe; probe_wait = probing.probe_wait };
      rcv_nxt = o.rcv_nxt;
      rcv_wnd = o.rcv_wnd;
      queued = o.queued;
      sending = with_flying sent (map (sent_out pace) sent.flying);
      xmit = tally.xmit;
      dead = tally.dead;
      acks = [];
      waiting = [];
    };
    datagrams = pack_all o.settings.mtu o.waiting (map piece_bytes pieces_of);
  }

-- ---- the calls

-- what is lent: so many bytes, and so many lengths
pub record Room : Type 0 where
  pub bytes : ℕ
  pub lengths : ℕ

-- "13 | the datagrams of this call exceed the lent bytes or lent lengths", by their sizes
unfoldable pub exceeds : Room → List ℕ → Bool
exceeds room sizes = ltb room.bytes (sum_of sizes) || ltb room.lengths (length sizes)

-- an answer, the block afterwards, and the datagrams
pub record Outcome : Type 0 where
  pub answer : Result Unit Refusal
  pub after : Outgoing
  pub datagrams : List (List ℕ)

-- refused: "all as it was"
abbrev pub refused : Refusal → Outgoing → Outcome
refused why o = record { answer = Err why; after = o; datagrams = [] }

-- what a call makes of the block o, unless it is more than is lent: then o, "clock too"
unfoldable pub unless_exceeding : Room → Outgoing → Flushed → Outcome
unless_exceeding room o f =
    pick (exceeds room (map length f.datagrams))
    (refused OutTooSmall o)
    (record { answer = Ok tt; after = f.after; datagrams = f.datagrams })

-- "9 | flush or flush_ack before any update", and "9 before 13"
unfoldable pub once_updated : Room → Outgoing → Flushed → Outcome
once_updated room o f = pick o.clock.updated (unless_exceeding room o f) (refused NeedUpdate o)

abbrev pub flush_ack_rule : Room → Outgoing → Outcome
flush_ack_rule room o = once_updated room o (flushed_ack o)

abbrev pub flush_rule : Room → Outgoing → Outcome
flush_rule room o = once_updated room o (flushed o)

-- the clock is set, and a flush runs where one is due; an update that is not due leaves what waits
unfoldable pub update_rule : Room → ℕ → Outgoing → Outcome
update_rule room current o =
    let t = ticked o.clock current in
    let now = on_clock o t.clock in
    pick t.flushes (unless_exceeding room o (flushed now)) (record { answer = Ok tt; after = now; datagrams = [] })

-- the wait until the next update; waiting bytes are not asked for
abbrev pub check_rule : ℕ → Outgoing → ℕ
check_rule current o = check_of o.clock current (map (λ (s : Segment). s.resendts) o.sending.flying)
