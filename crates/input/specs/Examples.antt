-- Verdicts, walks and whole datagrams on closed cases, the verdicts and walks such as the Rust was seen to answer so. Assumes nothing.
use Rattle.std.specs.Prelude.{ℕ, ◌≡◌, refl, Bool, true, false, List, [], ◌∷◌, ◌++◌, replicate, Ok, Err}
use Rattle.serial.specs.Branch.{pick}
use Rattle.serial.specs.Wrap.{signed32}
use Rattle.serial.specs.Window.{distance}
use Rattle.ring.specs.Lists.{lists}
use Rattle.ring.specs.Records.{put, part}
use Rattle.ring.specs.Places.{place, along}
use Rattle.ring.specs.Counting.{at_least}
use Rattle.rcv_ring.specs.Moves.{cleared, stored_at}
use Rattle.rcv_ring.specs.Views.{held_at, leading, ready_of}
use Rattle.snd_ring.specs.declared.SndRing.{SndRing}
use Rattle.snd_ring.specs.Marks.{passed}
use Rattle.snd_ring.specs.Store.{Store, store, cell, flight_of}
use Rattle.snd_ring.specs.Store as memory
use Rattle.snd_ring.specs.Steps.{ring, settled, advanced, dropped, gapped, taken_out}
use Rattle.wire.specs.declared.Header.{Header}
use Rattle.wire.specs.declared.Kind.TheVariants.{Push}
use Rattle.wire.specs.Header.{header_at, header_bytes}
use Rattle.wire.specs.Commands.{command_of}
use Rattle.estimator.specs.Estimate.{timed, measured, acked}
use Rattle.estimator.specs.Estimate as estimate
use Rattle.block.specs.declared.Kcp.{Kcp}
use Rattle.block.specs.declared.congestion.Congestion.{Congestion}
use Rattle.block.specs.declared.receiver.Receiver.{Receiver}
use Rattle.block.specs.declared.sender.Sender.{Sender}
use Rattle.block.specs.declared.acklist.AckList.{AckList}
use Rattle.block.specs.declared.refusal.Refusal.TheVariants.{ConvInconsistent, InvalidSegmentDataSize, UnsupportedCmd}
use Rattle.block.specs.Parts.{with_settings, with_input_conv, with_congestion, with_receiver, with_ack_list, with_estimator, with_sender}
use Rattle.block.specs.Fresh.{fresh_settings, fresh_probe, fresh}
use Rattle.receiving.specs.Rules.{skipped, listed, reached}
use Rattle.receive.specs.Memory.{ready_at, move_buf_at, stored_in, moved_at, push_at, acks_at, list_at, skips_at}
use Rattle.sending.specs.Rules.{acknowledged_by, una_of, in_range, seek, meets, found, later, gains, fastack_of, opened, cut_to, grown}
use Rattle.transmit.specs.Memory.{flying_numbers, shrunk_at, una_at, ends_at, sought, removed_at, shrunk_side, ack_at, raised_one, raised_from, fastack_at}
use Rattle.input.specs.Segment.{adopts, differs, verdict_of, Met, adopted, begun, pushed_at, acked_at, effect_at, through, stopped, act_at, segment_at}
use Rattle.input.specs.Datagram.{onward, walk_from, walk_of, end_by, end_from, end_of, grown_by, finished, met_of, read_at}

-- ---- verdicts

head : ℕ → ℕ → ℕ → Header
head conv cmd len = record { conv = conv; cmd = cmd; frg = 0; wnd = 77; ts = 0; sn = 0; una = 0; len = len }

-- bad cmd and bad len together: 3; another conv: 2 unless one is awaited; an equal conv ends no waiting
verdicts : (verdict_of 1 false (head 1 99 9) 0 ≡ Err (InvalidSegmentDataSize 9 0))
    × (verdict_of 1 false (head 1 99 0) 0 ≡ Err (UnsupportedCmd 99))
    × (verdict_of 7 false (head 9 99 9) 0 ≡ Err (ConvInconsistent 7 9))
    × (verdict_of 7 true (head 9 81 0) 0 ≡ Ok Push)
    × (adopts 7 true 9 ≡ true)
    × (adopts 7 true 7 ≡ false)
    × (adopts 7 false 9 ≡ false)
unfolding verdict_of differs command_of adopts pick head
verdicts = (refl, refl, refl, refl, refl, refl, refl)

-- ---- walks

start : Bool → Met
start waiting = met_of (with_settings (fresh 1 false 100) (with_input_conv (fresh_settings 1 false) waiting)) (lists [] []) [] (store [] [] [])

-- a tell, and a tail that is too short for a header: 24 bytes are read
tail : List ℕ
tail = header_bytes (head 1 84 0) ++ (1 ∷ 2 ∷ 3 ∷ [])

-- convs 1, 7 and 9 where one is awaited: 7 is adopted, 9 refused, and the first two have told their window
convs : List ℕ
convs = header_bytes (head 1 84 0) ++ header_bytes (head 7 84 0) ++ header_bytes (head 9 84 0)

walks : ((walk_of tail (start false)).end ≡ through 24)
    × ((walk_of tail (start false)).met.block.congestion.rmt_wnd ≡ 77)
    × ((walk_of convs (start true)).end ≡ stopped (ConvInconsistent 7 9))
    × ((walk_of convs (start true)).met.block.settings.conv ≡ 7)
    × ((walk_of convs (start true)).met.block.settings.input_conv ≡ false)
unfolding tail convs head start fresh walk_of walk_from onward segment_at act_at effect_at begun adopted verdict_of differs adopts command_of pick header_at header_bytes una_at shrunk_at flying_numbers flight_of memory.seen along dropped advanced settled passed at_least acknowledged_by una_of place
walks = (refl, refl, refl, refl, refl)

-- where they end, by their bytes and the conv alone
ends : (end_of tail 1 false ≡ through 24) × (end_of convs 1 true ≡ stopped (ConvInconsistent 7 9)) × (end_of convs 1 false ≡ stopped (ConvInconsistent 1 7))
unfolding tail convs head end_of end_from end_by verdict_of differs adopts command_of pick header_at header_bytes
ends = (refl, refl, refl)

-- ---- whole datagrams: conv 1 at time 150, mss 1,376; number 10 is awaited in a window of 2, and 10, 11 and 12 are in flight, each sent at 100

congestion : ℕ → ℕ → ℕ → Congestion
congestion rmt cwnd incr = record { snd_wnd = 32; rmt_wnd = rmt; cwnd = cwnd; ssthresh = 2; incr = incr }

awaits : ℕ → ℕ → Receiver
awaits next queued = record { rcv_nxt = next; rcv_wnd = 2; largest = 2; ring = record { start = 0; queued = queued; reach = 0 } }

sender : ℕ → SndRing → Sender
sender una r = record { snd_una = una; snd_nxt = 13; ring = r; xmit = 0; dead = false }

acklist : ℕ → AckList
acklist n = record { acks = n; waiting = 0 }

block : ℕ → Kcp
block acks = record {
  settings = fresh_settings 1 false;
  clock = record { current = 150; interval = 100; ts_flush = 200; updated = true };
  estimator = estimate.fresh;
  congestion = congestion 128 1 1376;
  probe = fresh_probe;
  receiver = awaits 10 0;
  acklist = acklist acks;
  sender = sender 10 (ring 0 3 3 0);
}

-- four receive slots, with old words, and three send slots, of which the middle one, number 11, has the fastack k
rcv_words : List ℕ
rcv_words = 9 ∷ 9 ∷ 9 ∷ 9 ∷ []

row : ℕ → ℕ → List ℕ
row n k = 1 ∷ 0 ∷ n ∷ 100 ∷ 0 ∷ 0 ∷ k ∷ 1 ∷ []

three : List ℕ → ℕ → Store
three marks k = store marks (row 10 0 ++ (row 11 k ++ row 12 0)) []

flying : List ℕ
flying = 1 ∷ 1 ∷ 1 ∷ []

said : ℕ → ℕ → ℕ → ℕ → ℕ → Header
said cmd ts sn una len = record { conv = 1; cmd = cmd; frg = 0; wnd = 77; ts = ts; sn = sn; una = una; len = len }

-- a push of number 10 with three bytes: stored, acknowledged, and moved to the queue
pushed : read_at (block 0) (lists rcv_words (replicate 5904 6)) (8 ∷ 8 ∷ 8 ∷ 8 ∷ []) (three flying 0) (header_bytes (said 81 50 10 10 3) ++ (1 ∷ 2 ∷ 3 ∷ []))
    ≡ record {
      block = with_ack_list (with_receiver (with_congestion (block 0) (congestion 77 1 1376)) (awaits 11 1)) (acklist 1);
      answer = Ok 27;
      skipped = 0;
      rcv = lists (262144 ∷ 9 ∷ 9 ∷ 9 ∷ []) (1 ∷ 2 ∷ 3 ∷ replicate 5901 6);
      acks = 10 ∷ 50 ∷ 8 ∷ 8 ∷ [];
      snd = three flying 0;
    }
unfolding block congestion awaits sender acklist rcv_words row three flying said read_at walk_of walk_from onward finished segment_at act_at effect_at begun adopted verdict_of differs adopts command_of pick header_at header_bytes una_at shrunk_at flying_numbers flight_of memory.seen along cell part dropped advanced settled passed at_least acknowledged_by una_of place pushed_at push_at reached skipped listed distance stored_in held_at stored_at cleared put moved_at move_buf_at ready_at ready_of leading acks_at list_at skips_at fastack_at in_range raised_from grown_by
pushed = refl

-- an ack of 12 with una 11: 10 is dropped and 12 taken out, 11 gains a fastack, the time is measured, and the window grows
acknowledged : read_at (block 0) (lists rcv_words []) (8 ∷ 8 ∷ 8 ∷ 8 ∷ []) (three flying 0) (header_bytes (said 82 100 12 11 0))
    ≡ record {
      block = with_sender (with_estimator (with_congestion (block 0) (congestion 77 2 2752)) (record { srtt = 50; rttval = 25; rto = 150; minrto = 100 })) (sender 11 (ring 1 2 1 0));
      answer = Ok 24;
      skipped = 0;
      rcv = lists rcv_words [];
      acks = 8 ∷ 8 ∷ 8 ∷ 8 ∷ [];
      snd = three (1 ∷ 1 ∷ 0 ∷ []) 1;
    }
unfolding block congestion awaits sender acklist rcv_words row three flying said read_at walk_of walk_from onward finished segment_at act_at effect_at begun adopted verdict_of differs adopts command_of pick header_at header_bytes una_at shrunk_at flying_numbers flight_of memory.seen along cell part dropped advanced settled passed at_least acknowledged_by una_of place acked_at acked measured timed signed32 ack_at shrunk_side removed_at found in_range meets seek sought ends_at taken_out gapped later fastack_at raised_from raised_one fastack_of gains put grown_by grown opened cut_to
acknowledged = refl

-- the ack list is full: the push is skipped, though una 11 is obeyed; the cmd 99 behind it is refused, so that neither fastack nor growth comes
skips : read_at (block 2) (lists rcv_words []) (8 ∷ 8 ∷ 8 ∷ 8 ∷ []) (three flying 0) (header_bytes (said 81 50 10 11 0) ++ header_bytes (said 99 50 10 13 0))
    ≡ record {
      block = with_sender (with_congestion (block 2) (congestion 77 1 1376)) (sender 11 (ring 1 2 2 0));
      answer = Err (UnsupportedCmd 99);
      skipped = 1;
      rcv = lists rcv_words [];
      acks = 8 ∷ 8 ∷ 8 ∷ 8 ∷ [];
      snd = three flying 0;
    }
unfolding block congestion awaits sender acklist rcv_words row three flying said read_at walk_of walk_from onward finished segment_at act_at effect_at begun adopted verdict_of differs adopts command_of pick header_at header_bytes una_at shrunk_at flying_numbers flight_of memory.seen along cell part dropped advanced settled passed at_least acknowledged_by una_of place pushed_at push_at reached skipped listed distance acks_at list_at skips_at
skips = refl
