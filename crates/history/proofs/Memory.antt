-- Every call keeps the block and its lent memory fine and as large as they were, and does to the receive side what its events do. Assumes nothing.
use Prim.Native.Nat.{ℕ, ◌≤◌, ◌<◌, ◌^◌, zero-le}
use native.Mathlib.Omega.{arith}
use mathlib.Core.Path.{◌≡◌, refl, sym, ap, ◌∙◌, subst}
use mathlib.Core.Bool.{Bool, true, false, ◌&&◌}
use mathlib.Core.List.{List, [], ◌∷◌}
use lib.ListN.{length, take}
use lib.Dec.{leb, ltb}
use borrow.Author.Tests.{leb-true, leb-false, lt-ltb, le-ltb}
use Rattle.serial.specs.Branch.{pick_true, pick-false}
use Rattle.ring.specs.Lists.{Lists}
use Rattle.ring.specs.Records.{put}
use Rattle.ring.proofs.Rows.{put-length}
use Rattle.snd_ring.specs.Store.{Store, store_of}
use Rattle.wire.specs.LittleEndian.{Octets}
use Rattle.block.specs.declared.Kcp.{Kcp}
use Rattle.block.specs.declared.set.Set.{Set}
use Rattle.block.specs.declared.clock.Clock.{Clock}
use Rattle.block.specs.declared.congestion.Congestion.{Congestion}
use Rattle.block.specs.declared.probe.Probe.{Probe}
use Rattle.block.specs.declared.receiver.Receiver.{Receiver}
use Rattle.block.specs.declared.acklist.AckList.{AckList}
use Rattle.block.specs.declared.sender.Sender.{Sender}
use Rattle.block.specs.declared.refusal.Refusal.{Refusal}
use Rattle.block.specs.declared.refusal.Refusal.TheVariants.{NeedUpdate, OutTooSmall, BadPool}
use Rattle.block.specs.Parts.{with_clock, with_receiver, with_sender}
use Rattle.block.specs.Sizes.{mtu_size}
use Rattle.block.specs.WellFormed.{SettingsFit, ProbeFits}
use Rattle.block.specs.Setters.{set_mtu}
use Rattle.block.proofs.Exact.{exactly-within}
use Rattle.receiving.specs.Rules.{Answer, empty, expecting, longer, gives, payloads, joined, given, too_large, tells}
use Rattle.receiving.specs.History.{Event, event_recv, event_move, event_window, AllSmall, run_from, leaves as rule_leaves, hands as rule_hands, step as rule_step}
use Rattle.receiving.specs.History as rules
use Rattle.receive.specs.Memory.{seen, message_at, bytes_at, recv_by, recv_at, answer_at, handed_at, move_buf_at, probe_at, widened_at, send_window, receive_window, windows_at}
use Rattle.receive.specs.Fits.{Good}
use Rattle.receive.proofs.Seen.{message-queued, seen-answer, seen-message, seen_bytes, seen-recv, recv-good, recv-next, seen-move_buf, move-good, move-next}
use Rattle.receive.proofs.Windows.{seen-window, window-good}
use Rattle.transmit.specs.Memory.{Side}
use Rattle.send.specs.Memory.{send_at}
use Rattle.transmit.proofs.Seen.{AsLarge, fastack-sound, fastack-slots}
use Rattle.send.proofs.Keep.{send-sound, send-slots, send-asks}
use Rattle.flushing.specs.Clocks.{ticked}
use Rattle.flushing.specs.Rules.{flushed}
use Rattle.flushing.proofs.Calls.{probe-fits}
use Rattle.flushing.specs.Pack.{pack}
use Rattle.packing.specs.Acks.{acks_of, ack_bytes}
use Rattle.packing.specs.FlushAck.{Writing}
use Rattle.packing.proofs.Laying.{put_none}
use Rattle.output.specs.Memory.{outgoing, told_of, acked, Out, moved_at, flown_store, after_flush, FlushOut, flush_ack_at, flush_at, update_at}
use Rattle.output.proofs.AckFlush.{rest-small}
use Rattle.input.specs.Segment.{Met, End, through, stopped}
use Rattle.input.specs.Datagram.{ReadOut, met_of, finished, walk_from, walk_of, read_at}
use Rattle.kcp_receive.specs.Calls.{move_buf_of, out_by, recv_of, set_wndsize_of, RecvOut}
use Rattle.kcp_send.specs.Send.{SendOut, send_of}
use Rattle.kcp_input.specs.Input.{input_of}
use Rattle.kcp_flush.specs.Calls.{flush_ack_of, unflushed, flush_of, update_of}
use Rattle.history.specs.Calls.{Call, call_input, call_send, call_move_buf, call_peeksize, call_recv, call_flush_ack, call_flush, call_update, call_check, call_set_wndsize, call_set, call_get, Setting, of_mtu, of_interval, of_nodelay, of_rx_minrto, of_fast_resend, of_maximum_resend_times, of_input_conv, of_conv, set_by, lists_of, Memory, with_block, to_write, flushed_to, leaves, seen_in, unless_bad, events}
use Rattle.history.specs.History.{Short, sizes_of}
use Rattle.history.specs.Pushes.{pushes_from, pushes_of}
use Rattle.history.proofs.Segments.{pick_of}
use Rattle.history.proofs.Rising.{window-within, fastack-flies, send-flies, flush-flies}
use Rattle.history.proofs.Stores.{lists_back, store-back, as_it_was, records-back, room_back}
use Rattle.history.proofs.Fine.{FineSend, FineAcks, FineIn, Fine, fits-send, receive-fits, send-fits, input-fits}
use Rattle.history.proofs.Walks.{seen_met, Stays, WalksTo, from, walks}
use Rattle.history.proofs.Flushes.{flush-window, input-window, out-sound, out-large}

-- n is fine, and the memory as large as that of m
pub record Whole (m n : Memory) : Type 0 where
  pub fine : Fine n
  pub sizes : sizes_of n ≡ sizes_of m

-- the call c at m leaves what its events leave
pub record Follows (c : Call) (m : Memory) : Type 0 where
  pub whole : Whole m (leaves c m)
  pub small : AllSmall (events c m)
  pub sees : (r : rules.Past) → r.now ≡ seen_in m → (run_from (length m.rcv.records) r (events c m)).now ≡ seen_in (leaves c m)

-- the same of a memory and of events that the call is known to leave and to have
record To (c : Call) (m n : Memory) (es : List Event) : Type 0 where
  is : leaves c m ≡ n
  has : events c m ≡ es
  whole : Whole m n
  small : AllSmall es
  sees : (r : rules.Past) → r.now ≡ seen_in m → (run_from (length m.rcv.records) r es).now ≡ seen_in n

follow : {c : Call} {m n : Memory} {es : List Event} → To c m n es → Follows c m
follow x = record { whole = rw x.is x.whole; small = rw x.has x.small; sees = rw (x.is, x.has) x.sees }

and_no : (b : Bool) → (b && false) ≡ false
and_no true = refl
and_no false = refl

-- ---- the calls

-- what a call leaves beside the receive side
record Beside (k n : Kcp) : Type 0 where
  settings : SettingsFit k.settings → SettingsFit n.settings
  probe : ProbeFits k.probe → ProbeFits n.probe
  acklist : n.acklist ≡ k.acklist
  sender : n.sender ≡ k.sender
  window : Short k.congestion → Short n.congestion

module _ (m : Memory) (f : Fine m) where
  abbrev k : Kcp
  k = m.block

  abbrev slots : ℕ
  slots = length m.rcv.records

  abbrev st : Store
  st = store_of 8 m.snd

  most : slots ≤ 1024
  most = f.receives.sizes.few.high

  abbrev good : Good k.receiver m.rcv
  good = f.receives.good

  abbrev low : k.receiver.rcv_nxt < 2 ^ 32
  low = f.receives.low

  -- what is kept of the block beside the receive side
  abbrev aside : Kcp → ℕ × ℕ × Probe × AckList × Sender × Congestion
  aside n = (n.settings.mtu, n.settings.mss, n.probe, n.acklist, n.sender, n.congestion)

  unmoved : {n : Kcp} → aside n ≡ aside k → Beside k n
  unmoved e =
      let a = ap (λ x. x.0) e in
      let b = ap (λ x. x.1) e in
      record {
        settings = λ s. record { mtu = rw a s.mtu; mss = b ∙ s.mss ∙ rw a };
        probe = λ p. subst ProbeFits (sym (ap (λ x. x.2) e)) p;
        acklist = ap (λ x. x.3) e;
        sender = ap (λ x. x.4) e;
        window = subst Short (sym (ap (λ x. x.5) e));
      }

  whole-beside : {n : Kcp} → Beside k n → Good n.receiver m.rcv → n.receiver.rcv_nxt < 2 ^ 32 → Whole m (with_block m n)
  whole-beside {n} b g l = record {
    sizes = refl;
    fine = record {
      settings = b.settings f.settings;
      probe = b.probe f.probe;
      receives = record { good = g; low = l; sizes = f.receives.sizes };
      sends =
          subst (λ (s : Sender). FineSend s n.congestion st) (sym b.sender)
          (record { sound = f.sends.sound; flies = f.sends.flies; slots = f.sends.slots; narrow = b.window f.sends.narrow });
      lists = subst (λ (a : AckList). FineAcks a m.acks m.waiting) (sym b.acklist) f.lists;
    };
  }

  -- a store that is fine, as the lists that it lies in, each memory as large as it was
  laid : {b : Kcp} {rcv : Lists} {acks waiting : List ℕ} {q : Store} → FineIn b rcv acks waiting q → AsLarge st q
      → length rcv.records ≡ slots → length rcv.room ≡ length m.rcv.room → length acks ≡ length m.acks → length waiting ≡ length m.waiting
      → Whole m (record { block = b; rcv = rcv; acks = acks; waiting = waiting; snd = lists_of q })
  laid {b} {rcv} {acks} {waiting} {q} g large records room listed held = record {
    fine = subst (FineIn b rcv acks waiting) (sym (store-back q g.sends.sound.shaped.sized)) g;
    sizes = rw (records, room, records-back m.snd q large, room_back m.snd q large, listed, held);
  }

  -- what a call leaves that does nothing to the receive side
  record Aside (n : Memory) : Type 0 where
    whole : Whole m n
    rcv : n.rcv ≡ m.rcv
    receiver : n.block.receiver ≡ k.receiver

  beside : {c : Call} {n : Memory} → leaves c m ≡ n → events c m ≡ [] → Aside n → To c m n []
  unfolding run_from
  beside is none a = record { is = is; has = none; whole = a.whole; small = tt; sees = λ r e. rw (a.rcv, a.receiver) e }

  still : (c : Call) (n : Kcp) → Beside k n → n.receiver ≡ k.receiver → leaves c m ≡ with_block m n → events c m ≡ [] → To c m (with_block m n) []
  still c n b same is none = beside is none (record { whole = whole-beside b (rw same good) (rw same low); rcv = refl; receiver = same })

  -- one event
  once : (x : Event) (r : rules.Past) (n : Memory) → r.now ≡ seen_in m → rule_leaves slots x (seen_in m) ≡ seen_in n → (run_from slots r (x ∷ [])).now ≡ seen_in n
  unfolding run_from rule_step
  once x r n e g = ap (rule_leaves slots x) e ∙ g

  one : (x : Event) → unless_bad m x ≡ x ∷ []
  one x = rw (receive-fits m f)

  moves : To call_move_buf m (with_block m (with_receiver k (move_buf_at k.receiver m.rcv.records))) (event_move ∷ [])
  unfolding leaves events move_buf_of rule_leaves
  moves = record {
    is = ap (λ (s : Set). with_block m s.block) (pick_true _ _ (receive-fits m f));
    has = one event_move;
    whole = whole-beside (unmoved refl) (move-good good) (move-next k.receiver m.rcv.records);
    small = (tt, tt);
    sees = λ r e. once event_move r (with_block m (with_receiver k (move_buf_at k.receiver m.rcv.records))) e (sym (seen-move_buf good low));
  }

  module _ (sndwnd : ℕ) (small : sndwnd < 65536) (rcvwnd : ℕ) where
    abbrev windowed : Kcp
    windowed = (windows_at slots k sndwnd rcvwnd).block

    window-beside : Beside k (windows_at slots k sndwnd rcvwnd).block
    unfolding windows_at send_window
    window-beside =
        pick_of (λ (s : Set). Beside k s.block) (too_large slots rcvwnd)
        (λ h. unmoved refl)
        (record {
          settings = λ s. s;
          probe = λ p. p;
          acklist = refl;
          sender = refl;
          window = λ w. pick_of Short (ltb 0 sndwnd) (λ h. record { snd = small; rmt = w.rmt; cwnd = w.cwnd; ssthresh = w.ssthresh }) w;
        })

    window-next : (windows_at slots k sndwnd rcvwnd).block.receiver.rcv_nxt < 2 ^ 32
    unfolding windows_at receive_window widened_at
    window-next =
        pick_of (λ (s : Set). s.block.receiver.rcv_nxt < 2 ^ 32) (too_large slots rcvwnd)
        (λ h. low)
        (pick_of (λ (r : Receiver). r.rcv_nxt < 2 ^ 32) (ltb 0 rcvwnd) (λ h. low) low)

    windows : To (call_set_wndsize sndwnd small rcvwnd) m (with_block m windowed) (event_window rcvwnd ∷ [])
    unfolding leaves events set_wndsize_of rule_leaves
    windows = record {
      is = ap (λ (s : Set). with_block m s.block) (pick_true _ _ (receive-fits m f));
      has = one (event_window rcvwnd);
      whole = whole-beside window-beside (window-good k sndwnd rcvwnd most good) window-next;
      small = (tt, tt);
      sees = λ r e. once (event_window rcvwnd) r (with_block m windowed) e (sym (seen-window slots k sndwnd rcvwnd m.rcv));
    }

  module _ (buf : List ℕ) where
    abbrev out : Kcp
    out = (out_by (answer_at (length buf) k.receiver m.rcv.records) k m.rcv buf).block

    out-beside : (a : Answer) → Beside k (out_by a k m.rcv buf).block
    unfolding out_by probe_at
    out-beside empty = unmoved refl
    out-beside expecting = unmoved refl
    out-beside longer = unmoved refl
    out-beside (gives n) = record {
      settings = λ s. s;
      probe = λ p. pick_of ProbeFits (tells k.receiver.rcv_wnd k.receiver.ring.queued (handed_at k.receiver m.rcv.records).ring.queued) (λ h. record { wait = p.wait }) p;
      acklist = refl;
      sender = refl;
      window = λ w. w;
    }

    out-by : (a : Answer) → (out_by a k m.rcv buf).block.receiver ≡ (recv_by a k.receiver m.rcv buf).receiver
    unfolding out_by recv_by
    out-by empty = refl
    out-by expecting = refl
    out-by longer = refl
    out-by (gives n) = refl

    out_is : out.receiver ≡ (recv_at k.receiver m.rcv buf).receiver
    unfolding recv_at
    out_is = out-by (answer_at (length buf) k.receiver m.rcv.records)

    receives : To (call_recv buf) m (with_block m out) (event_recv (length buf) ∷ [])
    unfolding leaves events recv_of rule_leaves
    receives = record {
      is = ap (λ (o : RecvOut). with_block m o.block) (pick_true _ _ (receive-fits m f));
      has = one (event_recv (length buf));
      whole =
          whole-beside (out-beside (answer_at (length buf) k.receiver m.rcv.records))
          (subst (λ (r : Receiver). Good r m.rcv) (sym out_is) (recv-good good buf most))
          (subst (λ (r : Receiver). r.rcv_nxt < 2 ^ 32) (sym out_is) (recv-next k.receiver m.rcv buf low));
      small = (tt, tt);
      sees = λ r e. once (event_recv (length buf)) r (with_block m out) e (sym (ap (λ (r : Receiver). seen r m.rcv) out_is ∙ seen-recv good buf low));
    }

    -- the buffer has the payloads of the segments handed out, and behind them what stood there
    pub received-bytes : (recv_of k m.rcv buf).buf ≡ put buf 0 (joined (payloads (rule_hands (event_recv (length buf)) (seen_in m))))
    unfolding recv_of rule_hands out_by bytes_at given put joined
    received-bytes =
        ap (λ (o : RecvOut). o.buf) (pick_true _ _ (receive-fits m f))
        ∙ go (answer_at (length buf) k.receiver m.rcv.records)
        ∙ ap (λ (a : Answer). put buf 0 (joined (payloads (take (given a (seen_in m)) (seen_in m).queue)))) (sym (seen-answer good (length buf)))
      where
        go : (a : Answer) → (out_by a k m.rcv buf).buf ≡ put buf 0 (joined (payloads (take (given a (seen_in m)) (seen_in m).queue)))
        go empty = refl
        go expecting = refl
        go longer = refl
        go (gives n) =
            let count = seen-message k.receiver m.rcv in
            let bytes = seen_bytes k.receiver m.rcv (message_at k.receiver m.rcv.records) (message-queued k.receiver m.rcv.records) in
            ap (put buf 0) (bytes ∙ ap (λ (n : ℕ). joined (payloads (take n (seen_in m).queue))) (sym count))

  -- ---- send

  module _ (bytes : List ℕ) where
    abbrev sent : SendOut → Memory
    sent o = record { block = o.block; rcv = m.rcv; acks = m.acks; waiting = m.waiting; snd = lists_of o.store }

    abbrev after : Side
    after = send_at k.settings.mss k.settings.stream bytes k.sender (store_of 8 m.snd)

    sends : To (call_send bytes) m (record { block = with_sender k after.sender; rcv = m.rcv; acks = m.acks; waiting = m.waiting; snd = lists_of after.store }) []
    unfolding leaves events send_of
    sends =
        let o = f.sends.sound in
        let small = (send-asks k m.snd (fits-send m f)).1.1 in
        let long = send-slots k.settings.mss k.settings.stream bytes k.sender st o small in
        beside (ap sent (pick_true _ _ (send-fits m f))) refl
        (record {
          whole =
              laid
              (record {
                settings = f.settings;
                probe = f.probe;
                receives = f.receives;
                sends = record {
                  sound = send-sound k.settings.mss k.settings.stream bytes k.sender st o small;
                  flies = send-flies k.sender st o f.sends.flies k.settings.mss k.settings.stream bytes small;
                  slots = rw long.0 f.sends.slots;
                  narrow = f.sends.narrow;
                };
                lists = f.lists;
              })
              (record { marks = long.0; rows = long.1.0; room = long.1.1 }) refl refl refl refl;
          rcv = refl;
          receiver = refl;
        })

  -- ---- flush_ack, flush and update

  module _ (out lengths : List ℕ) where
    abbrev w : Writing
    w = to_write m out lengths

    -- refused
    unsent-aside : Aside m
    unsent-aside = record { whole = record { fine = f; sizes = refl }; rcv = refl; receiver = refl }

    abbrev acked_to : Out → Memory
    acked_to o = record { block = o.block; rcv = m.rcv; acks = m.acks; waiting = o.written.waiting; snd = m.snd }

    abbrev Acked : Out → Type 0
    Acked o = Aside (acked_to o)

    -- what waits after the acks are packed
    abbrev rest : List ℕ
    rest = (pack k.settings.mtu (take k.acklist.waiting m.waiting) (ack_bytes (told_of k) (acks_of m.acks k.acklist.acks))).1

    acked-aside : Aside (record { block = acked k (length rest); rcv = m.rcv; acks = m.acks; waiting = put m.waiting 0 rest; snd = m.snd })
    acked-aside =
        let kept = f.lists.memory.kept in
        let small : length rest ≤ 1500 = rest-small k m.acks w f.settings.mtu.high f.lists.held kept in
        let same : length (put m.waiting 0 rest) ≡ length m.waiting = put-length m.waiting 0 rest (omega arith) in
        record {
          whole = record {
            fine = record {
              settings = f.settings;
              probe = f.probe;
              receives = f.receives;
              sends = f.sends;
              lists = record { memory = rw same f.lists.memory; few = zero-le; held = small };
            };
            sizes = rw same;
          };
          rcv = refl;
          receiver = refl;
        }

    acks-sent : To (call_flush_ack out lengths) m (acked_to (flush_ack_of k m.acks w)) []
    unfolding leaves events flush_ack_of flush_ack_at
    acks-sent = beside refl refl (pick_of Acked _ (λ _. pick_of Acked _ (λ _. pick_of Acked _ (λ _. unsent-aside) acked-aside) unsent-aside) unsent-aside)

    abbrev Flown : FlushOut → Type 0
    Flown o = Aside (flushed_to m o)

    unflown : (why : Refusal) → Flown (unflushed k m.snd w why)
    unflown why = subst Aside (sym (as_it_was m)) unsent-aside

    -- the block as the flush finds it: the clock may have moved on
    module _ (c : Clock) where
      abbrev b : Kcp
      b = with_clock k c

      abbrev done : Kcp
      done = after_flush b (moved_at b st).sender.ring (flushed (outgoing b st m.acks m.waiting)).after

      flown : Whole m (record { block = done; rcv = m.rcv; acks = m.acks; waiting = m.waiting; snd = lists_of (flown_store b st) })
      unfolding flushed outgoing
      flown =
          let o = f.sends.sound in
          let large = out-large b st o in
          laid
          (record {
            settings = f.settings;
            probe = record { wait = (probe-fits c.current k.probe f.probe k.congestion.rmt_wnd).wait };
            receives = f.receives;
            sends = record {
              sound = out-sound b st o;
              flies = flush-flies b st m.acks m.waiting o f.sends.flies f.sends.narrow.snd;
              slots = rw large.marks f.sends.slots;
              narrow = flush-window k.settings.mss k.congestion f.sends.narrow _ _ _ _ _ (let h = window-within k.settings.nocwnd k.congestion in let w = f.sends.narrow.snd in omega arith);
            };
            lists = record { memory = f.lists.memory; few = zero-le; held = zero-le };
          })
          large refl refl refl refl

      flush-aside : Flown (flush_at k b st m.acks w)
      unfolding flush_at
      flush-aside =
          pick_of Flown _ (λ _. unflown OutTooSmall)
          (subst (λ (l : List ℕ). Aside (record { block = done; rcv = m.rcv; acks = m.acks; waiting = l; snd = lists_of (flown_store b st) })) (sym (put_none m.waiting 0))
          (record { whole = flown; rcv = refl; receiver = refl }))

    flushes : To (call_flush out lengths) m (flushed_to m (flush_of k m.snd m.acks w)) []
    unfolding leaves events flush_of
    flushes =
        beside refl refl (pick_of Flown _ (λ _. pick_of Flown _ (λ _. flush-aside k.clock) (unflown NeedUpdate)) (unflown BadPool))

    updates : (current : ℕ) → To (call_update current out lengths) m (flushed_to m (update_of k m.snd m.acks w current)) []
    unfolding leaves events update_of update_at
    updates current =
        let c = (ticked k.clock current).clock in
        beside refl refl
        (pick_of Flown _
        (λ _. pick_of Flown _ (λ _. flush-aside c)
        (subst Aside (ap (λ (l : Lists). record { block = with_clock k c; rcv = m.rcv; acks = m.acks; waiting = m.waiting; snd = l }) (sym (lists_back m.snd)))
        (record { whole = whole-beside (unmoved refl) good low; rcv = refl; receiver = refl })))
        (unflown BadPool))

  -- ---- input

  module _ (s : List ℕ) (bytes : Octets s) where
    abbrev start : Met
    start = met_of k m.rcv m.acks (store_of 8 m.snd)

    abbrev arrived : ReadOut → Memory
    arrived o = record { block = o.block; rcv = o.rcv; acks = o.acks; waiting = m.waiting; snd = lists_of o.snd }

    -- what a walk leaves is fine, and so behind its end
    whole-finished : (n : Met) → Stays m.waiting start n → (e : End) → Whole m (arrived (finished k n e))
    unfolding finished
    whole-finished n x (through c) =
        let g = x.fine in
        let o = g.sends.sound in
        let large = fastack-slots n.latest n.block.sender n.snd o in
        laid
        (record {
          settings = g.settings;
          probe = g.probe;
          receives = g.receives;
          sends = record {
            sound = fastack-sound n.latest n.block.sender n.snd o;
            flies = fastack-flies n.block.sender n.snd o g.sends.flies n.latest;
            slots = rw large.marks g.sends.slots;
            narrow = input-window k.settings.mss n.block.congestion g.sends.narrow k.sender.snd_una n.block.sender.snd_una;
          };
          lists = g.lists;
        })
        (record { marks = large.marks ∙ x.snd.marks; rows = large.rows ∙ x.snd.rows; room = large.room ∙ x.snd.room })
        x.records x.room x.acks refl
    whole-finished n x (stopped why) = laid x.fine x.snd x.records x.room x.acks refl

    finished-seen : (n : Met) (e : End) → seen_in (arrived (finished k n e)) ≡ seen_met n
    unfolding finished
    finished-seen n (through c) = refl
    finished-seen n (stopped why) = refl

    -- after j segments
    pub inside : length s ≤ 1500 → (j : ℕ) → WalksTo m.waiting slots start (walk_from s j 0 start) (pushes_from s j 0 start)
    inside short j = from m.waiting s short bytes slots j 0 start f

    -- it is read
    read : leb 24 (length s) ≡ true → leb (length s) 1500 ≡ true → To (call_input s bytes) m (arrived (read_at k m.rcv m.acks (store_of 8 m.snd) s)) (pushes_of s start)
    unfolding leaves events input_of read_at
    read l h =
        let short = leb-true (length s) 1500 h in
        let x = walks m.waiting s short bytes slots start f in
        let w = walk_of s start in
        record {
          is = ap arrived (pick_true _ _ (input-fits m f) ∙ pick-false _ _ (le-ltb 1500 (length s) short) ∙ pick-false _ _ (le-ltb (length s) 24 (leb-true 24 (length s) l)));
          has = rw (input-fits m f, l, h);
          whole = whole-finished w.met x.stays w.end;
          small = x.small;
          sees = λ r e. x.runs r e ∙ sym (finished-seen w.met w.end);
        }

    -- it is refused by 11 or by 1
    unread : (leb 24 (length s) && leb (length s) 1500) ≡ false → (o : ReadOut) → input_of k m.rcv m.acks m.waiting m.snd s ≡ o → arrived o ≡ m → To (call_input s bytes) m m []
    unfolding leaves events run_from
    unread h o e g = record {
      is = ap arrived e ∙ g;
      has = rw (input-fits m f, h);
      whole = record { fine = f; sizes = refl };
      small = tt;
      sees = λ r d. d;
    }

    reads : Follows (call_input s bytes) m
    unfolding input_of
    reads = go (leb 24 (length s)) (leb (length s) 1500) refl refl
      where
        go : (a b : Bool) → leb 24 (length s) ≡ a → leb (length s) 1500 ≡ b → Follows (call_input s bytes) m
        go true true l h = follow (read l h)
        go a false l h =
            follow (unread (rw h (and_no (leb 24 (length s)))) _ (pick_true _ _ (input-fits m f) ∙ pick_true _ _ (lt-ltb 1500 (length s) (leb-false (length s) 1500 h))) (as_it_was m))
        go false true l h =
            follow (unread (rw l) _ (pick_true _ _ (input-fits m f) ∙ pick-false _ _ (le-ltb 1500 (length s) (leb-true (length s) 1500 h)) ∙ pick_true _ _ (lt-ltb (length s) 24 (leb-false 24 (length s) l))) (as_it_was m))

  -- ---- the setters

  set-beside : (x : Setting) → Beside k (set_by x k)
  unfolding set_by set_mtu
  set-beside (of_mtu mtu) =
      pick_of (λ (s : Set). Beside k s.block) (mtu_size mtu)
      (λ h. record { settings = λ s. record { mtu = (exactly-within 50 mtu 1500).holds h; mss = refl }; probe = λ p. p; acklist = refl; sender = refl; window = λ w. w })
      (unmoved refl)
  set-beside (of_interval interval) = unmoved refl
  set-beside (of_nodelay nodelay interval resend nc) = unmoved refl
  set-beside (of_rx_minrto rto) = unmoved refl
  set-beside (of_fast_resend fr) = unmoved refl
  set-beside (of_maximum_resend_times n) = unmoved refl
  set-beside of_input_conv = unmoved refl
  set-beside (of_conv conv) = unmoved refl

  set-receiver : (x : Setting) → (set_by x k).receiver ≡ k.receiver
  unfolding set_by set_mtu
  set-receiver (of_mtu mtu) = pick_of (λ (s : Set). s.block.receiver ≡ k.receiver) (mtu_size mtu) (λ h. refl) refl
  set-receiver (of_interval interval) = refl
  set-receiver (of_nodelay nodelay interval resend nc) = refl
  set-receiver (of_rx_minrto rto) = refl
  set-receiver (of_fast_resend fr) = refl
  set-receiver (of_maximum_resend_times n) = refl
  set-receiver of_input_conv = refl
  set-receiver (of_conv conv) = refl

  -- every call does what its events do
  pub follows : (c : Call) → Follows c m
  unfolding leaves events
  follows (call_input s bytes) = reads s bytes
  follows (call_send bytes) = follow (sends bytes)
  follows call_move_buf = follow moves
  follows call_peeksize = follow (still call_peeksize k (unmoved refl) refl refl refl)
  follows (call_recv buf) = follow (receives buf)
  follows (call_flush_ack out lengths) = follow (acks-sent out lengths)
  follows (call_flush out lengths) = follow (flushes out lengths)
  follows (call_update current out lengths) = follow (updates out lengths current)
  follows (call_check current) = follow (still (call_check current) k (unmoved refl) refl refl refl)
  follows (call_set_wndsize sndwnd fits rcvwnd) = follow (windows sndwnd fits rcvwnd)
  follows (call_set x) = follow (still (call_set x) (set_by x k) (set-beside x) (set-receiver x) refl refl)
  follows call_get = follow (still call_get k (unmoved refl) refl refl refl)
