-- The walk over a datagram keeps the lent memory well formed and as large as it was, keeps the numbers in flight rising, and does to the receive side
-- what its pushes do as events. Assumes nothing.
use Rattle.std.specs.Prelude.{Result, Ok, Err}
use Prim.Native.Nat.{ℕ, zero, suc, ◌+◌, ◌-◌, ◌≤◌, ◌<◌, ◌^◌}
use native.Mathlib.Omega.{arith}
use mathlib.Core.Path.{◌≡◌, refl, sym, ap, ◌∙◌}
use mathlib.Core.Bool.{Bool, true, false, not, ◌&&◌}
use mathlib.Core.List.{List, [], ◌∷◌, ◌++◌}
use lib.ListN.{length}
use lib.Dec.{leb}
use borrow.Author.Tests.{leb-true, leb-false}
use Rattle.serial.specs.Branch.{pick}
use Rattle.serial.specs.Window.{acknowledged}
use Rattle.ring.specs.Records.{put_slot}
use Rattle.ring.proofs.Rows.{put_slot-length}
use Rattle.wire.specs.declared.Header.{Header}
use Rattle.wire.specs.declared.Kind.{Kind}
use Rattle.wire.specs.declared.Kind.TheVariants.{Push, Ack, Ask, Tell}
use Rattle.wire.specs.Header.{header_at}
use Rattle.wire.specs.LittleEndian.{Octets}
use Rattle.wire.proofs.RoundTrip.{header_at-fit}
use Rattle.block.specs.declared.Kcp.{Kcp}
use Rattle.block.specs.Sizes.{pairs}
use Rattle.receiving.specs.Rules.{Segment, Receiving, skipped, listed, push}
use Rattle.receiving.specs.History.{Event, AllSmall, leaves, step, run_from}
use Rattle.receiving.specs.History as rules
use Rattle.receive.specs.Memory.{seen, full_at, acks_at, list_at}
use Rattle.receive.proofs.Seen.{seen-push, push-length, push-good, push-next}
use Rattle.transmit.proofs.Seen.{AsLarge, una-sound, ack-sound, ack-slots}
use Rattle.input.specs.Segment.{Met, with_block, End, through, stopped, Walked, push_of, adopts, adopted, begun, pushed_at, acked_at, effect_at, payload_at, verdict_of, act_at, segment_at}
use Rattle.input.specs.Datagram.{onward, walk_from, walk_of}
use Rattle.history.specs.Pushes.{push_by, push_at_segment, behind, pushes_from, pushes_of}
use Rattle.history.proofs.Segments.{pick_of, fits_left, payload-fits, adopted-receiver, adopted-acklist, known_at, segment_by}
use Rattle.history.proofs.Rising.{una-flies, ack-flies}
use Rattle.history.proofs.Fine.{FineIn}
use Rattle.block.specs.declared.refusal.Refusal.{Refusal}

-- the receive side as it is seen
abbrev pub seen_met : Met → Receiving
seen_met m = seen m.block.receiver m.rcv

-- n is fine, with these bytes that may wait, and as large as m
pub record Stays (waiting : List ℕ) (m n : Met) : Type 0 where
  pub fine : FineIn n.block n.rcv n.acks waiting n.snd
  pub records : length n.rcv.records ≡ length m.rcv.records
  pub room : length n.rcv.room ≡ length m.rcv.room
  pub acks : length n.acks ≡ length m.acks
  pub snd : AsLarge m.snd n.snd

abbrev pub Fit : List ℕ → Met → Type 0
Fit waiting m = FineIn m.block m.rcv m.acks waiting m.snd

stays_both : {waiting : List ℕ} {a b c : Met} → Stays waiting a b → Stays waiting b c → Stays waiting a c
stays_both x y = record {
  fine = y.fine;
  records = y.records ∙ x.records;
  room = y.room ∙ x.room;
  acks = y.acks ∙ x.acks;
  snd = record { marks = y.snd.marks ∙ x.snd.marks; rows = y.snd.rows ∙ x.snd.rows; room = y.snd.room ∙ x.snd.room };
}

-- with the memory as it was
stays_in : {waiting : List ℕ} (m : Met) (k : Kcp) → Fit waiting (with_block m k) → Stays waiting m (with_block m k)
stays_in m k f = record { fine = f; records = refl; room = refl; acks = refl; snd = record { marks = refl; rows = refl; room = refl } }

-- what the walk w from m leaves, with these events
pub record WalksTo (waiting : List ℕ) (slots : ℕ) (m : Met) (w : Walked) (es : List Event) : Type 0 where
  pub stays : Stays waiting m w.met
  pub small : AllSmall es
  pub runs : (r : rules.Past) → r.now ≡ seen_met m → (run_from slots r es).now ≡ seen_met w.met

-- ---- one segment

module _ (waiting : List ℕ) (m : Met) (f : Fit waiting m) where
  stays-adopted : (met : ℕ) → Stays waiting m (with_block m (adopted met m.block))
  unfolding adopted
  stays-adopted met =
      stays_in m _
      (pick_of (λ (k : Kcp). Fit waiting (with_block m k)) (adopts m.block.settings.conv m.block.settings.input_conv met)
      (λ h. record { settings = record { mtu = f.settings.mtu; mss = f.settings.mss }; probe = f.probe; receives = f.receives; sends = f.sends; lists = f.lists })
      f)

  stays-begun : (h : Header) → h.wnd < 65536 → Stays waiting m (with_block m (begun h m.block m.snd))
  unfolding begun
  stays-begun h wnd =
      let o = f.sends.sound in
      stays_in m _
      (record {
        settings = f.settings;
        probe = f.probe;
        receives = f.receives;
        sends = record {
          sound = una-sound h.una m.block.sender m.snd o;
          flies = una-flies m.block.sender m.snd o f.sends.flies h.una;
          slots = f.sends.slots;
          narrow = let w = f.sends.narrow in record { snd = w.snd; rmt = wnd; cwnd = w.cwnd; ssthresh = w.ssthresh };
        };
        lists = f.lists;
      })

  stays-acked : (h : Header) → Stays waiting m (acked_at h m)
  unfolding acked_at
  stays-acked h =
      let o = f.sends.sound in
      let large = ack-slots h.sn m.block.sender m.snd in
      record {
        fine = record {
          settings = f.settings;
          probe = f.probe;
          receives = f.receives;
          sends = record {
            sound = ack-sound h.sn m.block.sender m.snd o;
            flies = ack-flies m.block.sender m.snd o f.sends.flies h.sn;
            slots = rw large.marks f.sends.slots;
            narrow = f.sends.narrow;
          };
          lists = f.lists;
        };
        records = refl;
        room = refl;
        acks = refl;
        snd = large;
      }

  -- an ack joins a list that is not full
  module _ (x : Segment) (ts : ℕ) where
    abbrev full : Bool
    full = full_at m.block.acklist.acks m.acks

    abbrev joins : Bool
    joins = listed full m.block.receiver.rcv_nxt m.block.receiver.rcv_wnd x

    abbrev list : Bool → List ℕ
    list b = pick b (put_slot 2 m.acks m.block.acklist.acks 0 (x.sn ∷ ts ∷ [])) m.acks

    abbrev count : Bool → ℕ
    count b = pick b (m.block.acklist.acks + 1) m.block.acklist.acks

    not_full : (a b : Bool) → (a && not (a && b)) ≡ true → b ≡ false
    not_full true true e = sym e
    not_full true false e = refl
    not_full false b e = let z : ◌≡◌ {A = Bool} true false = cc in cc

    joined-list : (length (list joins) ≡ length m.acks) × (count joins ≤ pairs (length (list joins)))
    unfolding listed skipped pick
    joined-list = go joins refl
      where
        go : (b : Bool) → joins ≡ b → (length (list b) ≡ length m.acks) × (count b ≤ pairs (length (list b)))
        go true e =
            let space : m.block.acklist.acks < pairs (length m.acks) =
            leb-false (pairs (length m.acks)) m.block.acklist.acks (not_full (acknowledged m.block.receiver.rcv_nxt m.block.receiver.rcv_wnd x.sn) full e) in
            let same = put_slot-length 2 m.acks m.block.acklist.acks 0 (x.sn ∷ ts ∷ []) (omega arith) (omega arith) in
            (same, rw same (omega arith))
        go false e = (refl, f.lists.few)

    push-acks : (length (pushed_at x ts m).acks ≡ length m.acks) × ((pushed_at x ts m).block.acklist.acks ≤ pairs (length (pushed_at x ts m).acks))
    unfolding pushed_at list_at acks_at
    push-acks = joined-list

    module _ (frg : x.frg < 65536) (fit : length x.payload ≤ 1476) where
      stays-pushed : Stays waiting m (pushed_at x ts m)
      unfolding pushed_at
      stays-pushed =
          let g = f.receives.good in
          let long = push-length g x frg fit full in
          record {
            fine = record {
              settings = f.settings;
              probe = f.probe;
              receives = record { good = push-good g x frg fit full; low = push-next g x frg fit full f.receives.low; sizes = rw (long.0, long.1) f.receives.sizes };
              sends = f.sends;
              lists = record { memory = rw push-acks.0 f.lists.memory; few = push-acks.1; held = f.lists.held };
            };
            records = long.0;
            room = long.1;
            acks = push-acks.0;
            snd = record { marks = refl; rows = refl; room = refl };
          }

      pushed-seen : x.sn < 2 ^ 32 → seen_met (pushed_at x ts m) ≡ push full x (seen_met m)
      unfolding pushed_at
      pushed-seen small = seen-push f.receives.good x frg fit full f.receives.low small

  stays_effect : (h : Header) (payload : List ℕ) → h.frg < 65536 → length payload ≤ 1476 → (kind : Kind) → Stays waiting m (effect_at kind h payload m)
  unfolding effect_at
  stays_effect h payload frg fit Push = stays-pushed (push_of h payload) h.ts frg fit
  stays_effect h payload frg fit Ack = stays-acked h
  stays_effect h payload frg fit Ask =
      stays_in m _ (record { settings = f.settings; probe = record { wait = f.probe.wait }; receives = f.receives; sends = f.sends; lists = f.lists })
  stays_effect h payload frg fit Tell = stays_in m m.block f

module _ (waiting : List ℕ) (s : List ℕ) (short : length s ≤ 1500) (bytes : Octets s) where
  module _ (at : ℕ) (m : Met) (more : at + 24 ≤ length s) (f : Fit waiting m) where
    abbrev h : Header
    h = header_at s at

    small : h.sn < 2 ^ 32
    small = (header_at-fit s at more bytes).sn

    frg-small : h.frg < 65536
    frg-small = let a = (header_at-fit s at more bytes).frg in omega arith

    abbrev known : Met
    known = with_block m (known_at s at m more)

    abbrev ready : Met
    ready = with_block m (begun h (known_at s at m more) m.snd)

    stays-known : Stays waiting m known
    stays-known = stays-adopted waiting m f h.conv

    stays-ready : Stays waiting m ready
    stays-ready = stays_both stays-known (stays-begun waiting known stays-known.fine h (header_at-fit s at more bytes).wnd)

    segment-stays : Stays waiting m (segment_at s at m).met
    segment-stays =
        segment_by s at m more (Stays waiting m) stays-known
        (λ kind l. stays_both stays-ready (stays_effect waiting ready stays-ready.fine h (payload_at s at h.len) frg-small (payload-fits s at h.len l short) kind))

    -- its events, if it has any, carry a number of 32 bits
    segment-small : AllSmall (push_at_segment s at m)
    unfolding push_at_segment push_by
    segment-small = go (verdict_of m.block.settings.conv m.block.settings.input_conv (header_at s at) (length s - at - 24))
      where
        go : (v : Result Kind Refusal) → AllSmall (push_by s at (header_at s at) m v)
        go (Ok Push) = (small, tt)
        go (Ok Ack) = tt
        go (Ok Ask) = tt
        go (Ok Tell) = tt
        go (Err why) = tt

    -- before its effect the receive side and the ack list are as they were
    ready-seen : seen_met ready ≡ seen_met m
    unfolding begun
    ready-seen = rw (adopted-receiver h.conv m.block)

    ready-acks : ready.block.acklist ≡ m.block.acklist
    unfolding begun
    ready-acks = adopted-acklist h.conv m.block

    known-seen : seen_met known ≡ seen_met m
    known-seen = rw (adopted-receiver h.conv m.block)

    -- it does to the receive side what they do
    segment-runs : (slots : ℕ) (r : rules.Past) → r.now ≡ seen_met m → (run_from slots r (push_at_segment s at m)).now ≡ seen_met (segment_at s at m).met
    unfolding push_at_segment push_by segment_at act_at run_from step leaves effect_at acked_at
    segment-runs slots r e = go (verdict_of m.block.settings.conv m.block.settings.input_conv (header_at s at) (length s - at - 24)) refl
      where
        go : (v : Result Kind Refusal) → verdict_of m.block.settings.conv m.block.settings.input_conv (header_at s at) (length s - at - 24) ≡ v
            → (run_from slots r (push_by s at (header_at s at) m v)).now ≡ seen_met (act_at s at (header_at s at) m v).met
        go (Ok Push) q =
            let x = push_of h (payload_at s at h.len) in
            let l = fits_left m.block.settings.conv m.block.settings.input_conv h (length s - at - 24) Push q in
            ap (push (full_at m.block.acklist.acks m.acks) x) (e ∙ sym ready-seen)
            ∙ ap (λ (n : ℕ). push (full_at n m.acks) x (seen_met ready)) (sym (ap (λ a. a.acks) ready-acks))
            ∙ sym (pushed-seen waiting ready stays-ready.fine x h.ts frg-small (payload-fits s at h.len (omega arith) short) small)
        go (Ok Ack) q = e ∙ sym ready-seen
        go (Ok Ask) q = e ∙ sym ready-seen
        go (Ok Tell) q = e ∙ sym ready-seen
        go (Err why) q = e ∙ sym known-seen

  -- ---- all of them

  stands : (slots at : ℕ) (m : Met) → Fit waiting m → WalksTo waiting slots m (record { met = m; end = through at }) []
  unfolding run_from
  stands slots at m f = record { stays = stays_in m m.block f; small = tt; runs = λ r e. e }

  small_both : (a b : List Event) → AllSmall a → AllSmall b → AllSmall (a ++ b)
  small_both [] b x y = y
  small_both (c ∷ a) b x y = (x.0, small_both a b x.1 y)

  run_both : (slots : ℕ) (r : rules.Past) (a b : List Event) → run_from slots r (a ++ b) ≡ run_from slots (run_from slots r a) b
  unfolding run_from
  run_both slots r [] b = refl
  run_both slots r (c ∷ a) b = run_both slots (step slots r c) a b

  last : (slots : ℕ) (r : rules.Past) → (run_from slots r []).now ≡ r.now
  unfolding run_from
  last slots r = refl

  module _ (slots : ℕ) where
    -- a segment, and then what the rest of the walk leaves
    after : (fuel at : ℕ) (m : Met) → Fit waiting m → at + 24 ≤ length s
        → ((next : ℕ) (n : Met) → Fit waiting n → WalksTo waiting slots n (walk_from s fuel next n) (pushes_from s fuel next n))
        → (e : End)
        → WalksTo waiting slots m (onward (λ next n. walk_from s fuel next n) (record { met = (segment_at s at m).met; end = e }))
        (push_at_segment s at m ++ behind (λ next n. pushes_from s fuel next n) (segment_at s at m).met e)
    unfolding onward behind
    after fuel at m f more rest (through next) =
        let x = segment-stays at m more f in
        let y = rest next (segment_at s at m).met x.fine in
        record {
          stays = stays_both x y.stays;
          small = small_both (push_at_segment s at m) _ (segment-small at m more f) y.small;
          runs = λ z e. ap (λ (u : rules.Past). u.now) (run_both slots z (push_at_segment s at m) _) ∙ y.runs (run_from slots z (push_at_segment s at m)) (segment-runs at m more f slots z e);
        }
    after fuel at m f more rest (stopped why) = record {
      stays = segment-stays at m more f;
      small = small_both (push_at_segment s at m) [] (segment-small at m more f) tt;
      runs = λ z e. ap (λ (u : rules.Past). u.now) (run_both slots z (push_at_segment s at m) []) ∙ last slots (run_from slots z (push_at_segment s at m)) ∙ segment-runs at m more f slots z e;
    }

    pub from : (fuel at : ℕ) (m : Met) → Fit waiting m → WalksTo waiting slots m (walk_from s fuel at m) (pushes_from s fuel at m)
    unfolding walk_from pushes_from pick
    from zero at m f = stands slots at m f
    from (suc fuel) at m f = go (leb (at + 24) (length s)) refl (λ next n x. from fuel next n x)
      where
        go : (b : Bool) → leb (at + 24) (length s) ≡ b
            → ((next : ℕ) (n : Met) → Fit waiting n → WalksTo waiting slots n (walk_from s fuel next n) (pushes_from s fuel next n))
            → WalksTo waiting slots m (pick b (onward (λ next n. walk_from s fuel next n) (segment_at s at m)) (record { met = m; end = through at }))
            (pick b (push_at_segment s at m ++ behind (λ next n. pushes_from s fuel next n) (segment_at s at m).met (segment_at s at m).end) [])
        go true e rest = after fuel at m f (leb-true (at + 24) (length s) e) rest (segment_at s at m).end
        go false e rest = stands slots at m f

    pub walks : (m : Met) → Fit waiting m → WalksTo waiting slots m (walk_of s m) (pushes_of s m)
    unfolding walk_of pushes_of
    walks m f = from (length s) 0 m f
