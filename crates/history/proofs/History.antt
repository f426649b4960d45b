-- Demand 3 over the calls: any calls from a fresh block, in lent memory of sizes that a constructor takes. Assumes nothing.
use Rattle.std.specs.Prelude.{Ok, Err}
use Prim.Native.Nat.{ℕ, zero-le, ◌<◌}
use native.Mathlib.Omega.{arith}
use native.Mathlib.Nat.{zero-add}
use mathlib.Core.Path.{◌≡◌, refl, sym, ap, ◌∙◌}
use mathlib.Core.Bool.{Bool, true, false, ◌&&◌}
use mathlib.Core.Logic.{⊎_elim}
use mathlib.Core.List.{List, [], ◌∷◌}
use lib.ListN.{length, get_or}
use lib.Dec.{leb}
use borrow.Author.Tests.{leb-true}
use Rattle.serial.specs.Branch.{pick}
use Rattle.ring.specs.Lists.{Lists}
use Rattle.ring.specs.Places.{summed}
use Rattle.ring.specs.Counting.{count}
use Rattle.ring.specs.Records.{put}
use Rattle.snd_ring.specs.Store.{store_of, Sound}
use Rattle.snd_ring.proofs.Splits.{marks-length, rows-length, store-room}
use Rattle.wire.specs.LittleEndian.{Octets}
use Rattle.block.specs.declared.Kcp.{Kcp}
use Rattle.block.specs.declared.receiver.Receiver.{Receiver}
use Rattle.block.specs.declared.refusal.Refusal.TheVariants.{BadPool}
use Rattle.block.specs.Sizes.{receive_sizes, send_slots, send_sizes, RingSizes, ack_sizes}
use Rattle.block.specs.Fresh.{fresh_sender, fresh, Lent, lent_sizes, made_of, Makes}
use Rattle.block.proofs.Exact.{ring-sizes, ack-sizes}
use Rattle.block.proofs.Kept.{fresh-fits}
use Rattle.receiving.specs.Rules.{fresh as rule_fresh}
use Rattle.receiving.specs.History.{event_recv, run_from, begun as rule_begun, hands as rule_hands, in_use as rule_use, step as rule_step}
use Rattle.receiving.proofs.Laws.{and_left, and_right}
use Rattle.receiving.proofs.Theorem.{Inv, inv-run, inv-begun, inv-sound}
use Rattle.receive.specs.Memory.{seen}
use Rattle.receive.proofs.Seen.{seen-queued, seen-held}
use Rattle.receive.proofs.Windows.{seen-fresh, fresh-good}
use Rattle.kcp_input.specs.Input.{input_fits}
use Rattle.history.specs.Calls.{Call, Memory, lent_to, seen_in, passes, is_read, events}
use Rattle.history.specs.History.{History, slots_of, Turn, on_own, on_other, step, run, OwnOrRefused, begun, Reads, slots_used_in, slots_used, send_slots_used, met_there, Inside, Drained, sizes_of, SoundCalls}
use Rattle.history.proofs.Rising.{fresh-flies, acked_none}
use Rattle.history.proofs.Fine.{Fine, own, receive-fits, passes-own}
use Rattle.history.proofs.Memory.{follows, received-bytes, inside}
use Rattle.history.proofs.Refused.{bad-leaves, bad-tells}
use Rattle.history.proofs.Reading.{number_at, first_at, hands-within}

-- ---- what every turn keeps

record Kept (start : Memory) (h : History) : Type 0 where
  inv : Inv (slots_of h) h.past
  sees : h.past.now ≡ seen_in h.now
  fine : Fine h.now
  lent : sizes_of h.now ≡ sizes_of start

-- a call that is refused by 15 leaves everything
refused-turn : (h : History) (l : Lent) (c : Call) → passes c (lent_to h.now.block l) ≡ false → step h (on_other l c) ≡ h
unfolding step run_from
refused-turn h l c e = rw (bad-leaves c (lent_to h.now.block l) e, bad-tells c (lent_to h.now.block l) e)

-- the slots that the rules count are those that the memory shows
shown : (r : Receiver) (l : Lists) → rule_use (seen r l) ≡ slots_used_in r.ring l.records
unfolding rule_use
shown r l = rw (seen-queued r l, seen-held r l)

module _ (start : Memory) where
  own-kept : (h : History) (c : Call) → Kept start h → Kept start (step h (on_own c))
  unfolding step
  own-kept h c kept =
      let x = follows h.now kept.fine c in
      record {
        inv = rw (ap (λ (l : List ℕ). get_or l 0 0) x.whole.sizes) (inv-run (slots_of h) _ x.small h.past kept.inv);
        sees = x.sees h.past kept.sees;
        fine = x.whole.fine;
        lent = x.whole.sizes ∙ kept.lent;
      }

  run-kept : (turns : List Turn) (h : History) → OwnOrRefused h turns → Kept start h → Kept start (run h turns)
  unfolding run
  run-kept [] h o kept = kept
  run-kept (on_own c ∷ turns) h o kept = run-kept turns (step h (on_own c)) o (own-kept h c kept)
  run-kept (on_other l c ∷ turns) h o kept = run-kept turns (step h (on_other l c)) o.1 (rw (refused-turn h l c o.0) kept)

  -- ---- and what that says

  module _ (h : History) (kept : Kept start h) where
    reads_all : (buf : List ℕ) → Reads h buf
    unfolding step events run_from rule_step put
    reads_all buf = record {
      new = rule_hands (event_recv (length buf)) (seen_in h.now);
      hands = rw (receive-fits h.now kept.fine, kept.sees);
      bytes = received-bytes h.now kept.fine buf ∙ rw zero-add;
      within = hands-within (length buf) (seen_in h.now);
    }

    inside_all : (s : List ℕ) → Octets s → is_read h.now s ≡ true → (j : ℕ) → Inside h s j
    inside_all s bytes read j =
        let short = and_right (leb 24 (length s)) (leb (length s) 1500) (and_right (input_fits h.now.block h.now.rcv h.now.acks h.now.waiting h.now.snd) _ read) in
        let w = inside h.now kept.fine s bytes (leb-true (length s) 1500 short) j in
        let e = w.runs h.past kept.sees in
        record {
          sees = e;
          sound = inv-sound (slots_of h) _ (inv-run (slots_of h) _ w.small h.past kept.inv);
          slots = ap rule_use e ∙ shown (met_there h s j).block.receiver (met_there h s j).rcv;
        }

    uses_none : Drained h → (slots_used h.now ≡ 0) × (send_slots_used h.now ≡ 0)
    unfolding rule_use
    uses_none d =
        let t = kept.inv.holds.total in
        let r = d.read in
        let n = acked_none h.now.block.sender (store_of 8 h.now.snd) kept.fine.sends.sound kept.fine.sends.flies d.acked in
        let z = ⊎_elim (λ e. e) (λ (l : 0 < h.now.block.sender.ring.flying). absurd (omega arith)) (own kept.fine).sender.front in
        let u = d.sent in
        (sym (shown h.now.block.receiver h.now.rcv) ∙ rw (← kept.sees) (omega arith), omega arith)

    kept-sound : SoundCalls start h
    kept-sound = record {
      sees = kept.sees;
      sound = inv-sound (slots_of h) h.past kept.inv;
      inside = inside_all;
      number = rw kept.sees at (number_at (slots_of h) h.past kept.inv);
      first_taken = rw kept.sees at (first_at (slots_of h) h.past kept.inv);
      reads = reads_all;
      slots = shown h.now.block.receiver h.now.rcv;
      drained = uses_none;
      lent = kept.lent;
      acks = kept.fine.lists.few;
      passed = passes-own h.now kept.fine;
      refused = λ l c e. (refused-turn h l c e, bad-leaves c (lent_to h.now.block l) e);
      rising = kept.fine.sends.flies.order;
      own = own kept.fine;
      short = kept.fine.sends.narrow;
      near = kept.fine.sends.flies.near;
    }

-- ---- from a fresh block

-- nothing is sent yet
fresh-sound : (q : Lists) → RingSizes 128 1024 (send_slots (length q.records)) 9 (length q.records) (length q.room) → Sound 8 fresh_sender.ring (store_of 8 q)
unfolding count summed
fresh-sound q z =
    let n = marks-length 8 q in
    let low = z.few.low in
    let high = z.few.high in
    record {
      shaped = record {
        sized = record {
          most = omega arith;
          rows-size = let a = rows-length 8 q in let b = z.recorded in omega arith;
          room-size = ap length (store-room 8 q) ∙ let b = z.roomy in omega arith;
        };
        inside = omega arith;
        many = zero-le;
      };
      marked = record { fit = λ i h. absurd (omega arith); waits = λ i a h e. omega arith; counted = refl; normal = λ h e. omega arith };
    }

module _ (conv : ℕ) (stream : Bool) (interval : ℕ) (l : Lent) (sizes : lent_sizes l ≡ true) where
  abbrev receive : Bool
  receive = receive_sizes (length l.rcv.records) (length l.rcv.room)

  abbrev send : Bool
  send = send_sizes (length l.snd.records) (length l.snd.room)

  abbrev ack : Bool
  ack = ack_sizes (length l.acks) (length l.waiting)

  abbrev start : Memory
  start = lent_to (fresh conv stream interval) l

  begun_kept : Kept start (begun start)
  unfolding begun rule_begun fresh rule_fresh lent_sizes
  begun_kept =
      let rings = and_left (receive && send) ack sizes in
      let z = (ring-sizes 256 1024 (length l.rcv.records) 1 (length l.rcv.records) (length l.rcv.room)).holds (and_left receive send rings) in
      let y = (ring-sizes 128 1024 (send_slots (length l.snd.records)) 9 (length l.snd.records) (length l.snd.room)).holds (and_right receive send rings) in
      record {
        inv = inv-begun (length l.rcv.records) z.few.low;
        sees = sym (seen-fresh l.rcv);
        lent = refl;
        fine = record {
          settings = (fresh-fits conv stream interval).settings;
          probe = (fresh-fits conv stream interval).probe;
          receives = record { good = fresh-good z; low = omega arith; sizes = z };
          sends = record {
            sound = fresh-sound l.snd y;
            flies = fresh-flies fresh_sender (store_of 8 l.snd) (omega arith) refl refl;
            slots = rw (marks-length 8 l.snd) y.few;
            narrow = record { snd = omega arith; rmt = omega arith; cwnd = omega arith; ssthresh = omega arith };
          };
          lists = record { memory = (ack-sizes (length l.acks) (length l.waiting)).holds (and_right (receive && send) ack sizes); few = zero-le; held = zero-le };
        };
      }

  -- demand 3
  pub history : (turns : List Turn) → OwnOrRefused (begun start) turns → SoundCalls start (run (begun start) turns)
  history turns o = kept-sound start _ (run-kept start turns (begun start) o begun_kept)

-- the same of what a constructor answers: a block, and then the sizes of what it was lent are within the limits
module _ (conv : ℕ) (stream : Bool) (interval : ℕ) (l : Lent) (k : Kcp) where
  pub made-history : Makes l (fresh conv stream interval) (Ok k) → (turns : List Turn) → OwnOrRefused (begun (lent_to k l)) turns
      → SoundCalls (lent_to k l) (run (begun (lent_to k l)) turns)
  unfolding made_of pick
  made-history made = go (lent_sizes l) refl made.answer
    where
      go : (b : Bool) → lent_sizes l ≡ b → Ok k ≡ pick b (Ok (fresh conv stream interval)) (Err BadPool) → (turns : List Turn)
          → OwnOrRefused (begun (lent_to k l)) turns → SoundCalls (lent_to k l) (run (begun (lent_to k l)) turns)
      go true h e =
          let same : k ≡ fresh conv stream interval = cc in
          rw same (history conv stream interval l h)
      go false h e = let z : ◌≡◌ {A = ℕ} 0 1 = cc in absurd (omega arith)
