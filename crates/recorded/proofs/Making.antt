-- The calls that change lent memory, and the choice among all: each step of the code against its definition. Assumes nothing.
use Rattle.std.specs.Prelude.{Result}
use Rattle.std.proofs.Common.{◌≡◌, ℕ, Option, ◌%◌, ◌<◌, ◌≤◌, List, sym, ap, ◌∙◌}
use Rattle.ring.specs.Lists.{Lists}
use Rattle.snd_ring.specs.Store.{store_of}
use Rattle.block.specs.declared.Kcp.{Kcp}
use Rattle.block.specs.declared.refusal.Refusal.{Refusal}
use Rattle.packing.specs.FlushAck.{writing}
use Rattle.kcp_send.specs.Send.{send_of}
use Rattle.kcp_input.specs.Input.{input_of}
use Rattle.kcp_flush.specs.Calls.{flush_ack_of}
use Rattle.history.specs.Calls.{Memory}
use Rattle.history.proofs.Stores.{lists_back}
use Rattle.recorded.specs.declared.rows.Row.{Row}
use Rattle.recorded.specs.declared.looks.Made.{Made}
use Rattle.recorded.specs.Sums.{sum_of, rising, zeros}
use Rattle.recorded.specs.Answers.{unknown, of_count, of_out}
use Rattle.recorded.specs.Looks.{made}
use Rattle.recorded.specs.Calls.{Sent, by_input, input_step, by_send, send_step, to_write, by_flush_ack, flush_ack_step, by_flush, flushed_of, flush_step}
use Rattle.recorded.proofs.Branches.{under, over}

-- ---- input

pub inputs : (m : Memory) (s : List ℕ) {b : Kcp} {a : Result ℕ Refusal} {n : ℕ} {rcv : Lists} {acks : List ℕ} {l : Lists}
    → record { block = b; answer = a; skipped = n; rcv = rcv; acks = acks; snd = store_of 8 l } ≡ input_of m.block m.rcv m.acks m.waiting m.snd s
    → {x : Made} → x ≡ made b (of_count a n)
    → record { memory = record { block = x.block; rcv = rcv; acks = acks; waiting = m.waiting; snd = l }; answer = x.answer } ≡ input_step m s
unfolding input_step
inputs m s {b} {a} {n} {rcv} {acks} {l} e f =
    ap (λ (x : Made). record { memory = record { block = x.block; rcv = rcv; acks = acks; waiting = m.waiting; snd = l }; answer = x.answer }) f
    ∙ ap (λ (q : Lists). record { memory = record { block = b; rcv = rcv; acks = acks; waiting = m.waiting; snd = q }; answer = of_count a n }) (sym (lists_back l))
    ∙ ap (by_input m) e

-- ---- send

module _ (k : Kcp) (l : Lists) where
  pub sends_in : (byte n : ℕ) {m : List ℕ} → m ≡ rising byte n → {b : Kcp} {a : Result ℕ Refusal} {q : Lists} → record { block = b; answer = a; store = store_of 8 q } ≡ send_of k l m
      → {x : Made} → x ≡ made b (of_count a 0) → record { block = x.block; answer = x.answer; snd = q } ≡ by_send (send_of k l (rising byte n))
  sends_in byte n f {b} {a} {q} e g =
      ap (λ (x : Made). record { block = x.block; answer = x.answer; snd = q }) g
      ∙ ap (λ (z : Lists). record { block = b; answer = of_count a 0; snd = z }) (sym (lists_back q))
      ∙ ap by_send (e ∙ ap (send_of k l) f)

  pub send-long : (r : Row) {x : Made} → x ≡ made k unknown → {n : ℕ} → n ≡ r.a → 4096 < n → record { block = x.block; answer = x.answer; snd = l } ≡ send_step r k l
  unfolding send_step
  send-long r e f h = ap (λ (x : Made). record { block = x.block; answer = x.answer; snd = l }) e ∙ sym (under _ _ (rw f at h))

  pub sends : (r : Row) {byte n m : ℕ} → byte ≡ r.b % 256 → n ≡ r.a → m ≡ n → {x : Sent} → x ≡ by_send (send_of k l (rising byte m)) → n ≤ 4096 → x ≡ send_step r k l
  unfolding send_step
  sends r f g i e h = e ∙ rw (f, i, g) (sym (over _ _ (rw g at h)))

-- ---- flush_ack, flush and update

-- what is lent for the datagrams is zeros
as_lent : (waiting : List ℕ) {out lengths : List ℕ} → out ≡ zeros 16384 → lengths ≡ zeros 1024 → writing waiting out lengths ≡ to_write waiting
as_lent waiting f g = rw (f, g)

-- the answer of a flush, with its sums
summed : (b : Kcp) (a : Result Unit Refusal) (d : ℕ) (o l : List ℕ) {n s : ℕ} → n ≡ sum_of l → s ≡ sum_of o → {x : Made} → x ≡ made b (of_out a d n s) → x ≡ made b (of_out a d (sum_of l) (sum_of o))
summed b a d o l i j h = h ∙ rw (i, j)

pub acks-out : (k : Kcp) (acks waiting : List ℕ) {out lengths : List ℕ} → out ≡ zeros 16384 → lengths ≡ zeros 1024
    → {b : Kcp} {a : Result Unit Refusal} {d : ℕ} {w o l : List ℕ} → record { block = b; answer = a; datagrams = d; written = writing w o l } ≡ flush_ack_of k acks (writing waiting out lengths)
    → {n s : ℕ} → n ≡ sum_of l → s ≡ sum_of o → {x : Made} → x ≡ made b (of_out a d n s)
    → record { block = x.block; answer = x.answer; waiting = w } ≡ flush_ack_step k acks waiting
unfolding flush_ack_step
acks-out k acks waiting f g {b} {a} {d} {w} {o} {l} e i j h =
    ap (λ (x : Made). record { block = x.block; answer = x.answer; waiting = w }) (summed b a d o l i j h)
    ∙ ap by_flush_ack (e ∙ ap (flush_ack_of k acks) (as_lent waiting f g))

module _ (current : Option ℕ) (k : Kcp) (snd : Lists) (acks : List ℕ) where
  pub flushed-out : (waiting : List ℕ) {out lengths : List ℕ} → out ≡ zeros 16384 → lengths ≡ zeros 1024
      → {b : Kcp} {a : Result Unit Refusal} {d : ℕ} {o l : List ℕ} {q : Lists}
      → record { out = record { block = b; answer = a; datagrams = d; written = writing waiting o l }; store = store_of 8 q } ≡ flushed_of current k snd acks (writing waiting out lengths)
      → {n s : ℕ} → n ≡ sum_of l → s ≡ sum_of o → {x : Made} → x ≡ made b (of_out a d n s)
      → record { block = x.block; answer = x.answer; waiting = waiting; snd = q } ≡ flush_step current k snd acks waiting
  unfolding flush_step
  flushed-out waiting f g {b} {a} {d} {o} {l} {q} e i j h =
      ap (λ (x : Made). record { block = x.block; answer = x.answer; waiting = waiting; snd = q }) (summed b a d o l i j h)
      ∙ ap (λ (z : Lists). record { block = b; answer = of_out a d (sum_of l) (sum_of o); waiting = waiting; snd = z }) (sym (lists_back q))
      ∙ ap by_flush (e ∙ ap (flushed_of current k snd acks) (as_lent waiting f g))
