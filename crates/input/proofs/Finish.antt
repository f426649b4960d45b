-- A datagram, from its walk and from what comes after it. Assumes nothing.
use Rattle.std.specs.Prelude.{Result, Ok, Err}
use Prim.Native.Nat.{ℕ}
use mathlib.Core.Path.{◌≡◌, sym, ap, ◌∙◌}
use mathlib.Core.List.{List}
use Rattle.ring.specs.Lists.{Lists}
use Rattle.snd_ring.specs.Store.{Store}
use Rattle.block.specs.declared.Kcp.{Kcp}
use Rattle.block.specs.declared.congestion.Congestion.{Congestion}
use Rattle.block.specs.declared.refusal.Refusal.{Refusal}
use Rattle.block.specs.Parts.{with_congestion}
use Rattle.std.proofs.Common.{Option, None}
use Rattle.sending.specs.declared.Ack.{Ack}
use Rattle.transmit.specs.Memory.{fastack_at}
use Rattle.input.specs.Segment.{Met, End, through, stopped}
use Rattle.input.specs.Datagram.{walk_of, WalkedAs, met_of, grown_by, ReadOut, finished, read_at}
use Rattle.input.proofs.Turns.{through_of, stopped_of}

-- the walk began with no ack seen, and none of its pushes skipped
module _ (k : Kcp) (rcv : Lists) (acks : List ℕ) (snd : Store) (s : List ℕ) {l : Option Ack} (new : l ≡ None) (m : Met) {b : Result ℕ Refusal}
    (w : WalkedAs s (record { block = k; latest = l; skipped = 0; rcv = rcv; acks = acks; snd = snd }) m b) where
  from-new : WalkedAs s (met_of k rcv acks snd) m b
  from-new = rw new at w

  by_end : (e : End) → (walk_of s (met_of k rcv acks snd)).end ≡ e → finished k m e ≡ read_at k rcv acks snd s
  unfolding read_at
  by_end e q = ap (λ (z : Met). finished k z e) from-new.met ∙ ap (finished k (walk_of s (met_of k rcv acks snd)).met) (sym q)

  pub read-stops : {why : Refusal} → b ≡ Err why
      → record { block = m.block; answer = b; skipped = m.skipped; rcv = m.rcv; acks = m.acks; snd = m.snd } ≡ read_at k rcv acks snd s
  unfolding finished
  read-stops {why} f =
      ap (λ (z : Result ℕ Refusal). record { block = m.block; answer = z; skipped = m.skipped; rcv = m.rcv; acks = m.acks; snd = m.snd }) f
      ∙ by_end (stopped why) (stopped_of (walk_of s (met_of k rcv acks snd)).end why (sym f ∙ from-new.answered))

  pub read_goes : {n : ℕ} → b ≡ Ok n → {after : Store} → after ≡ fastack_at m.latest m.block.sender m.snd
      → {g : Congestion} → g ≡ grown_by k.settings.mss k.sender.snd_una m.block.sender.snd_una m.block.congestion
      → {f : Kcp} → f ≡ with_congestion m.block g
      → record { block = f; answer = Ok n; skipped = m.skipped; rcv = m.rcv; acks = m.acks; snd = after } ≡ read_at k rcv acks snd s
  unfolding finished
  read_goes {n} h {after} a {g} w {f} i =
      let out : Kcp → Store → ReadOut = λ z x. record { block = z; answer = Ok n; skipped = m.skipped; rcv = m.rcv; acks = m.acks; snd = x } in
      ap (λ (z : Kcp). out z after) (i ∙ ap (with_congestion m.block) w)
      ∙ ap (out (with_congestion m.block (grown_by k.settings.mss k.sender.snd_una m.block.sender.snd_una m.block.congestion))) a
      ∙ by_end (through n) (through_of (walk_of s (met_of k rcv acks snd)).end n (sym h ∙ from-new.answered))
