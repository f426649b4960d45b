-- Where a datagram ends depends on its bytes and on the block's conv alone: a segment's end is its verdict's, and what a segment does leaves the conv and the
-- waiting as its adoption left them. Assumes nothing.
use Rattle.std.specs.Prelude.{Result, Ok, Err}
use Prim.Native.Nat.{ℕ, zero, suc, ◌+◌, ◌-◌}
use mathlib.Core.Path.{◌≡◌, refl, ap, ◌∙◌}
use mathlib.Core.Bool.{Bool, false}
use mathlib.Core.List.{List}
use lib.ListN.{length}
use lib.Dec.{leb}
use Rattle.serial.specs.Branch.{pick, pick-ap}
use Rattle.ring.specs.Lists.{Lists}
use Rattle.snd_ring.specs.Store.{Store}
use Rattle.wire.specs.declared.Header.{Header}
use Rattle.wire.specs.declared.Kind.{Kind}
use Rattle.wire.specs.declared.Kind.TheVariants.{Push, Ack, Ask, Tell}
use Rattle.wire.specs.Header.{header_at}
use Rattle.block.specs.declared.settings.Settings.{Settings}
use Rattle.block.specs.declared.Kcp.{Kcp}
use Rattle.block.specs.Parts.{with_settings, with_conv, with_input_conv}
use Rattle.input.specs.Segment.{Met, End, through, stopped, Walked, with_block, adopts, verdict_of, adopted, begun, pushed_at, acked_at, effect_at, payload_at, act_at, segment_at, answer_of}
use Rattle.input.specs.Datagram.{onward, walk_from, walk_of, conv_after, wait_after, end_by, end_from, end_of, number_of_end, values_of_end, finished, met_of, read_at}
use Rattle.block.specs.declared.refusal.Refusal.{Refusal}
use Rattle.block.specs.Refusals.{number_of_answer, values_of_count}

-- ---- what a segment does leaves the settings as its adoption left them

effect-settings : (kind : Kind) (h : Header) (payload : List ℕ) (m : Met) → (effect_at kind h payload m).block.settings ≡ m.block.settings
unfolding effect_at pushed_at acked_at
effect-settings Push h payload m = refl
effect-settings Ack h payload m = refl
effect-settings Ask h payload m = refl
effect-settings Tell h payload m = refl

begun-settings : (h : Header) (k : Kcp) (snd : Store) → (begun h k snd).settings ≡ k.settings
unfolding begun
begun-settings h k snd = refl

module _ (met : ℕ) (k : Kcp) where
  abbrev other : Kcp
  other = with_settings k (with_input_conv (with_conv k.settings met) false)

  adopted-conv : (adopted met k).settings.conv ≡ conv_after k.settings.conv k.settings.input_conv met
  unfolding adopted
  adopted-conv = pick-ap (λ (x : Kcp). x.settings.conv) (adopts k.settings.conv k.settings.input_conv met) other k

  adopted-waiting : (adopted met k).settings.input_conv ≡ wait_after k.settings.conv k.settings.input_conv met
  unfolding adopted
  adopted-waiting = pick-ap (λ (x : Kcp). x.settings.input_conv) (adopts k.settings.conv k.settings.input_conv met) other k

-- ---- the walk's end

module _ (s : List ℕ) where
  abbrev own : Met → ℕ
  own m = m.block.settings.conv

  abbrev waiting : Met → Bool
  waiting m = m.block.settings.input_conv

  -- the conv and the waiting behind a segment that goes on
  behind : (kind : Kind) (h : Header) (payload : List ℕ) (m : Met)
      → (effect_at kind h payload (with_block m (begun h (adopted h.conv m.block) m.snd))).block.settings ≡ (adopted h.conv m.block).settings
  behind kind h payload m =
      effect-settings kind h payload (with_block m (begun h (adopted h.conv m.block) m.snd)) ∙ begun-settings h (adopted h.conv m.block) m.snd

  -- one turn, where the turns behind it are known
  module _ (fuel at : ℕ) (m : Met) (rest : (next : ℕ) (n : Met) → (walk_from s fuel next n).end ≡ end_from s fuel next (own n) (waiting n)) where
    abbrev h : Header
    h = header_at s at

    abbrev rest_from : ℕ → End
    rest_from next = end_from s fuel next (conv_after (own m) (waiting m) h.conv) (wait_after (own m) (waiting m) h.conv)

    by-verdict : (v : Result Kind Refusal) → (onward (λ next n. walk_from s fuel next n) (act_at s at h m v)).end ≡ end_by rest_from at h v
    unfolding onward act_at end_by
    by-verdict (Ok kind) =
        let n = effect_at kind h (payload_at s at h.len) (with_block m (begun h (adopted h.conv m.block) m.snd)) in
        let e = behind kind h (payload_at s at h.len) m in
        rest (at + 24 + h.len) n
        ∙ ap (λ (x : ℕ). end_from s fuel (at + 24 + h.len) x (waiting n)) (ap (λ (x : Settings). x.conv) e ∙ adopted-conv h.conv m.block)
        ∙ ap (end_from s fuel (at + 24 + h.len) (conv_after (own m) (waiting m) h.conv)) (ap (λ (x : Settings). x.input_conv) e ∙ adopted-waiting h.conv m.block)
    by-verdict (Err why) = refl

    segment-end : (onward (λ next n. walk_from s fuel next n) (segment_at s at m)).end ≡ end_by rest_from at h (verdict_of (own m) (waiting m) h (length s - at - 24))
    unfolding segment_at
    segment-end = by-verdict (verdict_of (own m) (waiting m) h (length s - at - 24))

  end-from : (fuel at : ℕ) (m : Met) → (walk_from s fuel at m).end ≡ end_from s fuel at (own m) (waiting m)
  unfolding walk_from end_from
  end-from zero at m = refl
  end-from (suc fuel) at m =
      pick-ap (λ (w : Walked). w.end) (leb (at + 24) (length s)) (onward (λ next n. walk_from s fuel next n) (segment_at s at m)) (record { met = m; end = through at })
      ∙ ap (λ (e : End). pick (leb (at + 24) (length s)) e (through at)) (segment-end fuel at m (end-from fuel))

  -- THE LAW
  pub end_is : (m : Met) → (walk_of s m).end ≡ end_of s m.block.settings.conv m.block.settings.input_conv
  unfolding walk_of end_of
  end_is m = end-from (length s) 0 m

-- ---- and the answer of the datagram, by 01's number and values

answer-of : (k : Kcp) (m : Met) (e : End) → (finished k m e).answer ≡ answer_of e
unfolding finished
answer-of k m (through n) = refl
answer-of k m (stopped why) = refl

number_of : (e : End) → number_of_answer (answer_of e) ≡ number_of_end e
number_of (through n) = refl
number_of (stopped why) = refl

values_of : (e : End) → values_of_count (answer_of e) ≡ values_of_end e
values_of (through n) = refl
values_of (stopped why) = refl

module _ (k : Kcp) (rcv : Lists) (acks : List ℕ) (snd : Store) (s : List ℕ) where
  pub read_answer : (read_at k rcv acks snd s).answer ≡ answer_of (end_of s k.settings.conv k.settings.input_conv)
  unfolding read_at
  read_answer =
      let w = walk_of s (met_of k rcv acks snd) in
      answer-of k w.met w.end ∙ ap answer_of (end_is s (met_of k rcv acks snd))

  pub read_number : number_of_answer (read_at k rcv acks snd s).answer ≡ number_of_end (end_of s k.settings.conv k.settings.input_conv)
  read_number = ap number_of_answer read_answer ∙ number_of (end_of s k.settings.conv k.settings.input_conv)

  pub read-values : values_of_count (read_at k rcv acks snd s).answer ≡ values_of_end (end_of s k.settings.conv k.settings.input_conv)
  read-values = ap values_of_count read_answer ∙ values_of (end_of s k.settings.conv k.settings.input_conv)
