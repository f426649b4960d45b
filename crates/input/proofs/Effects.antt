-- What each kind of segment leaves, from what the functions below promise. Assumes nothing.
use Prim.Native.Nat.{ℕ, ◌+◌, ◌≤◌}
use native.Mathlib.Omega.{arith}
use mathlib.Core.Path.{◌≡◌, sym, ap, ◌∙◌}
use mir.Syntax.{w32}
use mir.Val.{Fits}
use mathlib.Core.Bool.{Bool, true, false}
use mathlib.Core.List.{List}
use Rattle.serial.specs.Branch.{pick, pick_true, pick-false}
use Rattle.serial.specs.Wrap.{after}
use Rattle.ring.specs.Lists.{Lists}
use Rattle.snd_ring.specs.Store.{Store}
use Rattle.wire.specs.declared.Header.{Header}
use Rattle.wire.specs.declared.Kind.{Kind}
use Rattle.wire.specs.declared.Kind.TheVariants.{Push, Ack, Ask, Tell}
use Rattle.estimator.specs.declared.Estimator.{Estimator}
use Rattle.estimator.specs.Estimate.{acked}
use Rattle.block.specs.declared.receiver.Receiver.{Receiver}
use Rattle.block.specs.declared.sender.Sender.{Sender}
use Rattle.block.specs.declared.acklist.AckList.{AckList}
use Rattle.block.specs.declared.congestion.Congestion.{Congestion}
use Rattle.block.specs.declared.Kcp.{Kcp}
use Rattle.block.specs.Parts.{with_congestion, with_sender, with_receiver, with_ack_list, with_estimator}
use Rattle.sending.specs.declared.Window.{Window}
use Rattle.std.proofs.Common.{Option, Some}
use Rattle.sending.specs.declared.Ack.{Ack as AckSeen}
use Rattle.sending.specs.Rules.{grown, later}
use Rattle.transmit.specs.Memory.{side, una_at, ack_at}
use Rattle.transmit.specs.Memory as Send
use Rattle.receiving.specs.Rules.{Segment, skipped}
use Rattle.receive.specs.declared.Pushed.{Pushed}
use Rattle.receive.specs.Memory.{Side, full_at, push_at, acks_at, skips_at, PushedAs}
use Rattle.input.specs.Segment.{Met, with_block, with_rmt_wnd, begun, push_of, pushed_at, acked_at, asked, effect_at}
use Rattle.input.specs.Datagram.{with_window, grown_by}

-- ---- a push

pub one-skip : (full : Bool) (r : Receiver) (s : Segment) → skips_at full r s ≤ 1
unfolding skips_at pick
one-skip full r s = go (skipped full r.rcv_nxt r.rcv_wnd s)
  where
    go : (b : Bool) → pick b 1 0 ≤ 1
    go true = omega arith
    go false = omega arith

module _ (k : Kcp) (p : Lists) (acks : List ℕ) (s : Segment) (ts : ℕ) (o : Pushed) (p' : Lists) (acks' : List ℕ)
    (w : PushedAs k.receiver k.acklist p acks s ts o p' acks') where
  pub push-skips : o.skipped ≤ 1
  push-skips = let a = one-skip (full_at k.acklist.acks acks) k.receiver s in let e = w.skips in omega arith

  pub push-done : {x r : Kcp} → x ≡ with_receiver k o.receiver → r ≡ with_ack_list x o.acklist → (latest : Option AckSeen) (n : ℕ) (snd : Store)
      → record { block = r; latest = latest; skipped = n + o.skipped; rcv = p'; acks = acks'; snd = snd }
      ≡ pushed_at s ts (record { block = k; latest = latest; skipped = n; rcv = p; acks = acks; snd = snd })
  unfolding pushed_at
  push-done {x} f g latest n snd =
      let full = full_at k.acklist.acks acks in
      let y = push_at full k.receiver p s in
      let a : AckList = record { acks = acks_at full k.receiver s k.acklist.acks; waiting = k.acklist.waiting } in
      let out : Side → AckList → ℕ → List ℕ → Met =
      λ z b i l. record { block = with_ack_list (with_receiver k z.receiver) b; latest = latest; skipped = n + i; rcv = z.lent; acks = l; snd = snd } in
      ap (λ (z : Kcp). record { block = z; latest = latest; skipped = n + o.skipped; rcv = p'; acks = acks'; snd = snd }) (g ∙ ap (λ (z : Kcp). with_ack_list z o.acklist) f)
      ∙ ap (λ (z : Side). out z o.acklist o.skipped acks') w.receives
      ∙ ap (λ (b : AckList). out y b o.skipped acks') w.counts
      ∙ ap (λ (i : ℕ). out y a i acks') w.skips
      ∙ ap (λ (l : List ℕ). out y a (skips_at full k.receiver s) l) w.lists

-- ---- the window's growth

module _ (mss before una : ℕ) (c : Congestion) where
  pub grown-not : after una before ≡ false → c ≡ grown_by mss before una c
  unfolding grown_by
  grown-not e = sym (pick-false _ _ e)

  pub grown_yes : after una before ≡ true → {w : Window} → w ≡ grown mss c.ssthresh c.rmt_wnd (record { cwnd = c.cwnd; incr = c.incr })
      → with_window c w ≡ grown_by mss before una c
  unfolding grown_by
  grown_yes e h = ap (with_window c) h ∙ sym (pick_true _ _ e)

-- ---- una and an ack

pub begun-done : (k : Kcp) (h : Header) (m : Store) {t : Sender} → t ≡ una_at h.una k.sender m
    → {x r : Kcp} → x ≡ with_congestion k (with_rmt_wnd k.congestion h.wnd) → r ≡ with_sender x t → r ≡ begun h k m
unfolding begun
begun-done k h m {t} e {x} f g =
    g ∙ ap (λ (z : Kcp). with_sender z t) f ∙ ap (with_sender (with_congestion k (with_rmt_wnd k.congestion h.wnd))) e

pub ack-done : (k : Kcp) (h : Header) (m m' : Store) {t : Sender} → side t m' ≡ ack_at h.sn k.sender m
    → {e : Estimator} → e ≡ acked k.estimator k.clock.current h.ts k.clock.interval → {x r : Kcp} → x ≡ with_estimator k e → r ≡ with_sender x t
    → (old : Option AckSeen) {l : AckSeen} → l ≡ later old (record { sn = h.sn; ts = h.ts }) → (n : ℕ) (rcv : Lists) (acks : List ℕ)
    → record { block = r; latest = Some l; skipped = n; rcv = rcv; acks = acks; snd = m' }
    ≡ acked_at h (record { block = k; latest = old; skipped = n; rcv = rcv; acks = acks; snd = m })
unfolding acked_at
ack-done k h m m' {t} w {e} f {x} a b old {l} g n rcv acks =
    let out : Kcp → AckSeen → Store → Met = λ z l m. record { block = z; latest = Some l; skipped = n; rcv = rcv; acks = acks; snd = m } in
    ap (λ (z : Kcp). out z l m') (b ∙ ap (λ (z : Kcp). with_sender z t) (a ∙ ap (with_estimator k) f))
    ∙ ap (λ (z : AckSeen). out (with_sender (with_estimator k (acked k.estimator k.clock.current h.ts k.clock.interval)) t) z m') g
    ∙ ap (λ (y : Send.Side). out (with_sender (with_estimator k (acked k.estimator k.clock.current h.ts k.clock.interval)) y.sender) (later old (record { sn = h.sn; ts = h.ts })) y.store) w

-- ---- by the kind

module _ (kind : Kind) (h : Header) (payload : List ℕ) (m : Met) {n : Met} where
  pub did-push : kind ≡ Push → n ≡ pushed_at (push_of h payload) h.ts m → n ≡ effect_at kind h payload m
  unfolding effect_at
  did-push e f = f ∙ ap (λ (k : Kind). effect_at k h payload m) (sym e)

  pub did-ack : kind ≡ Ack → n ≡ acked_at h m → n ≡ effect_at kind h payload m
  unfolding effect_at
  did-ack e f = f ∙ ap (λ (k : Kind). effect_at k h payload m) (sym e)

  pub did-ask : kind ≡ Ask → n ≡ with_block m (asked m.block) → n ≡ effect_at kind h payload m
  unfolding effect_at
  did-ask e f = f ∙ ap (λ (k : Kind). effect_at k h payload m) (sym e)

  pub did-tell : kind ≡ Tell → n ≡ m → n ≡ effect_at kind h payload m
  unfolding effect_at
  did-tell e f = f ∙ ap (λ (k : Kind). effect_at k h payload m) (sym e)

-- so few are counted
pub skips-fit : (a b : ℕ) → a ≤ 62 → b ≤ 1 → Fits w32 (a + b)
skips-fit a b h l = record { fits = omega arith }
