-- One segment, from what the functions that it calls promise. Assumes nothing.
use Rattle.std.specs.Prelude.{Result, Ok, Err}
use Prim.Native.Nat.{ℕ, ◌+◌, ◌-◌, ◌≤◌, ◌<◌}
use native.Mathlib.Omega.{arith}
use mathlib.Core.Path.{◌≡◌, sym, ap, ◌∙◌, subst}
use mathlib.Core.List.{List, []}
use mir.Syntax.{w64}
use mir.Val.{Fits}
use lib.ListN.{length, take, drop}
use Rattle.ring.specs.Lists.{Lists, lists}
use Rattle.ring.specs.Records.{part}
use Rattle.snd_ring.specs.Store.{store_of}
use Rattle.wire.specs.declared.Header.{Header}
use Rattle.wire.specs.declared.Kind.{Kind}
use Rattle.wire.specs.Header.{header_at}
use Rattle.block.specs.declared.Kcp.{Kcp}
use Rattle.block.specs.declared.refusal.Refusal.{Refusal}
use Rattle.receive.specs.Fits.{Good}
use Rattle.transmit.specs.Fits.{Lies}
use Rattle.transmit.proofs.Exact.{una-lies}
use Rattle.input.specs.declared.Walk.{Walk}
use Rattle.input.specs.Segment.{Met, Walked, with_block, adopted, begun, answer_of, effect_at, payload_at, verdict_of, act_at, segment_at, SegmentAs}
use Rattle.input.proofs.Judging.{adopted-receiver, adopted-sender}
use Rattle.input.proofs.Turns.{fits_left}
use Rattle.input.proofs.Sane.{Sane, sane-segment, segment-skips, payload-fits}

-- the block and what goes with it, and the lent memory with any room behind the send records
abbrev pub met_by : Walk → Lists → List ℕ → List ℕ → List ℕ → Met
met_by w rcv acks a room =
    record { block = w.block; latest = w.latest; skipped = w.skipped; rcv = rcv; acks = acks; snd = store_of 8 (lists a room) }

-- ---- what is left of a segment, from each step

module _ (s : List ℕ) (at : ℕ) {h : Header} (read : h ≡ header_at s at) (m : Met) {v : Result Kind Refusal}
    (judged : v ≡ verdict_of m.block.settings.conv m.block.settings.input_conv h (length s - at - 24)) where
  acts : act_at s at h m v ≡ segment_at s at m
  unfolding segment_at
  acts =
      ap (act_at s at h m) judged
      ∙ ap (λ (g : Header). act_at s at g m (verdict_of m.block.settings.conv m.block.settings.input_conv g (length s - at - 24))) read

  segment_as : {w : Walked} → w ≡ act_at s at h m v → SegmentAs s at m w.met (answer_of w.end)
  segment_as e = record { met = ap (λ (x : Walked). x.met) (e ∙ acts); answered = ap (λ (x : Walked). answer_of x.end) (e ∙ acts) }

  pub segment-stops : {y : Refusal} → v ≡ Err y → {k : Kcp} → k ≡ adopted h.conv m.block → SegmentAs s at m (with_block m k) (Err y)
  unfolding act_at
  segment-stops {y} e {k} f =
      let a = ap (act_at s at h m) (sym e) ∙ acts in
      record {
        met = ap (with_block m) f ∙ ap (λ (x : Walked). x.met) a;
        answered = ap (λ (x : Walked). answer_of x.end) a;
      }

  pub segment-goes : {kind : Kind} → v ≡ Ok kind → {k : Kcp} → k ≡ adopted h.conv m.block → {g : Kcp} → g ≡ begun h k m.snd
      → {payload : List ℕ} → payload ≡ payload_at s at h.len → {n : Met} → n ≡ effect_at kind h payload (with_block m g) → SegmentAs s at m n (Ok (at + 24 + h.len))
  unfolding act_at
  segment-goes {kind} e {k} f₁ {g} f₂ {payload} p {n} f₃ =
      let a = ap (act_at s at h m) (sym e) ∙ acts in
      record {
        met = f₃
            ∙ ap (λ (z : List ℕ). effect_at kind h z (with_block m g)) p
            ∙ ap (λ (z : Kcp). effect_at kind h (payload_at s at h.len) (with_block m z)) (f₂ ∙ ap (λ (z : Kcp). begun h z m.snd) f₁)
            ∙ ap (λ (x : Walked). x.met) a;
        answered = ap (λ (x : Walked). answer_of x.end) a;
      }

  -- where the next one begins
  pub within : {kind : Kind} → v ≡ Ok kind → at + 24 ≤ length s → at + 24 + h.len ≤ length s
  within {kind} e l =
      let a = fits_left m.block.settings.conv m.block.settings.input_conv h (length s - at - 24) kind (sym judged ∙ e) in
      omega arith

-- the bytes from 24 behind `at` up to the next segment
pub payload_is : (s : List ℕ) (at len : ℕ) → take (at + 24 + len - (at + 24)) (drop (at + 24) s) ≡ payload_at s at len
unfolding part
payload_is s at len = let e : at + 24 + len - (at + 24) ≡ len = omega arith in rw e

pub payload-short : (s : List ℕ) (at len : ℕ) → at + 24 + len ≤ length s → length s ≤ 1500 → length (take (at + 24 + len - (at + 24)) (drop (at + 24) s)) ≤ 1476
payload-short s at len h l = rw (payload_is s at len) (payload-fits s at len h l)

-- a place in it is a number of the machine
pub place-fits : (s : List ℕ) {x : ℕ} → x ≤ length s → length s ≤ 1500 → Fits w64 x
place-fits s h l = record { fits = omega arith }

-- ---- what it asks and keeps

-- once a conv was adopted
module _ (met : ℕ) (k : Kcp) {x : Kcp} (e : x ≡ adopted met k) where
  pub adopted-good : {l : Lists} → Good k.receiver l → Good x.receiver l
  adopted-good g = rw (e, adopted-receiver met k) g

  pub adopted-lies : {a : List ℕ} → Lies k.sender a → Lies x.sender a
  adopted-lies l = rw (e, adopted-sender met k) l

-- once una has been obeyed
module _ (h : Header) (k : Kcp) {x : Kcp} (a : List ℕ) (e : (room : List ℕ) → x ≡ begun h k (store_of 8 (lists a room))) where
  pub begun-good : {l : Lists} → Good k.receiver l → Good x.receiver l
  unfolding begun
  begun-good {l} g = subst (λ (y : Kcp). Good y.receiver l) (sym (e [])) g

  pub begun-lies : Lies k.sender a → Lies x.sender a
  unfolding begun
  begun-lies l = una-lies l h.una (λ room. ap (λ (y : Kcp). y.sender) (e room))

pub frg-small : (s : List ℕ) (at : ℕ) {h : Header} → h ≡ header_at s at → h.frg < 256 → (header_at s at).frg < 65536
frg-small s at e l = let b = ap (λ (g : Header). g.frg) e in omega arith

-- what a segment leaves of the memory
module _ (s : List ℕ) (at : ℕ) (more : at + 24 ≤ length s) (short : length s ≤ 1500) (small : (header_at s at).frg < 65536)
    (x y : Walk) (rcv rcv' : Lists) (acks acks' a a' : List ℕ) (b : Result ℕ Refusal) (good : Good x.block.receiver rcv) (lies : Lies x.block.sender a)
    (e : (room : List ℕ) → SegmentAs s at (met_by x rcv acks a room) (met_by y rcv' acks' a' room) b) where
  sane : Sane (met_by y rcv' acks' a' lies.room)
  sane = rw (e lies.room).met (sane-segment s at (met_by x rcv acks a lies.room) more short small (record { good = good; sound = lies.sound }))

  after-skips : y.skipped ≤ x.skipped + 1
  after-skips =
      let i = ap (λ (m : Met). m.skipped) (e lies.room).met in
      let c = segment-skips s at (met_by x rcv acks a lies.room) more in
      omega arith

  -- all that it ensures
  pub ensured : ((room : List ℕ) → SegmentAs s at (met_by x rcv acks a room) (met_by y rcv' acks' a' room) b)
      × (Good y.block.receiver rcv' × (Lies y.block.sender a' × (y.skipped ≤ x.skipped + 1)))
  ensured = (e, (sane.good, (record { room = lies.room; sound = sane.sound }, after-skips)))
