-- What every segment keeps of the lent memory: both rings stay sound; and a segment skips at most one push. Assumes nothing.
use Rattle.std.specs.Prelude.{Result, Ok, Err}
use Prim.Native.Nat.{ℕ, ◌+◌, ◌-◌, ◌≤◌, ◌<◌}
use native.Mathlib.Omega.{arith}
use mathlib.Core.Path.{◌≡◌, refl}
use mathlib.Core.List.{List}
use lib.ListN.{length}
use Rattle.ring.proofs.Rows.{part_length}
use Rattle.snd_ring.specs.Store.{Sound}
use Rattle.wire.specs.declared.Header.{Header}
use Rattle.wire.specs.declared.Kind.{Kind}
use Rattle.wire.specs.declared.Kind.TheVariants.{Push, Ack, Ask, Tell}
use Rattle.wire.specs.Header.{header_at}
use Rattle.receive.specs.Memory.{full_at}
use Rattle.receive.specs.Fits.{Good}
use Rattle.receive.proofs.Seen.{push-good}
use Rattle.transmit.proofs.Seen.{una-sound, ack-sound}
use Rattle.input.specs.Segment.{Met, with_block, adopted, begun, push_of, pushed_at, acked_at, effect_at, payload_at, verdict_of, act_at, segment_at}
use Rattle.input.proofs.Judging.{adopted-receiver, adopted-sender}
use Rattle.input.proofs.Effects.{one-skip}
use Rattle.input.proofs.Turns.{fits_left}
use Rattle.block.specs.declared.refusal.Refusal.{Refusal}

pub record Sane (m : Met) : Type 0 where
  pub good : Good m.block.receiver m.rcv
  pub sound : Sound 8 m.block.sender.ring m.snd

abbrev adopted_in : Header → Met → Met
adopted_in h m = with_block m (adopted h.conv m.block)

abbrev begun_in : Header → Met → Met
begun_in h m = with_block m (begun h (adopted h.conv m.block) m.snd)

sane-adopted : (h : Header) (m : Met) → Sane m → Sane (adopted_in h m)
sane-adopted h m s = record { good = rw (adopted-receiver h.conv m.block) s.good; sound = rw (adopted-sender h.conv m.block) s.sound }

sane-begun : (h : Header) (m : Met) → Sane m → Sane (begun_in h m)
unfolding begun
sane-begun h m s =
    let a = sane-adopted h m s in
    record { good = a.good; sound = una-sound h.una (adopted h.conv m.block).sender m.snd a.sound }

sane_effect : (kind : Kind) (h : Header) (payload : List ℕ) (m : Met) → h.frg < 65536 → length payload ≤ 1476 → Sane m → Sane (effect_at kind h payload m)
unfolding effect_at pushed_at acked_at
sane_effect Push h payload m small fit s =
    record { good = push-good s.good (push_of h payload) small fit (full_at m.block.acklist.acks m.acks); sound = s.sound }
sane_effect Ack h payload m small fit s = record { good = s.good; sound = ack-sound h.sn m.block.sender m.snd s.sound }
sane_effect Ask h payload m small fit s = record { good = s.good; sound = s.sound }
sane_effect Tell h payload m small fit s = s

-- ---- a segment skips at most one push

skips_effect : (kind : Kind) (h : Header) (payload : List ℕ) (m : Met) → (effect_at kind h payload m).skipped ≤ m.skipped + 1
unfolding effect_at pushed_at acked_at
skips_effect Push h payload m = let a = one-skip (full_at m.block.acklist.acks m.acks) m.block.receiver (push_of h payload) in omega arith
skips_effect Ack h payload m = omega arith
skips_effect Ask h payload m = omega arith
skips_effect Tell h payload m = omega arith

-- ---- a segment

-- a payload behind a header within 1,500 bytes fits a slot
pub payload-fits : (s : List ℕ) (at len : ℕ) → at + 24 + len ≤ length s → length s ≤ 1500 → length (payload_at s at len) ≤ 1476
payload-fits s at len h l = let e = part_length s (at + 24) len h in omega arith

module _ (s : List ℕ) (at : ℕ) (m : Met) (more : at + 24 ≤ length s) where
  abbrev h : Header
  h = header_at s at

  -- what holds of what each verdict leaves holds of what the segment leaves
  segment_by : (P : Met → Type 0) → P (adopted_in h m)
      → ((kind : Kind) → at + 24 + h.len ≤ length s → P (effect_at kind h (payload_at s at h.len) (begun_in h m)))
      → P (segment_at s at m).met
  unfolding segment_at act_at
  segment_by P a b = go (verdict_of m.block.settings.conv m.block.settings.input_conv (header_at s at) (length s - at - 24)) refl
    where
      go : (v : Result Kind Refusal) → verdict_of m.block.settings.conv m.block.settings.input_conv (header_at s at) (length s - at - 24) ≡ v
          → P (act_at s at (header_at s at) m v).met
      go (Ok kind) e =
          let l = fits_left m.block.settings.conv m.block.settings.input_conv (header_at s at) (length s - at - 24) kind e in
          b kind (omega arith)
      go (Err why) e = a

  pub sane-segment : length s ≤ 1500 → h.frg < 65536 → Sane m → Sane (segment_at s at m).met
  sane-segment short small x =
      segment_by Sane (sane-adopted h m x)
      (λ kind l. sane_effect kind h (payload_at s at h.len) (begun_in h m) small (payload-fits s at h.len l short) (sane-begun h m x))

  pub segment-skips : (segment_at s at m).met.skipped ≤ m.skipped + 1
  segment-skips =
      segment_by (λ (n : Met). n.skipped ≤ m.skipped + 1) (omega arith)
      (λ kind l. skips_effect kind h (payload_at s at h.len) (begun_in h m))
