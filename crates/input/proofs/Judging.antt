-- The verdict and the adoption of a conv, by what the tests find. Assumes nothing.
use Rattle.std.specs.Prelude.{Err}
use Prim.Native.Nat.{ℕ, ◌<◌, ◌≤◌}
use mathlib.Core.Path.{◌≡◌, refl, sym, ◌∙◌}
use mathlib.Core.Bool.{Bool, true, false}
use borrow.Author.Tests.{lt-ltb, le-ltb}
use Rattle.serial.specs.Branch.{pick, pick_true, pick-false}
use Rattle.wire.specs.declared.Header.{Header}
use Rattle.wire.specs.Commands.{command_of}
use Rattle.block.specs.declared.Kcp.{Kcp}
use Rattle.block.specs.declared.refusal.Refusal.TheVariants.{ConvInconsistent, InvalidSegmentDataSize}
use Rattle.block.specs.Parts.{with_settings, with_conv, with_input_conv}
use Rattle.input.specs.Segment.{adopts, differs, of_command, verdict_of, adopted}

module _ (met : ℕ) (k : Kcp) where
  pub adopted-not : adopts k.settings.conv k.settings.input_conv met ≡ false → k ≡ adopted met k
  unfolding adopted
  adopted-not e = sym (pick-false _ _ e)

  pub adopted-other : adopts k.settings.conv k.settings.input_conv met ≡ true
      → {r : Kcp} → r ≡ with_settings k (with_input_conv (with_conv k.settings met) false) → r ≡ adopted met k
  unfolding adopted
  adopted-other e h = h ∙ sym (pick_true _ _ e)

  -- what holds of the block and of it with other settings holds of what is adopted
  adopted_by : (P : Kcp → Type 0) → P k → P (with_settings k (with_input_conv (with_conv k.settings met) false)) → P (adopted met k)
  unfolding adopted pick
  adopted_by P a b = go (adopts k.settings.conv k.settings.input_conv met)
    where
      go : (t : Bool) → P (pick t (with_settings k (with_input_conv (with_conv k.settings met) false)) k)
      go true = b
      go false = a

  -- both sides stay
  pub adopted-receiver : (adopted met k).receiver ≡ k.receiver
  adopted-receiver = adopted_by (λ (x : Kcp). x.receiver ≡ k.receiver) refl refl

  pub adopted-sender : (adopted met k).sender ≡ k.sender
  adopted-sender = adopted_by (λ (x : Kcp). x.sender ≡ k.sender) refl refl

module _ (own : ℕ) (waiting : Bool) (h : Header) (left : ℕ) where
  pub judged-conv : differs own waiting h.conv ≡ true → Err (ConvInconsistent own h.conv) ≡ verdict_of own waiting h left
  unfolding verdict_of
  judged-conv e = sym (pick_true _ _ e)

  module _ (e : differs own waiting h.conv ≡ false) where
    pub judged-long : left < h.len → Err (InvalidSegmentDataSize h.len left) ≡ verdict_of own waiting h left
    unfolding verdict_of
    judged-long l = sym (pick-false _ _ e ∙ pick_true _ _ (lt-ltb left h.len l))

    pub judged_kind : h.len ≤ left → of_command (command_of h.cmd) ≡ verdict_of own waiting h left
    unfolding verdict_of
    judged_kind l = sym (pick-false _ _ e ∙ pick-false _ _ (le-ltb left h.len l))
