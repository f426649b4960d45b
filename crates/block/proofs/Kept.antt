-- A fresh block's own numbers are well formed, and a setter keeps them so. Assumes nothing.
use Prim.Native.Nat.{ℕ}
use mathlib.Core.Path.{◌≡◌, refl}
use mathlib.Core.Bool.{Bool, true, false}
use Rattle.serial.specs.Branch.{pick}
use Rattle.estimator.specs.declared.Estimator.{Estimator}
use Rattle.block.specs.declared.settings.Settings.{Settings}
use Rattle.block.specs.declared.clock.Clock.{Clock}
use Rattle.block.specs.declared.congestion.Congestion.{Congestion}
use Rattle.block.specs.declared.Kcp.{Kcp}
use Rattle.block.specs.declared.set.Set.{Set}
use Rattle.block.specs.Sizes.{mtu_size}
use Rattle.block.specs.Parts.{with_settings, with_clock, with_estimator, with_congestion}
use Rattle.block.specs.Fresh.{fresh}
use Rattle.block.specs.WellFormed.{settings_fit, SettingsFit, probe_fits, receiver_fits, sender_fits, acklist_fits, own_numbers, OwnNumbers}
use Rattle.block.specs.Setters.{set_mtu}
use Rattle.block.proofs.Exact.{exactly-within, own-numbers}

pub fresh-fits : (conv : ℕ) (stream : Bool) (interval : ℕ) → OwnNumbers (fresh conv stream interval)
unfolding fresh own_numbers settings_fit probe_fits receiver_fits sender_fits acklist_fits
fresh-fits conv stream interval = (own-numbers (fresh conv stream interval)).holds refl

-- the parts that they do not look at, and of the settings just the mtu and mss
module _ (k : Kcp) where
  pub clock-kept : (c : Clock) → own_numbers (with_clock k c) ≡ own_numbers k
  unfolding own_numbers
  clock-kept c = refl

  pub estimator-kept : (e : Estimator) → own_numbers (with_estimator k e) ≡ own_numbers k
  unfolding own_numbers
  estimator-kept e = refl

  pub congestion-kept : (c : Congestion) → own_numbers (with_congestion k c) ≡ own_numbers k
  unfolding own_numbers
  congestion-kept c = refl

  pub settings-kept : (s : Settings) → s.mtu ≡ k.settings.mtu → s.mss ≡ k.settings.mss → own_numbers (with_settings k s) ≡ own_numbers k
  unfolding own_numbers settings_fit
  settings-kept s m n = rw (m, n)

-- with other settings that fit
pub with-settings : {k : Kcp} (s : Settings) → SettingsFit s → OwnNumbers k → OwnNumbers (with_settings k s)
with-settings s f w = record { settings = f; probe = w.probe; receiver = w.receiver; sender = w.sender; acklist = w.acklist }

-- what holds of either side holds of the choice
pick_of : {A : Type 0} (Q : A → Type 0) (t : Bool) {a b : A} → (t ≡ true → Q a) → Q b → Q (pick t a b)
unfolding pick
pick_of Q true f g = f refl
pick_of Q false f g = g

-- the mtu's setter, taken or refused
pub mtu-kept : {k : Kcp} (mtu : ℕ) → OwnNumbers k → OwnNumbers (set_mtu k mtu).block
unfolding set_mtu
mtu-kept mtu w =
    pick_of (λ (s : Set). OwnNumbers s.block) (mtu_size mtu)
    (λ h. with-settings _ (record { mtu = (exactly-within 50 mtu 1500).holds h; mss = refl }) w)
    w
