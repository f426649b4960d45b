-- The setters that are handed no pool, each in the steps of the Rust's function of that name. Assumes nothing.
use Rattle.std.specs.Prelude.{ℕ, ◌≡◌, Bool, true, [], ◌∷◌, ltb, ℤ, pos, nat_abs, Ok, Err}
use Rattle.std.specs.Int.Signed.{lt_z, le_z}
use Rattle.serial.specs.Branch.{pick}
use Rattle.block.specs.declared.Kcp.{Kcp}
use Rattle.block.specs.declared.set.Set.{Set}
use Rattle.block.specs.declared.refusal.Refusal.TheVariants.{InvalidMtu}
use Rattle.block.specs.Refusals.{number_of_answer, values_of_answer}
use Rattle.block.specs.Sizes.{mtu_size, mss_of}
use Rattle.block.specs.Parts.{with_settings, with_clock, with_estimator, with_conv, with_mtu, with_nodelay, with_input_conv, with_fastresend, with_dead_link, with_interval, with_minrto}

-- "10 | InvalidMtu | mtu under 50 or over 1,500 | all as it was"; else the mtu is set, and mss = mtu − 24
unfoldable pub set_mtu : Kcp → ℕ → Set
set_mtu k mtu =
    pick (mtu_size mtu)
    (record { block = with_settings k (with_mtu k.settings mtu (mss_of mtu)); answer = Ok tt })
    (record { block = k; answer = Err (InvalidMtu mtu) })

-- what `set_mtu` promises of its outcome r
pub record MtuSet (k : Kcp) (mtu : ℕ) (r : Set) : Type 0 where
  pub outcome : r ≡ set_mtu k mtu
  pub refusal : number_of_answer r.answer ≡ pick (mtu_size mtu) 0 10
  pub values : values_of_answer r.answer ≡ pick (mtu_size mtu) [] (mtu ∷ [])

-- if interval > 5000 { 5000 } else if interval < 10 { 10 }
unfoldable pub interval_of : ℕ → ℕ
interval_of interval = pick (ltb 5000 interval) 5000 (pick (ltb interval 10) 10 interval)

abbrev pub set_interval : Kcp → ℕ → Kcp
set_interval k interval = with_clock k (with_interval k.clock (interval_of interval))

-- match interval { i if i < 10 => 10, i if i > 5000 => 5000, _ => interval as u32 }
unfoldable pub interval_of_signed : ℤ → ℕ
interval_of_signed interval = pick (lt_z interval (pos 10)) 10 (pick (lt_z (pos 5000) interval) 5000 (nat_abs interval))

-- if resend >= 0 { fastresend = resend as u32 }
unfoldable pub resend_of : ℕ → ℤ → ℕ
resend_of fastresend resend = pick (le_z (pos 0) resend) (nat_abs resend) fastresend

-- rx_minrto is 30 with nodelay, else 100
unfoldable pub minrto_of : Bool → ℕ
minrto_of nodelay = pick nodelay 30 100

-- nodelay and rx_minrto, then the interval, then fastresend, then nocwnd
abbrev pub set_nodelay : Kcp → Bool → ℤ → ℤ → Bool → Kcp
set_nodelay k nodelay interval resend nc =
    with_settings
    (with_clock (with_estimator k (with_minrto k.estimator (minrto_of nodelay))) (with_interval k.clock (interval_of_signed interval)))
    (with_fastresend (with_nodelay k.settings nodelay nc) (resend_of k.settings.fastresend resend))

abbrev pub set_rx_minrto : Kcp → ℕ → Kcp
set_rx_minrto k rto = with_estimator k (with_minrto k.estimator rto)

abbrev pub set_fast_resend : Kcp → ℕ → Kcp
set_fast_resend k fr = with_settings k (with_fastresend k.settings fr)

abbrev pub set_maximum_resend_times : Kcp → ℕ → Kcp
set_maximum_resend_times k n = with_settings k (with_dead_link k.settings n)

abbrev pub input_conv : Kcp → Kcp
input_conv k = with_settings k (with_input_conv k.settings true)

abbrev pub set_conv : Kcp → ℕ → Kcp
set_conv k conv = with_settings k (with_conv k.settings conv)
