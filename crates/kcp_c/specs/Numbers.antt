-- A header and an estimator as rows of numbers, for a host. Assumes nothing.
use Rattle.std.specs.Prelude.{ℕ, List, [], ◌∷◌, get_or}
use Rattle.wire.specs.declared.Header.{Header}
use Rattle.estimator.specs.declared.Estimator.{Estimator}

abbrev pub header_numbers : Header → List ℕ
header_numbers h = h.conv ∷ h.cmd ∷ h.frg ∷ h.wnd ∷ h.ts ∷ h.sn ∷ h.una ∷ h.len ∷ []

abbrev pub header : ℕ → ℕ → ℕ → ℕ → ℕ → ℕ → ℕ → ℕ → Header
header conv cmd frg wnd ts sn una len =
    record { conv = conv; cmd = cmd; frg = frg; wnd = wnd; ts = ts; sn = sn; una = una; len = len }

abbrev pub estimator_numbers : Estimator → List ℕ
estimator_numbers e = e.srtt ∷ e.rttval ∷ e.rto ∷ e.minrto ∷ []

abbrev pub estimator : List ℕ → Estimator
estimator l = record { srtt = get_or l 0 0; rttval = get_or l 1 0; rto = get_or l 2 0; minrto = get_or l 3 0 }
