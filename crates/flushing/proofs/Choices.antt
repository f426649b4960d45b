-- What the wait of a probe is not. Assumes nothing.
use Prim.Native.Nat.{◌<◌}
use mathlib.Core.Path.{◌≡◌}
use mathlib.Core.Logic.{⊎_elim}
use native.Mathlib.Omega.{arith}
use Rattle.block.specs.declared.probe.Probe.{Probe}
use Rattle.block.specs.WellFormed.{ProbeFits}

-- no wait of a well-formed block lies between 0 and 7,000
pub no-short-wait : (p : Probe) → ProbeFits p → (p.probe_wait ≡ 0 → ⊥) → p.probe_wait < 7000 → ⊥
no-short-wait p f n h = ⊎_elim n (λ w. omega (arith, w.low)) f.wait
