-- `transmit::raise_part` meets its contract. Assumes nothing.
use native.Mathlib.Omega.{arith}
use mathlib.Core.Path.{◌≡◌, ◌∙◌}
use lib.ListN.{length}
use Rattle.std.proofs.lemmas.List.{length-take-le}
use Rattle.transmit.proofs.Portions.{part-done}
use Rattle.transmit.proofs.raise_part.Goals as goal

pub returns : goal.returns
returns c =
    let a = c.args in
    let long : length c.gather.new.flights ≡ a.n = c.gather.auto.flights ∙ length-take-le _ _ (omega (arith, c.requires.n_bound_2)) in
    let kept : length c.raise.new.flights ≡ a.n = c.raise.auto.flights ∙ long in
    λ room. part-done a.latest.sn a.latest.ts a.records.now a.q a.n c.requires.n_bound c.gather.new.flights long (rw long at c.gather.ensures) c.raise.ensures room (rw kept at c.put_back.ensures room)
