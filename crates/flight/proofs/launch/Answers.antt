-- `flight::launch` meets its contract. Assumes nothing.
use native.Mathlib.Omega.{arith}
use mathlib.Core.Path.{refl}
use Rattle.transmit.proofs.Steps.{asks, inside}
use Rattle.flight.proofs.Steps.{flying-few, launch-done}
use Rattle.flight.proofs.launch.Goals as goal

pub launch_rows-requires : goal.launch_rows-requires
launch_rows-requires c =
    let w = asks c.requires.lies in
    record {
      inside = inside c.requires.lies;
      k_bound = omega arith;
    }

pub overflow_add-result : goal.overflow_add-result
overflow_add-result c =
    let w = asks c.requires.lies in
    omega arith

pub overflow_add-result-2 : goal.overflow_add-result-2
overflow_add-result-2 c =
    let w = asks c.requires.lies in
    let f = flying-few c.requires.lies in
    omega arith

pub returns : goal.returns
returns c =
    let a = c.args in
    λ room. launch-done a.conv a.current a.rx_rto a.k a.sender a.records.now room (c.launch_rows.ensures room) refl
