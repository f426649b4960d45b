-- `kcp_c::sender::kcp_send_test` meets its contract: by whether the words are a block, and by the test of block and memory. Assumes nothing.
use mathlib.Core.Path.{refl, sym, ◌∙◌}
use Rattle.serial.specs.Branch.{pick_true, pick-false}
use Rattle.ring.specs.Lists.{lists}
use Rattle.transmit.proofs.Exact.{fits-tested}
use Rattle.transmit.specs.Fits.{send_fits}
use Rattle.words.proofs.Tests.{held-length}
use Rattle.kcp_c.proofs.Laws.{tested_none, tested_by}
use Rattle.std.proofs.Common.{ap}
use Rattle.std.proofs.Common.{not}
use Rattle.kcp_c.proofs.sender.kcp_send_test.Goals as goal

pub returns-in_default : goal.returns-in_default
returns-in_default c =
    let a = c.args in
    tested_none (λ k. send_fits k (lists a.records.now a.room.now)) _ (sym c.in_default.ensures) refl

pub returns-then-fits : goal.returns-then-fits
returns-then-fits c =
    let a = c.args in
    sym (pick_true 0 15 c.if-fits.true) ∙ tested_by (λ k. send_fits k (lists a.records.now a.room.now)) _ (sym c.in-Some.ensures.0) refl c.in-Some.ensures.1 (fits-tested _ c.own_numbers.ensures (lists a.records.now a.room.now) c.fits.ensures)

pub returns-else-fits : goal.returns-else-fits
returns-else-fits c =
    let a = c.args in
    sym (pick-false 0 15 c.if-fits.false) ∙ tested_by (λ k. send_fits k (lists a.records.now a.room.now)) _ (sym c.in-Some.ensures.0) refl c.in-Some.ensures.1 (fits-tested _ c.own_numbers.ensures (lists a.records.now a.room.now) c.fits.ensures)
