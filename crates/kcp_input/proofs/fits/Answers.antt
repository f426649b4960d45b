-- `kcp_input::fits` meets its contract. Assumes nothing.
use mathlib.Core.Path.{sym, ◌∙◌, ◌≡◌}
use mathlib.Core.Bool.{true}
use Rattle.std.proofs.Common.{rules}
use Rattle.ring.specs.Lists.{lists}
use Rattle.block.proofs.Exact.{own-numbers}
use Rattle.kcp_input.specs.Input.{input_fits}
use Rattle.kcp_input.proofs.Exact.{exactly}
use Rattle.kcp_input.proofs.fits.Goals as goal

pub lent_fits-requires : goal.lent_fits-requires
lent_fits-requires c = ((own-numbers _).holds (sym c.own_numbers.ensures ∙ c.if-own_numbers.true)).receiver

pub returns-then-lent_fits-2-clause-input_fits : goal.returns-then-lent_fits-2-clause-input_fits
unfolding input_fits
returns-then-lent_fits-2-clause-input_fits c h =
    let a = c.args in
    let t : input_fits a.block (lists a.rcv_records.now a.rcv_room.now) a.acks.now a.waiting.now (lists a.snd_records.now a.snd_room.now) ≡ true = search rules in
    (exactly a.block (lists a.rcv_records.now a.rcv_room.now) a.acks.now a.waiting.now (lists a.snd_records.now a.snd_room.now)).holds t
