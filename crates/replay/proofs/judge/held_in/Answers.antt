-- `replay::judge::held_in` meets its contract. The count over the reach where block and memory are well formed, else the number that no step has. Assumes nothing.
use Rattle.receive.proofs.Exact.{own-receiver, fits-tested}
use Rattle.ring.specs.Lists.{lists}
use Rattle.replay.proofs.Held.{unfit, counted}
use Rattle.std.proofs.Common.{ap}
use Rattle.std.proofs.Common.{not}
use Rattle.replay.proofs.judge.held_in.Goals as goal

pub fits-requires : goal.fits-requires
fits-requires c = own-receiver _ c.own_numbers.ensures

pub returns-then-not-fits : goal.returns-then-not-fits
returns-then-not-fits c =
    let a = c.args in
    let l = lists a.records.now a.room.now in
    unfit a.block l (fits-tested _ c.own_numbers.ensures l c.fits.ensures.value) (ap not c.if-not-fits.true)

pub tally-counts-requires : goal.tally-counts-requires
tally-counts-requires c =
    let good = c.fits.ensures.good c.if-not-fits.false in
    let shaped = good.sound.shaped in
    record {
      words_len_bound = shaped.many;
      start_in_bounds = shaped.started;
      n_in_bounds = shaped.within;
    }

pub returns : goal.returns
returns c =
    let a = c.args in
    let l = lists a.records.now a.room.now in
    counted a.block l (fits-tested _ c.own_numbers.ensures l c.fits.ensures.value) (ap not c.if-not-fits.false) _ c.tally-counts.ensures.0
