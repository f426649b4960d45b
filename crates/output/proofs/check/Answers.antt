-- `output::check` meets its contract. Assumes nothing.
use Rattle.transmit.proofs.Exact.{lies_of}
use Rattle.transmit.proofs.Steps.{inside}
use Rattle.output.proofs.Updates.{check_by, check-now}
use Rattle.output.proofs.check.Goals as goal

pub returns-then-most-eq0 : goal.returns-then-most-eq0
returns-then-most-eq0 c =
    check-now c.args.current c.args.block c.args.records.now c.args.room.now c.requires c.tm_flush.ensures c.wait_of-most.ensures c.if-most-eq0.true

pub tm_packet-requires : goal.tm_packet-requires
tm_packet-requires c =
    inside (lies_of c.args.block.sender c.args.records.now c.args.room.now c.requires)

pub returns : goal.returns
returns c =
    check_by c.args.current c.args.block c.args.records.now c.args.room.now c.requires c.tm_flush.ensures c.wait_of-most.ensures (c.tm_packet.ensures c.args.room.now)
