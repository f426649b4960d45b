-- `flush_ack` meets its contract: refused by either test, or written. Assumes nothing.
use Rattle.packing.specs.FlushAck.{writing}
use Rattle.packing.proofs.FlushAcks.{found, no_bytes, no_lengths, fits}
use Rattle.packing.proofs.flush_ack.flush_ack.Goals as goal
use Rattle.packing.proofs.flush_ack.flush_ack.Goals.{then-out-p-via-then-out-p, then-out-p-via-else-out-p+then-lengths-p}

pub returns-then-out-p : goal.returns-then-out-p
returns-then-out-p c =
    let args = c.args in
    let p = c.flush_ack_sizes-p in
    let m = writing args.waiting.now args.out.now args.lengths.now in
    let f = found args.told args.acks.now args.mtu args.n args.held args.waiting.now p.result c.requires.mtu_bound c.requires.waiting_len c.requires.held_bound p.ensures in
    elim c.then-out-p.branch [
      | then-out-p-via-then-out-p w ↦ no_bytes args.told args.acks.now args.mtu args.n args.held m p.result f w.if-out-p.true
      | then-out-p-via-else-out-p+then-lengths-p w ↦ no_lengths args.told args.acks.now args.mtu args.n args.held m p.result f w.if-out-p.false w.if-lengths-p.true
    ]

pub returns : goal.returns
returns c =
    let args = c.args in
    let p = c.flush_ack_sizes-p in
    let m = writing args.waiting.now args.out.now args.lengths.now in
    let f = found args.told args.acks.now args.mtu args.n args.held args.waiting.now p.result c.requires.mtu_bound c.requires.waiting_len c.requires.held_bound p.ensures in
    fits args.told args.acks.now args.mtu args.n args.held m p.result f c.if-out-p.false c.if-lengths-p.false _ c.flush_ack_write.ensures
