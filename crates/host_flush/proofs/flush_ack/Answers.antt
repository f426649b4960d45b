-- `host_flush::flush_ack` meets its contract: the law of words that are no block, and of those that are. Assumes nothing.
use Rattle.std.proofs.Common.{sym, refl}
use Rattle.packing.specs.FlushAck.{writing}
use Rattle.words.proofs.Tests.{block_length}
use Rattle.kcp_flush.specs.Calls.{flush_ack_of}
use Rattle.host_flush.proofs.Laws.{out_none, out-done}
use Rattle.host_flush.proofs.flush_ack.Goals as goal

pub returns-in_default : goal.returns-in_default
returns-in_default c =
    let a = c.args in
    let w = writing a.waiting.now a.out.now a.lengths.now in
    out_none _ (sym c.in_default.ensures) refl (λ k. flush_ack_of k a.acks.now w) w a.datagrams.now

pub write-requires : goal.write-requires
write-requires c = block_length _ c.in-Some.ensures.0

pub returns : goal.returns
returns c =
    let a = c.args in
    let w = writing a.waiting.now a.out.now a.lengths.now in
    out-done _ (sym c.in-Some.ensures.0) refl c.in-Some.ensures.1 (λ k. flush_ack_of k a.acks.now w) w a.datagrams.now c.flush_ack-left.ensures.is c.number_of.ensures c.count_in.ensures c.write.ensures
