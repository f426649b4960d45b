-- `host_receive::move_buf` meets its contract: the law of words that are no block, and of those that are. Assumes nothing.
use Rattle.std.proofs.Common.{sym, refl}
use native.Mathlib.Omega.{arith}
use Rattle.ring.specs.Lists.{lists}
use Rattle.words.proofs.Tests.{block_length}
use Rattle.host_receive.proofs.Laws.{called_none, moved}
use Rattle.host_receive.proofs.move_buf.Goals as goal

pub returns-in_default : goal.returns-in_default
returns-in_default c = called_none _ (sym c.in_default.ensures) refl _

pub put_receiver-requires : goal.put_receiver-requires
put_receiver-requires c = block_length _ c.in-Some.ensures.0

pub returns : goal.returns
returns c =
    let a = c.args in
    moved _ (sym c.in-Some.ensures.0) refl c.in-Some.ensures.1 (λ i. omega (arith, c.slice_known-1.given i)) (lists a.records.now a.room.now) _ c.move_buf-out.ensures.is c.put_receiver.ensures c.number_of.ensures
