-- `host_receive::recv` meets its contract: the law of words that are no block, and of those that are. Assumes nothing.
use Rattle.std.proofs.Common.{sym, refl}
use native.Mathlib.Omega.{arith}
use mathlib.Core.Path.{◌∙◌}
use Rattle.ring.specs.Lists.{lists}
use Rattle.words.proofs.Tests.{block_length}
use Rattle.host_receive.proofs.Laws.{received_none, refused, received}
use Rattle.host_receive.proofs.recv.Goals as goal

pub returns-in_default : goal.returns-in_default
returns-in_default c =
    let a = c.args in
    received_none _ (sym c.in_default.ensures) refl (lists a.records.now a.room.now) a.buf.now a.length.now

pub returns-in_default-answer : goal.returns-in_default-answer
returns-in_default-answer c =
    let a = c.args in
    refused _ (sym c.in-Some.ensures.0) refl c.in-Some.ensures.1 (λ i. omega (arith, c.slice_known-1.given i)) (lists a.records.now a.room.now) a.buf.now a.length.now _ c.recv-out.ensures.is c.in_default-answer.is c.number_of.ensures

pub put_receiver-requires : goal.put_receiver-requires
put_receiver-requires c = block_length _ c.in-Some.ensures.0

pub put_word-requires-clause-words_len : goal.put_word-requires-clause-words_len
put_word-requires-clause-words_len c = c.put_receiver.auto.words ∙ block_length _ c.in-Some.ensures.0

pub returns : goal.returns
returns c =
    let a = c.args in
    received _ (sym c.in-Some.ensures.0) refl c.in-Some.ensures.1 (λ i. omega (arith, c.slice_known-1.given i)) (lists a.records.now a.room.now) a.buf.now a.length.now _ c.recv-out.ensures.is c.in-Ok.is c.put_receiver.ensures c.put_word.ensures
