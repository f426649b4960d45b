-- `transmit::parse_fastack` meets its contract. Assumes nothing.
use Rattle.ring.specs.Lists.{lists}
use Rattle.snd_ring.specs.Store.{store_of}
use Rattle.transmit.proofs.Steps.{inside, fastack_none, fastack_yes, fastack_no}
use Rattle.transmit.proofs.parse_fastack.Goals as goal

pub raise-requires : goal.raise-requires
raise-requires c =
    inside c.requires

pub returns-then-in_range : goal.returns-then-in_range
returns-then-in_range c =
    let a = c.args in
    λ room. rw c.in-Some.is (fastack_yes c.in-Some.ack a.sender (store_of 8 (lists a.records.now room)) c.in_range.ensures c.if-in_range.true (c.raise.ensures room))

pub returns-else-in_range : goal.returns-else-in_range
returns-else-in_range c =
    let a = c.args in
    λ room. rw c.in-Some.is (fastack_no c.in-Some.ack a.sender (store_of 8 (lists a.records.now room)) c.in_range.ensures c.if-in_range.false)

pub returns-in_default : goal.returns-in_default
returns-in_default c =
    let a = c.args in
    λ room. rw c.in_default.is (fastack_none a.sender (store_of 8 (lists a.records.now room)))
