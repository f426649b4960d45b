-- `rcv_ring::RcvRing::store` meets its contract: the words up to the place are cleared, and the segment is put there. Assumes nothing.
use Rattle.ring.specs.Lists.{lists}
use Rattle.rcv_ring.proofs.Words.{store_is}
use Rattle.rcv_ring.proofs.RcvRing.store.Goals as goal

pub returns-clause-room_after : goal.returns-clause-room_after
returns-clause-room_after c =
    let a = c.args in
    store_is a.self (lists a.records.now a.room.now) a.d a.frg a.payload.now _ _ _ c.clear.ensures c.place_of-p.ensures.0 c.put_payload.ensures
