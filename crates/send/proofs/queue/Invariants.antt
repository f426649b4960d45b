-- `send::queue` meets its contract: the pieces that are left, queued on the memory as it is, give what all of them give. Assumes nothing.
use Rattle.ring.specs.Lists.{lists}
use Rattle.snd_ring.specs.Store.{store_of}
use Rattle.send.specs.Memory.{laid}
use Rattle.send.proofs.Steps.{Turn}
use Rattle.send.proofs.queue.Given as goal

abbrev pub invariant-loop-left : goal.invariant-loop-left
invariant-loop-left l =
    Turn l.count l.mss l.stream l.bytes l.from (laid l.initial.ring (store_of 8 (lists l.initial.records l.initial.room))) l.left l.at (laid l.ring (store_of 8 (lists l.records l.room)))
