-- `rcv_ring::RcvRing::copy_out` meets its contract: the payloads of the first i segments stand end to end. Assumes nothing.
use Rattle.ring.specs.Lists.{lists}
use Rattle.rcv_ring.specs.Places.{payload_at}
use Rattle.rcv_ring.proofs.Copies.{Copied}
use Rattle.rcv_ring.proofs.RcvRing.copy_out.Given as goal

abbrev pub invariant-loop-i : goal.invariant-loop-i
invariant-loop-i l = Copied (payload_at l.self (lists l.records l.room)) l.initial.out l.out l.to l.i
