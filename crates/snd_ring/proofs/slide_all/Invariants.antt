-- `snd_ring::slide_all` meets its contract: what is left to slide from here is the whole. Assumes nothing.
use Rattle.ring.specs.Lists.{lists}
use Rattle.snd_ring.specs.Store.{store_of}
use Rattle.snd_ring.proofs.Closing.{Going}
use Rattle.snd_ring.proofs.slide_all.Given as goal

abbrev pub invariant-loop-i : goal.invariant-loop-i
invariant-loop-i l = Going 8 l.start l.n (store_of 8 (lists l.initial.records l.initial.room)) (store_of 8 (lists l.records l.room)) l.i l.to
