-- `snd_ring::slide_all` meets its contract: what is left to slide from here is the whole. Assumes nothing.
use Rattle.std.proofs.Common.{◌≡◌, arith}
use Rattle.ring.specs.Lists.{lists}
use Rattle.snd_ring.specs.Store.{store_of}
use Rattle.snd_ring.proofs.Splits.{marks-length}
use Rattle.snd_ring.proofs.Closing.{going-first, going-turn, going-last}
use Rattle.snd_ring.proofs.slide_all.Goals as goal

pub loop-i-init : goal.loop-i-init
loop-i-init c = going-first 8 c.args.start c.args.n (store_of 8 (lists c.args.records.now c.args.room.now)) (rw (marks-length 8 (lists c.args.records.now c.args.room.now)) c.requires.start_in_bounds) (rw (marks-length 8 (lists c.args.records.now c.args.room.now)) c.requires.n_in_bounds) c.requires.sized c.requires.by_index

pub loop-i-preserved : goal.loop-i-preserved
loop-i-preserved c = going-turn 8 c.args.start c.args.n (store_of 8 (lists c.args.records.now c.args.room.now)) (rw (marks-length 8 (lists c.args.records.now c.args.room.now)) c.requires.start_in_bounds) (rw (marks-length 8 (lists c.args.records.now c.args.room.now)) c.requires.n_in_bounds) _ _ _ _ _ c.loop-i-test.true c.loop-i.invariant c.slide-to.ensures.0 c.slide-to.ensures.1

pub returns : goal.returns
returns c =
    let e : c.loop-i.i ≡ 0 = omega arith in
    going-last 8 c.args.start c.args.n (store_of 8 (lists c.args.records.now c.args.room.now)) (rw (marks-length 8 (lists c.args.records.now c.args.room.now)) c.requires.start_in_bounds) (rw (marks-length 8 (lists c.args.records.now c.args.room.now)) c.requires.n_in_bounds) _ c.loop-i.to (rw e at c.loop-i.invariant)
