-- `snd_ring::SndRing::close` meets its contract. Assumes nothing.
use native.Mathlib.Omega.{arith}
use Prim.Native.Nat.{◌/◌}
use mathlib.Core.Path.{◌∙◌}
use lib.ListN.{length}
use Rattle.ring.specs.Lists.{lists}
use Rattle.snd_ring.specs.Store.{store_of}
use Rattle.snd_ring.proofs.Closing.{flying-few, closed_by, closed-store}
use Rattle.snd_ring.proofs.SndRing.close.Goals as goal

pub overflow_sub-gaps : goal.overflow_sub-gaps
overflow_sub-gaps c =
    let f = flying-few 8 c.args.self (store_of 8 (lists c.args.records.now c.args.room.now)) c.requires in
    omega arith

pub settle-requires : goal.settle-requires
settle-requires c =
    let f = flying-few 8 c.args.self (store_of 8 (lists c.args.records.now c.args.room.now)) c.requires in
    let x = c.requires.shaped in
    let z = x.sized.most in
    omega arith

pub returns : goal.returns
returns c =
    let a = c.args in (
      c.settle.ensures ∙ closed_by (length a.records.now / 9) a.self _ (rw c.slots_in.ensures at c.place_of-q.ensures.0),
      c.slide_all.ensures ∙ closed-store 8 a.self (store_of 8 (lists a.records.now a.room.now)),
    )
