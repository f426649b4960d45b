-- `send::fill_last` meets its contract. Assumes nothing.
use Prim.Native.Nat.{◌-◌}
use lib.ListN.{length}
use native.Mathlib.Omega.{arith}
use mathlib.Core.Path.{sym, ◌∙◌}
use Rattle.ring.specs.Lists.{lists}
use Rattle.snd_ring.specs.Store.{store_of}
use Rattle.send.proofs.Numbers.{joins-within}
use Rattle.send.proofs.Steps.{fill_none, fill-some, fill-needs}
use Rattle.send.proofs.fill_last.Goals as goal

pub last_length-last-requires : goal.last_length-last-requires
last_length-last-requires c = record { room = c.args.room.now; sound = c.requires.sound }

pub returns-then-not-fills : goal.returns-then-not-fills
returns-then-not-fills c =
    let a = c.args in
    let m = store_of 8 (lists a.records.now a.room.now) in
    fill_none a.mss a.stream a.bytes.now a.sender m _ (c.last_length-last.ensures a.room.now) (sym c.fills.ensures ∙ c.if-not-fills.true)

pub slice_bounds-fill-end : goal.slice_bounds-fill-end
slice_bounds-fill-end c =
    let a = c.args in
    let w = joins-within a.mss a.stream a.sender.ring.unsent c.last_length-last.result (length a.bytes.now) in
    let j = c.joins-n.ensures in
    omega arith

pub fill-requires : goal.fill-requires
fill-requires c =
    let a = c.args in
    let m = store_of 8 (lists a.records.now a.room.now) in
    let n = fill-needs a.mss a.stream a.bytes.now a.sender m _ (c.last_length-last.ensures a.room.now) (sym c.fills.ensures ∙ c.if-not-fills.false) c.requires.sound c.requires.mss_bound (c.joins-n.result - 0) (let j = c.joins-n.ensures in omega arith) in
    record {
      shaped = c.requires.sound.shaped;
      unsent_nonzero = n.0;
      nonzero = n.1.0;
      bytes_bound = n.1.1;
      k_bound = omega arith;
    }

pub returns : goal.returns
returns c =
    let a = c.args in
    let m = store_of 8 (lists a.records.now a.room.now) in
    c.fill.ensures ∙ fill-some a.mss a.stream a.bytes.now a.sender m _ (c.last_length-last.ensures a.room.now) (sym c.fills.ensures ∙ c.if-not-fills.false) _ c.joins-n.ensures
