-- `rcv_ring::RcvRing::copy_out` meets its contract: the payloads of the first i segments stand end to end. Assumes nothing.
use native.Mathlib.Omega.{arith}
use mathlib.Core.Path.{◌≡◌, sym, ◌∙◌}
use Rattle.ring.specs.Lists.{lists}
use Rattle.rcv_ring.specs.Places.{payload_at}
use Rattle.rcv_ring.proofs.Copies.{copied_none, copied_next, slot_in, payload-size, next_fits}
use Rattle.rcv_ring.proofs.RcvRing.copy_out.Goals as goal

pub loop-i-init : goal.loop-i-init
loop-i-init c = let a = c.args in copied_none (payload_at a.self (lists a.records.now a.room.now)) a.out.now

pub get_payload-requires : goal.get_payload-requires
get_payload-requires c =
    let a = c.args in
    let l = c.loop-i in
    let w = c.requires.sound in
    let m = w.marked.short l.i (omega arith) in
    let p = slot_in a.self (lists a.records.now a.room.now) w l.i (omega arith) in
    let f = next_fits a.self (lists a.records.now a.room.now) w a.k c.requires.k_le_queued l.i l.to (omega arith) l.invariant.size in
    let n = c.size_at-n.ensures.0 in
    let o = l.invariant.same in
    record {
      slot_bound = rw c.place_of-p.ensures.0 p;
      length_len_bound = omega arith;
      length_bound = omega arith;
    }

pub overflow_add-to : goal.overflow_add-to
overflow_add-to c =
    let a = c.args in
    let l = c.loop-i in
    let f = next_fits a.self (lists a.records.now a.room.now) c.requires.sound a.k c.requires.k_le_queued l.i l.to (omega arith) l.invariant.size in
    let n = c.size_at-n.ensures.0 in
    omega arith

pub loop-i-preserved : goal.loop-i-preserved
unfolding payload_at
loop-i-preserved c =
    let a = c.args in
    let l = c.loop-i in
    let g = lists a.records.now a.room.now in
    let f = next_fits a.self g c.requires.sound a.k c.requires.k_le_queued l.i l.to (omega arith) l.invariant.size in
    let n = c.size_at-n.ensures.0 in
    let o = l.invariant.same in
    copied_next (payload_at a.self g) _ _ _ _ l.to _ l.i l.invariant (rw (c.place_of-p.ensures.0, n)) (n ∙ sym (payload-size a.self g c.requires.sound l.i (omega arith))) (omega arith) c.get_payload.ensures

pub shape_of-out : goal.shape_of-out
shape_of-out c = c.loop-i.invariant.same

pub returns : goal.returns
returns c =
    let q : c.loop-i.i ≡ c.args.k = omega arith in
    rw q at c.loop-i.invariant.bytes
