-- `snd_ring::shift` meets its contract: two copies, by way of an array, are one. Assumes nothing.
use Rattle.std.proofs.Common.{◌≡◌, ◌+◌, ◌-◌, ◌*◌, ap, ◌∙◌, length, take, drop, add-zero, arith}
use Rattle.ring.specs.Records.{put}
use Rattle.ring.proofs.Rows.{by_way, part_range, part_length}
use Rattle.snd_ring.proofs.shift.Goals as goal

pub returns : goal.returns
returns c =
    let a = c.args in
    let base = a.a * 1476 in
    let src = take (base + a.n - base) (drop base a.room.now) in
    let size : length src ≡ a.n = ap length (part_range a.room.now base a.n) ∙ part_length a.room.now (base + 0) a.n (omega arith) in
    by_way a.room.now src a.n _ _ c.copy-2.new.dst (a.b * 1476) size (omega arith) c.copy.ensures c.copy-2.ensures
    ∙ rw (add-zero (a.b * 1476)) (ap (put a.room.now (a.b * 1476)) (part_range a.room.now base a.n))
