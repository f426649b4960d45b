-- `snd_ring::carry` meets its contract: what copy_within pastes is what is put. Assumes nothing.
use Rattle.std.proofs.Common.{◌≡◌, ◌+◌, ◌-◌, ◌*◌, ◌∙◌, length, add-zero, arith}
use Rattle.ring.specs.Records.{put, part}
use Rattle.ring.proofs.Rows.{part_length}
use Rattle.snd_ring.proofs.carry.Goals as goal

pub returns : goal.returns
unfolding put part
returns c =
    let a = c.args in
    let n : a.a * 8 + 8 - a.a * 8 ≡ 8 = omega arith in
    let m : length (part a.rows.now (a.a * 8) 8) ≡ 8 = part_length a.rows.now (a.a * 8) 8 (omega arith) in
    c.copy_within.ensures.after ∙ rw (n, add-zero (a.b * 8), add-zero (a.a * 8), m)
