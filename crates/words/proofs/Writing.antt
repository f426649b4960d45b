-- What a write of all words leaves. Assumes nothing.
use Prim.Native.Nat.{ℕ, ◌+◌, ◌*◌}
use native.Mathlib.Omega.{arith}
use mathlib.Core.Path.{◌≡◌}
use mathlib.Core.List.{List, [], append-nil}
use lib.ListN.{length, drop, drop_of_length-le}
use Rattle.ring.specs.Records.{put, put_slot}

pub all-written : (l x : List ℕ) (n : ℕ) → length l ≡ n → length x ≡ n → put_slot n l 0 0 x ≡ x
unfolding put
all-written l x n h k =
    let e : 0 * n + 0 ≡ 0 = omega arith in
    let d : drop (0 + length x) l ≡ [] = drop_of_length-le l {i = 0 + length x} (omega arith) in
    rw (e, d) (append-nil x)
