-- The laws of two tests together. Assumes nothing.
use mathlib.Core.Path.{◌≡◌}
use mathlib.Core.Bool.{Bool, true, false, ◌&&◌, ◌||◌}

-- where the first holds, the second decides
pub goes : {s : Bool} (t : Bool) → s ≡ true → t ≡ (s && t)
goes t h = rw h

-- where the first fails, both do
pub stops : {s : Bool} (t : Bool) → s ≡ false → false ≡ (s && t)
stops t h = rw h

-- where the first holds, either does
pub has : {s : Bool} (t : Bool) → s ≡ true → true ≡ (s || t)
has t h = rw h
