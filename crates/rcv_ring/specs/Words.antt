-- The word of a slot: its mark, 0 where nothing stands and n + 1 where a payload of n bytes does, times 65,536, and its frg. So a word of 65,536 or more
-- is a segment, and one under 1,478 times that has a payload that fits. Assumes nothing.
use Rattle.std.specs.Prelude.{ℕ, ◌+◌, ◌*◌, ◌/◌, ◌%◌}

abbrev pub mark_of : ℕ → ℕ
mark_of w = w / 65536

abbrev pub frg_of : ℕ → ℕ
frg_of w = w % 65536

-- of a segment with this frg and so many bytes
abbrev pub word : ℕ → ℕ → ℕ
word frg n = (n + 1) * 65536 + frg
