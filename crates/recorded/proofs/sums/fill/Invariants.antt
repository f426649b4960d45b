-- `recorded::sums::fill` meets its contract. The loop's invariant: what is written and what is still to come are the message. Assumes nothing.
use Rattle.std.proofs.Common.{◌≡◌, ◌-◌, ◌++◌, length, take}
use Rattle.recorded.specs.Sums.{rising}
use Rattle.recorded.proofs.sums.fill.Given as goal

abbrev pub invariant-loop-byte : goal.invariant-loop-byte
invariant-loop-byte l =
    take l.byte-index l.bytes ++ rising l.next (length l.initial.bytes - l.byte-index) ≡ rising l.first (length l.initial.bytes)
