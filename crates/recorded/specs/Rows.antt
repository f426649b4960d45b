-- The steps of the recording, as the head of oracle/driver/src/bin/sample.rs has them: "eleven numbers of 32 bits, little-endian, and the bytes that it is
-- handed". Assumes nothing.
use Rattle.std.specs.Prelude.{ℕ, ◌+◌, ◌≤◌, Bool, ◌&&◌, List, length, take, drop, ◌==◌, nat_le, Option, Some, None}
use Rattle.serial.specs.Branch.{pick}
use Rattle.wire.specs.LittleEndian.{le_at}
use Rattle.recorded.specs.declared.rows.Row.{Row}
use Rattle.recorded.specs.declared.rows.Call.{Call}
use Rattle.recorded.specs.declared.rows.Call.TheVariants.{Input, Send, FlushAck, Flush, Update, Look as Looks}
use Rattle.recorded.specs.declared.rows.Look.TheVariants.{New, Recv, Peeksize, MoveBuf, SetWndsize, Check, SetMtu, SetInterval, SetNodelay, SetRxMinrto, SetFastResend, SetMaximumResendTimes, InputConv, SetConv, Get, GetConv, PutConv, GetSn}

unfoldable pub row_at : List ℕ → ℕ → Row
row_at s at = record {
  code = le_at 4 s at;
  a = le_at 4 s (at + 4);
  b = le_at 4 s (at + 8);
  c = le_at 4 s (at + 12);
  d = le_at 4 s (at + 16);
  bytes = le_at 4 s (at + 20);
  refusal = le_at 4 s (at + 24);
  first = le_at 4 s (at + 28);
  second = le_at 4 s (at + 32);
  sum = le_at 4 s (at + 36);
  numbers = le_at 4 s (at + 40);
}

-- where the next step stands, and the bytes between
abbrev pub next_at : List ℕ → ℕ → ℕ
next_at s at = at + 44 + (row_at s at).bytes

abbrev pub handed_at : List ℕ → ℕ → List ℕ
handed_at s at = take (row_at s at).bytes (drop (at + 44) s)

-- whether a whole step stands there
unfoldable pub whole_at : List ℕ → ℕ → Bool
whole_at s at = nat_le (at + 44) (length s) && nat_le (next_at s at) (length s)

pub record Whole (s : List ℕ) (at : ℕ) : Type 0 where
  pub numbers : at + 44 ≤ length s
  pub bytes : next_at s at ≤ length s

-- ---- the calls, by their codes

unfoldable pub call_of : ℕ → Option Call
call_of n =
    pick (n == 0) (Some Input)
    (pick (n == 1) (Some Send)
    (pick (n == 2) (Some FlushAck)
    (pick (n == 3) (Some Flush)
    (pick (n == 4) (Some Update)
    (pick (n == 5) (Some (Looks New))
    (pick (n == 6) (Some (Looks Recv))
    (pick (n == 7) (Some (Looks Peeksize))
    (pick (n == 8) (Some (Looks MoveBuf))
    (pick (n == 9) (Some (Looks SetWndsize))
    (pick (n == 10) (Some (Looks Check))
    (pick (n == 11) (Some (Looks SetMtu))
    (pick (n == 12) (Some (Looks SetInterval))
    (pick (n == 13) (Some (Looks SetNodelay))
    (pick (n == 14) (Some (Looks SetRxMinrto))
    (pick (n == 15) (Some (Looks SetFastResend))
    (pick (n == 16) (Some (Looks SetMaximumResendTimes))
    (pick (n == 17) (Some (Looks InputConv))
    (pick (n == 18) (Some (Looks SetConv))
    (pick (n == 19) (Some (Looks Get))
    (pick (n == 20) (Some (Looks GetConv))
    (pick (n == 21) (Some (Looks PutConv))
    (pick (n == 22) (Some (Looks GetSn)) None))))))))))))))))))))))
