-- "15 | BadPool | block or lent memory not well formed, or a size outside the limits", as far as the receive memory goes: what every call that is
-- handed it tests; and the same facts as the calls below the test use them. Assumes nothing.
use Rattle.std.specs.Prelude.{ℕ, ◌+◌, ◌*◌, ◌≤◌, ◌<◌, Bool, ◌&&◌, List, length}
use Rattle.ring.specs.Lists.{Lists}
use Rattle.rcv_ring.specs.Places.{Marked, Sound, marks_fit}
use Rattle.block.specs.declared.receiver.Receiver.{Receiver}
use Rattle.block.specs.declared.Kcp.{Kcp}
use Rattle.block.specs.Sizes.{receive_sizes, RingSizes}
use Rattle.block.specs.WellFormed.{ReceiverFits, own_numbers, OwnNumbers, receive_numbers, ReceiveNumbers}

-- the limits, "twice the largest window at most R", and the slots in use
unfoldable pub receive_lent : Receiver → Lists → Bool
receive_lent r l =
    receive_sizes (length l.records) (length l.room) && (receive_numbers (length l.records) r && marks_fit r.ring l.records)

-- the same as facts
pub record ReceiveLent (r : Receiver) (l : Lists) : Type 0 where
  pub sizes : RingSizes 256 1024 (length l.records) 1 (length l.records) (length l.room)
  pub numbers : ReceiveNumbers (length l.records) r
  pub marked : Marked r.ring l.records

-- with the block's own numbers; that the test is true exactly when the facts hold: proofs/Exact
unfoldable pub receive_fits : Kcp → Lists → Bool
receive_fits k l = own_numbers k && receive_lent k.receiver l

pub record ReceiveFits (k : Kcp) (l : Lists) : Type 0 where
  pub own : OwnNumbers k
  pub lent : ReceiveLent k.receiver l

-- what `move_buf` and peeksize need of it
pub record Lies (r : Receiver) (records : List ℕ) : Type 0 where
  pub many : length records ≤ 65535
  pub started : r.ring.start < length records
  pub within : r.ring.queued + r.ring.reach ≤ length records
  pub marked : Marked r.ring records

-- the ring is sound, the receiver's numbers fit, and every distance in the largest window finds a slot
pub record Good (r : Receiver) (l : Lists) : Type 0 where
  pub sound : Sound r.ring l
  pub fits : ReceiverFits r
  pub twice : 2 * r.largest ≤ length l.records
