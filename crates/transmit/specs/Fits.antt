-- "15 | BadPool | block or lent memory not well formed, or a size outside the limits", as far as the send memory goes: what every call that is
-- handed it tests; and the same facts as the calls below the test use them. Assumes nothing.
use Rattle.std.specs.Prelude.{ℕ, ◌/◌, ◌≤◌, ◌<◌, Bool, ◌&&◌, List, length}
use Rattle.ring.specs.Lists.{Lists, lists}
use Rattle.snd_ring.specs.declared.SndRing.{SndRing}
use Rattle.snd_ring.specs.Store.{store_of, Marked, marks_fit, Sound}
use Rattle.block.specs.declared.sender.Sender.{Sender}
use Rattle.block.specs.declared.Kcp.{Kcp}
use Rattle.block.specs.Sizes.{send_slots, send_sizes, RingSizes}
use Rattle.block.specs.WellFormed.{own_numbers, OwnNumbers, send_numbers, SendNumbers}

-- the limits, no more slots in use than P, and the slots in use
unfoldable pub send_lent : Sender → Lists → Bool
send_lent s l =
    send_sizes (length l.records) (length l.room)
    && (send_numbers (send_slots (length l.records)) s && marks_fit s.ring (store_of 8 l).marks)

-- the same as facts
pub record SendLent (s : Sender) (l : Lists) : Type 0 where
  pub sizes : RingSizes 128 1024 (send_slots (length l.records)) 9 (length l.records) (length l.room)
  pub numbers : SendNumbers (send_slots (length l.records)) s
  pub marked : Marked s.ring (store_of 8 l).marks

-- with the block's own numbers; that the test is true exactly when the facts hold: proofs/Exact
unfoldable pub send_fits : Kcp → Lists → Bool
send_fits k l = own_numbers k && send_lent k.sender l

pub record SendFits (k : Kcp) (l : Lists) : Type 0 where
  pub own : OwnNumbers k
  pub lent : SendLent k.sender l

-- what una, acks and fastack need of it, which do not look at the room: the ring is sound in these records with some room
pub record Lies (s : Sender) (records : List ℕ) : Type 0 where
  pub room : List ℕ
  pub sound : Sound 8 s.ring (store_of 8 (lists records room))

-- what a walk over the places in flight needs of them: the ring starts and ends within its slots, of which there are few
pub record Inside (r : SndRing) (records : List ℕ) : Type 0 where
  pub many : length records / 9 ≤ 65535
  pub started : r.start < length records / 9
  pub reached : r.reach ≤ length records / 9
