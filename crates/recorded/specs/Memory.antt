-- The memory that a block is lent, as the calls' definitions have it. Assumes nothing.
use Rattle.std.specs.Prelude.{◌≡◌}
use Rattle.ring.specs.Lists.{lists}
use Rattle.block.specs.declared.Kcp.{Kcp}
use Rattle.block.specs.Fresh.{Lent}
use Rattle.history.specs.Calls.{Memory, lent_to}
use Rattle.recorded.specs.declared.memory.LentMemory.{LentMemory}

-- the six lists
abbrev pub lent_of : LentMemory → Lent
lent_of l = record {
  rcv = lists l.rcv_records.now l.rcv_room.now;
  snd = lists l.snd_records.now l.snd_room.now;
  acks = l.acks.now;
  waiting = l.waiting.now;
}

-- a block with them
abbrev pub memory_of : Kcp → LentMemory → Memory
memory_of k l = lent_to k (lent_of l)

-- the same lists are lent, whatever stands there
abbrev pub Kept : LentMemory → LentMemory → Type 0
Kept a b =
    (b.rcv_records.ghost_name ≡ a.rcv_records.ghost_name)
    × (b.rcv_room.ghost_name ≡ a.rcv_room.ghost_name)
    × (b.snd_records.ghost_name ≡ a.snd_records.ghost_name)
    × (b.snd_room.ghost_name ≡ a.snd_room.ghost_name)
    × (b.acks.ghost_name ≡ a.acks.ghost_name)
    × (b.waiting.ghost_name ≡ a.waiting.ghost_name)
