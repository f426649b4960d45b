-- `output::turn` meets its contract: the clock alone, or a flush. Assumes nothing.
use mathlib.Core.Path.{refl}
use Rattle.ring.specs.Lists.{lists}
use Rattle.snd_ring.specs.Store.{store_of}
use Rattle.packing.specs.FlushAck.{writing}
use Rattle.output.proofs.Updates.{turn-waits, turn-flushes, own_then}
use Rattle.output.proofs.turn.Goals as goal

pub returns-then-not-tick : goal.returns-then-not-tick
returns-then-not-tick c =
    let a = c.args in
    turn-waits a.tick a.block (store_of 8 (lists a.records.now a.room.now)) a.acks.now (writing a.waiting.now a.out.now a.lengths.now) refl c.if-not-tick.true

pub flush-requires : goal.flush-requires
flush-requires c =
    record {
      own_numbers = own_then c.args.block _ c.requires.own_numbers;
      acks_in_bounds = c.requires.acks_in_bounds;
      waiting_len = c.requires.waiting_len;
      sound = c.requires.sound;
    }

pub returns : goal.returns
returns c =
    let a = c.args in
    turn-flushes a.tick a.block (store_of 8 (lists a.records.now a.room.now)) a.acks.now (writing a.waiting.now a.out.now a.lengths.now) refl c.if-not-tick.false c.flush.ensures
