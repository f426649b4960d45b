-- The calls of the recording: what each leaves of the block and of the lent memory, which is what its contract says, and its answer as the
-- numbers of a step. Assumes nothing.
use Rattle.std.specs.Prelude.{ℕ, ◌%◌, List, nat_lt, Option, Some, None}
use Rattle.serial.specs.Branch.{pick}
use Rattle.ring.specs.Lists.{Lists}
use Rattle.block.specs.declared.Kcp.{Kcp}
use Rattle.block.specs.Fresh.{Lent}
use Rattle.packing.specs.FlushAck.{Writing, writing}
use Rattle.input.specs.Datagram.{ReadOut}
use Rattle.output.specs.Memory.{Out, FlushOut}
use Rattle.kcp_send.specs.Send.{SendOut, send_of}
use Rattle.kcp_input.specs.Input.{input_of}
use Rattle.kcp_flush.specs.Calls.{flush_ack_of, flush_of, update_of}
use Rattle.history.specs.Calls.{Memory, with_block, lists_of}
use Rattle.recorded.specs.declared.memory.LentMemory.{LentMemory}
use Rattle.recorded.specs.declared.rows.Row.{Row}
use Rattle.recorded.specs.declared.rows.Call.{Call}
use Rattle.recorded.specs.declared.rows.Call.TheVariants.{Input, Send, FlushAck, Flush, Update, Look as Looks}
use Rattle.recorded.specs.declared.answers.Answer.{Answer}
use Rattle.recorded.specs.declared.looks.Made.{Made}
use Rattle.recorded.specs.Sums.{sum_of, rising, zeros}
use Rattle.recorded.specs.Answers.{unknown, of_count, of_out}
use Rattle.recorded.specs.Rows.{call_of}
use Rattle.recorded.specs.Memory.{memory_of}
use Rattle.recorded.specs.Looks.{made, look_of}

-- ---- what a call leaves, and its answer

pub record Played : Type 0 where
  pub memory : Memory
  pub answer : Answer

-- of the block and of what it is handed to change
pub record Sent : Type 0 where
  pub block : Kcp
  pub answer : Answer
  pub snd : Lists

pub record Acked : Type 0 where
  pub block : Kcp
  pub answer : Answer
  pub waiting : List ℕ

pub record Flushed : Type 0 where
  pub block : Kcp
  pub answer : Answer
  pub waiting : List ℕ
  pub snd : Lists

-- of the block and of all that is lent
abbrev pub left : Made → LentMemory → Played
left x l = record { memory = memory_of x.block l; answer = x.answer }

abbrev pub lent_in : Memory → Lent
lent_in m = record { rcv = m.rcv; snd = m.snd; acks = m.acks; waiting = m.waiting }

-- all else is as it was
abbrev pub with_made : Memory → Made → Played
with_made m x = record { memory = with_block m x.block; answer = x.answer }

abbrev pub with_sent : Memory → Sent → Played
with_sent m x = record { memory = record { block = x.block; rcv = m.rcv; acks = m.acks; waiting = m.waiting; snd = x.snd }; answer = x.answer }

abbrev pub with_acked : Memory → Acked → Played
with_acked m x = record { memory = record { block = x.block; rcv = m.rcv; acks = m.acks; waiting = x.waiting; snd = m.snd }; answer = x.answer }

abbrev pub with_flushed : Memory → Flushed → Played
with_flushed m x = record { memory = record { block = x.block; rcv = m.rcv; acks = m.acks; waiting = x.waiting; snd = x.snd }; answer = x.answer }

-- ---- the calls

-- the recording has no skipped push: their number stands for the sum
abbrev pub by_input : Memory → ReadOut → Played
by_input m o = record {
  memory = record { block = o.block; rcv = o.rcv; acks = o.acks; waiting = m.waiting; snd = lists_of o.snd };
  answer = of_count o.answer o.skipped;
}

unfoldable pub input_step : Memory → List ℕ → Played
input_step m s = by_input m (input_of m.block m.rcv m.acks m.waiting m.snd s)

abbrev pub by_send : SendOut → Sent
by_send o = record { block = o.block; answer = of_count o.answer 0; snd = lists_of o.store }

-- a message is of at most 4,096 bytes
unfoldable pub send_step : Row → Kcp → Lists → Sent
send_step r k l = pick (nat_lt 4096 r.a) (record { block = k; answer = unknown; snd = l }) (by_send (send_of k l (rising (r.b % 256) r.a)))

-- the datagrams go out into a buffer of 16,384 bytes and 1,024 lengths
abbrev pub to_write : List ℕ → Writing
to_write waiting = writing waiting (zeros 16384) (zeros 1024)

-- with the sums over what was written
abbrev pub answer_of : Out → Answer
answer_of o = of_out o.answer o.datagrams (sum_of o.written.lengths) (sum_of o.written.out)

abbrev pub by_flush_ack : Out → Acked
by_flush_ack o = record { block = o.block; answer = answer_of o; waiting = o.written.waiting }

unfoldable pub flush_ack_step : Kcp → List ℕ → List ℕ → Acked
flush_ack_step k acks waiting = by_flush_ack (flush_ack_of k acks (to_write waiting))

abbrev pub by_flush : FlushOut → Flushed
by_flush o = record { block = o.out.block; answer = answer_of o.out; waiting = o.out.written.waiting; snd = lists_of o.store }

-- update at a time, or flush where none is given
unfoldable pub flushed_of : Option ℕ → Kcp → Lists → List ℕ → Writing → FlushOut
flushed_of None k snd acks w = flush_of k snd acks w
flushed_of (Some current) k snd acks w = update_of k snd acks w current

unfoldable pub flush_step : Option ℕ → Kcp → Lists → List ℕ → List ℕ → Flushed
flush_step current k snd acks waiting = by_flush (flushed_of current k snd acks (to_write waiting))

-- the call of the step r, with the bytes s; a step that names none leaves the block
unfoldable pub played : Option Call → Row → List ℕ → Memory → Played
played (Some Input) r s m = input_step m s
played (Some Send) r s m = with_sent m (send_step r m.block m.snd)
played (Some FlushAck) r s m = with_acked m (flush_ack_step m.block m.acks m.waiting)
played (Some Flush) r s m = with_flushed m (flush_step None m.block m.snd m.acks m.waiting)
played (Some Update) r s m = with_flushed m (flush_step (Some r.a) m.block m.snd m.acks m.waiting)
played (Some (Looks l)) r s m = with_made m (look_of l r s m.block (lent_in m))
played None r s m = with_made m (made m.block unknown)

-- the call that the step names
unfoldable pub play_of : Row → List ℕ → Memory → Played
play_of r s m = played (call_of r.code) r s m
