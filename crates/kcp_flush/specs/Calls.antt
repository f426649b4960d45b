-- The public calls flush_ack, flush, update and check: for all inputs the answer, how many datagrams went out, the block and every lent number and byte
-- afterwards. "15 before all", "9 before 13"; a call tests the memory that it is handed: flush_ack the ack memory, check the send memory, flush and
-- update both. Assumes nothing.
use Rattle.std.specs.Prelude.{ℕ, ◌≡◌, Bool, true, ◌&&◌, List, [], ◌∷◌, map, length, Option, Some, None, Result, Ok, Err}
use Rattle.serial.specs.Branch.{pick}
use Rattle.ring.specs.Lists.{Lists}
use Rattle.snd_ring.specs.Store.{store_of}
use Rattle.block.specs.declared.Kcp.{Kcp}
use Rattle.block.specs.declared.clock.Clock.{Clock}
use Rattle.block.specs.declared.refusal.Refusal.{Refusal}
use Rattle.block.specs.declared.refusal.Refusal.TheVariants.{NeedUpdate, BadPool}
use Rattle.block.specs.Refusals.{number_of_answer, values_of_answer, values_of_count}
use Rattle.block.specs.Parts.{with_clock}
use Rattle.block.specs.WellFormed.{own_numbers, ack_lent}
use Rattle.transmit.specs.Fits.{send_lent, send_fits}
use Rattle.flushing.specs.declared.clock.Tick.{Tick}
use Rattle.flushing.specs.Clocks.{ticked}
use Rattle.flushing.specs.Rules.{exceeds, flushed_ack, flushed}
use Rattle.packing.specs.FlushAck.{Writing, room_of}
use Rattle.output.specs.Memory.{outgoing, Out, unsent, FlushOut, flush_ack_at, flush_at, update_at, check_at}

-- ---- "15 | block or lent memory not well formed, or a size outside the limits"

unfoldable pub ack_fits : Kcp → List ℕ → List ℕ → Bool
ack_fits k acks waiting = own_numbers k && ack_lent k.acklist acks waiting

unfoldable pub flush_fits : Kcp → Lists → List ℕ → List ℕ → Bool
flush_fits k snd acks waiting = own_numbers k && (send_lent k.sender snd && ack_lent k.acklist acks waiting)

-- ---- flush_ack

module _ (k : Kcp) (acks : List ℕ) (w : Writing) where
  -- 15, then 9, then 13
  unfoldable pub flush_ack_of : Out
  flush_ack_of = pick (ack_fits k acks w.waiting) (pick k.clock.updated (flush_ack_at k acks w) (unsent k w NeedUpdate)) (unsent k w BadPool)

  -- its datagrams, of any send memory, since it does not look at it
  abbrev pub ack_exceeds : Bool
  ack_exceeds = exceeds (room_of w) (map length (flushed_ack (outgoing k (record { marks = []; rows = []; room = [] }) acks w.waiting)).datagrams)

  pub record FlushesAck (o : Out) : Type 0 where
    pub is : o ≡ flush_ack_of
    pub refusal : number_of_answer o.answer ≡ pick (ack_fits k acks w.waiting) (pick k.clock.updated (pick ack_exceeds 13 0) 9) 15
    pub values : values_of_answer o.answer ≡ []

-- ---- flush and update

abbrev pub unflushed : Kcp → Lists → Writing → Refusal → FlushOut
unflushed k snd w why = record { out = unsent k w why; store = store_of 8 snd }

-- whether the datagrams of a flush of the block b are more than is lent
abbrev pub flush_exceeds : Kcp → Lists → List ℕ → Writing → Bool
flush_exceeds b snd acks w = exceeds (room_of w) (map length (flushed (outgoing b (store_of 8 snd) acks w.waiting)).datagrams)

module _ (k : Kcp) (snd : Lists) (acks : List ℕ) (w : Writing) where
  unfoldable pub flush_of : FlushOut
  flush_of = pick (flush_fits k snd acks w.waiting) (pick k.clock.updated (flush_at k k (store_of 8 snd) acks w) (unflushed k snd w NeedUpdate)) (unflushed k snd w BadPool)

  pub record Flushes (o : FlushOut) : Type 0 where
    pub is : o ≡ flush_of
    pub refusal : number_of_answer o.out.answer ≡ pick (flush_fits k snd acks w.waiting) (pick k.clock.updated (pick (flush_exceeds k snd acks w) 13 0) 9) 15
    pub values : values_of_answer o.out.answer ≡ []

  -- before any update too
  unfoldable pub update_of : ℕ → FlushOut
  update_of current = pick (flush_fits k snd acks w.waiting) (update_at current k (store_of 8 snd) acks w) (unflushed k snd w BadPool)

  pub record Updates (current : ℕ) (o : FlushOut) : Type 0 where
    pub is : o ≡ update_of current
    pub refusal : number_of_answer o.out.answer
        ≡ pick (flush_fits k snd acks w.waiting) (pick (ticked k.clock current).flushes (pick (flush_exceeds (with_clock k (ticked k.clock current).clock) snd acks w) 13 0) 0) 15
    pub values : values_of_answer o.out.answer ≡ []

  -- both as one: an update to a time, or a flush where none is given
  abbrev pub turn_of : Option ℕ → FlushOut
  turn_of (Some current) = update_of current
  turn_of None = flush_of

-- its clock: set, or as it is
abbrev pub tick_of : Clock → Option ℕ → Tick
tick_of c (Some current) = ticked c current
tick_of c None = record { clock = c; flushes = true }

-- ---- check

-- the wait, or 15
unfoldable pub check_of : Kcp → Lists → ℕ → Result ℕ Refusal
check_of k snd current = pick (send_fits k snd) (Ok (check_at current k (store_of 8 snd))) (Err BadPool)

pub record Checks (k : Kcp) (snd : Lists) (current : ℕ) (r : Result ℕ Refusal) : Type 0 where
  pub is : r ≡ check_of k snd current
  pub refusal : number_of_answer r ≡ pick (send_fits k snd) 0 15
  pub values : values_of_count r ≡ pick (send_fits k snd) (check_at current k (store_of 8 snd) ∷ []) []
