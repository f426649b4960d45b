-- What flush_ack, flush and update leave in memory is what the rules (flushing/specs/Rules) say of what is seen there: the rule, asked of what the call finds in
-- block and memory, gives the same answer; what it leaves is what is then seen; and its datagrams are those put out. Assumes nothing.
use Rattle.std.specs.Prelude.{ℕ, ◌≡◌, List, map, length}
use Rattle.ring.specs.Records.{put}
use Rattle.snd_ring.specs.Store.{Store}
use Rattle.flushing.specs.Pack.{flat}
use Rattle.flushing.specs.Rules.{Outcome}
use Rattle.packing.specs.FlushAck.{Writing}
use Rattle.output.specs.Memory.{outgoing, Out}

-- r is what the rule says, o what the call leaves, with the send memory m
pub record Ruled (r : Outcome) (acks : List ℕ) (w : Writing) (o : Out) (m : Store) : Type 0 where
  pub answer : o.answer ≡ r.answer
  pub after : outgoing o.block m acks o.written.waiting ≡ r.after
  -- "datagrams put end to end in lent bytes and their lengths in a lent list; .. lent bytes and lengths past those written stay"
  pub count : o.datagrams ≡ length r.datagrams
  pub out : o.written.out ≡ put w.out 0 (flat r.datagrams)
  pub lengths : o.written.lengths ≡ put w.lengths 0 (map length r.datagrams)
