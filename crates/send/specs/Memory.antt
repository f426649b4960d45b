-- What a send does to the block's numbers and to the lent memory, every number and byte. The decisions are those of the rule (sending/specs/Send),
-- asked of the numbers in the ring. Assumes nothing.
use Rattle.std.specs.Prelude.{ℕ, ◌+◌, ◌-◌, ◌≡◌, Bool, List, [], ◌∷◌, length, take, drop, ltb, Result, Ok, Err}
use Rattle.serial.specs.Branch.{pick}
use Rattle.snd_ring.specs.declared.SndRing.{SndRing}
use Rattle.snd_ring.specs.Marks.{mark_at}
use Rattle.snd_ring.specs.Store.{Store, segment}
use Rattle.snd_ring.specs.Steps.{last, filled, appended_ring, appended, closed_ring, closed}
use Rattle.block.specs.declared.sender.Sender.{Sender}
use Rattle.block.specs.declared.refusal.Refusal.TheVariants.{UserBufTooBig, SendPoolFull}
use Rattle.block.specs.Parts.{with_snd_ring}
use Rattle.sending.specs.Rules.{Segment}
use Rattle.sending.specs.Send.{fills, joins, needed, Verdict, too_big, pool_full, fits, verdict, cut}
use Rattle.transmit.specs.Memory.{Side, side, frg}
use Rattle.send.specs.declared.Sent.{Sent}
use Rattle.block.specs.declared.refusal.Refusal.{Refusal}

-- a ring and its memory
pub record Laid : Type 0 where
  pub ring : SndRing
  pub store : Store

abbrev pub laid : SndRing → Store → Laid
laid r m = record { ring = r; store = m }

-- ---- the fill

-- the length of the last queued segment; where none is queued it does not matter
unfoldable pub last_length : SndRing → Store → ℕ
last_length r m = mark_at m.marks r.start (last r) - 1

-- ---- the new segments, behind those that wait

-- the row of a segment that waits: its other numbers come when it is sent
abbrev pub row_of : ℕ → List ℕ
row_of frg = 0 ∷ frg ∷ 0 ∷ 0 ∷ 0 ∷ 0 ∷ 0 ∷ 0 ∷ []

-- x as `cut` makes it: of its numbers only frg is not 0
unfoldable pub queued_at : List Segment → Laid → Laid
queued_at [] x = x
queued_at (s ∷ l) x = queued_at l (laid (appended_ring x.ring) (appended 8 x.ring x.store (segment (row_of s.frg) s.payload)))

-- where the end is too short for so many, the gaps in flight are closed first
unfoldable pub spaced_at : ℕ → Laid → Laid
spaced_at new x =
    pick (ltb (length x.store.marks) (x.ring.reach + x.ring.unsent + new))
    (laid (closed_ring (length x.store.marks) x.ring) (closed 8 x.ring x.store))
    x

-- ---- send

module _ (mss : ℕ) (stream : Bool) (bytes : List ℕ) (s : Sender) (m : Store) where
  abbrev pub joining : ℕ
  joining = joins mss stream s.ring.unsent (last_length s.ring m) (length bytes)

  abbrev pub new : ℕ
  new = needed mss stream s.ring.unsent (last_length s.ring m) (length bytes)

  -- the free slots are those of no segment, gaps among them
  unfoldable pub verdict_at : Verdict
  verdict_at = verdict new (length m.marks - (s.ring.flying + s.ring.unsent))

  -- bytes join the last queued segment, and its frg is 0
  unfoldable pub filled_at : Store
  filled_at = pick (fills mss stream s.ring.unsent (last_length s.ring m)) (filled 8 s.ring m (take joining bytes) frg 0) m

  unfoldable pub sent_at : Laid
  sent_at = queued_at (cut mss stream new (drop joining bytes)) (spaced_at new (laid s.ring filled_at))

  -- "8 | stream: the appended part stays; else all as it was", "12 | all as it was"
  unfoldable pub left_at : Verdict → Side
  left_at too_big = side s filled_at
  left_at pool_full = side s m
  left_at fits = side (with_snd_ring s sent_at.ring) sent_at.store

  unfoldable pub send_at : Side
  send_at = left_at verdict_at

  -- "It answers the bytes queued"
  abbrev pub answer_by : Verdict → Result ℕ Refusal
  answer_by too_big = Err UserBufTooBig
  answer_by pool_full = Err SendPoolFull
  answer_by fits = Ok (length bytes)

  unfoldable pub answer_at : Result ℕ Refusal
  answer_at = answer_by verdict_at

-- 01's number and values of each case
abbrev pub number_in : Verdict → ℕ
number_in too_big = 8
number_in pool_full = 12
number_in fits = 0

abbrev pub values_in : ℕ → Verdict → List ℕ
values_in n too_big = []
values_in n pool_full = []
values_in n fits = n ∷ []

-- what a send leaves of a sending side and the lent memory
pub record SentAs (mss : ℕ) (stream : Bool) (bytes : List ℕ) (s : Sender) (m : Store) (o : Sent) (m' : Store) : Type 0 where
  pub sends : side o.sender m' ≡ send_at mss stream bytes s m
  pub answers : o.answer ≡ answer_at mss stream bytes s m
