-- "send cuts at mss; frg counts down to 0; in stream mode frg is 0, and the last queued segment is first filled up to mss", refusals 8 and 12, and
-- "8 before 12". What it answers stands beside the memory function (send/specs/Memory). Assumes nothing.
use Rattle.std.specs.Prelude.{ℕ, suc, zero, ◌+◌, ◌-◌, ◌/◌, min, Bool, cond, ◌&&◌, List, [], ◌∷◌, ◌++◌, length, take, drop, get_or, set, ltb, leb, eqb}
use Rattle.serial.specs.Branch.{pick}
use Rattle.sending.specs.Rules.{Segment, Sending}

-- ---- by numbers: `queued` segments wait and the last of them has `last` bytes

-- "in stream mode .. the last queued segment is first filled up to mss": whether there is one to fill
unfoldable pub fills : ℕ → Bool → ℕ → ℕ → Bool
fills mss stream queued last = stream && (ltb 0 queued && ltb last mss)

-- how many of n bytes join it
unfoldable pub joins : ℕ → Bool → ℕ → ℕ → ℕ → ℕ
joins mss stream queued last n = pick (fills mss stream queued last) (min (mss - last) n) 0

-- "send cuts at mss": how many new segments n bytes make; no bytes make one where the mode is plain, and none in a stream
unfoldable pub pieces : ℕ → Bool → ℕ → ℕ
pieces mss stream n = pick (eqb n 0) (pick stream 0 1) ((n + (mss - 1)) / mss)

-- how many new segments a send of n bytes needs, behind those that join the last
unfoldable pub needed : ℕ → Bool → ℕ → ℕ → ℕ → ℕ
needed mss stream queued last n = pieces mss stream (n - joins mss stream queued last n)

-- "8 | send needs 128 segments or more", "12 | new segments exceed free send slots", or neither
pub data Verdict : Type 0 where
  too_big : Verdict
  pool_full : Verdict
  fits : Verdict

-- "8 before 12"
unfoldable pub verdict : ℕ → ℕ → Verdict
verdict new free = pick (leb 128 new) too_big (pick (ltb free new) pool_full fits)

-- ---- over the segments

-- a segment that waits: its other numbers come when it is sent
abbrev pub waits : ℕ → List ℕ → Segment
waits frg payload = record {
  conv = 0;
  frg = frg;
  sn = 0;
  ts = 0;
  resendts = 0;
  rto = 0;
  fastack = 0;
  xmit = 0;
  payload = payload;
}

-- "send cuts at mss; frg counts down to 0; in stream mode frg is 0": bytes as so many segments
unfoldable pub cut : ℕ → Bool → ℕ → List ℕ → List Segment
cut mss stream zero bytes = []
cut mss stream (suc left) bytes = waits (pick stream 0 left) (take mss bytes) ∷ cut mss stream left (drop mss bytes)

-- the last queued segment, and its length; where none is queued it does not matter
unfoldable pub last_of : List Segment → Segment
last_of l = get_or l (length l - 1) (waits 0 [])

abbrev pub last_size : List Segment → ℕ
last_size l = length (last_of l).payload

-- a segment that bytes have joined, or none where all are used up; its frg becomes 0
abbrev pub topped : List ℕ → Segment → Segment
topped bytes s = record {
  conv = s.conv;
  frg = 0;
  sn = s.sn;
  ts = s.ts;
  resendts = s.resendts;
  rto = s.rto;
  fastack = s.fastack;
  xmit = s.xmit;
  payload = s.payload ++ bytes;
}

abbrev pub with_waiting : Sending → List Segment → Sending
with_waiting s l = record { una = s.una; next = s.next; flying = s.flying; waiting = l }

module _ (mss : ℕ) (stream : Bool) (bytes : List ℕ) (s : Sending) where
  abbrev pub joining : ℕ
  joining = joins mss stream (length s.waiting) (last_size s.waiting) (length bytes)

  abbrev pub new : ℕ
  new = needed mss stream (length s.waiting) (last_size s.waiting) (length bytes)

  -- the last queued segment is filled
  unfoldable pub filled : Sending
  filled =
      cond (fills mss stream (length s.waiting) (last_size s.waiting))
      (with_waiting s (set s.waiting (length s.waiting - 1) (topped (take joining bytes) (last_of s.waiting))))
      s

  -- nothing is refused: the rest is cut and queued
  unfoldable pub queued : Sending
  queued = with_waiting filled (filled.waiting ++ cut mss stream new (drop joining bytes))

  -- what a send leaves: "8 | stream: the appended part stays; else all as it was", "12 | all as it was"
  unfoldable pub left_by : Verdict → Sending
  left_by too_big = filled
  left_by pool_full = s
  left_by fits = queued

  -- with so many free slots
  unfoldable pub send : ℕ → Sending
  send free = left_by (verdict new free)
