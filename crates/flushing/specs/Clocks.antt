-- The numbers of `update` and `check`: what update does to the clock, and whether a flush runs; the wait that check answers. Assumes nothing.
use Rattle.std.specs.Prelude.{ℕ, ◌-◌, ◌^◌, min, Bool, true, ◌||◌, List, [], ◌∷◌, pos, negsuc}
use Rattle.std.specs.Int.Signed.{lt_z, le_z}
use Rattle.serial.specs.Branch.{pick}
use Rattle.serial.specs.Wrap.{add32, sub32, timediff, not_before, after}
use Rattle.block.specs.declared.clock.Clock.{Clock}
use Rattle.flushing.specs.declared.clock.Tick.{Tick}

-- "slap >= 10000 || slap < -10000": exactly 10,000 before is not far
unfoldable pub far : ℕ → ℕ → Bool
far current ts_flush = le_z (pos 10000) (timediff current ts_flush) || lt_z (timediff current ts_flush) (negsuc 9999)

-- where it is far, "self.ts_flush = self.current"
unfoldable pub restarted : ℕ → ℕ → ℕ
restarted current ts_flush = pick (far current ts_flush) current ts_flush

-- ---- update

-- "if !self.updated { self.updated = true; self.ts_flush = self.current; }", and the restart
unfoldable pub due_from : Clock → ℕ → ℕ
due_from c current = restarted current (pick c.updated c.ts_flush current)

-- "self.ts_flush += self.interval; if timediff(self.current, self.ts_flush) >= 0 { self.ts_flush = self.current + self.interval; }"
unfoldable pub next_flush : ℕ → ℕ → ℕ → ℕ
next_flush current interval ts_flush =
    pick (not_before current (add32 ts_flush interval)) (add32 current interval) (add32 ts_flush interval)

-- "if slap >= 0 { .. self.flush()?; }"; else the time is stored only
unfoldable pub ticked : Clock → ℕ → Tick
ticked c current =
    let from = due_from c current in
    let flushes = not_before current from in
    record {
      clock = record { current = current; interval = c.interval; ts_flush = pick flushes (next_flush current c.interval from) from; updated = true };
      flushes = flushes;
    }

-- ---- check

-- the wait for the flush: 0 before the first update, and where one is due; else "timediff(ts_flush, current)"
unfoldable pub tm_flush : Clock → ℕ → ℕ
tm_flush c current =
    let from = restarted current c.ts_flush in
    pick c.updated (pick (not_before current from) 0 (sub32 from current)) 0

-- a segment's part of the wait for the segments: 0 where "diff <= 0", else the least
unfoldable pub nearest : ℕ → ℕ → ℕ → ℕ
nearest current resendts tm_packet = pick (after resendts current) (min (sub32 resendts current) tm_packet) 0

-- the wait for all, from "let mut tm_packet = u32::max_value()"; where the source answers 0 at once, 0 is the least
unfoldable pub tm_packet : ℕ → List ℕ → ℕ → ℕ
tm_packet current [] tm = tm
tm_packet current (resendts ∷ l) tm = tm_packet current l (nearest current resendts tm)

-- "let mut minimal = cmp::min(tm_packet, tm_flush); if minimal >= self.interval { minimal = self.interval; }"
abbrev pub wait_of : ℕ → ℕ → ℕ → ℕ
wait_of interval packet flush = min (min packet flush) interval

-- the wait of a block with this clock whose segments in flight are to be resent at these times
unfoldable pub check_of : Clock → ℕ → List ℕ → ℕ
check_of c current l = wait_of c.interval (tm_packet current l (2 ^ 32 - 1)) (tm_flush c current)
