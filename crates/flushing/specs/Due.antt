-- One segment of the send buffer in a flush: the record that it gets in its first flight, whether and how it goes out, what its record becomes, and
-- what the flush counts of it. In the steps of `flush`; every sum modulo 2^32, so that a segment's own rto is never cut. Assumes nothing.
use Rattle.std.specs.Prelude.{ℕ, ◌/◌, max, Bool, true, false, ◌&&◌, ◌||◌, leb, eqb}
use Rattle.serial.specs.Branch.{pick}
use Rattle.serial.specs.Wrap.{add32, not_before}
use Rattle.block.specs.declared.settings.Settings.{Settings}
use Rattle.flushing.specs.declared.due.Record.{Record}
use Rattle.flushing.specs.declared.due.Pace.{Pace}
use Rattle.flushing.specs.declared.due.Due.{Due}
use Rattle.flushing.specs.declared.due.Due.TheVariants.{Idle, Fresh, TimedOut, Fast}
use Rattle.flushing.specs.declared.due.Flown.{Flown}
use Rattle.flushing.specs.declared.due.Tally.{Tally}
use Rattle.flushing.specs.Windows.{resent_of}

-- ---- a first flight

-- "new_segment.conv = self.conv; .. new_segment.ts = self.current; new_segment.sn = self.snd_nxt; .. new_segment.resendts = self.current;
-- new_segment.rto = self.rx_rto; new_segment.fastack = 0; new_segment.xmit = 0"; frg stays
abbrev pub numbered : ℕ → ℕ → ℕ → ℕ → Record → Record
numbered conv sn current rx_rto r =
    record { conv = conv; frg = r.frg; sn = sn; ts = current; resendts = current; rto = rx_rto; fastack = 0; xmit = 0 }

-- ---- whether and how it goes out

-- "let rtomin = if !self.nodelay { self.rx_rto >> 3 } else { 0 }"
unfoldable pub rtomin_of : Bool → ℕ → ℕ
rtomin_of nodelay rx_rto = pick nodelay 0 (rx_rto / 8)

-- the numbers of the block that decide it
unfoldable pub pace_of : Settings → ℕ → ℕ → Pace
pace_of s current rx_rto =
    record { current = current; rx_rto = rx_rto; rtomin = rtomin_of s.nodelay rx_rto; resent = resent_of s.fastresend; nodelay = s.nodelay; fastlimit = s.fastlimit }

-- "snd_segment.fastack >= resent", "snd_segment.xmit <= self.fastlimit || self.fastlimit <= 0"
unfoldable pub resends_fast : Pace → Record → Bool
resends_fast p r = leb p.resent r.fastack && (leb r.xmit p.fastlimit || eqb p.fastlimit 0)

-- "if snd_segment.xmit == 0 { .. } else if timediff(self.current, snd_segment.resendts) >= 0 { .. } else if .. "
unfoldable pub due_of : Pace → Record → Due
due_of p r =
    pick (eqb r.xmit 0) Fresh (pick (not_before p.current r.resendts) TimedOut (pick (resends_fast p r) Fast Idle))

-- ---- what its record becomes

-- "if !self.nodelay { snd_segment.rto += cmp::max(snd_segment.rto, self.rx_rto); } else { .. snd_segment.rto += step / 2; }"
unfoldable pub longer_rto : Pace → ℕ → ℕ
longer_rto p rto = pick p.nodelay (add32 rto (rto / 2)) (add32 rto (max rto p.rx_rto))

-- one transmission more, now
abbrev pub again : ℕ → Record → ℕ → ℕ → ℕ → Record
again current r resendts rto fastack =
    record { conv = r.conv; frg = r.frg; sn = r.sn; ts = current; resendts = resendts; rto = rto; fastack = fastack; xmit = add32 r.xmit 1 }

-- "resendts = self.current + snd_segment.rto + rtomin" of a fresh one, "self.current + snd_segment.rto" of the others; fastack goes back to 0 where it
-- was the reason
unfoldable pub sent_as : Pace → Due → Record → Record
sent_as p Idle r = r
sent_as p Fresh r = again p.current r (add32 (add32 p.current p.rx_rto) p.rtomin) p.rx_rto r.fastack
sent_as p TimedOut r = again p.current r (add32 p.current (longer_rto p r.rto)) (longer_rto p r.rto) r.fastack
sent_as p Fast r = again p.current r (add32 p.current r.rto) r.rto 0

-- both
unfoldable pub flown_by : Pace → Record → Flown
flown_by p r = record { due = due_of p r; after = sent_as p (due_of p r) r }

abbrev pub goes_out : Due → Bool
goes_out Idle = false
goes_out Fresh = true
goes_out TimedOut = true
goes_out Fast = true

-- ---- what the flush counts

-- "if snd_segment.xmit >= self.dead_link { self.state = -1; }", of a segment that goes out, its transmission counted; it never goes back
unfoldable pub dies : Bool → ℕ → ℕ → Bool
dies dead dead_link xmit = dead || leb dead_link xmit

-- "self.xmit += 1" and "lost = true" for a timeout alone, and "change += 1" for a fast resend, of which only whether there was one is asked
unfoldable pub with_sent : ℕ → Due → ℕ → Tally → Tally
with_sent dead_link Idle xmit t = t
with_sent dead_link Fresh xmit t = record { xmit = t.xmit; dead = dies t.dead dead_link xmit; lost = t.lost; change = t.change }
with_sent dead_link TimedOut xmit t = record { xmit = add32 t.xmit 1; dead = dies t.dead dead_link xmit; lost = true; change = t.change }
with_sent dead_link Fast xmit t = record { xmit = t.xmit; dead = dies t.dead dead_link xmit; lost = t.lost; change = true }
