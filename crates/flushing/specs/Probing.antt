-- The window probe, in the steps of `probe_wnd_size`, and its bits. Written for a block that is well formed, whose probe_wait is 0 or 7,000 to
-- 120,000: what the source does with a wait between is not said. Assumes nothing.
use Rattle.std.specs.Prelude.{ℕ, ◌+◌, ◌/◌, ◌%◌, min, Bool, eqb}
use Rattle.serial.specs.Branch.{pick}
use Rattle.serial.specs.Wrap.{add32, not_before}
use Rattle.block.specs.declared.probe.Probe.{Probe}

-- the ask is the bit of value 1, the tell that of value 2
abbrev pub ask_set : ℕ → Bool
ask_set bits = eqb (bits % 2) 1

abbrev pub tell_set : ℕ → Bool
tell_set bits = eqb (bits / 2 % 2) 1

-- "self.probe |= KCP_ASK_SEND"
unfoldable pub ask_bit : ℕ → ℕ
ask_bit bits = pick (eqb (bits % 2) 0) (bits + 1) bits

-- "self.probe_wait += self.probe_wait / 2; if self.probe_wait > KCP_PROBE_LIMIT { self.probe_wait = KCP_PROBE_LIMIT; }"
abbrev pub longer_wait : ℕ → ℕ
longer_wait wait = min (add32 wait (wait / 2)) 120000

-- the wait starts now: "self.ts_probe = self.current + self.probe_wait"
abbrev pub armed : ℕ → ℕ → ℕ → Probe
armed current bits wait = record { bits = bits; ts_probe = add32 current wait; probe_wait = wait }

-- while the peer's window is 0: a first wait of 7,000; once it is over an ask, and a longer wait
unfoldable pub probed : ℕ → Probe → Probe
probed current p =
    pick (eqb p.probe_wait 0)
    (armed current p.bits 7000)
    (pick (not_before current p.ts_probe) (armed current (ask_bit p.bits) (longer_wait p.probe_wait)) p)

-- "if self.rmt_wnd == 0 { .. } else { self.ts_probe = 0; self.probe_wait = 0; }"
unfoldable pub probe_wnd_size : ℕ → ℕ → Probe → Probe
probe_wnd_size rmt_wnd current p =
    pick (eqb rmt_wnd 0) (probed current p) (record { bits = p.bits; ts_probe = 0; probe_wait = 0 })
