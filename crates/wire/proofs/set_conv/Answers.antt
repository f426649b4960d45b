-- `wire::set_conv` meets its contract. The helpers' law under 24 bytes, and from 24 on. Assumes nothing.
use Rattle.std.proofs.Common.{◌∙◌}
use Rattle.wire.proofs.Helpers.{set-short, set_whole}
use Rattle.wire.proofs.LittleEndian.{le_four}
use Rattle.wire.proofs.set_conv.Goals as goal

pub returns-then-buf-lt-OVERHEAD : goal.returns-then-buf-lt-OVERHEAD
returns-then-buf-lt-OVERHEAD c = set-short _ c.if-buf-lt-OVERHEAD.true _

pub returns : goal.returns
returns c = rw (c.copy_from_slice.ensures.after ∙ c.to_le_bytes.ensures ∙ le_four c.args.conv) (set_whole _ c.if-buf-lt-OVERHEAD.false _)
