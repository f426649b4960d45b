-- `wire::get_conv` meets its contract. The helpers' law under 24 bytes, and from 24 on. Assumes nothing.
use Rattle.wire.specs.Header.{header_at, conv_of}
use Rattle.wire.proofs.Helpers.{got-short, got_whole}
use Rattle.wire.proofs.get_conv.Goals as goal

pub returns-then-buf-lt-OVERHEAD : goal.returns-then-buf-lt-OVERHEAD
returns-then-buf-lt-OVERHEAD c = got-short _ c.if-buf-lt-OVERHEAD.true conv_of

pub returns-else-buf-lt-OVERHEAD : goal.returns-else-buf-lt-OVERHEAD
unfolding header_at
returns-else-buf-lt-OVERHEAD c = got_whole _ c.if-buf-lt-OVERHEAD.false conv_of c.word.ensures
