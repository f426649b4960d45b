-- `wire::Header::bytes` meets its contract. The bytes of each number, where it stands. Assumes nothing.
use Rattle.std.proofs.Common.{◌∙◌}
use Rattle.wire.specs.Header.{header_bytes}
use Rattle.wire.proofs.LittleEndian.{le_two, le_four}
use Rattle.wire.proofs.Header.bytes.Goals as goal

pub returns : goal.returns
unfolding header_bytes
returns c =
    let h = c.args.self in
    rw (
      c.copy_from_slice.ensures.after ∙ c.to_le_bytes.ensures ∙ le_four h.conv,
      c.copy_from_slice-2.ensures.after ∙ c.to_le_bytes-2.ensures ∙ le_two h.wnd,
      c.copy_from_slice-3.ensures.after ∙ c.to_le_bytes-3.ensures ∙ le_four h.ts,
      c.copy_from_slice-4.ensures.after ∙ c.to_le_bytes-4.ensures ∙ le_four h.sn,
      c.copy_from_slice-5.ensures.after ∙ c.to_le_bytes-5.ensures ∙ le_four h.una,
      c.copy_from_slice-6.ensures.after ∙ c.to_le_bytes-6.ensures ∙ le_four h.len,
    )
