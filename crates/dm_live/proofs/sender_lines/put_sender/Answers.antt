use Rattle.std.proofs.Common.{append_assoc}
use Rattle.dm_live.specs.SenderLines.{told_lines}
use Rattle.dm_live.proofs.sender_lines.put_sender.Goals as goal

pub returns : goal.returns
unfolding told_lines
returns c =
    λ l tells.
    rw (
      c.in_ok-put_number_line_if_any-3.ensures,
      c.in_ok-put_number_lines-2.ensures,
      c.in_ok-put_number_lines.ensures,
      c.as_slice-2.ensures,
      c.as_slice.ensures,
      c.in_ok-vendors.ensures.ids l tells,
      c.in_ok-applications.ensures.ids l tells,
      c.in_ok-put_number_line_if_any-2.ensures,
      c.in_ok-put_number_line_if_any.ensures,
      c.in_ok-put_octets_line-3.ensures,
      c.in_ok-put_octets_line-2.ensures,
      c.in_ok-put_octets_line.ensures,
      c.host.ensures l tells,
      c.realm.ensures l tells,
      c.product.ensures l tells,
      c.vendor.ensures l tells,
      c.firmware.ensures l tells,
      c.state_id.ensures l tells,
    ) (simp append_assoc)
