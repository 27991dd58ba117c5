use Rattle.std.proofs.Common.{refl}
use Rattle.std.proofs.lemmas.List.{take_rest}
use Rattle.dm_view_lines.proofs.header.header_at_front.Goals as goal

pub returns : goal.returns
returns c =
    let s = c.args.octets.now in
    rw (
      c.read_u24.ensures,
      c.read_u32.ensures,
      c.read_u32-2.ensures,
      c.read_u32-3.ensures,
      take_rest s 5,
      take_rest s 8,
      take_rest s 12,
      take_rest s 16,
    ) refl
