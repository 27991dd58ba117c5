-- A header is taken only where the first 20 octets spell it.
use Rattle.std.proofs.Common.{sym, ◌∙◌}
use Rattle.std.proofs.lemmas.List.{take_rest}
use Rattle.dm_wire.proofs.Headers.{header_spelled, IsTested}
use Rattle.dm_wire.proofs.Numbers.{fit-octets}
use Rattle.dm_wire.proofs.first_avp_and_header.read_header.Goals as goal

pub returns-clause-found : goal.returns-clause-found
returns-clause-found c =
    let s = c.args.octets.now in
    let size = rw (take_rest s 1) at c.read_u24.ensures in
    let tested : IsTested s =
    record {
      octets = fit-octets s c.type_inv.octets;
      long = c.if-octets-lt20.false;
      version = c.if-octets-ne1.false;
      size = sym size ∙ c.if-read_u24-octets.false;
      aligned = c.if-octets-ne0.false;
    } in
    rw (
      c.read_u24-2.ensures,
      c.read_u32.ensures,
      c.read_u32-2.ensures,
      c.read_u32-3.ensures,
      take_rest s 5,
      take_rest s 8,
      take_rest s 12,
      take_rest s 16,
    ) (header_spelled s tested)
