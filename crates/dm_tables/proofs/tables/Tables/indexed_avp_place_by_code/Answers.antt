use Rattle.std.proofs.Common.{nat_eq, ◌&&◌}
use Rattle.std.specs.Option.{option_eq}
use Rattle.dm_tables.specs.Tables.{code_key}
use Rattle.dm_tables.proofs.Places.{placed}
use Rattle.dm_tables.proofs.tables.Tables.indexed_avp_place_by_code.Goals as goal

pub returns : goal.returns
returns c =
    rw (c.copied.ensures, c.get.ensures.value)
    (placed (λ k. nat_eq c.args.code k.0 && option_eq nat_eq c.args.vendor k.1) code_key c.args.self.now.avps.items
    c.args.self.now.codes.entries c.requires.codes)
