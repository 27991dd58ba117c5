use Rattle.std.proofs.Common.{nat_eq}
use Rattle.std.specs.Cmp.Lexicographic.{pointwise}
use Rattle.dm_tables.proofs.Places.{placed_shown}
use Rattle.dm_tables.proofs.tables.Tables.avp_place_by_name.Goals as goal

pub returns : goal.returns
returns c =
    rw (c.copied.ensures, c.get.ensures.value)
    (placed_shown (pointwise nat_eq c.args.name.now) (λ d. d.name) (λ k. k.items) c.args.self.now.avps.items
    c.args.self.now.names.entries c.requires.names)
