use Rattle.std.proofs.Common.{nat_eq}
use Rattle.std.specs.Cmp.Lexicographic.{pointwise}
use Rattle.dm_tables.proofs.Places.{found_shown}
use Rattle.dm_tables.proofs.tables.Tables.command_by_name.Goals as goal

pub returns : goal.returns
returns c =
    rw (c.member_at.ensures, c.as_slice.ensures.value, c.copied-place.ensures, c.get.ensures.value)
    (found_shown (pointwise nat_eq c.args.name.now) (λ d. d.name) (λ k. k.items) c.args.self.now.commands.items
    c.args.self.now.titles.entries c.requires.titles)
