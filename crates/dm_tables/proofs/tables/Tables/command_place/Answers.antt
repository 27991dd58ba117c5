use Rattle.std.proofs.Common.{nat_eq, ◌&&◌}
use Rattle.std.specs.Bool.{beq}
use Rattle.dm_tables.specs.Tables.{head_key}
use Rattle.dm_tables.proofs.Places.{placed}
use Rattle.dm_tables.proofs.tables.Tables.command_place.Goals as goal

pub returns : goal.returns
returns c =
    rw (c.copied.ensures, c.get.ensures.value)
    (placed (λ k. (nat_eq c.args.code k.0 && beq c.args.request k.1) && beq c.args.err k.2) head_key
    c.args.self.now.commands.items c.args.self.now.heads.entries c.requires.heads)
