-- A row that is found tells what is looked up.
use Rattle.std.proofs.Common.{ap}
use Rattle.dm_tables.specs.Tables.{defined}
use Rattle.dm_wire.specs.Borrowed.{avp_of}
use Rattle.dm_dict.proofs.Rowed.{stands_at}
use Rattle.dm_dict.proofs.rules.allowed_row_for_avp_by_seat.Goals as goal

pub returns-in-Some : goal.returns-in-Some
returns-in-Some c =
    let rule = c.requires.rule in
    let rows = ap (λ linked. linked.rows) rule.linked in
    stands_at (defined c.args.dictionary.now.tables) c.args.rule.entries.now (avp_of c.args.avp) c.in-Some.at c.in-Some.row
    c.requires.linked.dictionary.tables.sound c.requires.fit rule.apart (rw rows at c.in-Some.ensures.place)
    (rw rows at c.in-Some.ensures.row) c.in-Some.ensures.own c.in-Some.ensures.allowed
