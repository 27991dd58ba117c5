use Rattle.dm_tables.specs.Tables.{defined}
use Rattle.dm_dict.proofs.dictionary.Dictionary.avp_by_name.Goals as goal

pub returns-clause-one : goal.returns-clause-one
returns-clause-one c =
    rw (c.avp_by_name.ensures, ← c.self.view_is)
    ((c.each_name_and_code_defines_one_at_most.ensures (defined c.self.inside.linked.tables) c.self.invariant.dictionary.tables.sound).name
    c.args.name.now)
