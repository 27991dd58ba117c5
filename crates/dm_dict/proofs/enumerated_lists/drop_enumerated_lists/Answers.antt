-- The AVPs alone change, each by its list.
use Rattle.std.proofs.Common.{refl}
use Rattle.dm_dict.proofs.OpenTables.{linked_open}
use Rattle.dm_dict.proofs.enumerated_lists.drop_enumerated_lists.Goals as goal

pub returns-clause-linked : goal.returns-clause-linked
returns-clause-linked c =
    linked_open c.args.linked.now _ c.drop_list_of_each_avp.ensures refl refl refl refl refl refl refl refl refl c.requires.linked
