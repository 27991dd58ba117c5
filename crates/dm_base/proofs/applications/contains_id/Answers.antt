-- An id that is not found is not there.
use Rattle.dm_base.proofs.Searching.{not_found}
use Rattle.dm_base.proofs.applications.contains_id.Goals as goal

pub returns-in-Err : goal.returns-in-Err
returns-in-Err c =
    not_found c.args.sorted.now c.args.id c.binary_search.result c.in-Err.field-0
    c.requires c.binary_search.ensures.position c.in-Err.is
