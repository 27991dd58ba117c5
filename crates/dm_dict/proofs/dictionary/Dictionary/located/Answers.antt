-- The faults of the AVPs that are held, each with its path.
use Rattle.dm_tables.specs.Tables.{defined}
use Rattle.dm_dict.proofs.FoundAt.{located_found}
use Rattle.dm_dict.proofs.Listed.{under_ok, under_err}
use Rattle.dm_dict.proofs.dictionary.Dictionary.located.Goals as goal

pub returns : goal.returns
returns c =
    let d = defined c.self.inside.linked.tables in
    let avps = c.args.message.now.avps in
    rw (← c.self.view_is) (record {
      all = under_ok c.collect_located_faults.result _ _ (λ listed all. all avps c.as_slice.ensures)
          c.collect_located_faults.ensures.all;
      found = under_ok c.collect_located_faults.result _ _
          (λ listed all. located_found d c.args.message.now listed.items (all avps c.as_slice.ensures))
          c.collect_located_faults.ensures.all;
      memory = under_err c.collect_located_faults.result (λ some. some avps c.as_slice.ensures)
          c.collect_located_faults.ensures.memory;
    })
