use Rattle.std.proofs.Common.{map}
use Rattle.std.proofs.lemmas.Result.{err_from_is_err_and}
use Rattle.dm_grammar.specs.Views.{view_item}
use Rattle.dm_dict_text.specs.Making.{making}
use Rattle.dm_dict_text.specs.Worded.{is_worded}
use Rattle.dm_dict_text.specs.Meaning.{with_item}
use Rattle.dm_dict_text.specs.Faults.{item_faults}
use Rattle.dm_dict_text.proofs.Along.{along_next, along_stops, next_passes}
use Rattle.dm_dict_text.proofs.define.define_items.Goals as goal

pub returns-in_err-define_item-clause-fault : goal.returns-in_err-define_item-clause-fault
returns-in_err-define_item-clause-fault c =
    let p = err_from_is_err_and c.from_residual.result c.from_residual.ensures.1 in
    rw (p.1, p.2)
    (along_stops item_faults with_item view_item (making c.args.tables.now c.args.strays.now)
    (making c.loop-item.tables c.loop-item.strays) (map view_item c.args.items.now) c.args.items.now
    c.loop-item.item-index _ c.item-item.result c.in_err-define_item.field-0.0 c.loop-item-test.true c.item-item.is
    c.loop-item.invariant.along c.in_err-define_item.ensures.fault)

pub define_item-requires-clause-worded : goal.define_item-requires-clause-worded
define_item-requires-clause-worded c =
    (next_passes is_worded view_item c.args.items.now c.loop-item.item-index _ c.item-item.result c.loop-item-test.true
    c.item-item.is c.loop-item.invariant.worded).0

pub loop-item-preserved : goal.loop-item-preserved
loop-item-preserved c = record {
  tables = c.in_ok-define_item.ensures.tables;
  guesses = c.in_ok-define_item.ensures.guesses;
  worded = (next_passes is_worded view_item c.args.items.now c.loop-item.item-index _ c.item-item.result
      c.loop-item-test.true c.item-item.is c.loop-item.invariant.worded).1;
  along = along_next item_faults with_item view_item _ (making c.loop-item.tables c.loop-item.strays)
      (making c.define_item.new.tables c.define_item.new.strays) _ c.args.items.now c.loop-item.item-index _
      c.item-item.result
      c.loop-item-test.true c.item-item.is c.loop-item.invariant.along c.in_ok-define_item.ensures.good
      c.in_ok-define_item.ensures.added;
}
