use Rattle.std.proofs.Common.{map}
use Rattle.dm_grammar.specs.Views.{view_item}
use Rattle.dm_grammar.specs.Spelling.{AreItems}
use Rattle.dm_grammar.specs.Tokens.{tokens}
use Rattle.dm_tables.specs.Tables.{defined}
use Rattle.dm_dict_text.proofs.Words.{words}
use Rattle.dm_dict_text.proofs.Reading.{seen, reads, refuses}
use Rattle.dm_dict_text.proofs.text_to_tables.read_tables.Goals as goal

pub extended_tables-tables-requires-clause-worded : goal.extended_tables-tables-requires-clause-worded
extended_tables-tables-requires-clause-worded c =
    let tells : AreItems (map view_item c.as_slice.result.now) (tokens c.args.text.now) = seen c.args.text.now c.in_ok-found.found.items c.as_slice.result.now
    c.in_ok-found.ensures.items c.as_slice.ensures.value in
    words c.args.text.now (map view_item c.as_slice.result.now) tells

pub returns-clause-defines : goal.returns-clause-defines
returns-clause-defines c =
    let tells : AreItems (map view_item c.as_slice.result.now) (tokens c.args.text.now) = seen c.args.text.now c.in_ok-found.found.items c.as_slice.result.now
    c.in_ok-found.ensures.items c.as_slice.ensures.value in
    reads (defined c.args.old.now)
    (map view_item c.as_slice.result.now) c.args.text.now tells c.extended_tables-tables.result
    c.extended_tables-tables.ensures.good c.extended_tables-tables.ensures.added

pub returns-clause-fault : goal.returns-clause-fault
returns-clause-fault c =
    let tells : AreItems (map view_item c.as_slice.result.now) (tokens c.args.text.now) = seen c.args.text.now c.in_ok-found.found.items c.as_slice.result.now
    c.in_ok-found.ensures.items c.as_slice.ensures.value in
    refuses (defined c.args.old.now)
    (map view_item c.as_slice.result.now) c.args.text.now tells c.extended_tables-tables.result
    c.extended_tables-tables.ensures.fault
