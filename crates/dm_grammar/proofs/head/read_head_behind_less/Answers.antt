use Rattle.std.proofs.Common.{ap}
use Rattle.dm_grammar.specs.Places.GrammarPlace.{Head, CommandWord, CommandColon, GroupWord}
use Rattle.dm_grammar.specs.Told.{collect}
use Rattle.dm_grammar.specs.Views.{view_word, view_words}
use Rattle.dm_grammar.proofs.Titles.{command_word, command_words, group_word, from_command, from_place}
use Rattle.dm_grammar.proofs.head.read_head_behind_less.Goals as goal

pub returns-in-Diameter-clause-tells : goal.returns-in-Diameter-clause-tells
returns-in-Diameter-clause-tells c =
    let first = view_word c.in-Some.first.now in
    from_command first (collect c.args.how CommandWord (view_words c.in-Some.rest.now))
    (collect c.args.how Head (view_words c.args.tokens.now)) _ c.read_command_head_from_header.result
    (command_word c.args.how first (view_words c.args.tokens.now) (view_words c.in-Some.rest.now)
    (ap view_words c.in-Some.ensures.cases.0) c.in-Diameter.is)
    (c.read_command_head_from_header.ensures.tells first)

pub returns-in-DiameterHeader-clause-tells : goal.returns-in-DiameterHeader-clause-tells
returns-in-DiameterHeader-clause-tells c =
    let first = view_word c.in-Some.first.now in
    from_command first (collect c.args.how CommandColon (view_words c.in-Some.rest.now))
    (collect c.args.how Head (view_words c.args.tokens.now)) _ c.read_command_head_from_colon.result
    (command_words c.args.how first (view_words c.args.tokens.now) (view_words c.in-Some.rest.now)
    (ap view_words c.in-Some.ensures.cases.0) c.in-DiameterHeader.is)
    (c.read_command_head_from_colon.ensures.tells first)

pub returns-in-Avp-clause-tells : goal.returns-in-Avp-clause-tells
returns-in-Avp-clause-tells c =
    let first = view_word c.in-Some.first.now in
    from_place (collect c.args.how GroupWord (view_words c.in-Some.rest.now))
    (collect c.args.how Head (view_words c.args.tokens.now)) _ c.read_group_head_from_header.result
    (group_word c.args.how first (view_words c.args.tokens.now) (view_words c.in-Some.rest.now)
    (ap view_words c.in-Some.ensures.cases.0) c.in-Avp.is)
    c.read_group_head_from_header.ensures.tells
