use Rattle.std.proofs.Common.{ap, ◌∙◌}
use Rattle.dm_grammar.specs.Places.TokenRole.{NameOfAvp}
use Rattle.dm_grammar.specs.Told.{filled}
use Rattle.dm_grammar.specs.Views.{view_word, view_words}
use Rattle.dm_grammar.proofs.Avps.{name_taken}
use Rattle.dm_grammar.proofs.avp.read_avp_up_to_values.Goals as goal

pub returns-clause-tells : goal.returns-clause-tells
returns-clause-tells c =
    let found = c.in_ok-name.ensures.found in
    name_taken c.args.how (view_word c.in_ok-name.name) (view_words c.args.tokens.now) (view_words c.in_ok-name.rest.now)
    c.requires found.0 found.1 ∙ ap (filled NameOfAvp (view_word c.in_ok-name.name)) c.in_ok-code.ensures.tells
