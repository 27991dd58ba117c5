use Rattle.std.proofs.Common.{◌≡◌, refl, ◌∙◌}
use Rattle.dm_grammar.specs.Places.GrammarPlace.{CommandWord, CommandColon}
use Rattle.dm_grammar.specs.Places.TokenRole.{NoPart}
use Rattle.dm_grammar.specs.Told.{collect}
use Rattle.dm_grammar.specs.Views.{view_word, view_words}
use Rattle.dm_grammar.proofs.Exits.{handed_on}
use Rattle.dm_grammar.proofs.Heads.{nothing_told}
use Rattle.dm_grammar.proofs.Titles.{from_words}
use Rattle.dm_grammar.proofs.head.read_command_head_from_header.Goals as goal

pub returns-in_err-_header-clause-tells : goal.returns-in_err-_header-clause-tells
returns-in_err-_header-clause-tells c = λ w.
    handed_on _ _ c.from_residual.result _ c.from_residual.ensures.1
    (c.in_err-_header.ensures.tells CommandWord CommandColon NoPart refl refl)

pub returns-clause-tells : goal.returns-clause-tells
returns-clause-tells c = λ w.
    let behind : collect c.args.how CommandWord (view_words c.args.tokens.now)
    ≡ collect c.args.how CommandColon (view_words c.in_ok-_header.rest.now) =
    c.in_ok-_header.ensures.tells CommandWord CommandColon NoPart refl refl
    ∙ nothing_told (view_word c.in_ok-_header._header) _ in
    from_words w _ _ _ c.read_command_head_from_colon.result behind (c.read_command_head_from_colon.ensures.tells w)
