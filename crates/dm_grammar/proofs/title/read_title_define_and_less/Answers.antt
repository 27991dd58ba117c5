use Rattle.std.proofs.Common.{refl, ap, ◌∙◌}
use Rattle.dm_grammar.specs.Places.GrammarPlace.{Titled, Defined, Head}
use Rattle.dm_grammar.specs.Places.TokenRole.{NoPart, TitleIs}
use Rattle.dm_grammar.specs.Told.{filled}
use Rattle.dm_grammar.specs.Views.{view_word}
use Rattle.dm_grammar.proofs.Exits.{handed_on}
use Rattle.dm_grammar.proofs.Heads.{nothing_told}
use Rattle.dm_grammar.proofs.title.read_title_define_and_less.Goals as goal

pub returns-in_err-_marks-clause-tells : goal.returns-in_err-_marks-clause-tells
returns-in_err-_marks-clause-tells c =
    handed_on _ _ c.from_residual-in_err-_marks.result _ c.from_residual-in_err-_marks.ensures.1
    (c.in_ok-name.ensures.tells ∙ ap (filled TitleIs (view_word c.in_ok-name.name))
    (c.in_err-_marks.ensures.tells Titled Defined Head NoPart NoPart refl refl refl refl))

pub returns-clause-tells : goal.returns-clause-tells
returns-clause-tells c =
    let marks = c.in_ok-_marks._marks in
    c.in_ok-name.ensures.tells ∙ ap (filled TitleIs (view_word c.in_ok-name.name))
    (c.in_ok-_marks.ensures.tells Titled Defined Head NoPart NoPart refl refl refl refl
    ∙ (nothing_told (view_word marks.0) _ ∙ nothing_told (view_word marks.1) _))
