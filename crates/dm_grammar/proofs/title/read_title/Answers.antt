use Rattle.std.proofs.Common.{refl, ap, ◌∙◌}
use Rattle.dm_grammar.specs.Places.GrammarPlace.{TitleLess, TitleName, Titled}
use Rattle.dm_grammar.specs.Places.TokenRole.{NoPart, BeginsItem, TitleIs}
use Rattle.dm_grammar.specs.Told.{filled, collect}
use Rattle.dm_grammar.specs.Views.{view_word, view_words}
use Rattle.dm_grammar.proofs.Exits.{handed_on}
use Rattle.dm_grammar.proofs.Heads.{nothing_told}
use Rattle.dm_grammar.proofs.Titles.{less_title, title_begins}
use Rattle.dm_grammar.proofs.title.read_title.Goals as goal

pub returns-in_err-words-in-Some-clause-tells : goal.returns-in_err-words-in-Some-clause-tells
returns-in_err-words-in-Some-clause-tells c =
    let less = rw c.in-Some.is at c.take_token_if.ensures.tells in
    handed_on _ _ c.from_residual.result _ c.from_residual.ensures.1
    (less_title c.args.how (view_word c.in-Some.field-0) (view_words c.args.tokens.now)
    (view_words c.take_token_if.result.1.now) less.0 less.1
    ∙ ap (filled BeginsItem (view_word c.in-Some.field-0))
    (c.in_err-words-in-Some.ensures.tells TitleLess TitleName Titled TitleIs NoPart refl refl refl refl))

pub returns-in_ok-words-in-Some-clause-tells : goal.returns-in_ok-words-in-Some-clause-tells
returns-in_ok-words-in-Some-clause-tells c =
    let less = rw c.in-Some.is at c.take_token_if.ensures.tells in
    let words = c.in_ok-words-in-Some.words in
    let rest = collect c.args.how Titled (view_words c.in_ok-words-in-Some.rest.now) in
    less_title c.args.how (view_word c.in-Some.field-0) (view_words c.args.tokens.now)
    (view_words c.take_token_if.result.1.now) less.0 less.1
    ∙ (ap (filled BeginsItem (view_word c.in-Some.field-0))
    (c.in_ok-words-in-Some.ensures.tells TitleLess TitleName Titled TitleIs NoPart refl refl refl refl
    ∙ ap (filled TitleIs (view_word words.0)) (nothing_told (view_word words.1) rest))
    ∙ title_begins (view_word c.in-Some.field-0) (view_word words.0) rest)
