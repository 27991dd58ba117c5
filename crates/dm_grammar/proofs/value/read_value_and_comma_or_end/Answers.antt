use Rattle.std.proofs.Common.{refl, ap, ◌∙◌}
use Rattle.dm_grammar.specs.Places.GrammarPlace.{ListOpen, ValueName, ValueEnd}
use Rattle.dm_grammar.specs.Places.TokenRole.{ValueIs, CodeIs}
use Rattle.dm_grammar.specs.Readers.{behind_brace}
use Rattle.dm_grammar.specs.Told.{filled, collect}
use Rattle.dm_grammar.specs.Views.{view_word, view_words}
use Rattle.dm_grammar.proofs.Exits.{handed_on}
use Rattle.dm_grammar.proofs.Values.{value_told}
use Rattle.dm_grammar.proofs.value.read_value_and_comma_or_end.Goals as goal

pub returns-in_err-words-clause-tells : goal.returns-in_err-words-clause-tells
returns-in_err-words-clause-tells c =
    handed_on _ _ c.from_residual.result _ c.from_residual.ensures.1
    (c.in_err-words.ensures.tells ListOpen ValueName ValueEnd ValueIs CodeIs refl refl refl refl)

pub returns-in_err-more-clause-tells : goal.returns-in_err-more-clause-tells
returns-in_err-more-clause-tells c =
    let words = c.in_ok-words.words in
    handed_on _ _ c.from_residual-in_err-more.result _ c.from_residual-in_err-more.ensures.1
    (c.in_ok-words.ensures.tells ListOpen ValueName ValueEnd ValueIs CodeIs refl refl refl refl
    ∙ ap (λ r. filled ValueIs (view_word words.0) (filled CodeIs (view_word words.1) r)) c.in_err-more.ensures.tells)

pub returns-clause-tells : goal.returns-clause-tells
returns-clause-tells c =
    let words = c.in_ok-words.words in
    c.in_ok-words.ensures.tells ListOpen ValueName ValueEnd ValueIs CodeIs refl refl refl refl
    ∙ (ap (λ r. filled ValueIs (view_word words.0) (filled CodeIs (view_word words.1) r)) c.in_ok-more.ensures.tells
    ∙ value_told (view_word words.0) (view_word words.1)
    (collect c.args.how (behind_brace c.in_ok-more.more) (view_words c.in_ok-more.rest.now)))
