use Rattle.std.proofs.Common.{refl, ap, ◌∙◌}
use Rattle.dm_grammar.specs.Places.GrammarPlace.{GroupColon, GroupCode, GroupCoded, InRule}
use Rattle.dm_grammar.specs.Places.TokenRole.{NoPart, CodeIs}
use Rattle.dm_grammar.specs.Told.{filled, collect}
use Rattle.dm_grammar.specs.Views.{view_word, view_option, view_words}
use Rattle.dm_grammar.proofs.Exits.{handed_on}
use Rattle.dm_grammar.proofs.Heads.{nothing_told, group_told}
use Rattle.dm_grammar.proofs.head.read_group_head_from_colon.Goals as goal

pub returns-in_err-words-clause-tells : goal.returns-in_err-words-clause-tells
returns-in_err-words-clause-tells c =
    handed_on _ _ c.from_residual.result _ c.from_residual.ensures.1
    (c.in_err-words.ensures.tells GroupColon GroupCode GroupCoded NoPart CodeIs refl refl refl refl)

pub returns-in_err-named-clause-tells : goal.returns-in_err-named-clause-tells
returns-in_err-named-clause-tells c =
    let words = c.in_ok-words.words in
    handed_on _ _ c.from_residual-in_err-named.result _ c.from_residual-in_err-named.ensures.1
    (c.in_ok-words.ensures.tells GroupColon GroupCode GroupCoded NoPart CodeIs refl refl refl refl
    ∙ ap (λ r. filled NoPart (view_word words.0) (filled CodeIs (view_word words.1) r)) c.in_err-named.ensures.tells)

pub returns-clause-tells : goal.returns-clause-tells
returns-clause-tells c =
    let words = c.in_ok-words.words in
    c.in_ok-words.ensures.tells GroupColon GroupCode GroupCoded NoPart CodeIs refl refl refl refl
    ∙ (nothing_told (view_word words.0) _
    ∙ (ap (filled CodeIs (view_word words.1)) c.in_ok-named.ensures.tells
    ∙ group_told (view_word words.1) (view_option c.in_ok-named.named) (view_option c.in_ok-named.second)
    (collect c.args.how InRule (view_words c.in_ok-named.rest.now))))
