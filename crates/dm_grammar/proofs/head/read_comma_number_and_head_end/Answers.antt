use Rattle.std.proofs.Common.{refl, ◌∙◌}
use Rattle.dm_grammar.specs.Places.GrammarPlace.{FlaggedComma, HeadEnd, InRule}
use Rattle.dm_grammar.specs.Places.TokenRole.{SecondIs, Rules}
use Rattle.dm_grammar.specs.Told.{collect}
use Rattle.dm_grammar.specs.Views.{view_word, view_words}
use Rattle.dm_grammar.proofs.Exits.{handed_on}
use Rattle.dm_grammar.proofs.Heads.{comma_number, a_second, plain_end, plain_fault}
use Rattle.dm_grammar.proofs.head.read_comma_number_and_head_end.Goals as goal

pub returns-in_err-words-in-Some-clause-tells : goal.returns-in_err-words-in-Some-clause-tells
returns-in_err-words-in-Some-clause-tells c =
    let comma = rw c.in-Some.is at c.take_token_if.ensures.tells in
    handed_on _ _ c.from_residual.result _ c.from_residual.ensures.1
    (comma_number c.args.how _ (view_words c.args.tokens.now) (view_words c.take_token_if.result.1.now) comma.0 comma.1
    ∙ c.in_err-words-in-Some.ensures.tells FlaggedComma HeadEnd InRule SecondIs Rules refl refl refl refl)

pub returns-in_ok-words-in-Some-clause-tells : goal.returns-in_ok-words-in-Some-clause-tells
returns-in_ok-words-in-Some-clause-tells c =
    let comma = rw c.in-Some.is at c.take_token_if.ensures.tells in
    let words = c.in_ok-words-in-Some.words in
    comma_number c.args.how _ (view_words c.args.tokens.now) (view_words c.take_token_if.result.1.now) comma.0 comma.1
    ∙ (c.in_ok-words-in-Some.ensures.tells FlaggedComma HeadEnd InRule SecondIs Rules refl refl refl refl
    ∙ a_second (view_word words.0) (view_word words.1) (collect c.args.how InRule (view_words c.in_ok-words-in-Some.rest.now)))

pub returns-in_err-_end-in-None-clause-tells : goal.returns-in_err-_end-in-None-clause-tells
returns-in_err-_end-in-None-clause-tells c =
    let comma = rw c.in-None.is at c.take_token_if.ensures.tells in
    handed_on _ _ c.from_residual-in_err-_end-in-None.result _ c.from_residual-in_err-_end-in-None.ensures.1
    (plain_fault c.args.how _ (view_words c.args.tokens.now)
    (view_words c.take_token_if-in-None.result.1.now) c.take_token_if-in-None.result.0 comma.1
    c.take_token_if-in-None.ensures.tells (c.in_err-_end-in-None.ensures.tells HeadEnd InRule Rules refl refl))

pub returns-in_ok-_end-in-None-clause-tells : goal.returns-in_ok-_end-in-None-clause-tells
returns-in_ok-_end-in-None-clause-tells c =
    let comma = rw c.in-None.is at c.take_token_if.ensures.tells in
    plain_end c.args.how (view_words c.args.tokens.now) (view_words c.take_token_if-in-None.result.1.now)
    (view_words c.in_ok-_end-in-None.rest.now) c.take_token_if-in-None.result.0
    (view_word c.in_ok-_end-in-None._end) comma.1 c.take_token_if-in-None.ensures.tells
    (c.in_ok-_end-in-None.ensures.tells HeadEnd InRule Rules refl refl)
