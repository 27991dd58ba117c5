use Rattle.std.proofs.Common.{ap, ◌∙◌}
use Rattle.dm_grammar.specs.Told.{filled}
use Rattle.dm_grammar.specs.Views.{view_word}
use Rattle.dm_grammar.proofs.Exits.{handed_on}
use Rattle.dm_grammar.proofs.first_tokens.expect_two_tokens.Goals as goal

pub returns-in_err-one-clause-tells : goal.returns-in_err-one-clause-tells
returns-in_err-one-clause-tells c = λ p q s r t e n f m.
    handed_on _ _ c.from_residual.result _ c.from_residual.ensures.1 (c.in_err-one.ensures.tells p q r e n)

pub returns-in_err-two-clause-tells : goal.returns-in_err-two-clause-tells
returns-in_err-two-clause-tells c = λ p q s r t e n f m.
    handed_on _ _ c.from_residual-in_err-two.result _ c.from_residual-in_err-two.ensures.1
    (c.in_ok-one.ensures.tells p q r e n ∙ ap (filled r (view_word c.in_ok-one.one)) (c.in_err-two.ensures.tells q s t f m))

pub returns-clause-tells : goal.returns-clause-tells
returns-clause-tells c = λ p q s r t e n f m.
    c.in_ok-one.ensures.tells p q r e n ∙ ap (filled r (view_word c.in_ok-one.one)) (c.in_ok-two.ensures.tells q s t f m)
