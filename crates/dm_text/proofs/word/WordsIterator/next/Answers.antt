use Rattle.std.proofs.Common.{arith, ◌∙◌, sym}
use Rattle.dm_text.proofs.Wordings.{words-fed, words-last, words-none}
use Rattle.dm_text.proofs.word.WordsIterator.next.Goals as goal

pub returns-in-Some-clause-steps : goal.returns-in-Some-clause-steps
returns-in-Some-clause-steps c =
    rw (← c.self.view_is)
    (words-fed c.self.inside.rest.now c.without_leading_spaces-rest.result.now c.in-Some.end
    c.without_leading_spaces-rest.ensures
    (sym c.first_space.ensures ∙ c.in-Some.is))

pub returns-in-Some-clause-goes : goal.returns-in-Some-clause-goes
returns-in-Some-clause-goes c =
    let first = words-fed c.self.inside.rest.now c.without_leading_spaces-rest.result.now c.in-Some.end
    c.without_leading_spaces-rest.ensures (sym c.first_space.ensures ∙ c.in-Some.is) in
    rw (← c.self.view_is) (record { on = λ _. (tt, tt, rw first (omega arith)); keeps = tt; rests = λ _. tt })

pub returns-in-None-clause-steps : goal.returns-in-None-clause-steps
returns-in-None-clause-steps c =
    rw (← c.self.view_is)
    (words-last c.self.inside.rest.now c.without_leading_spaces-rest.result.now c.without_leading_spaces-rest.ensures
    (sym c.first_space.ensures ∙ c.in-None.is) (sym c.is_empty.ensures ∙ c.if-is_empty.false))

pub returns-in-None-clause-goes : goal.returns-in-None-clause-goes
returns-in-None-clause-goes c =
    let last = words-last c.self.inside.rest.now c.without_leading_spaces-rest.result.now
    c.without_leading_spaces-rest.ensures
    (sym c.first_space.ensures ∙ c.in-None.is) (sym c.is_empty.ensures ∙ c.if-is_empty.false) in
    rw (← c.self.view_is) (record { on = λ _. (tt, tt, rw last (omega arith)); keeps = tt; rests = λ _. tt })

pub returns-then-is_empty-clause-steps : goal.returns-then-is_empty-clause-steps
returns-then-is_empty-clause-steps c =
    rw (← c.self.view_is)
    (words-none c.self.inside.rest.now c.without_leading_spaces-rest.result.now c.without_leading_spaces-rest.ensures
    (sym c.is_empty.ensures ∙ c.if-is_empty.true))
