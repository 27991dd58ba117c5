use Rattle.std.proofs.Common.{◌∷◌, ◌-◌, ◌+◌, length, take, drop, ap, arith, ◌∙◌, sym}
use Rattle.std.specs.Str.Lines.{lines}
use Rattle.dm_text.proofs.Splits.{lines-fed, lines-last}
use Rattle.dm_text.proofs.line.LinesIterator.next.Goals as goal

pub returns-in-Some-clause-steps : goal.returns-in-Some-clause-steps
returns-in-Some-clause-steps c =
    let s = c.self.inside.rest.now in
    rw (← c.self.view_is) (lines-fed s c.in-Some.end (sym c.first_line_feed.ensures ∙ c.in-Some.is)
    ∙ ap (λ v. v ∷ lines (take (length s - (c.in-Some.end + 1)) (drop (c.in-Some.end + 1) s)))
    (sym c.without_trailing_carriage_return.ensures))

pub returns-in-Some-clause-goes : goal.returns-in-Some-clause-goes
returns-in-Some-clause-goes c =
    let first = lines-fed c.self.inside.rest.now c.in-Some.end (sym c.first_line_feed.ensures ∙ c.in-Some.is) in
    rw (← c.self.view_is) (record { on = λ _. (tt, tt, rw first (omega arith)); keeps = tt; rests = λ _. tt })

pub returns-in-None-clause-steps : goal.returns-in-None-clause-steps
returns-in-None-clause-steps c =
    rw (← c.self.view_is)
    (lines-last c.self.inside.rest.now (sym c.first_line_feed.ensures ∙ c.in-None.is)
    (sym c.is_empty.ensures ∙ c.if-is_empty.false))

pub returns-in-None-clause-goes : goal.returns-in-None-clause-goes
returns-in-None-clause-goes c =
    let last = lines-last c.self.inside.rest.now (sym c.first_line_feed.ensures ∙ c.in-None.is)
    (sym c.is_empty.ensures ∙ c.if-is_empty.false) in
    rw (← c.self.view_is) (record { on = λ _. (tt, tt, rw last (omega arith)); keeps = tt; rests = λ _. tt })
