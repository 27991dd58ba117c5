use Rattle.std.proofs.Common.{◌∙◌, sym}
use Rattle.dm_tool.proofs.Dividing.{line-fed, line-last}
use Rattle.dm_tool.proofs.divide.first_line_len_or_rest.Goals as goal

pub returns-in-Some-clause-some : goal.returns-in-Some-clause-some
returns-in-Some-clause-some c = line-fed c.args.input.now c.in-Some.at (sym c.first_line_feed.ensures ∙ c.in-Some.is)

pub returns-in-None-clause-some : goal.returns-in-None-clause-some
returns-in-None-clause-some c =
    line-last c.args.input.now (sym c.first_line_feed.ensures ∙ c.in-None.is) (sym c.is_empty.ensures ∙ c.if-is_empty.false)
