use Rattle.dm_view_lines.proofs.OneWords.{one_word}
use Rattle.dm_view_lines.proofs.one_word.is_surely_one_long_word.Goals as goal

pub returns : goal.returns
returns c = λ is.
    one_word c.args.line.now (c.may_have_mark_or_prefix.ensures.mark c.if-may_have_mark_or_prefix.false)
    (c.may_have_mark_or_prefix.ensures.prefix c.if-may_have_mark_or_prefix.false)
    (c.has_surely_no_word_end.ensures is)
