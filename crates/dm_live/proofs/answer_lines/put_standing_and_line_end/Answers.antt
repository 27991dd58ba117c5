use Rattle.std.proofs.Common.{append_assoc}
use Rattle.dm_live.specs.AnswerLines.{standing_words}
use Rattle.dm_live.proofs.answer_lines.put_standing_and_line_end.Goals as goal

pub returns : goal.returns
unfolding standing_words
returns c =
    rw (
      c.in_ok-push_str-2.ensures.bytes,
      c.in_ok-put_connection_if_held-2.ensures,
      c.in_ok-put_connection_if_held.ensures,
      c.in_ok-push_str.ensures.bytes,
      c.name.ensures,
      c.state.ensures.value,
      c.initiated.ensures,
      c.accepted.ensures,
    ) (simp append_assoc)
