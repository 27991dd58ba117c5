use Rattle.std.proofs.Common.{append_assoc}
use Rattle.dm_trace_view.proofs.counts.put_counts_line.Goals as goal

pub returns : goal.returns
returns c =
    rw (
      c.in_ok-put_number_and_words-8.ensures,
      c.in_ok-put_number_and_words-7.ensures,
      c.in_ok-put_number_and_words-6.ensures,
      c.in_ok-put_number_and_words-5.ensures,
      c.in_ok-put_number_and_words-4.ensures,
      c.in_ok-put_number_and_words-3.ensures,
      c.in_ok-put_number_and_words-2.ensures,
      c.in_ok-put_number_and_words.ensures,
      c.message_count.ensures,
    ) (simp append_assoc)
