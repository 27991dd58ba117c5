use Rattle.dm_view_lines.proofs.OneSaid.{one_styled}
use Rattle.dm_view_lines.proofs.laws.lines_have_at_most_one_report.Goals as goal

pub returns : goal.returns
returns c =
    one_styled (record {
      one_message = c.octets_begin_with_one_message_at_most.ensures;
      one_refusal = c.octets_have_at_most_one_fault.ensures;
      no_message_refused = c.octets_of_messages_have_no_fault.ensures;
    })
