use Rattle.std.proofs.Common.{◌++◌, ap, sym, ◌∙◌, append_assoc}
use Rattle.std.specs.Fmt.{decimal}
use Rattle.dm_tool.specs.Text.{fault_text}
use Rattle.dm_tool.proofs.message_text.push_message_fault_words.Goals as goal

pub returns-in_ok-push_decimal-in-AvpLength-clause-words :
    goal.returns-in_ok-push_decimal-in-AvpLength-clause-words
unfolding fault_text
returns-in_ok-push_decimal-in-AvpLength-clause-words c =
    c.in_ok-push_decimal-in-AvpLength.ensures
    ∙ ap (λ v. v ++ decimal c.in-AvpLength.offset) c.in_ok-extend_from_slice-in-AvpLength.ensures.items
    ∙ append_assoc c.args.text.now.items _ _
    ∙ ap (λ f. c.args.text.now.items ++ fault_text f) (sym c.in-AvpLength.is)
