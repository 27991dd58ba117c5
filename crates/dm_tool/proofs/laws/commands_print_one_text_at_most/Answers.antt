use Rattle.std.proofs.Common.{true, false}
use Rattle.dm_tables.specs.Base.{base_definitions}
use Rattle.dm_tool.specs.declared.choice.Choice.TheVariants.{Show, Check, Build, Replay}
use Rattle.dm_tool.specs.Show.{show_answer}
use Rattle.dm_tool.specs.Check.{check_answer}
use Rattle.dm_text.specs.Joined.{ContentIsJoined}
use Rattle.dm_replay.specs.OneReplay.{OneReplay}
use Rattle.dm_tool.specs.OneText.{OneText}
use Rattle.dm_tool.proofs.OneShown.{OctetLaws, one_text}
use Rattle.dm_tool.proofs.OneChecked.{DefinitionLaws, one_checked}
use Rattle.dm_tool.proofs.OneBuilt.{one_built}
use Rattle.dm_tool.proofs.laws.commands_print_one_text_at_most.Goals as goal

one : OctetLaws → DefinitionLaws → ContentIsJoined → OneReplay → OneText
one octets definitions joined replay Show = one_text octets show_answer
one octets definitions joined replay (Check false) = one_text octets (check_answer base_definitions)
one octets definitions joined replay (Check true) = one_checked octets definitions base_definitions
one octets definitions joined replay Build = one_built joined
one octets definitions joined replay Replay = replay

pub returns : goal.returns
returns c =
    one
    (record {
      one_message = c.octets_begin_with_one_message_at_most.ensures;
      one_refusal = c.octets_have_at_most_one_fault.ensures;
      no_message_refused = c.octets_of_messages_have_no_fault.ensures;
    })
    (record {
      one_definition = c.each_text_defines_one_dictionary_at_most.ensures;
      one_fault = c.each_text_has_one_first_fault_at_most.ensures;
      no_definition_refused = c.defining_texts_have_no_fault.ensures;
    })
    c.joined_lines_have_joined_content.ensures c.one_reading_and_replay_at_most.ensures.replay
