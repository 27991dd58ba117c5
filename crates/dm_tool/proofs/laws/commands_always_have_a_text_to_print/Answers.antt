use Rattle.std.proofs.Common.{true, false}
use Rattle.dm_tables.specs.Base.{base_definitions}
use Rattle.dm_dict_text.specs.OneOutcome.{SomeOutcome}
use Rattle.dm_tool.specs.declared.choice.Choice.TheVariants.{Show, Check, Build, Replay}
use Rattle.dm_tool.specs.Show.{show_answer}
use Rattle.dm_tool.specs.Check.{check_answer}
use Rattle.dm_replay.specs.OneReplay.{SomeReplay}
use Rattle.dm_tool.specs.OneText.{SomeText}
use Rattle.dm_tool.proofs.SomeShown.{some_shown, some_checked}
use Rattle.dm_tool.proofs.SomeBuilt.{WrittenLaws, some_built}
use Rattle.dm_tool.proofs.laws.commands_always_have_a_text_to_print.Goals as goal

some : WrittenLaws → SomeOutcome → SomeReplay → SomeText
some written outcome replay Show = some_shown written.message_or_fault show_answer
some written outcome replay (Check false) = some_shown written.message_or_fault (check_answer base_definitions)
some written outcome replay (Check true) = some_checked written.message_or_fault outcome base_definitions
some written outcome replay Build = some_built written
some written outcome replay Replay = replay

pub returns : goal.returns
returns c =
    some (record {
      message_or_fault = c.octets_spell_message_or_have_fault.ensures;
      canonical_spells = c.canonical_octets_spell_message.ensures;
      reads_back = c.encoded_messages_read_back.ensures;
      equal_messages = c.equal_messages_are_the_same.ensures;
      no_message_refused = c.octets_of_messages_have_no_fault.ensures;
      joined = c.joined_lines_have_joined_content.ensures;
    }) c.each_text_defines_or_has_fault.ensures c.each_text_has_a_replay.ensures.replay
