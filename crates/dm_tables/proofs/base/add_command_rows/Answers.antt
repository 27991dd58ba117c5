use Rattle.std.proofs.Common.{◌≡◌, ◌∙◌, ap, ◌++◌, ◌∷◌, []}
use Rattle.dm_tables.specs.Rows.{row_command}
use Rattle.dm_tables.specs.Sound.{is_sound_command}
use Rattle.dm_tables.proofs.Members.{next_member, member_pushed}
use Rattle.dm_tables.proofs.base.add_command_rows.Goals as goal

pub add_command-requires-clause-sound : goal.add_command-requires-clause-sound
add_command-requires-clause-sound c =
    rw c.in_ok-command_of_row.ensures
    (next_member is_sound_command row_command c.loop-row.tables.commands.items c.args.rows.now c.loop-row.row-index _
    c.loop-row-test.true c.loop-row.invariant.sound).0

pub loop-row-preserved : goal.loop-row-preserved
loop-row-preserved c =
    let commands : c.add_command.new.self.commands.items ≡ c.loop-row.tables.commands.items ++
    c.in_ok-command_of_row.field-0 ∷ [] = ap (λ d. d.commands) c.in_ok-add_command.ensures.added in
    record {
      tables = c.in_ok-add_command.ensures.tables;
      sound = rw (commands, c.in_ok-command_of_row.ensures)
          (next_member is_sound_command row_command c.loop-row.tables.commands.items c.args.rows.now
          c.loop-row.row-index _ c.loop-row-test.true c.loop-row.invariant.sound).1;
      commands = commands ∙ (λ i. c.loop-row.invariant.commands i ++ c.in_ok-command_of_row.ensures i ∷ []) ∙
          member_pushed row_command c.args.tables.now.commands.items c.args.rows.now c.loop-row.row-index _
          c.loop-row-test.true;
      avps = ap (λ d. d.avps) c.in_ok-add_command.ensures.added ∙ c.loop-row.invariant.avps;
      vendors = ap (λ d. d.vendors) c.in_ok-add_command.ensures.added ∙ c.loop-row.invariant.vendors;
    }
