use Rattle.std.proofs.Common.{◌≡◌, ◌∙◌, ◌++◌, ap, ◌∷◌, []}
use Rattle.dm_tables.specs.Sound.{is_sound_command}
use Rattle.dm_tables.proofs.Members.{next_def, moved}
use Rattle.dm_tables.proofs.tables.Tables.add_command_copies.Goals as goal

pub add_command-requires-clause-sound : goal.add_command-requires-clause-sound
add_command-requires-clause-sound c =
    (next_def is_sound_command c.loop-command.self.commands.items c.args.commands.now c.loop-command.command-index _
    c.in_ok-clone.field-0 c.loop-command-test.true (c.in_ok-clone.ensures.cases ∙ c.command-item.is)
    c.loop-command.invariant.sound).0

pub loop-command-preserved : goal.loop-command-preserved
loop-command-preserved c =
    let added : c.add_command.new.self.commands.items ≡ c.loop-command.self.commands.items ++
    c.in_ok-clone.field-0 ∷ [] = ap (λ d. d.commands) c.in_ok-add_command.ensures.added in
    let sound =
    (next_def is_sound_command c.loop-command.self.commands.items c.args.commands.now c.loop-command.command-index _
    c.in_ok-clone.field-0 c.loop-command-test.true (c.in_ok-clone.ensures.cases ∙ c.command-item.is)
    c.loop-command.invariant.sound).1 in
    record {
      tables = c.in_ok-add_command.ensures.tables;
      sound = rw added sound;
      commands = moved c.loop-command.self.commands.items c.add_command.new.self.commands.items
          (c.args.self.now.commands.items ++ c.args.commands.now) c.args.commands.now c.loop-command.command-index _
          c.in_ok-clone.field-0 c.loop-command-test.true (c.in_ok-clone.ensures.cases ∙ c.command-item.is)
          c.loop-command.invariant.commands added;
      avps = ap (λ d. d.avps) c.in_ok-add_command.ensures.added ∙ c.loop-command.invariant.avps;
      vendors = ap (λ d. d.vendors) c.in_ok-add_command.ensures.added ∙ c.loop-command.invariant.vendors;
    }
