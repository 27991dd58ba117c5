use Rattle.std.proofs.Common.{◌≡◌, ◌∙◌, ◌++◌, ap, []}
use Rattle.dm_tables.specs.Base.{base_avps, base_commands}
use Rattle.dm_tables.proofs.BaseSound.{avp_rows_sound, command_rows_sound, both_base}
use Rattle.dm_tables.proofs.base.add_base_definitions.Goals as goal

pub add_avp_rows-requires-clause-sound : goal.add_avp_rows-requires-clause-sound
add_avp_rows-requires-clause-sound c = avp_rows_sound _ _ (ap (λ d. d.avps) c.requires.empty) c.avp_rows.ensures

pub add_command_rows-requires-clause-sound : goal.add_command_rows-requires-clause-sound
add_command_rows-requires-clause-sound c =
    command_rows_sound _ _
    (c.in_ok-add_avp_rows.ensures.commands ∙ ap (λ d. d.commands) c.requires.empty) c.command_rows.ensures

pub returns-clause-base : goal.returns-clause-base
returns-clause-base c =
    let none : c.args.tables.now.avps.items ≡ [] = ap (λ d. d.avps) c.requires.empty in
    let no_command : c.add_avp_rows.new.tables.commands.items ≡ [] = c.in_ok-add_avp_rows.ensures.commands ∙ ap
    (λ d. d.commands) c.requires.empty in
    let avps : c.add_command_rows.new.tables.avps.items ≡ base_avps =
    c.in_ok-add_command_rows.ensures.avps ∙ c.in_ok-add_avp_rows.ensures.avps ∙ (λ i. none i ++ c.avp_rows.ensures i) in
    let commands : c.add_command_rows.new.tables.commands.items ≡ base_commands =
    c.in_ok-add_command_rows.ensures.commands ∙ (λ i. no_command i ++ c.command_rows.ensures i) in
    let vendors : c.add_command_rows.new.tables.vendors.items.items ≡ [] =
    c.in_ok-add_command_rows.ensures.vendors ∙ c.in_ok-add_avp_rows.ensures.vendors ∙ ap
    (λ d. d.vendors) c.requires.empty in
    both_base _ _ _ vendors avps commands
