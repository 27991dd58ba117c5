use Rattle.std.proofs.Common.{nat_eq, ◌≡◌, ap, length, refl, ◌&&◌, [], ◌∷◌, ◌++◌}
use Rattle.std.specs.Bool.{beq}
use Rattle.std.specs.Cmp.Lexicographic.{pointwise}
use Rattle.dm_tables.specs.Tables.{head_key, defined}
use Rattle.dm_tables.specs.Sound.{is_sound_command}
use Rattle.dm_tables.proofs.Places.{on_ok, one_more}
use Rattle.dm_tables.proofs.Members.{each_after-append}
use Rattle.dm_tables.specs.SoundParts.{command_sound_parts, sound_parts, all_sound}
use Rattle.dm_tables.proofs.tables.Tables.add_command.Goals as goal

pub returns-clause-tables : goal.returns-clause-tables
returns-clause-tables c =
    let commands = c.args.self.now.commands.items in
    let parts = command_sound_parts commands c.args.command c.requires.sound in
    let had = c.requires.tables.indexed in
    let sound = sound_parts (defined c.args.self.now) c.requires.tables.sound in
    let last : length c.as_slice-place.result.now ≡ length commands = ap length c.as_slice-place.ensures.value in
    on_ok c.set_place_of_name-noted.result (λ noted. record {
      indexed = record {
        vendors = had.vendors;
        names = had.names;
        codes = had.codes;
        titles = rw (c.in_ok-push.ensures.items)
            (one_more (pointwise nat_eq) (λ d. d.name) _ _ _ _ commands c.args.command had.titles noted parts.new_name
            last c.as_slice.ensures);
        heads = rw (c.in_ok-push.ensures.items)
            (one_more (λ x y. (nat_eq x.0 y.0 && beq x.1 y.1) && beq x.2 y.2) head_key _ _ _ _ commands c.args.command
            had.heads c.in_ok-insert.ensures.entries parts.new_head last refl);
      };
      sound = rw (c.in_ok-push.ensures.items)
          (all_sound c.args.self.now.vendors.items.items c.args.self.now.avps.items (commands ++ c.args.command ∷ [])
          sound.vendors sound.avps
          (each_after-append is_sound_command [] commands c.args.command sound.commands c.requires.sound));
    }) c.set_place_of_name-noted.ensures
