use Rattle.std.proofs.Common.{nat_eq, ◌≡◌, ap, length, refl, ◌&&◌, [], ◌∷◌, ◌++◌}
use Rattle.std.specs.Option.{option_eq}
use Rattle.std.specs.Cmp.Lexicographic.{pointwise}
use Rattle.dm_tables.specs.Tables.{code_key, defined}
use Rattle.dm_tables.specs.Sound.{is_sound_avp}
use Rattle.dm_tables.proofs.Places.{on_ok, one_more}
use Rattle.dm_tables.proofs.Members.{each_after-append}
use Rattle.dm_tables.specs.SoundParts.{avp_sound_parts, sound_parts, all_sound}
use Rattle.dm_tables.proofs.tables.Tables.add_avp.Goals as goal

pub returns-clause-tables : goal.returns-clause-tables
returns-clause-tables c =
    let avps = c.args.self.now.avps.items in
    let parts = avp_sound_parts avps c.args.avp c.requires.sound in
    let had = c.requires.tables.indexed in
    let sound = sound_parts (defined c.args.self.now) c.requires.tables.sound in
    let last : length c.as_slice-place.result.now ≡ length avps = ap length c.as_slice-place.ensures.value in
    on_ok c.set_place_of_name-noted.result (λ noted. record {
      indexed = record {
        vendors = had.vendors;
        names = rw (c.in_ok-push.ensures.items)
            (one_more (pointwise nat_eq) (λ d. d.name) _ _ _ _ avps c.args.avp had.names noted parts.new_name last
            c.as_slice.ensures);
        codes = rw (c.in_ok-push.ensures.items)
            (one_more (λ x y. nat_eq x.0 y.0 && option_eq nat_eq x.1 y.1) code_key _ _ _ _ avps c.args.avp had.codes
            c.in_ok-insert.ensures.entries parts.new_code last refl);
        titles = had.titles;
        heads = had.heads;
      };
      sound = rw (c.in_ok-push.ensures.items)
          (all_sound c.args.self.now.vendors.items.items (avps ++ c.args.avp ∷ []) c.args.self.now.commands.items
          sound.vendors (each_after-append is_sound_avp [] avps c.args.avp sound.avps c.requires.sound) sound.commands);
    }) c.set_place_of_name-noted.ensures
