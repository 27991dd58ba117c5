-- What stands there with the name is what it finds.
use Rattle.std.proofs.Common.{◌≡◌, ◌<◌, true, [], rules, length, get_or, ap, arith}
use Rattle.dm_tables.specs.Definitions.{is_named}
use Rattle.dm_tables.specs.Tables.{defined}
use Rattle.dm_tables.specs.Sound.{each_after, is_sound_avp}
use Rattle.dm_tables.proofs.Only.{named_place}
use Rattle.dm_tables.specs.SoundParts.{sound_parts}
use Rattle.dm_tables.proofs.tables.Tables.avp_place_if_name_matches.Goals as goal

pub returns-then-eq : goal.returns-then-eq
returns-then-eq c =
    let avps = c.args.self.now.avps.items in
    let place = c.from-place.result in
    let d = c.index-avps-place.result in
    let parts = sound_parts (defined c.args.self.now) c.requires.sound in
    let sound : each_after is_sound_avp [] avps ≡ true = parts.avps in
    let is : d ≡ get_or avps place d = rw c.as_slice-avps.ensures.value at c.index-avps-place.is in
    let below : place < length avps = omega (arith, ap length c.as_slice-avps.ensures.value, c.if-place-avps.true) in
    let test : is_named c.args.name.now d ≡ true = search rules in
    named_place avps c.args.name.now place d sound below (rw is at test)
