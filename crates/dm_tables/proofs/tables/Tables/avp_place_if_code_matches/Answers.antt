-- What stands there with the code and vendor is what they find.
use Rattle.std.proofs.Common.{◌≡◌, ◌<◌, true, [], nat_eq, rules, length, get_or, refl, ap, arith}
use Rattle.std.specs.Option.{option_eq}
use Rattle.dm_tables.specs.Definitions.{is_coded}
use Rattle.dm_tables.specs.Tables.{defined}
use Rattle.dm_tables.specs.Sound.{each_after, is_sound_avp}
use Rattle.dm_tables.proofs.Only.{coded_place}
use Rattle.dm_tables.specs.SoundParts.{sound_parts}
use Rattle.dm_tables.proofs.tables.Tables.avp_place_if_code_matches.Goals as goal

pub returns-then-eq-clause-found : goal.returns-then-eq-clause-found
returns-then-eq-clause-found c =
    let avps = c.args.self.now.avps.items in
    let place = c.args.place in
    let d = c.index-avps-place.result in
    let parts = sound_parts (defined c.args.self.now) c.requires.sound in
    let sound : each_after is_sound_avp [] avps ≡ true = parts.avps in
    let is : d ≡ get_or avps place d = rw c.as_slice-avps.ensures.value at c.index-avps-place.is in
    let below : place < length avps = omega (arith, ap length c.as_slice-avps.ensures.value, c.if-place-avps.false) in
    let code : nat_eq c.args.code d.code ≡ true = search rules in
    let vendor : option_eq nat_eq c.args.vendor d.vendor ≡ true = search rules in
    let test : is_coded c.args.code c.args.vendor d ≡ true = rw (code, vendor) refl in
    coded_place avps c.args.code c.args.vendor place d sound below (rw is at test)
