-- The header is written, and the AVPs behind it.
use Rattle.std.proofs.Common.{◌≡◌, ◌∙◌, ◌++◌, rules, length, drop, ap}
use Rattle.dm_wire.specs.Canonical.{canonical_list}
use Rattle.dm_wire.proofs.Written.{list_room, list_written}
use Rattle.dm_wire.proofs.avp_and_header_octets.fill_with_message.Goals as goal

pub fill_with_avps-requires-clause-zero : goal.fill_with_avps-requires-clause-zero
fill_with_avps-requires-clause-zero c =
    let header : length c.args.header.now ≡ 20 = search rules in
    list_room c.copy_from_slice.new.self c.args.room.now 20 (length (canonical_list c.args.avps.now))
    (ap length c.copy_from_slice.ensures.after ∙ header) c.requires.zero

pub returns : goal.returns
returns c =
    let header : length c.args.header.now ≡ 20 = search rules in
    let size = ap length c.copy_from_slice.ensures.after ∙ header in
    list_written c.copy_from_slice.new.self (drop 20 c.args.room.now) c.fill_with_avps.new.room 20 size
    ∙ ap (λ h. h ++ c.fill_with_avps.new.room) c.copy_from_slice.ensures.after
    ∙ ap (λ l. c.args.header.now ++ l) c.fill_with_avps.ensures
