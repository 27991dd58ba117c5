-- What stands at the front is passed, or handed out if it is a packet.
use Rattle.dm_capture.proofs.Handing.{none_more, packet_handed}
use Rattle.dm_capture.proofs.reader.CaptureReader.next.Goals as goal

pub returns-in-PacketRecord-clause-hands : goal.returns-in-PacketRecord-clause-hands
returns-in-PacketRecord-clause-hands c =
    let found = rw c.in-Ok-Some.field-0-is at c.in-Ok-Some.ensures in
    let is = rw c.in-Ok-Some.field-0-is at c.in-PacketRecord.is in
    let said = rw c.in-Ok-Some.field-0-is at c.take_packet.ensures in
    λ none. packet_handed _ c.items.self c.take_packet.new.self c.in-Ok-Some.found.size c.in-PacketRecord.stands
    c.take_packet.result c.items.invariant found.within.1 (rw is at found.item) said.packet said.passed said.err
    said.memory

pub items-preserved : goal.items-preserved
items-preserved c =
    let found = rw c.in-Ok-Some.field-0-is at c.in-Ok-Some.ensures in
    let other = rw c.in-Ok-Some.field-0-is at c.in_default-holds.not-PacketRecord in
    let done = rw c.in-Ok-Some.field-0-is at c.in_ok-note_and_pass_front_item-in_default-holds.ensures in
    none_more _ c.items.self c.note_and_pass_front_item.new.self c.in-Ok-Some.found.size c.in-Ok-Some.found.holds c.items.invariant
    found.within.1 found.item other done.passed
