-- A message that is spelled is read, or memory ran out; a fault is answered.
use Rattle.dm_wire.proofs.Messages.{only_spelled}
use Rattle.dm_wire.proofs.Reading.{by_cause, spelled_ok, refused, exactly}
use Rattle.dm_wire.specs.declared.fault.WireFault.TheVariants.{Length}
use Rattle.dm_wire.proofs.message.Message.decode.Goals as goal

pub returns-clause-only : goal.returns-clause-only
returns-clause-only c m sp = only_spelled c.read_message.result c.args.octets.now m c.read_message.ensures.found
    (by_cause c.read_message.result c.args.octets.now c.read_message.ensures.fault) sp

pub returns-clause-length : goal.returns-clause-length
returns-clause-length c =
    let s = c.args.octets.now in
    exactly c.read_message.result s Length (spelled_ok c.read_message.result s c.read_message.ensures.found)
    c.read_message.ensures.fault (λ e. cc)

pub returns-clause-refuses : goal.returns-clause-refuses
returns-clause-refuses c f h =
    let s = c.args.octets.now in
    refused c.read_message.result s f (spelled_ok c.read_message.result s c.read_message.ensures.found)
    c.read_message.ensures.fault h
