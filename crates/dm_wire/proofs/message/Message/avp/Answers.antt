use Rattle.dm_wire.proofs.Findings.{first_given}
use Rattle.dm_wire.specs.Finding.{is_of}
use Rattle.dm_wire.proofs.message.Message.avp.Goals as goal

-- src/avps_of_code.rt:54:5
pub returns : goal.returns
returns c =
    first_given (is_of c.args.code c.args.vendor) c.args.self.now.avps _ _ _ c.avps.ensures.all c.next.ensures.steps
