-- A message that is spelled is read, and a fault answered.
use Rattle.std.proofs.Common.{rules}
use Rattle.dm_wire.specs.declared.fault.WireFault.TheVariants.{Length}
use Rattle.dm_wire.proofs.Messages.{no_refusal}
use Rattle.dm_wire.proofs.Reading.{not_refused, refused_by}
use Rattle.dm_wire.proofs.message_ref.MessageRef.read.Goals as goal

pub returns-in_err-read-clause-only : goal.returns-in_err-read-clause-only
returns-in_err-read-clause-only c = λ m sp. not_refused _ c.from_residual.result c.args.octets.now m (search rules)
    (search rules) sp

pub returns-in_err-read-clause-refuses : goal.returns-in_err-read-clause-refuses
returns-in_err-read-clause-refuses c = λ f h. refused_by c.from_residual.result c.args.octets.now f (search rules)
    (search rules) h

pub returns-clause-length : goal.returns-clause-length
returns-clause-length c =
    (λ e. absurd (cc), λ h. absurd (let m = c.in_ok-read.ensures.found in no_refusal _ c.args.octets.now Length m.2 h))

pub returns-clause-refuses : goal.returns-clause-refuses
returns-clause-refuses c = λ f h. let m = c.in_ok-read.ensures.found in absurd (no_refusal _ c.args.octets.now f m.2 h)
