-- What has no flaw is UTF-8.
use Rattle.dm_value.specs.declared.avp_type.AvpType.TheVariants.{UTF8String}
use Rattle.dm_value.proofs.Flawed.{flaw_tells}
use Rattle.dm_value.proofs.read.read_text.Goals as goal

pub returns-in-Err-clause-memory : goal.returns-in-Err-clause-memory
returns-in-Err-clause-memory c =
    let told = (flaw_tells UTF8String c.args.octets.now (λ e. (cc))).1.1 (λ h. h) c.in-Err.ensures.cases.0 in
    absurd (cc (told, c.requires))
