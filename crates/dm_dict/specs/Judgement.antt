-- What was found first, as a fault and as a verdict.
use Rattle.std.specs.Prelude.{true, false, Option, None, Some, replicate}
use Rattle.dm_wire.specs.declared.avp.Avp.{Avp}
use Rattle.dm_dict.specs.declared.verdict.Verdict.{Verdict}
use Rattle.dm_dict.specs.declared.verdict.Verdict.TheVariants as verdict
use Rattle.dm_dict.specs.declared.judged.Judged.{Judged}
use Rattle.dm_dict.specs.declared.judged.Judged.TheVariants as judged
use Rattle.dm_dict.specs.declared.judged.Failed.{Failed}
use Rattle.dm_dict.specs.declared.judged.Failed.TheVariants.{Nothing, Found, Example}
use Rattle.dm_wire.specs.Borrowed.{avp_of}
use Rattle.dm_dict.specs.Faults.{Fault}

-- the verdict on a message with these faults: the first, or Good
abbrev pub verdict_of : Option Fault → Verdict
verdict_of None = verdict.Good
verdict_of (Some f) = verdict.Bad f.code f.failed

abbrev pub failed_of : Failed → Option Avp
failed_of Nothing = None
failed_of (Found avp) = Some (avp_of avp)
failed_of (Example code vendor zeros) =
    Some (record { code = code; vendor = vendor; mandatory = true; protected = false; bytes = replicate zeros 0 })

-- the fault that was found
abbrev pub shown : Judged → Option Fault
shown judged.Good = None
shown (judged.Bad code failed) = Some (record { code = code; failed = failed_of failed })
