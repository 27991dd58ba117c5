-- What verdicts are printed as.
use Rattle.std.specs.Prelude.{ℕ, Option, None, Some, ◌++◌, List, [], codes}
use Rattle.std.specs.Fmt.{decimal}
use Rattle.dm_wire.specs.declared.avp.Avp.{Avp}
use Rattle.dm_wire.specs.Printed.{avp_text}
use Rattle.dm_dict.specs.declared.verdict.Verdict.{Verdict}
use Rattle.dm_dict.specs.declared.verdict.Verdict.TheVariants.{Good, Bad}

-- where there is a failed AVP, a space and the AVP
abbrev pub failed_text : Option Avp → List ℕ
failed_text None = []
failed_text (Some a) = codes " " ++ avp_text a

-- `good`, or `bad`, the Result-Code (RFC 6733, 7.1) and the failed AVP (7.5)
abbrev pub verdict_text : Verdict → List ℕ
verdict_text Good = codes "good"
verdict_text (Bad code failed) = codes "bad " ++ decimal code ++ failed_text failed
