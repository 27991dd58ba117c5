use Rattle.std.proofs.Common.{arith}
use Rattle.std.proofs.lemmas.Fmt.{decimal_is_IsNumeral}
use Rattle.dm_text.proofs.laws.decimal_text_reads_back.Goals as goal

pub returns : goal.returns
returns c = λ n fits. let told = decimal_is_IsNumeral n (omega (arith, fits)) in (told.0, told.1, fits)
