use Rattle.std.proofs.Common.{ap}
use Rattle.std.specs.Result.{result_ok}
use Rattle.hex.proofs.HexLemmas.{decode_of-encode_lower}
use Rattle.dm_text.proofs.laws.hexadecimal_reads_back.Goals as goal

pub returns : goal.returns
returns c = λ octets small. ap result_ok (decode_of-encode_lower octets small)
