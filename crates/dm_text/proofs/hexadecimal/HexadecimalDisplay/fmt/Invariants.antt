use Rattle.std.proofs.Common.{◌≡◌, ◌++◌, List, ℕ, length}
use Rattle.std.specs.Fmt.{HasWritten, IsPlainFormatter}
use Rattle.hex.specs.Hex.{encode_lower}
use Rattle.dm_text.proofs.hexadecimal.HexadecimalDisplay.fmt.Given as goal

-- the octets that were passed are written
abbrev pub invariant-loop-rest : goal.invariant-loop-rest
invariant-loop-rest g l =
    (passed : List ℕ) × (l.fn.self.0.now ≡ passed ++ l.rest)
    × (IsPlainFormatter l.fn.f → HasWritten g.W.Write.write_str_gives l.fn.f (encode_lower passed) l.f)

abbrev pub decreases-loop-rest : goal.decreases-loop-rest
decreases-loop-rest g l = length l.rest
