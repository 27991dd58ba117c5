use Rattle.std.proofs.Common.{◌≡◌, ◌++◌, List, ℕ, length}
use Rattle.std.specs.String.{string_bytes}
use Rattle.hex.specs.Hex.{encode_lower}
use Rattle.dm_text.proofs.hexadecimal.put_hexadecimal.Given as goal

-- the octets that were passed are put
abbrev pub invariant-loop-rest : goal.invariant-loop-rest
invariant-loop-rest l =
    (passed : List ℕ) × (l.octets ≡ passed ++ l.rest)
    × (string_bytes l.text ≡ string_bytes l.initial.text ++ encode_lower passed)

abbrev pub decreases-loop-rest : goal.decreases-loop-rest
decreases-loop-rest l = length l.rest
