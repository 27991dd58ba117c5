-- Digits are ASCII.
use Rattle.std.proofs.Common.{ℕ, List, zero, suc, arith}
use Rattle.std.proofs.lemmas.Str.{IsUtf8-from_ascii}
use Rattle.std.specs.Str.{IsAscii, IsUtf8}
use Rattle.hex.specs.Hex.{encode_lower, lower_digits}
use Rattle.hex.proofs.HexLemmas.{IsAscii-encode_with}

-- each of the sixteen digits is ASCII
digits_are_ascii : IsAscii lower_digits
digits_are_ascii zero = omega arith
digits_are_ascii (suc zero) = omega arith
digits_are_ascii (suc (suc zero)) = omega arith
digits_are_ascii (suc (suc (suc zero))) = omega arith
digits_are_ascii (suc (suc (suc (suc zero)))) = omega arith
digits_are_ascii (suc (suc (suc (suc (suc zero))))) = omega arith
digits_are_ascii (suc (suc (suc (suc (suc (suc zero)))))) = omega arith
digits_are_ascii (suc (suc (suc (suc (suc (suc (suc zero))))))) = omega arith
digits_are_ascii (suc (suc (suc (suc (suc (suc (suc (suc zero)))))))) = omega arith
digits_are_ascii (suc (suc (suc (suc (suc (suc (suc (suc (suc zero))))))))) = omega arith
digits_are_ascii (suc (suc (suc (suc (suc (suc (suc (suc (suc (suc zero)))))))))) = omega arith
digits_are_ascii (suc (suc (suc (suc (suc (suc (suc (suc (suc (suc (suc zero))))))))))) = omega arith
digits_are_ascii (suc (suc (suc (suc (suc (suc (suc (suc (suc (suc (suc (suc zero)))))))))))) = omega arith
digits_are_ascii (suc (suc (suc (suc (suc (suc (suc (suc (suc (suc (suc (suc (suc zero))))))))))))) = omega arith
digits_are_ascii (suc (suc (suc (suc (suc (suc (suc (suc (suc (suc (suc (suc (suc (suc zero)))))))))))))) = omega arith
digits_are_ascii (suc (suc (suc (suc (suc (suc (suc (suc (suc (suc (suc (suc (suc (suc (suc zero))))))))))))))) = omega arith
digits_are_ascii (suc (suc (suc (suc (suc (suc (suc (suc (suc (suc (suc (suc (suc (suc (suc (suc k)))))))))))))))) = omega arith

pub encoded_is_text : (octets : List ℕ) → IsUtf8 (encode_lower octets)
encoded_is_text octets = IsUtf8-from_ascii _ (IsAscii-encode_with lower_digits octets digits_are_ascii)
