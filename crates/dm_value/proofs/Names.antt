-- What an identity or a URI is printed as.
use Rattle.std.proofs.Common.{◌≡◌, ℕ, Bool, true, false, List, refl, sym, ap, ◌∙◌, cond}
use Rattle.std.specs.Str.{IsUtf8, is_utf8}
use Rattle.std.proofs.lemmas.Str.{is_utf8-from_IsUtf8, IsUtf8-from_is_utf8}
use Rattle.hex.specs.Hex.{encode_lower}
use Rattle.dm_value.specs.Printed.{name_text}

pub name-is-text : (name octets text : List ℕ) → octets ≡ name → text ≡ octets → IsUtf8 octets → text ≡ name_text name
name-is-text name octets text e f h =
    f ∙ sym (ap (λ b. cond b octets (encode_lower octets)) (is_utf8-from_IsUtf8 octets h)) ∙ ap name_text e

pub name-is-hex : (name octets : List ℕ) → octets ≡ name → (IsUtf8 octets → ⊥) → encode_lower name ≡ name_text name
name-is-hex name octets e h = rw (← e) (by (is_utf8 octets) refl)
  where
    by : (b : Bool) → is_utf8 octets ≡ b → encode_lower octets ≡ cond b octets (encode_lower octets)
    by true is = absurd (h (IsUtf8-from_is_utf8 octets is))
    by false is = refl
