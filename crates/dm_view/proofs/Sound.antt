-- What data with which nothing is wrong is made of.
use Rattle.std.proofs.Common.{rules, ◌≡◌, ◌<◌, ℕ, List, [], ◌∷◌, true, None, refl, arith}
use Rattle.std.proofs.lemmas.Str.{IsUtf8-from_ascii, IsUtf8-from_is_utf8}
use Rattle.std.proofs.lemmas.Str.Ascii.{IsAscii-from_all}
use Rattle.std.specs.List.{All, list_all}
use Rattle.std.specs.Bool.{MatchBool}
use Rattle.std.specs.Prelude.{Bool, false}
use Rattle.std.specs.Str.{IsAscii, IsNotAscii, IsUtf8}
use Rattle.dm_value.specs.Flaws.{is_visible, tested, flaw}
use Rattle.dm_value.specs.declared.avp_type.AvpType.TheVariants.{DiameterIdentity, UTF8String}

all_ascii : (s : List ℕ) → list_all is_visible s ≡ true → All (λ b. b < 128) s
all_ascii [] visible = search rules
all_ascii (b ∷ s) visible = grind (arith, all_ascii s)

-- an identity is visible ASCII
pub identity_is_text : (s : List ℕ) → flaw DiameterIdentity s ≡ None → IsUtf8 s
identity_is_text s sound = IsUtf8-from_ascii s (IsAscii-from_all s (all_ascii s (grind (arith, sound))))

-- what passes its test does
passed : (right : Bool) (s : List ℕ) → tested 0 right s ≡ None → right ≡ true
passed true s sound = refl
passed false s sound = grind (arith, sound)

pub words_are_text : (s : List ℕ) → flaw UTF8String s ≡ None → IsUtf8 s
words_are_text s sound = IsUtf8-from_is_utf8 s (passed _ s sound)

-- octets that are told to be ASCII
pub ascii_is_text : (told : Bool) (s : List ℕ) → MatchBool told (IsAscii s) (IsNotAscii s) → told ≡ true → IsUtf8 s
ascii_is_text true s ascii is = IsUtf8-from_ascii s ascii
ascii_is_text false s wide is = absurd (cc)
