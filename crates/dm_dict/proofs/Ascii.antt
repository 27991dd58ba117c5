-- Octets below 128 are text.
use Rattle.std.proofs.Common.{◌≡◌, ◌<◌, ◌≤◌, ℕ, true, List, [], ◌∷◌, All, arith}
use Rattle.std.proofs.lemmas.Bool.{and_parts, leb-true}
use Rattle.std.proofs.lemmas.List.Elements.{All-nil, All-cons}
use Rattle.std.proofs.lemmas.Str.{IsUtf8-from_ascii, is_utf8-from_IsUtf8}
use Rattle.std.proofs.lemmas.Str.Ascii.{IsAscii-from_all}
use Rattle.std.specs.Int.{is_in_range}
use Rattle.std.specs.List.{list_all}
use Rattle.std.specs.Str.{is_utf8}

each_below : (s : List ℕ) → list_all (is_in_range 0 127) s ≡ true → All (λ c. c < 128) s
each_below [] all = All-nil (λ c. c < 128)
each_below (c ∷ s) all =
    let (here, rest) = and_parts _ _ all in
    let most : c ≤ 127 = leb-true c 127 (and_parts _ _ here).1 in
    All-cons (λ x. x < 128) c s (omega (arith, most)) (each_below s rest)

pub ascii_is_text : (s : List ℕ) → list_all (is_in_range 0 127) s ≡ true → is_utf8 s ≡ true
ascii_is_text s all = is_utf8-from_IsUtf8 s (IsUtf8-from_ascii s (IsAscii-from_all s (each_below s all)))
