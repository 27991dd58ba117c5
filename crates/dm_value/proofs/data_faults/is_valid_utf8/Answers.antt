-- The library's test, both ways.
use Rattle.std.proofs.Common.{◌≡◌, ℕ, Bool, true, false, List, refl, sym}
use Rattle.std.specs.Str.{IsUtf8, is_utf8}
use Rattle.std.proofs.lemmas.Str.{is_utf8-from_IsUtf8, IsUtf8-from_is_utf8}
use Rattle.dm_value.proofs.data_faults.is_valid_utf8.Goals as goal

not_text : (s : List ℕ) → (IsUtf8 s → ⊥) → is_utf8 s ≡ false
not_text s h = by (is_utf8 s) refl where
  by : (b : Bool) → is_utf8 s ≡ b → is_utf8 s ≡ false
  by true e = absurd (h (IsUtf8-from_is_utf8 s e))
  by false e = e

pub returns-in-Ok : goal.returns-in-Ok
returns-in-Ok c = sym (is_utf8-from_IsUtf8 _ c.in-Ok.ensures.cases.1)

pub returns-in-Err : goal.returns-in-Err
returns-in-Err c = sym (not_text _ c.in-Err.ensures.cases.0)
