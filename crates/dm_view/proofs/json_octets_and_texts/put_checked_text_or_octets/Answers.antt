use Rattle.std.proofs.Common.{◌≡◌, ℕ, List, Bool, true, false, refl}
use Rattle.std.specs.Str.{IsUtf8, is_utf8}
use Rattle.std.proofs.lemmas.Str.{is_utf8-from_IsUtf8, IsUtf8-from_is_utf8}
use Rattle.dm_view.proofs.json_octets_and_texts.put_checked_text_or_octets.Goals as goal

not_utf8 : (s : List ℕ) → (IsUtf8 s → ⊥) → is_utf8 s ≡ false
not_utf8 s h = by (is_utf8 s) refl
  where
    by : (b : Bool) → is_utf8 s ≡ b → b ≡ false
    by true is = absurd (h (IsUtf8-from_is_utf8 s is))
    by false is = refl

pub returns-in-Ok : goal.returns-in-Ok
returns-in-Ok c =
    let (same, utf8) = c.in-Ok.ensures.cases in
    rw (is_utf8-from_IsUtf8 _ utf8, ← same) c.put_string.ensures

pub returns-in-Err : goal.returns-in-Err
returns-in-Err c = rw (not_utf8 c.args.octets.now c.in-Err.ensures.cases.0) c.put_octets_object.ensures
