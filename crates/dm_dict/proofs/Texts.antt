-- Names are letters, digits and hyphens, and so they are text.
use Rattle.std.proofs.Common.{◌≡◌, ◌<◌, ◌≤◌, ◌⊎◌, inl, inr, ℕ, Bool, true, false, ◌||◌, List, [], ◌∷◌, ◌++◌, All, nat_eq, true≢false, refl, sym, ◌∙◌, arith}
use Rattle.std.proofs.lemmas.Bool.{and_parts, leb-true, eqb-true}
use Rattle.std.proofs.lemmas.List.Elements.{All-nil, All-cons}
use Rattle.std.proofs.lemmas.Str.{IsUtf8-from_ascii}
use Rattle.std.proofs.lemmas.Str.Ascii.{IsAscii-from_all}
use Rattle.std.specs.Char.{is_ascii_alphanumeric}
use Rattle.std.specs.Int.{is_in_range}
use Rattle.std.specs.List.{list_all}
use Rattle.std.specs.Str.{IsUtf8}
use Rattle.dm_tables.specs.declared.def.AvpDef.{AvpDef}
use Rattle.dm_tables.specs.declared.def.CommandDef.{CommandDef}
use Rattle.dm_tables.specs.declared.def.VendorDef.{VendorDef}
use Rattle.dm_tables.specs.declared.values.EnumValue.{EnumValue}
use Rattle.dm_tables.specs.Sound.{each_after, is_proper_name, is_sound_avp, is_sound_command, is_sound_value, is_sound_vendor}
use Rattle.dm_dict.specs.Texts.{NamesAreText}

either : (a b : Bool) → (a || b) ≡ true → (a ≡ true) ⊎ (b ≡ true)
either true b e = inl refl
either false b e = inr e

in_range : (low high c : ℕ) → high < 128 → is_in_range low high c ≡ true → c < 128
in_range low high c few e =
    let most : c ≤ high = leb-true c high (and_parts _ _ e).1 in
    omega arith

letter_or_digit : (c : ℕ) → is_ascii_alphanumeric c ≡ true → c < 128
letter_or_digit c e = by (either _ _ e)
  where
    digit_or_capital : (is_in_range 48 57 c ≡ true) ⊎ (is_in_range 65 90 c ≡ true) → c < 128
    digit_or_capital (inl e) = in_range 48 57 c (omega arith) e
    digit_or_capital (inr e) = in_range 65 90 c (omega arith) e

    by : ((is_in_range 48 57 c || is_in_range 65 90 c) ≡ true) ⊎ (is_in_range 97 122 c ≡ true) → c < 128
    by (inl e) = digit_or_capital (either _ _ e)
    by (inr e) = in_range 97 122 c (omega arith) e

-- a letter, a digit or a hyphen
abbrev is_of_a_name : ℕ → Bool
is_of_a_name c = is_ascii_alphanumeric c || nat_eq c 45

of_a_name : (c : ℕ) → is_of_a_name c ≡ true → c < 128
of_a_name c e = by (either _ _ e)
  where
    by : (is_ascii_alphanumeric c ≡ true) ⊎ (nat_eq c 45 ≡ true) → c < 128
    by (inl e) = letter_or_digit c e
    by (inr e) = let hyphen = eqb-true c 45 e in omega arith

each_of_a_name : (s : List ℕ) → list_all is_of_a_name s ≡ true → All (λ c. c < 128) s
each_of_a_name [] e = All-nil (λ c. c < 128)
each_of_a_name (c ∷ s) e =
    let (here, rest) = and_parts _ _ e in
    All-cons (λ c. c < 128) c s (of_a_name c here) (each_of_a_name s rest)

proper_is_text : (s : List ℕ) → is_proper_name s ≡ true → IsUtf8 s
proper_is_text [] e = absurd (true≢false (sym e))
proper_is_text (c ∷ s) e =
    let (front, _) = and_parts _ _ e in
    let (first, rest) = and_parts _ _ front in
    let ascii = All-cons (λ c. c < 128) c s (letter_or_digit c first) (each_of_a_name s rest) in
    IsUtf8-from_ascii (c ∷ s) (IsAscii-from_all (c ∷ s) ascii)

-- what each definition is beside those before it, all of them are
all_after : {D : Type 0} (test : List D → D → Bool) (P : D → Type 0)
    → ((before : List D) (d : D) → test before d ≡ true → P d)
    → (before l : List D) → each_after test before l ≡ true → All P l
all_after test P good before [] e = All-nil P
all_after test P good before (d ∷ l) e =
    let (here, rest) = and_parts _ _ e in
    All-cons P d l (good before d here) (all_after test P good (before ++ d ∷ []) l rest)

avp_is_named : (before : List AvpDef) (d : AvpDef) → is_sound_avp before d ≡ true → IsUtf8 d.name
avp_is_named before d h = by (is_proper_name d.name) refl
  where
    by : (b : Bool) → is_proper_name d.name ≡ b → IsUtf8 d.name
    by true e = proper_is_text d.name e
    by false e = absurd (true≢false (sym h ∙ rw e refl))

command_is_named : (before : List CommandDef) (c : CommandDef) → is_sound_command before c ≡ true → IsUtf8 c.name
command_is_named before c h = by (is_proper_name c.name) refl
  where
    by : (b : Bool) → is_proper_name c.name ≡ b → IsUtf8 c.name
    by true e = proper_is_text c.name e
    by false e = absurd (true≢false (sym h ∙ rw e refl))

vendor_is_named : (before : List VendorDef) (v : VendorDef) → is_sound_vendor before v ≡ true → IsUtf8 v.name
vendor_is_named before v h = by (is_proper_name v.name) refl
  where
    by : (b : Bool) → is_proper_name v.name ≡ b → IsUtf8 v.name
    by true e = proper_is_text v.name e
    by false e = absurd (true≢false (sym h ∙ rw e refl))

value_is_named : (before : List EnumValue) (v : EnumValue) → is_sound_value before v ≡ true → IsUtf8 v.name
value_is_named before v h = by (is_proper_name v.name) refl
  where
    by : (b : Bool) → is_proper_name v.name ≡ b → IsUtf8 v.name
    by true e = proper_is_text v.name e
    by false e = absurd (true≢false (sym h ∙ rw e refl))

values_are_named : (before : List AvpDef) (d : AvpDef) → is_sound_avp before d ≡ true
    → All (λ v. IsUtf8 v.name) d.values
values_are_named before d h =
    let (listed, _) = and_parts _ _ h in
    let (_, values) = and_parts _ _ listed in
    all_after is_sound_value (λ v. IsUtf8 v.name) value_is_named [] d.values values

pub names_are_text : NamesAreText
names_are_text d sound =
    let (front, commands) = and_parts _ _ sound in
    let (vendors, avps) = and_parts _ _ front in
    record {
      vendors = all_after is_sound_vendor (λ v. IsUtf8 v.name) vendor_is_named [] d.vendors vendors;
      avps = all_after is_sound_avp (λ a. IsUtf8 a.name) avp_is_named [] d.avps avps;
      values = all_after is_sound_avp (λ a. All (λ v. IsUtf8 v.name) a.values) values_are_named [] d.avps avps;
      commands = all_after is_sound_command (λ c. IsUtf8 c.name) command_is_named [] d.commands commands;
    }
