-- Definitions without vendors and lists are printed as a text of version 1.
use Rattle.std.proofs.Common.{◌≡◌, ℕ, Bool, true, List, [], ◌∷◌, ◌++◌, codes, if◌then◌else◌, refl, ap, ◌∙◌, append_assoc, append-nil}
use Rattle.std.proofs.lemmas.Bool.{and_parts}
use Rattle.std.specs.List.{list_all, flat_map}
use Rattle.dm_tables.specs.declared.def.AvpDef.{AvpDef}
use Rattle.dm_tables.specs.Definitions.{Definitions}
use Rattle.dm_tables.specs.Sound.{is_grouped}
use Rattle.dm_dict_text.specs.Printed.{type_name, spaced, spaced_number, spaced_option, value_list_text, line_end, plain_line, group_line, avp_line, vendor_line, version_line, command_line, has_nothing, is_first_version, printed}
use Rattle.dm_dict_text.specs.FirstVersion.{first_plain_line, first_avp_line, first_printed}

none_is : {A : Type 0} (xs : List A) → has_nothing xs ≡ true → xs ≡ []
none_is [] h = refl
none_is (x ∷ xs) h = absurd cc

no_list : (a b c d e l n : List ℕ) → l ≡ [] → a ++ b ++ c ++ (d ++ e ++ l ++ n) ≡ a ++ b ++ c ++ d ++ e ++ n
no_list a b c d e l n none = rw none (simp (append_assoc, append-nil))

plain : (a : AvpDef) → has_nothing a.values ≡ true → plain_line a ≡ first_plain_line a
plain a h =
    no_list (codes "@ ") a.name (spaced_number a.code) (spaced (type_name a.kind)) (spaced_option a.vendor)
    (value_list_text a.values)
    line_end (ap value_list_text (none_is a.values h))

line : (a : AvpDef) → has_nothing a.values ≡ true → avp_line a ≡ first_avp_line a
line a h = λ i. if is_grouped a.kind then group_line a else plain a h i

lines : (avps : List AvpDef) → list_all (λ a. has_nothing a.values) avps ≡ true
    → flat_map avp_line avps ≡ flat_map first_avp_line avps
lines [] h = refl
lines (a ∷ avps) h =
    let (first, rest) = and_parts (has_nothing a.values) (list_all (λ x. has_nothing x.values) avps) h in
    λ i. line a first i ++ lines avps rest i

version : (b : Bool) (text vendors : List ℕ) → b ≡ true → vendors ≡ []
    → (if b then [] else codes "@ 2" ++ line_end) ++ vendors ++ text ≡ text
version b text vendors h none = rw (h, none) refl

three : (a b c d : List ℕ) → a ++ b ++ c ++ d ≡ a ++ b ++ (c ++ d)
three a b c d = append_assoc (a ++ b) c d

pub prints_first_version : (d : Definitions) → is_first_version d ≡ true → printed d ≡ first_printed d
prints_first_version d h =
    let (none, no_lists) = and_parts (has_nothing d.vendors) (list_all (λ a. has_nothing a.values) d.avps) h in
    three (version_line d) (flat_map vendor_line d.vendors) (flat_map avp_line d.avps)
    (flat_map command_line d.commands)
    ∙ version (is_first_version d) (flat_map avp_line d.avps ++ flat_map command_line d.commands)
    (flat_map vendor_line d.vendors) h (ap (flat_map vendor_line) (none_is d.vendors none))
    ∙ ap (λ t. t ++ flat_map command_line d.commands) (lines d.avps no_lists)
