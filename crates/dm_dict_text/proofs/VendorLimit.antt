-- No AVP of a dictionary has a vendor above 32 bits.
use Rattle.std.proofs.Common.{◌≡◌, ◌<◌, ◌≤◌, ℕ, Bool, true, false, ◌&&◌, nat_eq, List, [], ◌∷◌, ◌++◌, Option, Some, None, refl, ap, ◌∙◌, arith}
use Rattle.std.proofs.lemmas.Bool.{and_parts, ltb-true, leb-true, ne_eqb}
use Rattle.std.specs.List.{list_any}
use Rattle.std.specs.Option.{option_eq}
use Rattle.dm_grammar.specs.Items.{VendorReference}
use Rattle.dm_grammar.specs.Items.VendorReference.{NumberedBy, NamedBy}
use Rattle.dm_dict_text.specs.declared.fault.DictFault.{DictFault}
use Rattle.dm_tables.specs.declared.def.VendorDef.{VendorDef}
use Rattle.dm_tables.specs.declared.def.AvpDef.{AvpDef}
use Rattle.dm_tables.specs.Definitions.{is_coded}
use Rattle.dm_tables.specs.Sound.{each_after, is_sound_avp, option_fits_32_bits}
use Rattle.dm_dict_text.specs.Meaning.{number, vendor_of}
use Rattle.dm_dict_text.specs.Faults.{first_dict_fault, fault_if, is_taken, reference_faults}
use Rattle.dm_tables.specs.Limits.{number_limit}
use Rattle.dm_tables.specs.SoundParts.{avp_sound_parts}

and_false : (b : Bool) → (b && false) ≡ false
and_false true = refl
and_false false = refl

other : (v : ℕ) (vendor : Option ℕ) → number_limit < v → option_fits_32_bits vendor ≡ true → option_eq nat_eq (Some v) vendor ≡ false
other v None above e = refl
other v (Some u) above e =
    let small : u ≤ number_limit = leb-true u number_limit e in let apart : v ≡ u → ⊥ = λ same. omega arith in ne_eqb v u apart

no_such_vendor : (code v : ℕ) (before avps : List AvpDef) → number_limit < v → each_after is_sound_avp before avps ≡ true
    → list_any (is_coded code (Some v)) avps ≡ false
no_such_vendor code v before [] above sound = refl
no_such_vendor code v before (d ∷ ds) above sound =
    let (first, rest) = and_parts (is_sound_avp before d) (each_after is_sound_avp (before ++ d ∷ []) ds) sound in
    let here : is_coded code (Some v) d ≡ false = ap (λ b. nat_eq code d.code && b)
    (other v d.vendor above (avp_sound_parts before d first).vendor) ∙ and_false _ in
    rw here (no_such_vendor code v (before ++ d ∷ []) ds above rest)

above_limit : (b : Bool) (f g : DictFault) → first_dict_fault (fault_if b f) ≡ Some g → b ≡ true
above_limit true f g e = refl
above_limit false f g e = absurd cc

pub vendor_above : (code : ℕ) (vendors : List VendorDef) (vend : Option VendorReference) (avps : List AvpDef) (f : DictFault)
    → each_after is_sound_avp [] avps ≡ true → first_dict_fault (reference_faults vend) ≡ Some f
    → is_taken avps code (vendor_of vendors vend) ≡ false
vendor_above code vendors None avps f sound e = absurd cc
vendor_above code vendors (Some (NumberedBy w)) avps f sound e =
    no_such_vendor code (number w) [] avps (ltb-true number_limit (number w) (above_limit _ _ f e)) sound
vendor_above code vendors (Some (NamedBy w)) avps f sound e = absurd cc
