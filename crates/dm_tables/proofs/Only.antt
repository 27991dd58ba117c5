-- Among sound definitions the first that is asked for is the only one.
use Rattle.std.proofs.Common.{◌≡◌, ◌<◌, ◌+◌, ◌∙◌, ℕ, zero, suc, Bool, true, false, List, [], ◌∷◌, filter, find, length, get_or, nat_eq, ◌&&◌, Option, Some, rules, refl, ap, arith}
use Rattle.std.specs.Bool.{beq}
use Rattle.std.specs.List.{position_from}
use Rattle.std.specs.Option.{option_eq, option_to_list}
use Rattle.std.specs.Cmp.{IsEquivalence}
use Rattle.std.specs.Cmp.Rules.{comparing}
use Rattle.std.specs.Cmp.Lexicographic.{nat_list_eq_equiv}
use Rattle.dm_tables.specs.declared.def.VendorDef.{VendorDef}
use Rattle.dm_tables.specs.declared.def.AvpDef.{AvpDef}
use Rattle.dm_tables.specs.declared.def.CommandDef.{CommandDef}
use Rattle.dm_tables.specs.Definitions.{Definitions, is_vendor, is_named, is_coded, is_headed}
use Rattle.dm_tables.specs.Sound.{each_after, is_sound_vendor, is_sound_avp, is_sound_command, is_sound}
use Rattle.dm_tables.proofs.Members.{only_one}
use Rattle.dm_tables.specs.SoundParts.{vendor_sound_parts, avp_sound_parts, command_sound_parts, sound_parts}
use Rattle.dm_tables.specs.OneOfEach.{HasOneOfEach}

abbrev code_eq : ℕ × Option ℕ → ℕ × Option ℕ → Bool
code_eq a b = nat_eq a.0 b.0 && option_eq nat_eq a.1 b.1

code_laws : IsEquivalence code_eq
code_laws = search (comparing, rules)

abbrev head_eq : ℕ × Bool × Bool → ℕ × Bool × Bool → Bool
head_eq a b = (nat_eq a.0 b.0 && beq a.1 b.1) && beq a.2 b.2

head_laws : IsEquivalence head_eq
head_laws = search (comparing, rules)

pub one_vendor : (vendors : List VendorDef) (name : List ℕ) → each_after is_sound_vendor [] vendors ≡ true
    → filter (is_vendor name) vendors ≡ option_to_list (find (is_vendor name) vendors)
one_vendor vendors name h =
    only_one is_sound_vendor (λ v. is_vendor v.name) (is_vendor name) (λ before v s. (vendor_sound_parts before v s).new_name)
    (λ a b e. nat_list_eq_equiv.congr name a.name b.name e) [] vendors h

pub one_named : (avps : List AvpDef) (name : List ℕ) → each_after is_sound_avp [] avps ≡ true
    → filter (is_named name) avps ≡ option_to_list (find (is_named name) avps)
one_named avps name h =
    only_one is_sound_avp (λ a. is_named a.name) (is_named name) (λ before a s. (avp_sound_parts before a s).new_name)
    (λ a b e. nat_list_eq_equiv.congr name a.name b.name e) [] avps h

-- where none passes, none does at a place
none_left : {D : Type 0} (p : D → Bool) (ds : List D) (k : ℕ) (d : D) → k < length ds → p (get_or ds k d) ≡ true
    → filter p ds ≡ [] → ⊥
none_left p [] k d h t e = omega arith
none_left p (x ∷ ds) zero d h t e = let some : x ∷ filter p ds ≡ [] = rw t at e in cc
none_left p (x ∷ ds) (suc k) d h t e = by (p x) refl (none_left p ds k d (omega arith) t) where
  by : (b : Bool) → p x ≡ b → (filter p ds ≡ [] → ⊥) → ⊥
  by true q rest = let some : x ∷ filter p ds ≡ [] = rw q at e in cc
  by false q rest = rest (rw q at e)

-- the place of what passes is the first, where it is the only one
only_place : {D : Type 0} (p : D → Bool) (ds : List D) (j k : ℕ) (d : D) → k < length ds → p (get_or ds k d) ≡ true
    → filter p ds ≡ option_to_list (find p ds) → position_from p j ds ≡ Some (j + k)
only_place p [] j k d h t e = absurd (omega arith)
only_place p (x ∷ ds) j zero d h t e = let start : j ≡ j + 0 = omega arith in rw t (ap Some start)
only_place p (x ∷ ds) j (suc k) d h t e = by (p x) refl (only_place p ds (j + 1) k d (omega arith) t) where
  next : j + 1 + k ≡ j + suc k
  next = omega arith

  by : (b : Bool) → p x ≡ b
      → (filter p ds ≡ option_to_list (find p ds) → position_from p (j + 1) ds ≡ Some (j + 1 + k))
      → position_from p j (x ∷ ds) ≡ Some (j + suc k)
  by true q rest =
      let one : x ∷ filter p ds ≡ x ∷ [] = rw q at e in
      absurd (none_left p ds k d (omega arith) t (cc))
  by false q rest = rw q (rest (rw q at e) ∙ ap Some next)

pub one_coded : (avps : List AvpDef) (code : ℕ) (vendor : Option ℕ) → each_after is_sound_avp [] avps ≡ true
    → filter (is_coded code vendor) avps ≡ option_to_list (find (is_coded code vendor) avps)
one_coded avps code vendor h =
    only_one is_sound_avp (λ a. is_coded a.code a.vendor) (is_coded code vendor)
    (λ before a s. (avp_sound_parts before a s).new_code)
    (λ a b e. code_laws.congr (code, vendor) (a.code, a.vendor) (b.code, b.vendor) e) [] avps h

-- the place of a definition that has the code and vendor is what they find
pub coded_place : (avps : List AvpDef) (code : ℕ) (vendor : Option ℕ) (k : ℕ) (d : AvpDef)
    → each_after is_sound_avp [] avps ≡ true → k < length avps → is_coded code vendor (get_or avps k d) ≡ true
    → position_from (is_coded code vendor) 0 avps ≡ Some k
coded_place avps code vendor k d h b t =
    let from_zero : 0 + k ≡ k = omega arith in
    only_place (is_coded code vendor) avps 0 k d b t (one_coded avps code vendor h) ∙ ap Some from_zero

-- the place of a definition that has the name is what it finds
pub named_place : (avps : List AvpDef) (name : List ℕ) (k : ℕ) (d : AvpDef) → each_after is_sound_avp [] avps ≡ true
    → k < length avps → is_named name (get_or avps k d) ≡ true → position_from (is_named name) 0 avps ≡ Some k
named_place avps name k d h b t =
    let from_zero : 0 + k ≡ k = omega arith in
    only_place (is_named name) avps 0 k d b t (one_named avps name h) ∙ ap Some from_zero

pub one_headed : (commands : List CommandDef) (code : ℕ) (request err : Bool)
    → each_after is_sound_command [] commands ≡ true
    → filter (is_headed code request err) commands ≡ option_to_list (find (is_headed code request err) commands)
one_headed commands code request err h =
    only_one is_sound_command (λ c. is_headed c.code c.request c.err) (is_headed code request err)
    (λ before c s. (command_sound_parts before c s).new_head)
    (λ a b e. head_laws.congr (code, request, err) (a.code, a.request, a.err) (b.code, b.request, b.err) e) [] commands
    h

pub one_of_each : (d : Definitions) → is_sound d ≡ true → HasOneOfEach d
one_of_each d h =
    let parts = sound_parts d h in
    record {
      vendor = λ name. one_vendor d.vendors name parts.vendors;
      name = λ name. one_named d.avps name parts.avps;
      code = λ code vendor. one_coded d.avps code vendor parts.avps;
      head = λ code request err. one_headed d.commands code request err parts.commands;
    }
