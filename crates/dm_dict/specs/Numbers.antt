-- Which of its code and vendor an AVP is in its list, counted where a path wants it.
use Rattle.std.specs.Prelude.{◌≡◌, ℕ, Bool, true, false, ◌&&◌, nat_eq, Option, None, Some, List, length, filter}
use Rattle.std.specs.Option.{option_eq, unwrap_or}
use Rattle.std.specs.Map.{lookup}
use Rattle.dm_wire.specs.declared.avp.Avp.{Avp}
use Rattle.dm_value.specs.declared.avp_type.AvpType.{AvpType}
use Rattle.dm_value.specs.declared.avp_type.AvpType.TheVariants.{Grouped}
use Rattle.dm_tables.specs.declared.def.AvpDef.{AvpDef}
use Rattle.dm_dict.specs.declared.path.Path.{Path}
use Rattle.dm_dict.specs.Located.{is_alike}
use Rattle.dm_dict.specs.Rules.{definition}

-- the numbers of a code and vendor
abbrev pub is_key_of : ℕ → Option ℕ → (ℕ × Option ℕ) → Bool
is_key_of code vendor key = nat_eq code key.0 && option_eq nat_eq vendor key.1

-- how many of a code and vendor were counted
abbrev pub times_counted : List ((ℕ × Option ℕ) × ℕ) → ℕ → Option ℕ → ℕ
times_counted numbers code vendor = unwrap_or (lookup (is_key_of code vendor) numbers) 0

abbrev pub is_group_type : AvpType → Bool
is_group_type Grouped = true
is_group_type kind = false

-- a path wants the number of an AVP of this definition: that of a group, where paths are kept
abbrev pub is_wanted : Option Path → Option AvpDef → Bool
is_wanted None f = false
is_wanted (Some p) None = false
is_wanted (Some p) (Some f) = is_group_type f.kind

-- of each code and vendor whose number a path wants those of l were counted
abbrev pub AreNumbered : Option Path → List AvpDef → List Avp → List ((ℕ × Option ℕ) × ℕ) → Type 0
AreNumbered p avps l numbers = (a : Avp) → is_wanted p (definition avps a) ≡ true
    → times_counted numbers a.code a.vendor ≡ length (filter (λ b. is_alike b a) l)
