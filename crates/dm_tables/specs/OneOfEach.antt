-- In a dictionary the first definition that is asked for is the only one.
use Rattle.std.specs.Prelude.{◌≡◌, ℕ, Bool, true, Option, List, filter, find}
use Rattle.std.specs.Option.{option_to_list}
use Rattle.dm_tables.specs.Definitions.{Definitions, is_vendor, is_named, is_coded, is_headed}
use Rattle.dm_tables.specs.Sound.{is_sound}

-- those that pass the test are the first of them
abbrev pub IsOnly : {D : Type 0} → (D → Bool) → List D → Type 0
IsOnly test ds = filter test ds ≡ option_to_list (find test ds)

-- one vendor of a name, one AVP of a name (3.2), one of a code and vendor (4.1), one command of a code with R and E
-- bits (3)
pub record HasOneOfEach (d : Definitions) : Type 0 where
  pub vendor : (name : List ℕ) → IsOnly (is_vendor name) d.vendors
  pub name : (name : List ℕ) → IsOnly (is_named name) d.avps
  pub code : (code : ℕ) (vendor : Option ℕ) → IsOnly (is_coded code vendor) d.avps
  pub head : (code : ℕ) (request err : Bool) → IsOnly (is_headed code request err) d.commands

abbrev pub OneOfEach : Type 0
OneOfEach = (d : Definitions) → is_sound d ≡ true → HasOneOfEach d
