-- Names are text.
use Rattle.std.specs.Prelude.{◌≡◌, true, All}
use Rattle.std.specs.Str.{IsUtf8}
use Rattle.dm_tables.specs.Definitions.{Definitions}
use Rattle.dm_tables.specs.Sound.{is_sound}

-- the names of vendors, AVPs, listed values and commands are UTF-8
pub record HasTextNames (d : Definitions) : Type 0 where
  pub vendors : All (λ v. IsUtf8 v.name) d.vendors
  pub avps : All (λ a. IsUtf8 a.name) d.avps
  pub values : All (λ a. All (λ v. IsUtf8 v.name) a.values) d.avps
  pub commands : All (λ c. IsUtf8 c.name) d.commands

abbrev pub NamesAreText : Type 0
NamesAreText = (d : Definitions) → is_sound d ≡ true → HasTextNames d
