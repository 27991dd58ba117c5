-- The tables of a dictionary: its definitions in order, and an index for each key.
use Rattle.std.specs.Prelude.{ℕ, ◌≡◌, ◌%◌, Bool, true, map, Option, None, Some, slice_get, slice_index, if◌then◌else◌}
use Rattle.dm_tables.specs.declared.tables.Tables.{Tables}
use Rattle.dm_tables.specs.declared.def.AvpDef.{AvpDef}
use Rattle.dm_tables.specs.declared.def.CommandDef.{CommandDef}
use Rattle.dm_tables.specs.Definitions.{Definitions, is_coded}
use Rattle.dm_tables.specs.Limits.{guess_slots}
use Rattle.dm_tables.specs.Positions.{places}
use Rattle.dm_tables.specs.Vendored.{IsVendored}
use Rattle.dm_tables.specs.Sound.{is_sound, is_closed}

abbrev pub defined : Tables → Definitions
defined t = record { vendors = t.vendors.items.items; avps = t.avps.items; commands = t.commands.items }

abbrev pub code_key : AvpDef → ℕ × Option ℕ
code_key d = (d.code, d.vendor)

abbrev pub head_key : CommandDef → ℕ × Bool × Bool
head_key c = (c.code, c.request, c.err)

-- each index has the keys of the definitions, in order, with their places
pub record IsIndexed (t : Tables) : Type 0 where
  pub vendors : IsVendored t.vendors
  pub names : map (λ e. (e.0.items, e.1)) t.names.entries ≡ places (λ d. d.name) 0 t.avps.items
  pub codes : t.codes.entries ≡ places code_key 0 t.avps.items
  pub titles : map (λ e. (e.0.items, e.1)) t.titles.entries ≡ places (λ c. c.name) 0 t.commands.items
  pub heads : t.heads.entries ≡ places head_key 0 t.commands.items

-- and the definitions are sound
pub record IsTables (t : Tables) : Type 0 where
  pub indexed : IsIndexed t
  pub sound : is_sound (defined t) ≡ true

-- and each entry names a definition
pub record IsDictionary (t : Tables) : Type 0 where
  pub tables : IsTables t
  pub closed : is_closed (defined t) ≡ true

-- what is guessed for a code and vendor: the place that is noted under the lowest bits of the code, where the
-- definition there has them
abbrev pub guess_at : ℕ → Option ℕ → ℕ → Option AvpDef → Option ℕ
guess_at code vendor place None = None
guess_at code vendor place (Some d) = if is_coded code vendor d then Some place else None

abbrev pub guessed : Tables → ℕ → Option ℕ → Option ℕ
guessed t code vendor =
    let place = slice_index t.guesses (code % guess_slots) in
    guess_at code vendor place (slice_get t.avps.items place)
