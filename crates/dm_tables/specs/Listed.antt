-- The values that an Enumerated AVP lists (RFC 6733, 4.3.1).
use Rattle.std.specs.Prelude.{ℤ, Bool, false, not, List, [], ◌∷◌}
use Rattle.std.specs.List.{list_any}
use Rattle.std.specs.Ordering.{int_eq}
use Rattle.dm_tables.specs.declared.values.EnumValue.{EnumValue}

abbrev pub has_number : ℤ → EnumValue → Bool
has_number n v = int_eq n v.number

-- there is a list, and the number isn't in it
abbrev pub is_unlisted : List EnumValue → ℤ → Bool
is_unlisted [] n = false
is_unlisted (v ∷ vs) n = not (list_any (has_number n) (v ∷ vs))
