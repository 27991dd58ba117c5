-- Octets of a type say one thing: at most one value, and none where something is wrong with them.
use Rattle.std.specs.Prelude.{◌≡◌, ℕ, ◌≤◌, List, length}
use Rattle.dm_value.specs.declared.avp_type.AvpType.{AvpType}
use Rattle.dm_value.specs.declared.value.Value.{Value}
use Rattle.dm_value.specs.Columns.{least_length, HasWrongLength, HasWrongValue}
use Rattle.dm_value.specs.Meaning.{Means, type_of}

-- octets of a type have at most one value
abbrev pub OneValue : Type 0
OneValue = (kind : AvpType) (s : List ℕ) (v w : Value) → Means kind s v → Means kind s w → v ≡ w

-- a value is of one type
abbrev pub OneType : Type 0
OneType = (kind : AvpType) (s : List ℕ) (v : Value) → Means kind s v → kind ≡ type_of v

-- octets that have a value have no wrong length and no wrong value
abbrev pub NoValueRefused : Type 0
NoValueRefused = (kind : AvpType) (s : List ℕ) (v : Value) → Means kind s v →
    (HasWrongLength kind s → ⊥) × (HasWrongValue kind s → ⊥)

-- no octets below the least length have a value, and some of that length do
abbrev pub EachLeastLength : Type 0
EachLeastLength =
    (kind : AvpType) → ((s : List ℕ) (v : Value) → Means kind s v → least_length kind ≤ length s)
    × ((s : List ℕ) × (v : Value) × Means kind s v × (length s ≡ least_length kind))
