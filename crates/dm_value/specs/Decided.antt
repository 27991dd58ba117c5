-- Octets of a type say something: they have a value or a fault.
use Rattle.std.specs.Prelude.{◌≡◌, ℕ, ◌⊎◌, MatchOption, List}
use Rattle.dm_value.specs.declared.avp_type.AvpType.{AvpType}
use Rattle.dm_value.specs.declared.avp_type.AvpType.TheVariants.{Grouped}
use Rattle.dm_value.specs.declared.fault.ValueFault.{ValueFault}
use Rattle.dm_value.specs.declared.value.Value.{Value}
use Rattle.dm_value.specs.Columns.{RefusesData}
use Rattle.dm_value.specs.Flaws.{flaw}
use Rattle.dm_value.specs.Meaning.{Means}
use Rattle.dm_wire.specs.Octets.{AreOctets}

-- `flaw` answers for octets of a type: None where they have a value, else their fault. Only for a group does it matter
-- that the numbers are below 256
abbrev pub FlawDecides : Type 0
FlawDecides =
    (kind : AvpType) (s : List ℕ) → (kind ≡ Grouped → AreOctets s)
    → MatchOption (flaw kind s) ((v : Value) × Means kind s v) (λ fault. RefusesData kind s fault)

-- octets of a type have a value or a fault
abbrev pub ValueOrFault : Type 0
ValueOrFault = (kind : AvpType) (s : List ℕ) → AreOctets s →
    ((v : Value) × Means kind s v) ⊎ ((fault : ValueFault) × RefusesData kind s fault)
