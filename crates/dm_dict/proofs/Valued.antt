-- Data without a fault has a value.
use Rattle.std.proofs.Common.{◌≡◌, Bool, true, false, Option, None, Some, List, [], ◌∷◌, ◌++◌, if◌then◌else◌, refl}
use Rattle.std.specs.Prelude.{MatchOption}
use Rattle.dm_wire.specs.declared.avp.Avp.{Avp}
use Rattle.dm_value.specs.declared.avp_type.AvpType.{AvpType}
use Rattle.dm_value.specs.declared.avp_type.AvpType.TheVariants.{Grouped}
use Rattle.dm_value.specs.declared.fault.ValueFault.{ValueFault}
use Rattle.dm_value.specs.declared.fault.ValueFault.TheVariants.{WrongLength, WrongValue, TooLong, NoMemory}
use Rattle.dm_value.specs.declared.value.Value.{Value}
use Rattle.dm_value.specs.Columns.{RefusesData}
use Rattle.dm_value.specs.Decided.{FlawDecides}
use Rattle.dm_wire.specs.Octets.{AreOctets}
use Rattle.dm_value.specs.Flaws.{flaw}
use Rattle.dm_value.specs.Meaning.{Means}
use Rattle.dm_dict.specs.Codes.{invalid_avp_value}
use Rattle.dm_tables.specs.declared.values.EnumValue.{EnumValue}
use Rattle.dm_dict.specs.Faults.{first, fault_with_avp, value_faults, is_left_out, unlisted_faults, data_faults, Fault}
use Rattle.dm_dict.specs.Typed.{IsTypedData}

valued : FlawDecides → (kind : AvpType) (a : Avp) → (kind ≡ Grouped → AreOctets a.bytes)
    → first (value_faults (flaw kind a.bytes) a) ≡ None → (v : Value) × Means kind a.bytes v
valued law kind a octets h = by (flaw kind a.bytes) (law kind a.bytes octets) h where
  by : (o : Option ValueFault) → MatchOption o ((v : Value) × Means kind a.bytes v) (λ f. RefusesData kind a.bytes f)
      → first (value_faults o a) ≡ None → (v : Value) × Means kind a.bytes v
  by None m g = m
  by (Some WrongLength) m g = absurd (cc)
  by (Some WrongValue) m g = absurd (cc)
  by (Some TooLong) m g = absurd m
  by (Some NoMemory) m g = absurd m

none_apart : (fs gs : List Fault) → first (fs ++ gs) ≡ None → (first fs ≡ None) × (first gs ≡ None)
none_apart [] gs h = (refl, h)
none_apart (f ∷ fs) gs h = absurd (cc)

not_left_out : (b : Bool) (a : Avp) → first (if b then fault_with_avp invalid_avp_value a else []) ≡ None → b ≡ false
not_left_out true a h = absurd (cc)
not_left_out false a h = refl

-- data of a type without a fault, and of its list; of a group what its faults say
pub typed_data : FlawDecides →
    (inside : List Avp → Type 0) (kind : AvpType) (values : List EnumValue) (g : List Fault) (a : Avp)
    → (first g ≡ None → IsTypedData inside Grouped a.bytes) → first (data_faults kind values g a) ≡ None
    → IsTypedData inside kind a.bytes × (is_left_out kind values a.bytes ≡ false)
typed_data law inside Grouped values g a group h = (group h, refl)
typed_data law inside kind values g a group h =
    let (flawless, listed) = none_apart (value_faults (flaw kind a.bytes) a) (unlisted_faults kind values a) h in
    (valued law kind a (λ e. absurd (cc)) flawless, not_left_out (is_left_out kind values a.bytes) a listed)
