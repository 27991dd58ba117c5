-- What a good verdict says of the AVPs: each that is defined has a value of its type.
use Rattle.std.specs.Prelude.{◌≡◌, ℕ, zero, suc, false, Option, None, Some, List, [], ◌∷◌}
use Rattle.dm_wire.specs.declared.avp.Avp.{Avp}
use Rattle.dm_wire.specs.declared.message.Message.{Message}
use Rattle.dm_value.specs.declared.avp_type.AvpType.{AvpType}
use Rattle.dm_value.specs.declared.avp_type.AvpType.TheVariants.{Grouped}
use Rattle.dm_value.specs.declared.value.Value.{Value}
use Rattle.dm_value.specs.Meaning.{Means}
use Rattle.dm_tables.specs.declared.def.AvpDef.{AvpDef}
use Rattle.dm_tables.specs.Definitions.{Definitions}
use Rattle.dm_dict.specs.Faults.{is_failed_avp, faults, first}
use Rattle.dm_wire.specs.Members.{members}
use Rattle.dm_dict.specs.Rules.{definition}
use Rattle.dm_dict.specs.Limits.{list_limit}

-- the data has a value of its type; that of a group is AVPs, and they are as `inside` says
abbrev pub IsTypedData : (List Avp → Type 0) → AvpType → List ℕ → Type 0
IsTypedData inside Grouped s = (l : List Avp) × (members s ≡ Some l) × inside l
IsTypedData inside kind s = (v : Value) × Means kind s v

-- an AVP of this definition; of one that isn't defined and of the data of Failed-AVP nothing is said
abbrev pub IsTypedAs : (List Avp → Type 0) → Avp → Option AvpDef → Type 0
IsTypedAs inside a None = Unit {0}
IsTypedAs inside a (Some f) = is_failed_avp a ≡ false → IsTypedData inside f.kind a.bytes

abbrev pub Each : {A : Type 0} → (A → Type 0) → List A → Type 0
Each P [] = Unit {0}
Each P (a ∷ l) = P a × Each P l

-- the AVPs of a list, those of their groups, and so on, n lists deep
abbrev pub AreTyped : ℕ → List AvpDef → List Avp → Type 0
AreTyped zero avps l = Unit {0}
AreTyped (suc n) avps l = Each (λ a. IsTypedAs (AreTyped n avps) a (definition avps a)) l

-- where nothing is wrong with a message, its AVPs and those of the eight groups inside each other have values
abbrev pub GoodIsTyped : Type 0
GoodIsTyped = (d : Definitions) (m : Message) → first (faults d m) ≡ None → AreTyped list_limit d.avps m.avps
