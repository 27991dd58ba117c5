-- What an AVP is described as on one line: name, code, vendor, flags and value; of a group its members between braces.
use Rattle.std.specs.Prelude.{ℕ, zero, suc, Option, None, Some, List, ◌++◌, flat_map, codes}
use Rattle.dm_wire.specs.declared.avp.Avp.{Avp}
use Rattle.dm_wire.specs.Members.{members}
use Rattle.dm_wire.specs.Printed.{data_text}
use Rattle.dm_value.specs.declared.avp_type.AvpType.{AvpType}
use Rattle.dm_value.specs.declared.avp_type.AvpType.TheVariants.{Grouped}
use Rattle.dm_tables.specs.declared.def.AvpDef.{AvpDef}
use Rattle.dm_dict.specs.Rules.{definition}
use Rattle.dm_view.specs.View.{front_view, data_view, groups_shown}

-- the data of an AVP of this definition, by its type: of a group what groups are described as
abbrev pub typed_described : (List ℕ → List ℕ) → AvpType → AvpDef → List ℕ → List ℕ
typed_described groups Grouped f s = groups s
typed_described groups kind f s = data_view f s

-- data behind the front; in hexadecimal where the AVP isn't defined
abbrev pub data_described : (List ℕ → List ℕ) → Option AvpDef → List ℕ → List ℕ
data_described groups None s = codes " " ++ data_text s
data_described groups (Some f) s = typed_described groups f.kind f s

-- an AVP of this definition: name, code, vendor and flags (4.1), and the data behind them
abbrev pub defined_described : (List ℕ → List ℕ) → Option AvpDef → Avp → List ℕ
defined_described groups f a = front_view f a ++ data_described groups f a.bytes

-- an AVP of a group, behind a space and before `;`
abbrev pub member_described : (List ℕ → List ℕ) → List AvpDef → Avp → List ℕ
member_described groups avps a = codes " " ++ defined_described groups (definition avps a) a ++ codes ";"

-- the members of a group between braces; in hexadecimal where the octets are no AVPs one after the other (4.4)
abbrev pub members_described : (Avp → List ℕ) → List ℕ → Option (List Avp) → List ℕ
members_described member s None = codes " wrong length " ++ data_text s
members_described member s (Some l) = codes " {" ++ flat_map member l ++ codes " }"

-- a group, where n groups may stand inside each other, itself counted: with none left in hexadecimal
abbrev pub group_described : ℕ → List AvpDef → List ℕ → List ℕ
group_described zero avps s = codes " too deep " ++ data_text s
group_described (suc n) avps s = members_described (member_described (group_described n avps) avps) s (members s)

-- an AVP, with as many groups inside each other by their members as a message shows
unfoldable pub avp_described : List AvpDef → Avp → List ℕ
avp_described avps a = defined_described (group_described groups_shown avps) (definition avps a) a
