-- What a message is shown as: a line for its header, and one for each AVP, those of a group below it, two spaces
-- further in.
use Rattle.std.specs.Prelude.{ℕ, ℤ, zero, suc, ◌+◌, false, if◌then◌else◌, Option, None}
use Rattle.std.specs.Prelude.{Some, option_map, List, [], ◌∷◌, ◌++◌, find, flat_map, codes}
use Rattle.std.specs.Fmt.{decimal, signed_decimal}
use Rattle.hex.specs.Hex.{encode_lower}
use Rattle.dm_wire.specs.declared.avp.Avp.{Avp}
use Rattle.dm_wire.specs.declared.message.Header.{Header}
use Rattle.dm_wire.specs.declared.message.Message.{Message}
use Rattle.dm_wire.specs.Members.{members}
use Rattle.dm_wire.specs.Printed.{avp_front_text, data_text}
use Rattle.dm_wire.specs.Spelling.{be}
use Rattle.dm_value.specs.declared.avp_type.AvpType.{AvpType}
use Rattle.dm_value.specs.declared.avp_type.AvpType.TheVariants.{Grouped}
use Rattle.dm_value.specs.declared.fault.ValueFault.{ValueFault}
use Rattle.dm_value.specs.declared.fault.ValueFault.TheVariants.{WrongLength}
use Rattle.dm_value.specs.declared.value.Value.{Value}
use Rattle.dm_value.specs.declared.value.Value.TheVariants.{Bytes, Text, Enumerated}
use Rattle.dm_value.specs.Flaws.{flaw}
use Rattle.dm_value.specs.Printed.{name_text, value_text}
use Rattle.dm_value.specs.ValueIn.{value_in}
use Rattle.dm_tables.specs.declared.def.AvpDef.{AvpDef}
use Rattle.dm_tables.specs.declared.def.CommandDef.{CommandDef}
use Rattle.dm_tables.specs.declared.values.EnumValue.{EnumValue}
use Rattle.dm_tables.specs.Definitions.{Definitions, is_headed}
use Rattle.dm_tables.specs.Listed.{has_number}
use Rattle.dm_dict.specs.Rules.{definition}
use Rattle.dm_view.specs.Words.{quoted, indented}

-- a value that an Enumerated lists by its name, with its number; another one by its number (4.3.1)
abbrev pub listed_text : Option (List ℕ) → ℤ → List ℕ
listed_text None n = signed_decimal n
listed_text (Some name) n = name_text name ++ codes " (" ++ signed_decimal n ++ codes ")"

-- a value, of an AVP that lists these
abbrev pub value_view : List EnumValue → Value → List ℕ
value_view values (Bytes octets) = data_text octets
value_view values (Text text) = quoted text
value_view values (Enumerated n) = listed_text (option_map (λ v. v.name) (find (has_number n) values)) n
value_view values v = value_text v

-- what is wrong with data that has no value
abbrev pub flaw_words : ValueFault → List ℕ
flaw_words WrongLength = codes "wrong length"
flaw_words _ = codes "wrong value"

-- data that has no value, in hexadecimal, behind what is wrong with it
abbrev pub data_view_by : Option ValueFault → AvpDef → List ℕ → List ℕ
data_view_by None f s = codes " " ++ value_view f.values (value_in f.kind s)
data_view_by (Some fault) f s = codes " " ++ flaw_words fault ++ codes " " ++ data_text s

-- the data of an AVP of this definition that is no group
unfoldable pub data_view : AvpDef → List ℕ → List ℕ
data_view f s = data_view_by (flaw f.kind s) f s

-- `?` stands for a name that isn't defined
abbrev pub avp_name : Option AvpDef → List ℕ
avp_name None = codes "?"
avp_name (Some f) = name_text f.name

-- name, code, vendor and flags (4.1)
unfoldable pub front_view : Option AvpDef → Avp → List ℕ
front_view f a = avp_name f ++ codes " " ++ avp_front_text a

-- the data behind the front, and the end of the line; of a group its members
abbrev pub kind_view : (List ℕ → List ℕ) → AvpType → AvpDef → List ℕ → List ℕ
kind_view groups Grouped f s = groups s
kind_view groups kind f s = data_view f s ++ 10 ∷ []

abbrev pub behind_view : (List ℕ → List ℕ) → Option AvpDef → List ℕ → List ℕ
behind_view groups None s = codes " " ++ data_text s ++ 10 ∷ []
behind_view groups (Some f) s = kind_view groups f.kind f s

-- an AVP at this level
abbrev pub avp_view : (List ℕ → List ℕ) → ℕ → Option AvpDef → Avp → List ℕ
avp_view groups level f a = indented level ++ front_view f a ++ behind_view groups f a.bytes

abbrev pub avps_view_by : (List ℕ → List ℕ) → ℕ → List AvpDef → List Avp → List ℕ
avps_view_by groups level avps l = flat_map (λ a. avp_view groups level (definition avps a) a) l

-- the members of a group; in hexadecimal where the octets are no AVPs one after the other (4.4)
abbrev pub members_view : (List Avp → List ℕ) → List ℕ → Option (List Avp) → List ℕ
members_view inside s None = codes " wrong length " ++ data_text s ++ 10 ∷ []
members_view inside s (Some l) = 10 ∷ inside l

-- a group whose members stand at this level, where n groups may stand inside each other: with none left in hexadecimal
abbrev pub group_view : ℕ → ℕ → List AvpDef → List ℕ → List ℕ
group_view zero level avps s = codes " too deep " ++ data_text s ++ 10 ∷ []
group_view (suc n) level avps s =
    members_view (avps_view_by (group_view n (level + 1) avps) level avps) s (members s)

-- AVPs at this level, where n groups may stand inside each other
abbrev pub avps_view : ℕ → ℕ → List AvpDef → List Avp → List ℕ
avps_view n level avps l = avps_view_by (group_view n (level + 1) avps) level avps l

-- the command of a header's code, whatever the E bit says
abbrev pub command_of : Definitions → Header → Option CommandDef
command_of d h = find (is_headed h.command h.request false) d.commands

abbrev pub command_name : Option CommandDef → List ℕ
command_name None = codes "?"
command_name (Some c) = name_text c.name

-- the flags of a header in words (3)
abbrev pub flag_words : Header → List ℕ
flag_words h = (if h.request then codes " request" else codes " answer")
    ++ (if h.proxiable then codes " proxiable" else [])
    ++ (if h.error then codes " error" else []) ++ (if h.retransmit then codes " retransmitted" else [])

-- a number in decimal, and in hexadecimal
abbrev pub both_text : ℕ → List ℕ
both_text n = decimal n ++ codes " (0x" ++ encode_lower (be n 4) ++ codes ")"

-- the line of a header: the command's name, code, flags, application and identifiers (3)
unfoldable pub header_view : Option CommandDef → Header → List ℕ
header_view c h = command_name c ++ codes " " ++ decimal h.command ++ flag_words h ++ codes ", application "
    ++ decimal h.application ++ codes ", hop-by-hop " ++ both_text h.hop_id ++ codes ", end-to-end "
    ++ both_text h.end_id
    ++ 10 ∷ []

-- how many groups inside each other are shown by their members
abbrev pub groups_shown : ℕ
groups_shown = 8

-- a message: its header, and its AVPs one level in
unfoldable pub message_view : Definitions → Message → List ℕ
message_view d m = header_view (command_of d m.header) m.header ++ avps_view groups_shown 1 d.avps m.avps
