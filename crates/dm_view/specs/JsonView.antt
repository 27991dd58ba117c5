-- What a message is shown as in JSON: its header, and its AVPs by their types.
use Rattle.std.specs.Prelude.{ℕ, ℤ, zero, suc, is_some, if◌then◌else◌, Option, None, Some, option_map}
use Rattle.std.specs.Prelude.{List, [], ◌∷◌, find, codes}
use Rattle.dm_wire.specs.declared.avp.Avp.{Avp}
use Rattle.dm_wire.specs.declared.message.Header.{Header}
use Rattle.dm_wire.specs.declared.message.Message.{Message}
use Rattle.dm_wire.specs.Members.{members}
use Rattle.json.specs.Json.{Json, string, array, object, Items, no_items, item, Members, no_members, member}
use Rattle.dm_value.specs.declared.avp_type.AvpType.{AvpType}
use Rattle.dm_value.specs.declared.avp_type.AvpType.TheVariants.{Grouped}
use Rattle.dm_value.specs.declared.fault.ValueFault.{ValueFault}
use Rattle.dm_value.specs.declared.value.Value.{Value}
use Rattle.dm_value.specs.declared.value.Value.TheVariants.{Bytes, Int32, Int64, Uint32, Uint64, Addr, Time}
use Rattle.dm_value.specs.declared.value.Value.TheVariants.{Text, Identity, Uri, Enumerated, Group}
use Rattle.dm_value.specs.Dates.{from_1900, utc_at, utc_text}
use Rattle.dm_value.specs.Flaws.{flaw}
use Rattle.dm_value.specs.Printed.{value_text}
use Rattle.dm_value.specs.Times.{unix_time}
use Rattle.dm_value.specs.ValueIn.{value_in}
use Rattle.dm_tables.specs.declared.def.AvpDef.{AvpDef}
use Rattle.dm_tables.specs.declared.def.CommandDef.{CommandDef}
use Rattle.dm_tables.specs.declared.values.EnumValue.{EnumValue}
use Rattle.dm_tables.specs.Definitions.{Definitions}
use Rattle.dm_tables.specs.Listed.{has_number}
use Rattle.dm_dict.specs.Rules.{definition}
use Rattle.dm_view.specs.JsonWords.{number_json, signed_json, octets_member, octets_json, text_json, name_json}
use Rattle.dm_view.specs.JsonWords.{vendor_member, word_item}
use Rattle.dm_view.specs.View.{flaw_words, command_of, groups_shown}

-- a value of an Enumerated, and its name where it is listed (RFC 6733, 4.3.1)
abbrev pub listed_json : Option (List ℕ) → ℤ → Json
listed_json name n =
    object (member (codes "number") (signed_json n) (member (codes "name") (name_json name) no_members))

-- a time as its seconds since 1970, and its date
abbrev pub time_json : ℕ → Json
time_json t = object (member (codes "seconds") (signed_json (unix_time t))
    (member (codes "date") (string (utc_text (utc_at (from_1900 t)))) no_members))

-- a value, of an AVP that lists these: numbers as numbers, texts as texts
abbrev pub value_json : List EnumValue → Value → Json
value_json values (Bytes octets) = octets_json octets
value_json values (Int32 n) = signed_json n
value_json values (Int64 n) = signed_json n
value_json values (Uint32 n) = number_json n
value_json values (Uint64 n) = number_json n
value_json values (Addr address) = string (value_text (Addr address))
value_json values (Time t) = time_json t
value_json values (Text text) = string text
value_json values (Identity name) = text_json name
value_json values (Uri uri) = text_json uri
value_json values (Enumerated n) = listed_json (option_map (λ v. v.name) (find (has_number n) values)) n
value_json values (Group avps) = string (value_text (Group avps))

-- data that has no value, in hexadecimal beside what is wrong with it
abbrev pub flaw_json : List ℕ → List ℕ → Json
flaw_json words s = object (member (codes "flaw") (string words) (octets_member s))

abbrev pub data_json_by : Option ValueFault → AvpDef → List ℕ → Json
data_json_by None f s = value_json f.values (value_in f.kind s)
data_json_by (Some fault) f s = flaw_json (flaw_words fault) s

-- the data of an AVP of this definition that is no group
unfoldable pub data_json : AvpDef → List ℕ → Json
data_json f s = data_json_by (flaw f.kind s) f s

-- the flags of an AVP in words (4.1)
abbrev pub avp_words : Avp → Json
avp_words a = array (word_item (is_some a.vendor) (codes "vendor") (word_item a.mandatory (codes "mandatory")
    (word_item a.protected (codes "protected") no_items)))

-- name, code, vendor and flags (4.1), before more
abbrev pub front_members : Option AvpDef → Avp → Members → Members
front_members f a more = member (codes "name") (name_json (option_map (λ d. d.name) f))
    (member (codes "code") (number_json a.code) (vendor_member a.vendor (member (codes "flags") (avp_words a) more)))

-- the data of an AVP; of a group its members; of an AVP that isn't defined its octets
abbrev pub kind_json : (List ℕ → Json) → AvpType → AvpDef → List ℕ → Json
kind_json groups Grouped f s = groups s
kind_json groups kind f s = data_json f s

abbrev pub behind_json : (List ℕ → Json) → Option AvpDef → List ℕ → Json
behind_json groups None s = octets_json s
behind_json groups (Some f) s = kind_json groups f.kind f s

abbrev pub avp_json : (List ℕ → Json) → Option AvpDef → Avp → Json
avp_json groups f a = object (front_members f a (member (codes "value") (behind_json groups f a.bytes) no_members))

abbrev pub avps_items_by : (List ℕ → Json) → List AvpDef → List Avp → Items
avps_items_by groups avps [] = no_items
avps_items_by groups avps (a ∷ l) = item (avp_json groups (definition avps a) a) (avps_items_by groups avps l)

-- the members of a group; in hexadecimal where the octets are no AVPs one after the other (4.4)
abbrev pub members_json : (List Avp → Items) → List ℕ → Option (List Avp) → Json
members_json inside s None = flaw_json (codes "wrong length") s
members_json inside s (Some l) = array (inside l)

-- a group, where n groups may stand inside each other: with none left in hexadecimal
abbrev pub group_json : ℕ → List AvpDef → List ℕ → Json
group_json zero avps s = flaw_json (codes "too deep") s
group_json (suc n) avps s = members_json (avps_items_by (group_json n avps) avps) s (members s)

-- AVPs, where n groups may stand inside each other
abbrev pub avps_items : ℕ → List AvpDef → List Avp → Items
avps_items n avps l = avps_items_by (group_json n avps) avps l

abbrev pub command_json : Option CommandDef → Json
command_json c = name_json (option_map (λ d. d.name) c)

abbrev pub kind_words : Header → List ℕ
kind_words h = if h.request then codes "request" else codes "answer"

-- the flags of a header in words (3)
abbrev pub header_words : Header → Json
header_words h = array (item (string (kind_words h)) (word_item h.proxiable (codes "proxiable")
    (word_item h.error (codes "error") (word_item h.retransmit (codes "retransmitted") no_items))))

-- its application and identifiers (3)
abbrev pub identifiers : Header → Members
identifiers h = member (codes "application") (number_json h.application)
    (member (codes "hop_by_hop") (number_json h.hop_id) (member (codes "end_to_end") (number_json h.end_id) no_members))

-- a header: the command's name, code, flags, application and identifiers (3)
unfoldable pub header_json : Option CommandDef → Header → Json
header_json c h = object (member (codes "command") (command_json c)
    (member (codes "code") (number_json h.command) (member (codes "flags") (header_words h) (identifiers h))))

-- a message: its header and its AVPs, before more
abbrev pub message_members : Definitions → Message → Members → Members
message_members d m more = member (codes "header") (header_json (command_of d m.header) m.header)
    (member (codes "avps") (array (avps_items groups_shown d.avps m.avps)) more)
