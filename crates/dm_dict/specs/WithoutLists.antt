-- Dictionaries whose Enumerated AVPs have no lists, so that a value that a list leaves out passes (own).
use Rattle.std.specs.Prelude.{◌≡◌, Bool, false, not, ◌&&◌, nat_eq, Option, None, Some, List, [], map, filter}
use Rattle.dm_wire.specs.declared.avp.Avp.{Avp}
use Rattle.dm_wire.specs.declared.message.Message.{Message}
use Rattle.dm_tables.specs.declared.def.AvpDef.{AvpDef}
use Rattle.dm_tables.specs.Definitions.{Definitions}
use Rattle.dm_dict.specs.Codes.{invalid_avp_value}
use Rattle.dm_dict.specs.Faults.{Fault, is_left_out, faults}
use Rattle.dm_dict.specs.Rules.{definition}

-- the definition without its list of values
abbrev pub without_list : AvpDef → AvpDef
without_list f = record f { values = [] }

abbrev pub without_lists : Definitions → Definitions
without_lists d = record d { avps = map without_list d.avps }

-- the AVP is an Enumerated whose definition has a list, and the list leaves its value out
abbrev pub is_unlisted_as : Avp → Option AvpDef → Bool
is_unlisted_as a None = false
is_unlisted_as a (Some f) = is_left_out f.kind f.values a.bytes

abbrev pub is_unlisted_avp : List AvpDef → Option Avp → Bool
is_unlisted_avp avps None = false
is_unlisted_avp avps (Some a) = is_unlisted_as a (definition avps a)

-- a fault that a list makes: 5004 at an AVP whose value its list leaves out
abbrev pub is_list_fault : List AvpDef → Fault → Bool
is_list_fault avps f = nat_eq f.code invalid_avp_value && is_unlisted_avp avps f.failed

-- without lists a message has just the faults that no list makes, in the same order
abbrev pub OpenDiffersInListsAlone : Type 0
OpenDiffersInListsAlone =
    (d : Definitions) (m : Message)
    → faults (without_lists d) m ≡ filter (λ f. not (is_list_fault d.avps f)) (faults d m)
