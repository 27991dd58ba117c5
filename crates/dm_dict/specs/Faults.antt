-- What is wrong with a message under a dictionary: all its faults, in the order in which they are looked for. The codes
-- are those of RFC 6733, 7.1; the order and the limit on groups inside each other are this project's own.
use Rattle.std.specs.Prelude.{ℕ, suc, zero, Bool, true, false, not, ◌&&◌, ◌||◌, nat_eq}
use Rattle.std.specs.Prelude.{nat_lt, Option, None, Some, option_map, List, [], ◌∷◌, ◌++◌}
use Rattle.std.specs.Prelude.{length, find, flat_map, replicate, slice_get, if◌then◌else◌}
use Rattle.std.specs.Option.{option_eq}
use Rattle.std.specs.Int.{cast_signed, w32}
use Rattle.byteorder.specs.Endian.{big_number}
use Rattle.dm_wire.specs.declared.avp.Avp.{Avp}
use Rattle.dm_wire.specs.declared.message.Header.{Header}
use Rattle.dm_wire.specs.declared.message.Message.{Message}
use Rattle.dm_value.specs.declared.avp_type.AvpType.{AvpType}
use Rattle.dm_value.specs.declared.avp_type.AvpType.TheVariants.{Enumerated, Grouped}
use Rattle.dm_value.specs.declared.fault.ValueFault.{ValueFault}
use Rattle.dm_value.specs.declared.fault.ValueFault.TheVariants.{WrongLength, WrongValue}
use Rattle.dm_value.specs.Columns.{least_length}
use Rattle.dm_value.specs.Flaws.{flaw}
use Rattle.dm_tables.specs.declared.rule.Entry.{Entry}
use Rattle.dm_tables.specs.declared.values.EnumValue.{EnumValue}
use Rattle.dm_tables.specs.Listed.{is_unlisted}
use Rattle.dm_tables.specs.declared.def.AvpDef.{AvpDef}
use Rattle.dm_tables.specs.declared.def.CommandDef.{CommandDef}
use Rattle.dm_tables.specs.Definitions.{Definitions, is_named, is_headed}
use Rattle.dm_wire.specs.Members.{members}
use Rattle.dm_dict.specs.Codes.{command_unsupported, invalid_hdr_bits, avp_unsupported, invalid_avp_value, missing_avp}
use Rattle.dm_dict.specs.Codes.{avp_not_allowed, avp_occurs_too_many_times, invalid_avp_length, failed_avp}
use Rattle.dm_dict.specs.Rules.{definition, stands_for_any, counted_avps, count, entry_for, allows}
use Rattle.dm_dict.specs.Limits.{group_limit, any_command}

-- A fault: its Result-Code and the failed AVP, which stands alone, without the groups round it: that Failed-AVP has
-- them too is a MAY (7.5).
pub record Fault : Type 0 where
  pub code : ℕ
  pub failed : Option Avp

abbrev pub fault_with_avp : ℕ → Avp → List Fault
fault_with_avp code a = record { code = code; failed = Some a } ∷ []

abbrev pub fault_without_avp : ℕ → List Fault
fault_without_avp code = record { code = code; failed = None } ∷ []

-- data of a wrong length 5014, of a wrong value 5004 (7.1.5)
abbrev pub value_faults : Option ValueFault → Avp → List Fault
value_faults (Some WrongLength) a = fault_with_avp invalid_avp_length a
value_faults (Some WrongValue) a = fault_with_avp invalid_avp_value a
value_faults _ a = []

-- four octets of an Enumerated with a list, whose value isn't in it (own); another size is a wrong length
abbrev pub is_left_out : AvpType → List EnumValue → List ℕ → Bool
is_left_out Enumerated values s = is_unlisted values (cast_signed w32 (big_number 4 s)) && nat_eq (length s) 4
is_left_out _ values s = false

abbrev pub unlisted_faults : AvpType → List EnumValue → Avp → List Fault
unlisted_faults kind values a = if is_left_out kind values a.bytes then fault_with_avp invalid_avp_value a else []

-- data of a type, and of a list of values; of a Grouped AVP what is wrong with the group (4.4)
abbrev pub data_faults : AvpType → List EnumValue → List Fault → Avp → List Fault
data_faults Grouped values group a = group
data_faults kind values group a = value_faults (flaw kind a.bytes) a ++ unlisted_faults kind values a

-- Failed-AVP, whose data holds what was wrong elsewhere and isn't read (7.5)
abbrev pub is_failed_avp : Avp → Bool
is_failed_avp a = nat_eq a.code failed_avp && option_eq nat_eq a.vendor None

-- One AVP: 5001 where it has no definition and the M bit is set (4.1), 5008 where the rule doesn't allow it (7.1.5),
-- and then its data. One that has no definition passes without the M bit in every rule, also where no `AVP` stands: a
-- receiver 'MAY simply ignore the AVP' (4.1).
abbrev pub avp_faults : (List Entry → Avp → List Fault) → Bool → Avp → Option AvpDef → List Fault
avp_faults groups allowed a None = if a.mandatory then fault_with_avp avp_unsupported a else []
avp_faults groups allowed a (Some f) =
    (if allowed then [] else fault_with_avp avp_not_allowed a) ++
    (if is_failed_avp a then [] else data_faults f.kind f.values (groups f.rule a) a)

-- the example of an AVP that is missing: zeros of its type's least length (7.5); `AVP` has none
abbrev pub example_of : AvpDef → Avp
example_of f =
    record {
      code = f.code;
      vendor = f.vendor;
      mandatory = true;
      protected = false;
      bytes = replicate (least_length f.kind) 0;
    }

abbrev pub example : List AvpDef → Entry → Option Avp
example avps e = if stands_for_any e then None else option_map example_of (find (is_named e.name) avps)

-- more than max, where max isn't 0: 5009 with the first instance past the maximum (7.1.5)
abbrev pub excess_faults : Option ℕ → List Avp → List Fault
excess_faults None l = []
excess_faults (Some max) l = if nat_lt 0 max && nat_lt max (length l) then
    record { code = avp_occurs_too_many_times; failed = slice_get l max } ∷ [] else []

-- One entry of the rule: 5005 where the list has fewer than min (7.1.5), 5009 where it has more than max. That a fixed
-- entry 'defines the fixed position of an AVP' (3.2) isn't looked at: section 7.1 has no Result-Code for it, and
-- Session-Id, the only one in the base dictionary, SHOULD come first (8.8), no more.
abbrev pub entry_faults : List AvpDef → List Entry → List Avp → Entry → List Fault
entry_faults avps rule l e =
    (if nat_lt (count avps rule l e) e.min then record { code = missing_avp; failed = example avps e } ∷ [] else [])
    ++ excess_faults e.max (counted_avps avps rule l e)

-- a list of AVPs under a rule: each AVP in order, and then each entry of the rule in order
abbrev pub list_faults_with_groups : (List Entry → Avp → List Fault) → List AvpDef → List Entry → List Avp → List Fault
list_faults_with_groups groups avps rule l =
    flat_map (λ a. avp_faults groups (allows (entry_for rule (definition avps a))) a (definition avps a)) l
    ++ flat_map (entry_faults avps rule l) rule

-- the members of a group; 5014 where the octets are no AVPs one after the other, with 'an empty payload', which is
-- enough for a Grouped AVP (7.1.5)
abbrev pub member_faults : (List Avp → List Fault) → Avp → Option (List Avp) → List Fault
member_faults inside a None = fault_with_avp invalid_avp_length (record a { bytes = [] })
member_faults inside a (Some l) = inside l

-- A Grouped AVP of this rule, where n groups may stand inside each other: with none left 5004. RFC 6733 (4.4) lets
-- groups be nested and has no limit; here there is one (own), so that no message sets how deep the walk goes.
abbrev pub group_faults : ℕ → List AvpDef → List Entry → Avp → List Fault
group_faults zero avps rule a = fault_with_avp invalid_avp_value a
group_faults (suc n) avps rule a =
    member_faults (list_faults_with_groups (group_faults n avps) avps rule) a (members a.bytes)

abbrev pub list_faults : ℕ → List AvpDef → List Entry → List Avp → List Fault
list_faults n avps rule l = list_faults_with_groups (group_faults n avps) avps rule l

-- an answer that reports an error: all of them have one rule (7.2), which stands at command 0 with the E bit (own)
abbrev pub is_error_answer : Header → Bool
is_error_answer h = not h.request && h.error

-- the command whose rule the message has (3)
abbrev pub command_for : Definitions → Header → Option CommandDef
command_for d h = find (is_headed (if is_error_answer h then any_command else h.command) h.request
    (is_error_answer h)) d.commands

-- the E bit in a request, or the T bit in an answer (3)
abbrev pub wrong_bits : Header → Bool
wrong_bits h = (h.request && h.error) || (not h.request && h.retransmit)

-- 3001 where there is no rule; else 3008 for the header's bits, and then the AVPs, where eight groups may stand inside
-- each other (7.1.3)
abbrev pub message_faults : List AvpDef → Message → Option CommandDef → List Fault
message_faults avps m None = fault_without_avp command_unsupported
message_faults avps m (Some c) = (if wrong_bits m.header then fault_without_avp invalid_hdr_bits else []) ++
    list_faults group_limit avps c.rule m.avps

abbrev pub faults : Definitions → Message → List Fault
faults d m = message_faults d.avps m (command_for d m.header)

-- nothing is wrong
abbrev pub has_none : List Fault → Bool
has_none [] = true
has_none (f ∷ fs) = false

abbrev pub first : List Fault → Option Fault
first [] = None
first (f ∷ fs) = Some f
