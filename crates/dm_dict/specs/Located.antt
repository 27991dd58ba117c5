-- Where the faults of a message lie: the groups round each failed AVP.
use Rattle.std.specs.Prelude.{◌≡◌, ℕ, zero, suc, ◌+◌, Bool, ◌&&◌, nat_eq, length, filter, Option, None, Some, List}
use Rattle.std.specs.Prelude.{[], ◌∷◌, ◌++◌, map, flat_map, if◌then◌else◌}
use Rattle.std.specs.Option.{option_eq}
use Rattle.dm_wire.specs.declared.avp.Avp.{Avp}
use Rattle.dm_wire.specs.declared.message.Message.{Message}
use Rattle.dm_wire.specs.Members.{members}
use Rattle.dm_value.specs.declared.avp_type.AvpType.{AvpType}
use Rattle.dm_value.specs.declared.avp_type.AvpType.TheVariants.{Grouped}
use Rattle.dm_tables.specs.declared.rule.Entry.{Entry}
use Rattle.dm_tables.specs.declared.def.AvpDef.{AvpDef}
use Rattle.dm_tables.specs.declared.def.CommandDef.{CommandDef}
use Rattle.dm_tables.specs.Definitions.{Definitions}
use Rattle.dm_dict.specs.Codes.{command_unsupported, invalid_hdr_bits}
use Rattle.dm_dict.specs.Faults.{Fault, fault_without_avp, avp_faults, entry_faults, member_faults, group_faults}
use Rattle.dm_dict.specs.Faults.{is_failed_avp, command_for, wrong_bits, faults}
use Rattle.dm_dict.specs.Limits.{group_limit}
use Rattle.dm_dict.specs.Rules.{definition, entry_for, allows}
use Rattle.dm_dict.specs.declared.path.Step.{Step}

-- A fault with its path: the groups round the failed AVP, the outermost first, each with its occurrence in its list. Of
-- an AVP that is missing these are the groups that lack it.
pub record Located : Type 0 where
  pub path : List Step
  pub fault : Fault

-- in the list itself
abbrev pub here : Fault → Located
here f = record { path = []; fault = f }

-- of one code and vendor (4.1)
abbrev pub is_alike : Avp → Avp → Bool
is_alike a b = nat_eq a.code b.code && option_eq nat_eq a.vendor b.vendor

-- an AVP's occurrence behind those of l: which of its code and vendor it is in its list, from 1 on
abbrev pub occurrence : List Avp → Avp → ℕ
occurrence l a = length (filter (λ b. is_alike b a) l) + 1

-- the group a, which is the nth of its code and vendor
abbrev pub step_at : ℕ → Avp → Step
step_at nth a = record { nth = nth; code = a.code; vendor = a.vendor }

-- in this group
abbrev pub under : Step → Located → Located
under s f = record f { path = s ∷ f.path }

-- what a group adds to what is wrong with an AVP
abbrev pub kind_located : AvpType → List Located → List Located
kind_located Grouped group = group
kind_located kind group = []

abbrev pub group_part : (List Entry → Avp → List Located) → Avp → Option AvpDef → List Located
group_part groups a None = []
group_part groups a (Some f) = if is_failed_avp a then [] else kind_located f.kind (groups f.rule a)

abbrev pub no_groups : List Entry → Avp → List Fault
no_groups rule a = []

-- one AVP: what is wrong with it, and then its group
abbrev pub avp_located : (List Entry → Avp → List Located) → Bool → Avp → Option AvpDef → List Located
avp_located groups allowed a f = map here (avp_faults no_groups allowed a f) ++ group_part groups a f

-- the AVPs of a list behind those of p, under its rule
abbrev pub each_located : (ℕ → List Entry → Avp → List Located) → List AvpDef → List Entry → List Avp → List Avp
    → List Located
each_located groups avps rule p [] = []
each_located groups avps rule p (a ∷ l) =
    avp_located (groups (occurrence p a)) (allows (entry_for rule (definition avps a))) a (definition avps a)
    ++ each_located groups avps rule (p ++ a ∷ []) l

-- a list of AVPs under a rule: each AVP in order, and then each entry of the rule in order
abbrev pub list_located_with_groups : (ℕ → List Entry → Avp → List Located) → List AvpDef → List Entry → List Avp
    → List Located
list_located_with_groups groups avps rule l =
    each_located groups avps rule [] l ++ map here (flat_map (entry_faults avps rule l) rule)

-- the members of the group that is the nth of its code and vendor
abbrev pub members_located : (List Avp → List Located) → ℕ → Avp → Option (List Avp) → List Located
members_located inside nth a None = map here (member_faults (λ l. []) a None)
members_located inside nth a (Some l) = map (under (step_at nth a)) (inside l)

-- the group that is the ith of its code and vendor, where n groups may stand inside each other
abbrev pub group_located : ℕ → List AvpDef → ℕ → List Entry → Avp → List Located
group_located zero avps i rule a = map here (group_faults zero avps rule a)
group_located (suc n) avps i rule a =
    members_located (list_located_with_groups (group_located n avps) avps rule) i a (members a.bytes)

abbrev pub list_located : ℕ → List AvpDef → List Entry → List Avp → List Located
list_located n avps rule l = list_located_with_groups (group_located n avps) avps rule l

-- all faults of a message, each with its path, in the order of `faults`
abbrev pub message_located : List AvpDef → Message → Option CommandDef → List Located
message_located avps m None = map here (fault_without_avp command_unsupported)
message_located avps m (Some c) =
    map here (if wrong_bits m.header then fault_without_avp invalid_hdr_bits else [])
    ++ list_located group_limit avps c.rule m.avps

abbrev pub located_faults : Definitions → Message → List Located
located_faults d m = message_located d.avps m (command_for d m.header)

-- without the paths they are just the faults of the message
abbrev pub LocatedAreFaults : Type 0
LocatedAreFaults = (d : Definitions) (m : Message) → map (λ f. f.fault) (located_faults d m) ≡ faults d m
