-- The faults of a message that are listed, all of them (RFC 6733, 7.1 and 7.5).
use Rattle.std.specs.Prelude.{◌≡◌, ℕ, Option, None, Some, List, [], ◌++◌, map, All}
use Rattle.dm_wire.specs.declared.avp.Avp.{Avp}
use Rattle.dm_dict.specs.declared.fault.Fault.{Fault as ListedFault}
use Rattle.dm_dict.specs.Faults.{Fault, fault_with_avp}
use Rattle.dm_dict.specs.Found.{IsOneOf, IfFoundIn}
use Rattle.dm_dict.specs.Judgement.{failed_of}

-- the fault that is listed
abbrev pub fault_listed : ListedFault → Fault
fault_listed f = record { code = f.code; failed = failed_of f.failed }

-- the faults of a list, in order
abbrev pub all_told : List ListedFault → List Fault
all_told listed = map fault_listed listed

-- behind those that were listed stand just these
abbrev pub Adds : List ListedFault → List ListedFault → List Fault → Type 0
Adds old new faults = all_told new ≡ all_told old ++ faults

-- the fault of this Result-Code, where there is one
abbrev pub coded : Option ℕ → Avp → List Fault
coded None a = []
coded (Some code) a = fault_with_avp code a

-- what is found for the fault is one of these AVPs, or lies in a group of them; or it is such a group without data
abbrev pub IsFoundIn : List Avp → ListedFault → Type 0
IsFoundIn l f = IfFoundIn f.failed (IsOneOf l)

abbrev pub AreFoundIn : List Avp → List ListedFault → Type 0
AreFoundIn l listed = All (IsFoundIn l) listed
