-- What is said of all that is wrong with a message: its header, and a line for each fault with the groups round its
-- AVP.
use Rattle.std.specs.Prelude.{ℕ, Bool, true, false, nat_eq, if◌then◌else◌, Option, None, Some}
use Rattle.std.specs.Prelude.{option_map, List, [], ◌∷◌, ◌++◌, length, find, flat_map, codes}
use Rattle.std.specs.Fmt.{decimal}
use Rattle.dm_wire.specs.declared.avp.Avp.{Avp}
use Rattle.dm_wire.specs.declared.message.Message.{Message}
use Rattle.dm_tables.specs.declared.def.AvpDef.{AvpDef}
use Rattle.dm_tables.specs.Definitions.{Definitions, is_coded}
use Rattle.dm_dict.specs.Codes.{missing_avp}
use Rattle.dm_dict.specs.declared.path.Step.{Step}
use Rattle.dm_dict.specs.Located.{Located, located_faults}
use Rattle.dm_dict.specs.Rules.{definition}
use Rattle.dm_view.specs.Reasons.{reason_text}
use Rattle.dm_view.specs.Results.{result_text}
use Rattle.dm_view.specs.View.{avp_name, front_view, command_of, header_view}

-- a group round the AVP: its name, and which of its code and vendor it is in its list
unfoldable pub step_text : List AvpDef → Step → List ℕ
step_text avps s = codes " " ++ (avp_name (find (is_coded s.code s.vendor) avps)
    ++ (codes "[" ++ (decimal s.nth ++ codes "] /")))

-- what of a failed AVP is printed: all but its data
abbrev pub without_data : Avp → Avp
without_data a = record a { bytes = [] }

abbrev pub failed_length : Option Avp → ℕ
failed_length None = 0
failed_length (Some a) = length a.bytes

-- a failed AVP whose data has this length: that it is lacking, or its front and why it is a fault
abbrev pub front_words : ℕ → Option AvpDef → ℕ → Avp → List ℕ
front_words code f n a = if nat_eq code missing_avp then codes " lacks " ++ front_view f a else
    codes " " ++ (front_view f a ++ reason_text code (option_map (λ d. d.kind) f) n)

abbrev pub failed_view : List AvpDef → ℕ → ℕ → Option Avp → List ℕ
failed_view avps code n None = []
failed_view avps code n (Some a) = front_words code (definition avps a) n a

-- a fault: its Result-Code with its name, the groups round the failed AVP, and that AVP
unfoldable pub fault_line : List AvpDef → Located → List ℕ
fault_line avps f = codes "  " ++ (result_text f.fault.code ++ (flat_map (step_text avps) f.path
    ++ (failed_view avps f.fault.code (failed_length f.fault.failed) (option_map without_data f.fault.failed)
    ++ 10 ∷ [])))

abbrev pub verdict_words : List Located → List ℕ
verdict_words [] = codes "good "
verdict_words (f ∷ l) = codes "bad "

abbrev pub are_none : List Located → Bool
are_none [] = true
are_none (f ∷ l) = false

-- a message: good or bad, its header, and all its faults in order
unfoldable pub check_view : Definitions → Message → List ℕ
check_view d m = verdict_words (located_faults d m) ++ (header_view (command_of d m.header) m.header
    ++ flat_map (fault_line d.avps) (located_faults d m))
