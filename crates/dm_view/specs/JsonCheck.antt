-- What is said in JSON of all that is wrong with a message.
use Rattle.std.specs.Prelude.{ℕ, Bool, nat_eq, if◌then◌else◌, Option, None, Some, option_map}
use Rattle.std.specs.Prelude.{List, [], ◌∷◌, find, codes}
use Rattle.json.specs.Json.{Json, string, array, object, Items, no_items, item, Members, no_members, member}
use Rattle.dm_wire.specs.declared.avp.Avp.{Avp}
use Rattle.dm_wire.specs.declared.message.Message.{Message}
use Rattle.dm_tables.specs.declared.def.AvpDef.{AvpDef}
use Rattle.dm_tables.specs.Definitions.{Definitions, is_coded}
use Rattle.dm_dict.specs.Codes.{missing_avp}
use Rattle.dm_dict.specs.declared.path.Step.{Step}
use Rattle.dm_dict.specs.Located.{Located, located_faults}
use Rattle.dm_dict.specs.Rules.{definition}
use Rattle.dm_view.specs.Check.{without_data, failed_length, are_none}
use Rattle.dm_view.specs.JsonView.{front_members, header_json}
use Rattle.dm_view.specs.JsonWords.{number_json, name_json, vendor_member}
use Rattle.dm_view.specs.Reasons.{reason_words}
use Rattle.dm_view.specs.Results.{result_name}
use Rattle.dm_view.specs.View.{command_of}

-- a group round the AVP: its name, code and vendor, and which of these it is in its list
abbrev pub step_json : List AvpDef → Step → Json
step_json avps s = object
    (member (codes "name") (name_json (option_map (λ d. d.name) (find (is_coded s.code s.vendor) avps)))
    (member (codes "code") (number_json s.code)
    (vendor_member s.vendor (member (codes "nth") (number_json s.nth) no_members))))

abbrev pub path_items : List AvpDef → List Step → Items
path_items avps [] = no_items
path_items avps (s ∷ path) = item (step_json avps s) (path_items avps path)

-- why a failed AVP, whose data has this length, is a fault: it is missing, or as `reason_words` says
abbrev pub failed_words : ℕ → Option AvpDef → ℕ → List ℕ
failed_words code f n =
    if nat_eq code missing_avp then codes "missing" else reason_words code (option_map (λ d. d.kind) f) n

abbrev pub failed_members_by : ℕ → Option AvpDef → ℕ → Avp → Members
failed_members_by code f n a = member (codes "avp") (object (front_members f a no_members))
    (member (codes "reason") (string (failed_words code f n)) no_members)

-- the failed AVP without its data, and why it is a fault, where there is one
abbrev pub failed_members : List AvpDef → ℕ → ℕ → Option Avp → Members
failed_members avps code n None = no_members
failed_members avps code n (Some a) = failed_members_by code (definition avps a) n a

-- a fault: its Result-Code and the name of that, the groups round the failed AVP, and that AVP
unfoldable pub fault_json : List AvpDef → Located → Json
fault_json avps f = object (member (codes "code") (number_json f.fault.code)
    (member (codes "name") (string (result_name f.fault.code)) (member (codes "path") (array (path_items avps f.path))
    (failed_members avps f.fault.code (failed_length f.fault.failed) (option_map without_data f.fault.failed)))))

abbrev pub faults_items : List AvpDef → List Located → Items
faults_items avps [] = no_items
faults_items avps (f ∷ l) = item (fault_json avps f) (faults_items avps l)

abbrev pub verdict_json : Bool → Json
verdict_json good = string (if good then codes "good" else codes "bad")

-- a message: whether it is good, its header, and all its faults in order, before more
abbrev pub check_members : Definitions → Message → Members → Members
check_members d m more = member (codes "verdict") (verdict_json (are_none (located_faults d m)))
    (member (codes "header") (header_json (command_of d m.header) m.header)
    (member (codes "faults") (array (faults_items d.avps (located_faults d m))) more))
