-- What is said in JSON: an object on a line of its own (RFC 8259).
use Rattle.std.specs.Prelude.{ℕ, false, List, [], ◌∷◌, ◌++◌, codes}
use Rattle.json.specs.Json.{Json, string, object, Members, no_members, member}
use Rattle.json.specs.Print.{print}
use Rattle.json.specs.Tree.{json_tokens}
use Rattle.dm_wire.specs.declared.fault.WireFault.{WireFault}
use Rattle.dm_wire.specs.declared.fault.WireFault.TheVariants.{AvpLength}
use Rattle.dm_wire.specs.Whole.{header_in, with_header}
use Rattle.dm_tables.specs.Definitions.{Definitions}
use Rattle.dm_view.specs.JsonCheck.{verdict_json}
use Rattle.dm_view.specs.JsonView.{header_json, message_members}
use Rattle.dm_view.specs.JsonWords.{number_json}
use Rattle.dm_view.specs.View.{command_of}
use Rattle.dm_view_lines.specs.declared.tally.Tally.{Tally}
use Rattle.dm_view_lines.specs.Before.{avps_before}
use Rattle.dm_view_lines.specs.Fronts.{SaidFront}

abbrev pub json_line : Json → List ℕ
json_line json = print (json_tokens json) ++ 10 ∷ []

-- of a message, behind what stands before it
abbrev pub fronted_json : SaidFront → Members → List ℕ
fronted_json front more = json_line (object (front.members more))

-- of a line or a message with its number
abbrev pub numbered_json : ℕ → Members → List ℕ
numbered_json n more = json_line (object (member (codes "number") (number_json n) more))

-- what is wrong, in words
abbrev pub error_member : List ℕ → Members
error_member words = member (codes "error") (string words) no_members

abbrev pub bad_members : Members → Members
bad_members more = member (codes "verdict") (verdict_json false) more

-- the message up to a bad AVP, before more
abbrev pub shown_before : Definitions → List ℕ → WireFault → Members → Members
shown_before d s (AvpLength o) more = message_members d (with_header s (avps_before s o)) more
shown_before d s f more = more

-- its header, before more
abbrev pub checked_before : Definitions → List ℕ → WireFault → Members → Members
checked_before d s (AvpLength o) more =
    member (codes "header") (header_json (command_of d (header_in s)) (header_in s)) more
checked_before d s f more = more

-- how many lines are good and bad
abbrev pub tally_json : Tally → Json
tally_json t = object (member (codes "good") (number_json t.good) (member (codes "bad") (number_json t.bad) no_members))
