-- What is said of octets behind what stands before it, and whether they are good.
use Rattle.std.specs.Prelude.{◌≡◌, ◌⊎◌, ℕ, Bool, true, false, List, [], ◌∷◌, ◌++◌, codes}
use Rattle.std.specs.Fmt.{decimal}
use Rattle.json.specs.Json.{no_members}
use Rattle.dm_wire.specs.declared.message.Message.{Message}
use Rattle.dm_wire.specs.declared.fault.WireFault.{WireFault}
use Rattle.dm_wire.specs.declared.fault.WireFault.TheVariants.{AvpLength}
use Rattle.dm_wire.specs.Refusal.{Refuses}
use Rattle.dm_wire.specs.Spelling.{SpellsMessage}
use Rattle.dm_wire.specs.Whole.{with_header}
use Rattle.dm_tables.specs.Definitions.{Definitions}
use Rattle.dm_dict.specs.Located.{located_faults}
use Rattle.dm_view.specs.Check.{are_none, check_view}
use Rattle.dm_view.specs.JsonCheck.{check_members}
use Rattle.dm_view.specs.JsonView.{message_members}
use Rattle.dm_view.specs.View.{command_of, header_view, message_view}
use Rattle.dm_view_lines.specs.declared.message_reports.Task.{Task}
use Rattle.dm_view_lines.specs.declared.message_reports.Task.TheVariants.{Show, Check, ShowJson, CheckJson}
use Rattle.dm_view_lines.specs.Before.{avps_before}
use Rattle.dm_view_lines.specs.Fronts.{SaidFront, by_number}
use Rattle.dm_view_lines.specs.Json.{fronted_json, numbered_json, error_member, bad_members}
use Rattle.dm_view_lines.specs.Json.{shown_before, checked_before}
use Rattle.dm_view_lines.specs.Reasons.{refusal_sentence}

-- the number, before what is said
abbrev pub numbered : ℕ → List ℕ → List ℕ
numbered n said = decimal n ++ codes ": " ++ said

-- of a message: what it says, which is good, or all that is wrong with it
abbrev pub message_answer : Task → Definitions → SaidFront → Message → List ℕ × Bool
message_answer Show d front m = (front.words ++ message_view d m, true)
message_answer Check d front m = (front.words ++ check_view d m, are_none (located_faults d m))
message_answer ShowJson d front m = (fronted_json front (message_members d m no_members), true)
message_answer CheckJson d front m =
    (fronted_json front (check_members d m no_members), are_none (located_faults d m))

abbrev pub SaysMessage : Task → Definitions → SaidFront → List ℕ → List ℕ → Bool → Type 0
SaysMessage task d front s text good =
    (m : Message) × SpellsMessage m s × (text ≡ (message_answer task d front m).0)
    × (good ≡ (message_answer task d front m).1)

-- for this reason alone
abbrev pub bad_said : Task → ℕ → List ℕ → List ℕ
bad_said Show n words = numbered n (words ++ 10 ∷ [])
bad_said Check n words = numbered n (words ++ 10 ∷ [])
bad_said ShowJson n words = numbered_json n (error_member words)
bad_said CheckJson n words = numbered_json n (bad_members (error_member words))

-- of octets up to a bad AVP: the header, and the AVPs where they are shown
abbrev pub front_shown : Definitions → Message → List ℕ
front_shown d m = message_view d m ++ codes "  "

abbrev pub front_checked : Definitions → Message → List ℕ
front_checked d m = codes "bad " ++ header_view (command_of d m.header) m.header ++ codes "  "

abbrev pub before_refusal : (Message → List ℕ) → List ℕ → WireFault → List ℕ
before_refusal front s (AvpLength o) = front (with_header s (avps_before s o))
before_refusal front s f = []

-- of octets that are no message: why, behind what stands before the first bad AVP, where that is why
abbrev pub refused_said : Task → Definitions → SaidFront → List ℕ → WireFault → List ℕ
refused_said Show d front s f =
    front.words ++ (before_refusal (front_shown d) s f ++ refusal_sentence f ++ 10 ∷ [])
refused_said Check d front s f =
    front.words ++ (before_refusal (front_checked d) s f ++ refusal_sentence f ++ 10 ∷ [])
refused_said ShowJson d front s f = fronted_json front (shown_before d s f (error_member (refusal_sentence f)))
refused_said CheckJson d front s f =
    fronted_json front (bad_members (checked_before d s f (error_member (refusal_sentence f))))

abbrev pub SaysRefusal : Task → Definitions → SaidFront → List ℕ → List ℕ → Bool → Type 0
SaysRefusal task d front s text good =
    (f : WireFault) × Refuses s f × (text ≡ refused_said task d front s f) × (good ≡ false)

-- what is said of octets behind this, and whether they are good
abbrev pub SaysFronted : Task → Definitions → SaidFront → List ℕ → List ℕ → Bool → Type 0
SaysFronted task d front s text good = SaysMessage task d front s text good ⊎ SaysRefusal task d front s text good

-- behind their number
abbrev pub SaysOctets : Task → Definitions → ℕ → List ℕ → List ℕ → Bool → Type 0
SaysOctets task d n s text good = SaysFronted task d (by_number n) s text good
