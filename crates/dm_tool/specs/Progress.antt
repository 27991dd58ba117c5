-- What build knows behind some of the lines of an input.
use Rattle.std.specs.Prelude.{◌≡◌, ◌≢◌, ℕ, Bool, Option, Some, None, List, [], ◌∷◌, ◌++◌}
use Rattle.dm_wire.specs.declared.avp.Avp.{Avp}
use Rattle.dm_wire.specs.declared.message.Header.{Header}
use Rattle.dm_wire.specs.declared.message.Message.{Message}
use Rattle.dm_tool.specs.declared.built_messages.Building.{Building}
use Rattle.dm_tool.specs.Messages.{TellsHeader, TellsAvp, TellsAll}
use Rattle.dm_tool.specs.Build.{BuildsMessages}

-- the last message, with the AVPs that it has so far, where there is one
abbrev pub last_message : Option Header → List Avp → List Message
last_message None avps = []
last_message (Some h) avps = record { header = h; avps = avps } ∷ []

-- the lines tell messages, of which the last is this one, and those before it have this text
abbrev pub BuiltSoFar : List (List ℕ) → Option Header → List Avp → List ℕ → Bool → Type 0
BuiltSoFar lines last avps text good =
    (done : List Message) × TellsAll (done ++ last_message last avps) lines × BuildsMessages done text good ×
    (last ≡ None → done ≡ [])

-- the lines stand so in what build holds
abbrev pub HoldsBehind : List (List ℕ) → Building → Type 0
HoldsBehind lines b = BuiltSoFar lines b.last b.avps.items b.text.items b.good

-- the line begins no message, and is no AVP of the last one
abbrev pub GoesOnNowhere : Option Header → List ℕ → Type 0
GoesOnNowhere last line = ((h : Header) → TellsHeader h line → ⊥) × (last ≢ None → (a : Avp) → TellsAvp a line → ⊥)
