-- What is printed for lines of messages in hexadecimal, and whether all was good: of each message its answer, a text
-- and whether it is good.
use Rattle.std.specs.Prelude.{◌≡◌, ◌⊎◌, ℕ, Bool, true, false, MatchOption, List, [], ◌∷◌, ◌++◌, codes}
use Rattle.dm_wire.specs.declared.message.Message.{Message}
use Rattle.dm_wire.specs.declared.fault.WireFault.{WireFault}
use Rattle.dm_wire.specs.Spelling.{SpellsMessage}
use Rattle.dm_wire.specs.Refusal.{Refuses}
use Rattle.dm_text.specs.Hexadecimal.{line_octets}
use Rattle.dm_text.specs.Lines.{content_lines}
use Rattle.dm_tool.specs.Text.{fault_text}
use Rattle.dm_tool.specs.Joined.{Joined}

-- octets that spell a message are answered by the message's answer
abbrev pub PrintsMessage : (Message → List ℕ × Bool) → List ℕ → List ℕ → Bool → Type 0
PrintsMessage answer octets text good = (m : Message) × SpellsMessage m octets × (text ≡ (answer m).0) ×
    (good ≡ (answer m).1)

-- octets that spell none are printed as their fault, and are bad
abbrev pub PrintsFault : List ℕ → List ℕ → Bool → Type 0
PrintsFault octets text good = (f : WireFault) × Refuses octets f × (text ≡ fault_text f ++ 10 ∷ []) × (good ≡ false)

-- a line of bad digits, or of an odd number of them, is printed as `fault hex`
abbrev pub PrintsNoHex : List ℕ → Bool → Type 0
PrintsNoHex text good = (text ≡ codes "fault hex" ++ 10 ∷ []) × (good ≡ false)

-- what is printed for a line, and whether it is good
abbrev pub PrintsLine : (Message → List ℕ × Bool) → List ℕ → List ℕ → Bool → Type 0
PrintsLine answer line text good =
    MatchOption (line_octets line) (PrintsNoHex text good)
    (λ octets. PrintsMessage answer octets text good ⊎ PrintsFault octets text good)

-- what is printed for these lines, one after the other, and whether all are good
abbrev pub PrintsLines : (Message → List ℕ × Bool) → List (List ℕ) → List ℕ → Bool → Type 0
PrintsLines answer [] text good = (text ≡ []) × (good ≡ true)
PrintsLines answer (line ∷ lines) text good = Joined (PrintsLine answer line) (PrintsLines answer lines) text good

-- what is printed for the lines of an input, and whether all are good
abbrev pub PrintsAll : (Message → List ℕ × Bool) → List ℕ → List ℕ → Bool → Type 0
PrintsAll answer input text good = PrintsLines answer (content_lines input) text good
