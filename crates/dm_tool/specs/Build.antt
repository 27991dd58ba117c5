-- What build prints for an input, and whether all of it was good.
use Rattle.std.specs.Prelude.{◌≡◌, ◌≢◌, ◌⊎◌, ℕ, ◌+◌, Bool, true, false, length, List, [], ◌∷◌, ◌++◌, codes}
use Rattle.std.specs.Str.Lines.{lines}
use Rattle.std.specs.Fmt.{decimal}
use Rattle.hex.specs.Hex.{encode_lower}
use Rattle.dm_wire.specs.declared.avp.Avp.{Avp}
use Rattle.dm_wire.specs.declared.message.Header.{Header}
use Rattle.dm_wire.specs.declared.message.Message.{Message}
use Rattle.dm_wire.specs.Spelling.{SpellsMessage}
use Rattle.dm_wire.specs.Canonical.{canonical_message}
use Rattle.dm_text.specs.Lines.{content, content_lines, trimmed, is_skipped}
use Rattle.dm_tool.specs.Joined.{Joined}
use Rattle.dm_tool.specs.Messages.{TellsHeader, TellsAvp, TellsAll}

-- a message that has a spelling is printed as its canonical octets in lower case hexadecimal, and is good
abbrev pub BuildsOctets : Message → List ℕ → Bool → Type 0
BuildsOctets m text good = SpellsMessage m (canonical_message m) ×
    (text ≡ encode_lower (canonical_message m) ++ 10 ∷ []) × (good ≡ true)

-- a message that has none is printed as `fault TooLong`, and is bad
abbrev pub BuildsTooLong : Message → List ℕ → Bool → Type 0
BuildsTooLong m text good = ((s : List ℕ) → SpellsMessage m s → ⊥) × (text ≡ codes "fault TooLong" ++ 10 ∷ []) ×
    (good ≡ false)

-- what is printed for a message, and whether it is good
abbrev pub BuildsMessage : Message → List ℕ → Bool → Type 0
BuildsMessage m text good = BuildsOctets m text good ⊎ BuildsTooLong m text good

-- what is printed for these messages, one after the other, and whether all are good
abbrev pub BuildsMessages : List Message → List ℕ → Bool → Type 0
BuildsMessages [] text good = (text ≡ []) × (good ≡ true)
BuildsMessages (m ∷ l) text good = Joined (BuildsMessage m) (BuildsMessages l) text good

-- all but the last message
abbrev pub but_last : List Message → List Message
but_last [] = []
but_last (m ∷ []) = []
but_last (m ∷ k ∷ l) = m ∷ but_last (k ∷ l)

-- behind lines that tell these messages the line is out of place: it begins no message, and is no AVP of the last one
abbrev pub IsOutOfPlace : List Message → List ℕ → Type 0
IsOutOfPlace l line = ((h : Header) → TellsHeader h line → ⊥) × (l ≢ [] → (a : Avp) → TellsAvp a line → ⊥)

-- all lines that stand for something tell messages, and these are printed
abbrev pub BuildsAll : List ℕ → List ℕ → Bool → Type 0
BuildsAll input text good = (l : List Message) × TellsAll l (content_lines input) × BuildsMessages l text good

-- The lines up to one that is out of place tell messages. All but the last, which that line interrupts, are printed,
-- and then the number of the line, where the first has number 1.
pub record BuildsUpTo (input text : List ℕ) : Type 0 where
  pub before : List (List ℕ)
  pub line : List ℕ
  pub after : List (List ℕ)
  pub whole : lines input ≡ before ++ line ∷ after
  pub stands : is_skipped (trimmed line) ≡ false
  pub messages : List Message
  pub told : TellsAll messages (content before)
  pub misplaced : IsOutOfPlace messages (trimmed line)
  pub built : List ℕ
  pub good : Bool
  pub builds : BuildsMessages (but_last messages) built good
  pub text_is : text ≡ built ++ codes "fault syntax " ++ decimal (length before + 1) ++ 10 ∷ []

-- what is printed for an input, and whether all of it is good
abbrev pub BuildsText : List ℕ → List ℕ → Bool → Type 0
BuildsText input text good = BuildsAll input text good ⊎ (BuildsUpTo input text × (good ≡ false))
