-- A text is one script, or has one first bad line, or stands for nothing.
use Rattle.std.specs.Prelude.{◌≡◌, ◌⊎◌, ℕ, List, []}
use Rattle.dm_text.specs.Lines.{content_lines}
use Rattle.dm_world.specs.declared.happening.Happening.{Happening}
use Rattle.dm_replay.specs.HostLines.{Host}
use Rattle.dm_replay.specs.Scripts.{TellsScript, IsFirstBad}

-- a text is at most one script
abbrev pub OneScript : Type 0
OneScript =
    (left right left' right' : Host) (list list' : List Happening) (text : List ℕ)
    → TellsScript left right list text → TellsScript left' right' list' text
    → (left ≡ left') × (right ≡ right') × (list ≡ list')

-- a text has at most one first bad line
abbrev pub OneBadLine : Type 0
OneBadLine = (n k : ℕ) (text : List ℕ) → IsFirstBad text n → IsFirstBad text k → n ≡ k

-- a script has no bad line
abbrev pub NoScriptIsBad : Type 0
NoScriptIsBad =
    (left right : Host) (list : List Happening) (n : ℕ) (text : List ℕ) → TellsScript left right list text →
    IsFirstBad text n → ⊥

-- lines that stand for nothing aren't bad
abbrev pub NothingIsNotBad : Type 0
NothingIsNotBad = (n : ℕ) (text : List ℕ) → content_lines text ≡ [] → IsFirstBad text n → ⊥

-- the text is a script
abbrev pub IsScript : List ℕ → Type 0
IsScript text = (left right : Host) × (list : List Happening) × TellsScript left right list text

-- each text stands for nothing, is a script, or has a first bad line
abbrev pub SomeScript : Type 0
SomeScript = (text : List ℕ) → (content_lines text ≡ []) ⊎ IsScript text ⊎ ((n : ℕ) × IsFirstBad text n)
