-- What is said of the lines of an input.
use Rattle.std.specs.Prelude.{◌≡◌, ℕ, ◌+◌, Bool, false, nat_eq, Option, Some, None, List, [], ◌∷◌, ◌++◌, codes, map}
use Rattle.std.specs.Str.Lines.{lines}
use Rattle.dm_tables.specs.Definitions.{Definitions}
use Rattle.dm_view_lines.specs.declared.message_reports.Task.{Task}
use Rattle.dm_view_lines.specs.declared.message_reports.Task.TheVariants.{Show, Check, ShowJson, CheckJson}
use Rattle.dm_view_lines.specs.declared.tally.Tally.{Tally}
use Rattle.dm_view_lines.specs.Counts.{no_lines, tally_of, tallied, tally_line}
use Rattle.dm_view_lines.specs.Digits.{octets_of_line}
use Rattle.dm_view_lines.specs.Json.{json_line, tally_json}
use Rattle.dm_view_lines.specs.Said.{bad_said, SaysOctets}

-- of the line of this number, which stands for these octets: of no octets nothing is said
abbrev pub SaysLine : Task → Definitions → ℕ → Option (List ℕ) → List ℕ → Option Bool → Type 0
SaysLine task d n None text verdict = (text ≡ bad_said task n (codes "no hexadecimal")) × (verdict ≡ Some false)
SaysLine task d n (Some []) text verdict = (text ≡ []) × (verdict ≡ None)
SaysLine task d n (Some (b ∷ s)) text verdict =
    (good : Bool) × SaysOctets task d n (b ∷ s) text good × (verdict ≡ Some good)

-- a line, and then those behind it
pub record LineThenRest (Line : List ℕ → Option Bool → Type 0) (Rest : List ℕ → Tally → Type 0) (text : List ℕ)
    (tally : Tally) : Type 0 where
  pub first : List ℕ
  pub rest : List ℕ
  pub verdict : Option Bool
  pub others : Tally
  pub line : Line first verdict
  pub behind : Rest rest others
  pub text_is : text ≡ first ++ rest
  pub tally_is : tally ≡ tallied (tally_of verdict) others

-- of lines that stand for these octets, the first of which has this number; and how many are good and bad
abbrev pub SaysEach : Task → Definitions → ℕ → List (Option (List ℕ)) → List ℕ → Tally → Type 0
SaysEach task d n [] text tally = (text ≡ []) × (tally ≡ no_lines)
SaysEach task d n (octets ∷ l) text tally =
    LineThenRest (SaysLine task d n octets) (SaysEach task d (n + 1) l) text tally

abbrev pub SaysLines : Task → Definitions → ℕ → List (List ℕ) → List ℕ → Tally → Type 0
SaysLines task d n lines text tally = SaysEach task d n (map octets_of_line lines) text tally

-- check ends with how many lines were good and bad
abbrev pub counts_line : Task → Tally → List ℕ
counts_line Show t = []
counts_line Check t = tally_line t
counts_line ShowJson t = []
counts_line CheckJson t = json_line (tally_json t)

-- what is said of an input, and whether none of its lines is bad
abbrev pub Says : Task → Definitions → List ℕ → List ℕ → Bool → Type 0
Says task d input text good =
    (said : List ℕ) × (tally : Tally) × SaysLines task d 1 (lines input) said tally
    × (text ≡ said ++ counts_line task tally) × (good ≡ nat_eq tally.bad 0)
