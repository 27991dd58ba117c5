-- What the commands of the program print, and what a run does.
use Rattle.std.specs.Prelude.{ℕ, ◌+◌, ◌<◌, ◌≤◌, ◌++◌, ◌⊎◌, Bool, true, false, List, length, Option, Result, IfOk}
use Rattle.std.specs.Prelude.{IfSome, IsErrOf}
use Rattle.std.specs.Io.KnownBytes.{Appends, Consumes, Keeps}
use Rattle.dm_tool.specs.declared.choice.Choice.{Choice}
use Rattle.dm_tool.specs.declared.choice.Choice.TheVariants.{Show, Check, Build, Replay}
use Rattle.dm_tool.specs.declared.fault.ToolFault.{ToolFault}
use Rattle.dm_tool.specs.declared.fault.ToolFault.TheVariants as fault
use Rattle.dm_tool.specs.Limits.{input_limit}
use Rattle.dm_tool.specs.Show.{ShowsText}
use Rattle.dm_tool.specs.Check.{ChecksText, ChecksWithDictionary}
use Rattle.dm_tool.specs.Build.{BuildsText}
use Rattle.dm_replay.specs.Replay.{ReplaysText}

-- what check prints, with a dictionary in the input or without
abbrev pub Checks : Bool → List ℕ → List ℕ → Bool → Type 0
Checks false = ChecksText
Checks true = ChecksWithDictionary

-- what the command prints for an input, and whether all of it is good
abbrev pub Prints : Choice → List ℕ → List ℕ → Bool → Type 0
Prints Show = ShowsText
Prints (Check with_dict) = Checks with_dict
Prints Build = BuildsText
Prints Replay = ReplaysText

-- A run whose texts are these, over what the reader has left (input, then rest) and what the writer holds (before,
-- after).
pub record RanTool (Texts : List ℕ → List ℕ → Bool → Type 0) (input rest before after : Option (List ℕ))
    (outcome : Result Bool ToolFault) : Type 0 where
  -- the text of the whole input is written, and the outcome is whether all of it was good
  pub printed : IfOk outcome
      (λ good. IfSome input (λ octets. (text : List ℕ) × Texts octets text good × Appends before after text))
  -- nothing is written
  pub unread : IsErrOf outcome fault.Read → Keeps before after
  pub memory : IsErrOf outcome fault.Memory → Keeps before after
  -- a front of the text is written
  pub unwritten : IsErrOf outcome fault.Write →
      IfSome input
      (λ octets. (front back : List ℕ) × (good : Bool) × Texts octets (front ++ back) good × Appends before after front)
  -- a longer input isn't read to its end
  pub limit : IfSome input
      (λ octets. input_limit < length octets → IsErrOf outcome fault.Read ⊎ IsErrOf outcome fault.Memory)
  pub taken : (octets : List ℕ) × (length octets ≤ input_limit + 1) × Consumes input rest octets
