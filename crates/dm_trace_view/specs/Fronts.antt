-- What stands before what is said of a message that was seen.
use Rattle.std.specs.Prelude.{ℕ, [], ◌∷◌, ◌++◌, codes}
use Rattle.std.specs.Fmt.{decimal}
use Rattle.json.specs.Json.{member}
use Rattle.dm_view.specs.JsonWords.{number_json}
use Rattle.dm_trace.specs.declared.seen.Seen.{Seen}
use Rattle.dm_trace.specs.declared.time.Clock.{Clock}
use Rattle.dm_trace.specs.Fronts.{front_text}
use Rattle.dm_trace.specs.JsonFronts.{seen_members}
use Rattle.dm_view_lines.specs.Fronts.{SaidFront}

-- a line with its number, when, between whom and in which packet; in JSON members that say the same
abbrev pub front_seen : ℕ → Clock → Seen → SaidFront
front_seen n clock seen = record {
  words = decimal n ++ codes ": " ++ front_text clock seen ++ 10 ∷ [];
  members = λ more. member (codes "number") (number_json n) (seen_members clock seen more);
}
