-- What stands before what is said of a message.
use Rattle.std.specs.Prelude.{ℕ, List, ◌++◌, codes}
use Rattle.std.specs.Fmt.{decimal}
use Rattle.json.specs.Json.{Members, member}
use Rattle.dm_view.specs.JsonWords.{number_json}

-- before its words, and in JSON as the first members of its object
pub record SaidFront : Type 0 where
  pub words : List ℕ
  pub members : Members → Members

-- its number alone
abbrev pub by_number : ℕ → SaidFront
by_number n = record { words = decimal n ++ codes ": "; members = member (codes "number") (number_json n) }
