-- What tables stand for while a text is read.
use Rattle.std.specs.Prelude.{ℕ, List, map}
use Rattle.std.specs.Borrow.{Bor}
use Rattle.indexmap.specs.IndexSet.{IndexSet}
use Rattle.dm_tables.specs.declared.tables.Tables.{Tables}
use Rattle.dm_tables.specs.Tables.{defined}
use Rattle.dm_dict_text.specs.Meaning.{WithStrays}

-- what the tables and the names of strays stand for
abbrev pub making : {S : Type 0} → Tables → IndexSet (Bor (List ℕ)) S → WithStrays
making t strays = record { definitions = defined t; strays = map (λ k. k.now) strays.keys }
