-- What a text of version 1 defines behind other definitions, and its first fault, by version 1 alone (RFC 6733, 3.2).
use Rattle.std.specs.Prelude.{◌≡◌, ℕ, true, false, ◌⊎◌, ◌↔◌, List, [], Some}
use Rattle.dm_grammar.specs.Tokens.{tokens}
use Rattle.dm_grammar.specs.Versions.{is_second}
use Rattle.dm_grammar.specs.FirstVersion.{FirstItem, AreFirst, Breaks}
use Rattle.dm_dict_text.specs.declared.fault.DictFault.{DictFault}
use Rattle.dm_dict_text.specs.declared.fault.DictFault.TheVariants.{Syntax}
use Rattle.dm_tables.specs.Definitions.{Definitions}
use Rattle.dm_dict_text.specs.Printed.{is_first_version}
use Rattle.dm_dict_text.specs.Faults.{first_dict_fault}
use Rattle.dm_dict_text.specs.FirstFaults.{first_with_items, first_faults}
use Rattle.dm_dict_text.specs.Outcome.{Defines, IsFirstFault}

-- the text is items of version 1 without fault, and the new definitions are the old ones followed by theirs
pub record DefinesByFirst (text : List ℕ) (old new : Definitions) : Type 0 where
  pub items : List FirstItem
  pub grammatical : AreFirst items (tokens text)
  pub faultless : first_faults old items ≡ []
  pub followed : new ≡ first_with_items old items

-- the text is items of version 1, and the fault is their first
pub record HasFaultByFirst (text : List ℕ) (old : Definitions) (fault : DictFault) : Type 0 where
  pub items : List FirstItem
  pub grammatical : AreFirst items (tokens text)
  pub first : first_dict_fault (first_faults old items) ≡ Some fault

-- a Syntax fault anywhere comes before the others
abbrev pub IsFaultByFirst : List ℕ → Definitions → DictFault → Type 0
IsFaultByFirst text old fault = ((line : ℕ) × (fault ≡ Syntax line) × Breaks text line) ⊎ HasFaultByFirst text old fault

-- a text that doesn't begin with "@" and "2" defines what it defines by version 1, behind any definitions
abbrev pub DefinesFirstVersion : Type 0
DefinesFirstVersion = (text : List ℕ) (old new : Definitions) → is_second (tokens text) ≡ false →
    Defines text old new ↔ DefinesByFirst text old new

-- its first fault is that of version 1
abbrev pub FaultsOfFirstVersion : Type 0
FaultsOfFirstVersion = (text : List ℕ) (old : Definitions) (fault : DictFault) → is_second (tokens text) ≡ false →
    IsFirstFault text old fault ↔ IsFaultByFirst text old fault

-- and it brings neither vendors nor lists
abbrev pub StaysFirstVersion : Type 0
StaysFirstVersion = (text : List ℕ) (old new : Definitions) → is_second (tokens text) ≡ false →
    is_first_version old ≡ true → Defines text old new → is_first_version new ≡ true
