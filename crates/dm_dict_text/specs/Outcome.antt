-- What a dictionary text defines behind other definitions, and its first fault (RFC 6733, 3.2).
use Rattle.std.specs.Prelude.{ℕ, ◌≡◌, ◌⊎◌, List, [], ◌++◌, Some}
use Rattle.dm_grammar.specs.Items.{Written}
use Rattle.dm_grammar.specs.Spelling.{AreItems}
use Rattle.dm_grammar.specs.Syntax.{IsSyntaxFault}
use Rattle.dm_grammar.specs.Tokens.{tokens}
use Rattle.dm_dict_text.specs.declared.fault.DictFault.{DictFault}
use Rattle.dm_dict_text.specs.declared.fault.DictFault.TheVariants.{Syntax}
use Rattle.dm_tables.specs.Definitions.{Definitions}
use Rattle.dm_dict_text.specs.Meaning.{with_no_strays, with_items}
use Rattle.dm_dict_text.specs.Faults.{first_dict_fault, items_faults, items_unknown}

-- the faults of the items token by token, then the unknown names
abbrev pub all_faults : Definitions → List Written → List DictFault
all_faults old items = items_faults (with_no_strays old) items
    ++ items_unknown (with_items (with_no_strays old) items) old.vendors items

-- the text has items without fault, and the new definitions are the old ones followed by theirs
pub record Defines (text : List ℕ) (old new : Definitions) : Type 0 where
  pub items : List Written
  pub grammatical : AreItems items (tokens text)
  pub faultless : all_faults old items ≡ []
  pub followed : new ≡ (with_items (with_no_strays old) items).definitions

-- the text has items, and the fault is their first
pub record HasItemFault (text : List ℕ) (old : Definitions) (fault : DictFault) : Type 0 where
  pub items : List Written
  pub grammatical : AreItems items (tokens text)
  pub first : first_dict_fault (all_faults old items) ≡ Some fault

-- a Syntax fault anywhere comes before the others
abbrev pub IsFirstFault : List ℕ → Definitions → DictFault → Type 0
IsFirstFault text old fault = ((line : ℕ) × (fault ≡ Syntax line) × IsSyntaxFault text line)
    ⊎ HasItemFault text old fault
