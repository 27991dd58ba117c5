-- A text has one outcome as a dictionary: what it defines, or its first fault.
use Rattle.std.specs.Prelude.{◌≡◌, ◌⊎◌, ℕ, List}
use Rattle.dm_dict_text.specs.declared.fault.DictFault.{DictFault}
use Rattle.dm_tables.specs.Definitions.{Definitions}
use Rattle.dm_dict_text.specs.Outcome.{Defines, IsFirstFault}

-- behind the same old definitions a text defines one whole at most
abbrev pub OneDefinition : Type 0
OneDefinition = (text : List ℕ) (old made new : Definitions) → Defines text old made → Defines text old new → made ≡ new

-- one fault at most is a text's first
abbrev pub OneFault : Type 0
OneFault = (text : List ℕ) (old : Definitions) (f g : DictFault) → IsFirstFault text old f → IsFirstFault text old g →
    f ≡ g

-- a text that defines something has no first fault
abbrev pub NoDefinitionRefused : Type 0
NoDefinitionRefused = (text : List ℕ) (old new : Definitions) (f : DictFault) → Defines text old new →
    IsFirstFault text old f → ⊥

-- a text defines something or has a first fault
abbrev pub SomeOutcome : Type 0
SomeOutcome = (text : List ℕ) (old : Definitions) →
    ((new : Definitions) × Defines text old new) ⊎ ((f : DictFault) × IsFirstFault text old f)
