-- A text defines something, or has a first fault.
use Rattle.std.proofs.Common.{◌≡◌, ◌⊎◌, ℕ, List, [], ◌∷◌, ap, refl, inl, inr}
use Rattle.dm_grammar.specs.Items.{Written}
use Rattle.dm_grammar.specs.Spelling.{AreItems}
use Rattle.dm_grammar.specs.Syntax.{IsSyntaxFault}
use Rattle.dm_grammar.specs.Tokens.{tokens}
use Rattle.dm_dict_text.specs.declared.fault.DictFault.{DictFault}
use Rattle.dm_dict_text.specs.declared.fault.DictFault.TheVariants.{Syntax}
use Rattle.dm_tables.specs.Definitions.{Definitions}
use Rattle.dm_dict_text.specs.Meaning.{with_no_strays, with_items}
use Rattle.dm_dict_text.specs.Faults.{first_dict_fault}
use Rattle.dm_dict_text.specs.Outcome.{all_faults, Defines, IsFirstFault}

abbrev Outcome : List ℕ → Definitions → Type 0
Outcome text old = ((new : Definitions) × Defines text old new) ⊎ ((f : DictFault) × IsFirstFault text old f)

-- the text has items, and these faults
by_faults : (text : List ℕ) (old : Definitions) (items : List Written) → AreItems items (tokens text)
    → (faults : List DictFault) → all_faults old items ≡ faults → Outcome text old
by_faults text old items grammatical [] none =
    inl (
      (with_items (with_no_strays old) items).definitions,
      record { items = items; grammatical = grammatical; faultless = none; followed = refl },
    )
by_faults text old items grammatical (f ∷ faults) some =
    inr (f, inr (record { items = items; grammatical = grammatical; first = ap first_dict_fault some }))

-- by what the grammar says of the text
pub some_outcome : (text : List ℕ) (old : Definitions)
    → ((items : List Written) × AreItems items (tokens text)) ⊎ ((line : ℕ) × IsSyntaxFault text line)
    → Outcome text old
some_outcome text old (inl k) = by_faults text old k.0 k.1 (all_faults old k.0) refl
some_outcome text old (inr k) = inr (Syntax k.0, inl (k.0, refl, k.1))
