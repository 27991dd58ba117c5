-- What check prints for an input that begins with a dictionary is one text.
use Rattle.std.proofs.Common.{◌≡◌, ◌⊎◌, inl, inr, ◌++◌, ◌∷◌, [], ℕ, Bool, false, List, ap, sym, ◌∙◌, subst}
use Rattle.dm_dict_text.specs.declared.fault.DictFault.{DictFault}
use Rattle.dm_tables.specs.Definitions.{Definitions}
use Rattle.dm_dict_text.specs.Outcome.{Defines, IsFirstFault}
use Rattle.dm_dict_text.specs.OneOutcome.{OneDefinition, OneFault, NoDefinitionRefused}
use Rattle.dm_tool.specs.HexLines.{PrintsAll}
use Rattle.dm_tool.specs.Check.{check_answer, dictionary_fault_text}
use Rattle.dm_tool.specs.Divided.{dictionary_part, message_part}
use Rattle.dm_tool.proofs.OneShown.{OctetLaws, one_text}

-- what is printed where the dictionary is one over the definitions of `base`
abbrev pub Under : Definitions → List ℕ → List ℕ → Bool → Type 0
Under base input text good =
    (d : Definitions) × Defines (dictionary_part input) base d × PrintsAll (check_answer d) (message_part input) text good

abbrev pub Nothing : Definitions → List ℕ → List ℕ → Bool → Type 0
Nothing base input text good =
    (f : DictFault) × IsFirstFault (dictionary_part input) base f × (text ≡ dictionary_fault_text f ++ 10 ∷ []) ×
    (good ≡ false)

-- what a text says as a dictionary is one thing
pub record DefinitionLaws : Type 0 where
  pub one_definition : OneDefinition
  pub one_fault : OneFault
  pub no_definition_refused : NoDefinitionRefused

pub one_checked : OctetLaws → DefinitionLaws → (base : Definitions) (input text other : List ℕ) (good fine : Bool)
    → Under base input text good ⊎ Nothing base input text good
    → Under base input other fine ⊎ Nothing base input other fine
    → (text ≡ other) × (good ≡ fine)
one_checked octets definitions base input text other good fine (inl h) (inl k) =
    let same = definitions.one_definition (dictionary_part input) base h.0 k.0 h.1 k.1 in
    let Prints : Definitions → Type 0 = λ d. PrintsAll (check_answer d) (message_part input) text good in
    one_text octets (check_answer k.0) (message_part input) text other good fine (subst Prints same h.2) k.2
one_checked octets definitions base input text other good fine (inl h) (inr k) =
    absurd (definitions.no_definition_refused (dictionary_part input) base h.0 k.0 h.1 k.1)
one_checked octets definitions base input text other good fine (inr h) (inl k) =
    absurd (definitions.no_definition_refused (dictionary_part input) base k.0 h.0 k.1 h.1)
one_checked octets definitions base input text other good fine (inr h) (inr k) =
    let same = definitions.one_fault (dictionary_part input) base h.0 k.0 h.1 k.1 in
    (h.2 ∙ ap (λ f. dictionary_fault_text f ++ 10 ∷ []) same ∙ sym k.2, h.3 ∙ sym k.3)
