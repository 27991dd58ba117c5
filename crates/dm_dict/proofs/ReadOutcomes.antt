-- What reading answers is the text's one outcome, or want of memory.
use Rattle.std.proofs.Common.{◌≡◌, ◌⊎◌, ℕ, List, Result, Ok, Err, ap, inl, inr}
use Rattle.dm_tables.specs.Definitions.{Definitions}
use Rattle.dm_dict_text.specs.declared.fault.DictFault.{DictFault}
use Rattle.dm_dict_text.specs.declared.fault.DictFault.TheVariants.{NoMemory}
use Rattle.dm_dict_text.specs.Outcome.{Defines, IsFirstFault}
use Rattle.dm_dict_text.specs.OneOutcome.{OneDefinition, OneFault, NoDefinitionRefused}

module _ (text : List ℕ) (old : Definitions) where
  pub only_at_ok : OneDefinition → (made new : Definitions) → Defines text old made → Defines text old new
      → (◌≡◌ {A = Result Definitions DictFault} (Ok made) (Ok new)) ⊎
      (◌≡◌ {A = Result Definitions DictFault} (Ok made) (Err NoMemory))
  only_at_ok one made new d e = inl (ap Ok (one text old made new d e))

  pub only_at_err : NoDefinitionRefused → (f : DictFault) (new : Definitions) → (f ≡ NoMemory) ⊎ IsFirstFault text old f
      → Defines text old new
      → (◌≡◌ {A = Result Definitions DictFault} (Err f) (Ok new)) ⊎
      (◌≡◌ {A = Result Definitions DictFault} (Err f) (Err NoMemory))
  only_at_err apart f new (inl e) d = inr (ap Err e)
  only_at_err apart f new (inr h) d = absurd (apart text old new f d h)

  pub refuses_at_ok : NoDefinitionRefused → (made : Definitions) (f : DictFault) → Defines text old made
      → IsFirstFault text old f
      → (◌≡◌ {A = Result Definitions DictFault} (Ok made) (Err f)) ⊎
      (◌≡◌ {A = Result Definitions DictFault} (Ok made) (Err NoMemory))
  refuses_at_ok apart made f d h = absurd (apart text old made f d h)

  pub refuses_at_err : OneFault → (g f : DictFault) → (g ≡ NoMemory) ⊎ IsFirstFault text old g → IsFirstFault text old f
      → (◌≡◌ {A = Result Definitions DictFault} (Err g) (Err f)) ⊎
      (◌≡◌ {A = Result Definitions DictFault} (Err g) (Err NoMemory))
  refuses_at_err one g f (inl e) h = inr (ap Err e)
  refuses_at_err one g f (inr k) h = inl (ap Err (one text old g f k h))
