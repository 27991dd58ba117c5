-- What is printed where the dictionary of an input has a fault.
use Rattle.std.proofs.Common.{◌≡◌, ◌⊎◌, inl, inr, ℕ, Bool, false, List, [], ◌∷◌, ◌++◌, Result, Ok, Err, IfOk, subst}
use Rattle.dm_dict_text.specs.declared.fault.DictFault.{DictFault}
use Rattle.dm_dict_text.specs.declared.fault.DictFault.TheVariants.{NoMemory}
use Rattle.dm_dict_text.specs.Outcome.{IsFirstFault}
use Rattle.dm_tables.specs.Base.{base_definitions}
use Rattle.dm_tables.specs.Definitions.{Definitions}
use Rattle.dm_tool.specs.Check.{dictionary_fault_text, ChecksWithDictionary}
use Rattle.dm_tool.specs.Divided.{dictionary_part}

-- the fault that was found is the first of the input's dictionary, and its words are all that is printed
pub only_fault : {T E : Type 0} (input text : List ℕ) (d : Definitions) (f : DictFault) (r : Result T E)
    (text_of : T → List ℕ) (good_of : T → Bool) → text ≡ dictionary_part input → d ≡ base_definitions
    → (f ≡ NoMemory) ⊎ IsFirstFault text d f → IfOk r (λ p. text_of p ≡ dictionary_fault_text f ++ 10 ∷ [])
    → IfOk r (λ p. f ≡ NoMemory → ⊥) → IfOk r (λ p. good_of p ≡ false)
    → IfOk r (λ p. ChecksWithDictionary input (text_of p) (good_of p))
only_fault input text d f (Err e) text_of good_of part base fault words known bad = tt
only_fault input text d f (Ok p) text_of good_of part base (inl none) words known bad = absurd (known none)
only_fault input text d f (Ok p) text_of good_of part base (inr first) words known bad =
    let Under : Definitions → Type 0 = λ v. IsFirstFault (dictionary_part input) v f in
    let Of : List ℕ → Type 0 = λ v. IsFirstFault v d f in
    inr (f, subst Under base (subst Of part first), words, bad)
