-- Lines put behind a text.
use Rattle.std.proofs.Common.{◌≡◌, ℕ, ◌+◌, ◌<◌, List, [], ◌∷◌, ◌++◌, take, length, get_or, Result, Ok, Err, OnOk, sym, ap, ◌∙◌, append_assoc, append-nil, add-one}
use Rattle.std.proofs.Math.Seq.{take-suc}
use Rattle.std.proofs.lemmas.Grind.{flat_map-append}
use Rattle.std.specs.List.{flat_map}
use Rattle.dm_value.specs.declared.fault.NoMemory.{NoMemory}

pub line_pushed : {D : Type 0} (f : D → List ℕ) (before old new : List ℕ) (members : List D) (i : ℕ) (d : D)
    → i < length members → d ≡ get_or members i d
    → old ≡ before ++ flat_map f (take i members) → new ≡ old ++ f d → new ≡ before ++ flat_map f (take (i + 1) members)
line_pushed f before old new members i d h at e g =
    let more : flat_map f (take (i + 1) members) ≡ flat_map f (take i members) ++ f (get_or members i d) =
    rw (add-one i)
    (ap (flat_map f) (take-suc members i d h) ∙ flat_map-append f (take i members) (get_or members i d ∷ []) ∙
    ap (λ r. flat_map f (take i members) ++ r) (append-nil (f (get_or members i d)))) in
    g ∙ ap (λ t. t ++ f d) e ∙ ap (λ x. before ++ flat_map f (take i members) ++ f x) at ∙ append_assoc before
    (flat_map f (take i members)) (f (get_or members i d)) ∙ ap (λ r. before ++ r) (sym more)

-- one piece behind another
pub then_put : (before old new a b : List ℕ) → old ≡ before ++ a → new ≡ old ++ b → new ≡ before ++ (a ++ b)
then_put before old new a b e g = g ∙ ap (λ t. t ++ b) e ∙ append_assoc before a b

pub last_put : (r : Result (Unit {0}) NoMemory) (before old new a b : List ℕ) → old ≡ before ++ a
    → OnOk r (new ≡ old ++ b) → OnOk r (new ≡ before ++ (a ++ b))
last_put (Ok u) before old new a b e g = then_put before old new a b e g
last_put (Err f) before old new a b e g = tt
