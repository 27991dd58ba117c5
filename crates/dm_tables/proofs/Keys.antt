-- The keys of members.
use Rattle.std.proofs.Common.{◌≡◌, Bool, false, ◌||◌, List, [], ◌∷◌, ◌++◌, map, refl, sym, ap, ◌∙◌}
use Rattle.std.proofs.lemmas.List.{map-append}
use Rattle.std.specs.List.{list_any}
use Rattle.indexmap.specs.IndexSet.{insert_key}

pub any-map : {A B : Type 0} (p : B → Bool) (f : A → B) (xs : List A) →
    list_any p (map f xs) ≡ list_any (λ x. p (f x)) xs
any-map p f [] = refl
any-map p f (x ∷ xs) = ap (λ b. p (f x) || b) (any-map p f xs)

-- a key that is new goes last
pub key_last : {K : Type 0} (same : K → K → Bool) (ks : List K) (k : K) → list_any (same k) ks ≡ false
    → insert_key same ks k ≡ ks ++ k ∷ []
key_last same ks k h = rw h refl

pub key_pushed : {K D : Type 0} (same : K → K → Bool) (key : D → K) (old new : List K) (ds : List D) (d : D) (k : K)
    → old ≡ map key ds → new ≡ insert_key same old k → k ≡ key d → list_any (same k) old ≡ false
    → new ≡ map key (ds ++ d ∷ [])
key_pushed same key old new ds d k had put named fresh =
    put ∙ key_last same old k fresh ∙ (λ i. had i ++ named i ∷ []) ∙ sym (map-append key ds (d ∷ []))
