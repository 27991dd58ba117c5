-- Faults along a list, read one member after the other.
use Rattle.std.proofs.Common.{◌≡◌, Bool, true, ◌<◌, ◌≤◌, ℕ, ◌+◌, List, [], ◌∷◌, ◌++◌, map, drop, length, get_or, fold, Some, refl, sym, ap, subst, ◌∙◌, inl, inr, add-one}
use Rattle.std.proofs.lemmas.Bool.{and_parts}
use Rattle.std.proofs.Math.Seq.{drop-cons}
use Rattle.std.specs.List.{list_all}
use Rattle.std.proofs.Math.ListN.{drop_of_length-le}
use Rattle.dm_dict_text.specs.declared.fault.DictFault.{DictFault}
use Rattle.dm_dict_text.specs.Faults.{first_dict_fault, StopsAtFirst, faults_along}

pub first_left : (xs ys : List DictFault) (f : DictFault) → first_dict_fault xs ≡ Some f → first_dict_fault (xs ++ ys) ≡ Some f
first_left [] ys f e = absurd cc
first_left (x ∷ xs) ys f e = e

pub first_right : (xs ys : List DictFault) (f : DictFault) → xs ≡ [] → first_dict_fault ys ≡ Some f
    → first_dict_fault (xs ++ ys) ≡ Some f
first_right xs ys f none e = rw none e

pub stops_left : (xs ys : List DictFault) (f : DictFault) → StopsAtFirst xs f → StopsAtFirst (xs ++ ys) f
stops_left xs ys f (inl e) = inl e
stops_left xs ys f (inr e) = inr (first_left xs ys f e)

pub stops_right : (xs ys : List DictFault) (f : DictFault) → xs ≡ [] → StopsAtFirst ys f → StopsAtFirst (xs ++ ys) f
stops_right xs ys f none h = rw none h

pub none_left : (xs ys : List DictFault) → (xs ++ ys) ≡ [] → xs ≡ []
none_left [] ys e = refl
none_left (x ∷ xs) ys e = absurd cc

pub none_right : (xs ys : List DictFault) → (xs ++ ys) ≡ [] → ys ≡ []
none_right [] ys e = e
none_right (x ∷ xs) ys e = absurd cc

pub none_both : (xs ys : List DictFault) → xs ≡ [] → ys ≡ [] → (xs ++ ys) ≡ []
none_both xs ys e g = rw (e, g) refl

-- s is what the members before the rest make, and they have no fault
pub record Along {S W : Type 0} (faults : S → W → List DictFault) (next : S → W → S) (start : S) (all : List W) (s : S)
    (rest : List W) : Type 0 where
  pub faults_left : faults_along faults next start all ≡ faults_along faults next s rest
  pub end_left : fold next start all ≡ fold next s rest

module _ {S W I : Type 0} (faults : S → W → List DictFault) (next : S → W → S) (shown : I → W) where
  pub along_next : (start s t : S) (all : List W) (items : List I) (i : ℕ) (d x : I) → i < length items
      → x ≡ get_or items i d
      → Along faults next start all s (map shown (drop i items)) → faults s (shown x) ≡ [] → t ≡ next s (shown x)
      → Along faults next start all t (map shown (drop (i + 1) items))
  along_next start s t all items i d x h at along none e =
      let here : drop i items ≡ x ∷ drop (i + 1) items = rw (at, add-one i) (drop-cons items i d h) in
      let said : Along faults next start all s (map shown (x ∷ drop (i + 1) items)) = subst
      (λ (l : List I). Along faults next start all s (map shown l)) here along in
      record {
        faults_left = said.faults_left ∙
            ap (λ fs. fs ++ faults_along faults next (next s (shown x)) (map shown (drop (i + 1) items))) none ∙
            ap (λ u. faults_along faults next u (map shown (drop (i + 1) items))) (sym e);
        end_left = said.end_left ∙ ap (λ u. fold next u (map shown (drop (i + 1) items))) (sym e);
      }

  pub along_stops : (start s : S) (all : List W) (items : List I) (i : ℕ) (d x : I) (f : DictFault) → i < length items
      → x ≡ get_or items i d
      → Along faults next start all s (map shown (drop i items)) → StopsAtFirst (faults s (shown x)) f
      → StopsAtFirst (faults_along faults next start all) f
  along_stops start s all items i d x f h at along stops =
      let here : drop i items ≡ x ∷ drop (i + 1) items = rw (at, add-one i) (drop-cons items i d h) in
      let said : Along faults next start all s (map shown (x ∷ drop (i + 1) items)) = subst
      (λ (l : List I). Along faults next start all s (map shown l)) here along in
      rw (said.faults_left) (stops_left _ _ f stops)

  pub along_end : (start s : S) (all : List W) (items : List I) (i : ℕ) → length items ≤ i
      → Along faults next start all s (map shown (drop i items))
      → (faults_along faults next start all ≡ []) × (s ≡ fold next start all)
  along_end start s all items i h along =
      let none : drop i items ≡ [] = drop_of_length-le items h in
      let said : Along faults next start all s (map shown []) = subst
      (λ (l : List I). Along faults next start all s (map shown l)) none along in
      (said.faults_left, sym (said.end_left))

-- the next of some items that all pass a test
pub next_passes : {W I : Type 0} (p : W → Bool) (shown : I → W) (items : List I) (i : ℕ) (d x : I) → i < length items
    → x ≡ get_or items i d
    → list_all p (map shown (drop i items)) ≡ true
    → (p (shown x) ≡ true) × (list_all p (map shown (drop (i + 1) items)) ≡ true)
next_passes p shown items i d x h at all =
    let here : drop i items ≡ x ∷ drop (i + 1) items = rw (at, add-one i) (drop-cons items i d h) in
    and_parts _ _ (rw here at all)
