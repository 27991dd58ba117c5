-- The links of rules, each kept at a place, one rule more.
use Rattle.std.proofs.Common.{◌≡◌, ◌<◌, ℕ, zero, suc, List, [], ◌∷◌, ◌++◌, length, get_or, refl, ap, ◌∙◌, arith}
use Rattle.std.proofs.lemmas.List.{map-append, get_or_append_left}
use Rattle.dm_dict.specs.Links.{LinkedEntries, no_links}
use Rattle.dm_dict.specs.RuleLinks.{begun_links, shown_links}

-- what is kept behind the others doesn't change what they show
pub shown_more : (all : List LinkedEntries) (l : LinkedEntries) (places : List ℕ)
    → ((i : ℕ) → i < length places → get_or places i 0 < length all)
    → shown_links (all ++ l ∷ []) places ≡ shown_links all places
shown_more all l [] within = refl
shown_more all l (p ∷ places) within =
    let here : get_or (all ++ l ∷ []) p no_links ≡ get_or all p no_links =
    get_or_append_left all (l ∷ []) no_links p (within zero (omega arith)) in
    let rest = shown_more all l places (λ i h. within (suc i) (omega (arith, h))) in
    (λ i. here i ∷ rest i)

-- one place more
pub shown_push : (all : List LinkedEntries) (places : List ℕ) (p : ℕ) (l : LinkedEntries) → get_or all p no_links ≡ l
    → shown_links all (places ++ p ∷ []) ≡ shown_links all places ++ l ∷ []
shown_push all places p l e =
    map-append (λ i. get_or all i no_links) places (p ∷ []) ∙ ap (λ x. shown_links all places ++ x ∷ []) e

-- the last that is kept
pub last_kept : (all : List LinkedEntries) (l : LinkedEntries) → get_or (all ++ l ∷ []) (length all) no_links ≡ l
last_kept [] l = refl
last_kept (k ∷ all) l = last_kept all l

-- what is kept first of all is shown by none
pub shown_begun : (kept : List LinkedEntries) (places : List ℕ)
    → ((i : ℕ) → i < length places → get_or places i 0 < length kept)
    → shown_links (begun_links kept) places ≡ shown_links kept places
shown_begun [] [] within = refl
shown_begun [] (p ∷ places) within = let below = within zero (omega arith) in absurd (omega (arith, below))
shown_begun (k ∷ kept) places within = refl

pub within_begun : (kept : List LinkedEntries) (places : List ℕ)
    → ((i : ℕ) → i < length places → get_or places i 0 < length kept)
    → (i : ℕ) → i < length places → get_or places i 0 < length (begun_links kept)
within_begun [] places within i here = let below = within i here in absurd (omega (arith, below))
within_begun (k ∷ kept) places within i here = within i here

pub first_begun : (kept : List LinkedEntries) → get_or kept 0 no_links ≡ no_links
    → get_or (begun_links kept) 0 no_links ≡ no_links
first_begun [] is = refl
first_begun (k ∷ kept) is = is

pub some_begun : (kept : List LinkedEntries) → 0 < length (begun_links kept)
some_begun [] = omega arith
some_begun (k ∷ kept) = omega arith
