-- The links of rules, each kept at a place.
use Rattle.std.specs.Prelude.{◌≡◌, ◌<◌, ℕ, List, [], ◌∷◌, length, map, slice_index, slice_index_or}
use Rattle.dm_dict.specs.Links.{LinkedEntries, no_links}
use Rattle.dm_dict.specs.declared.rule_links.RuleLinks.TheInside.{Inside}

-- the links at each of the places
abbrev pub shown_links : List LinkedEntries → List ℕ → List LinkedEntries
shown_links all places = map (λ i. slice_index_or all i no_links) places

-- what is kept where something is: first of all the links of no entries
abbrev pub begun_links : List LinkedEntries → List LinkedEntries
begun_links [] = no_links ∷ []
begun_links (links ∷ kept) = links ∷ kept

-- the first have no entries, and something is kept at each place
pub record AreRulesKept (links : Inside) : Type 0 where
  pub none : slice_index_or links.kept.items 0 no_links ≡ no_links
  pub within : (i : ℕ) → i < length links.places.items
      → slice_index links.places.items i < length links.kept.items
