-- The order of hosts in an election (RFC 6733, 5.6.4).
use Rattle.std.specs.declared.cmp.Ordering.{Ordering}
use Rattle.std.specs.declared.cmp.Ordering.TheVariants.{Less, Equal, Greater}
use Rattle.std.specs.Prelude.{◌≡◌, ℕ, ◌+◌, ◌<◌, ◌⊎◌, ◌&&◌, nat_le, nat_lt, List, [], ◌∷◌, ◌++◌, map, if◌then◌else◌}

-- `A` to `Z` taken as `a` to `z`
abbrev pub lower_octet : ℕ → ℕ
lower_octet c = if nat_le 65 c && nat_le c 90 then c + 32 else c

abbrev pub lower : List ℕ → List ℕ
lower h = map lower_octet h

-- at the first place where they differ s has the smaller octet, or s is a proper front of t
abbrev pub Precedes : List ℕ → List ℕ → Type 0
Precedes s t =
    ((front : List ℕ) × (a : ℕ) × (b : ℕ) × (x : List ℕ) × (y : List ℕ)
    × (s ≡ front ++ a ∷ x) × (t ≡ front ++ b ∷ y) × (a < b))
    ⊎ ((b : ℕ) × (y : List ℕ) × (t ≡ s ++ b ∷ y))

abbrev pub Before : List ℕ → List ℕ → Type 0
Before h k = Precedes (lower h) (lower k)

-- the order of two texts: the first difference decides, and a proper front comes first
abbrev pub order_of_hosts : List ℕ → List ℕ → Ordering
order_of_hosts [] [] = Equal
order_of_hosts [] (b ∷ t) = Less
order_of_hosts (a ∷ s) [] = Greater
order_of_hosts (a ∷ s) (b ∷ t) = if nat_lt a b then Less else (if nat_lt b a then Greater else order_of_hosts s t)

-- of two hosts with different `lower` just one comes before the other
abbrev pub OneComesFirst : Type 0
OneComesFirst =
    (h k : List ℕ) → (lower h ≡ lower k → ⊥) → (Before h k × (Before k h → ⊥)) ⊎ (Before k h × (Before h k → ⊥))
