-- Words by their place in a line.
use Rattle.std.proofs.Common.{◌≡◌, List, ◌∷◌}

pub first : {X : Type 0} {w r s : List X} {a b : X} → w ≡ a ∷ r → w ≡ b ∷ s → a ≡ b
first h k = cc

pub third : {X : Type 0} {w r s t : List X} {a b c d e f : X} → w ≡ a ∷ b ∷ r → r ≡ c ∷ s → w ≡ d ∷ e ∷ f ∷ t → c ≡ f
third h k l = cc

pub behind_third : {X : Type 0} {w r s t : List X} {a b c d e f : X} → w ≡ a ∷ b ∷ r → r ≡ c ∷ s → w ≡ d ∷ e ∷ f ∷ t
    → s ≡ t
behind_third h k l = cc

pub second_of : {X : Type 0} {w s t : List X} {a b c d : X} → w ≡ a ∷ b ∷ s → w ≡ c ∷ d ∷ t → b ≡ d
second_of h k = cc

pub third_of : {X : Type 0} {w s t : List X} {a b c d e f : X} → w ≡ a ∷ b ∷ c ∷ s → w ≡ d ∷ e ∷ f ∷ t → c ≡ f
third_of h k = cc
