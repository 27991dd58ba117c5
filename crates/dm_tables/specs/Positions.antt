-- The places of keys.
use Rattle.std.specs.Prelude.{ℕ, ◌+◌, List, [], ◌∷◌}

-- the keys of definitions, in order, each with its place counted from n
abbrev pub places : {D K : Type 0} → (D → K) → ℕ → List D → List (K × ℕ)
places key n [] = []
places key n (d ∷ ds) = (key d, n) ∷ places key (n + 1) ds
