-- Octets that stand for themselves wherever a text is put.
use Rattle.std.specs.Prelude.{◌≢◌, ◌≤◌, ◌<◌, ℕ, List, get_or}

-- ASCII from this octet on, no control, no `"` and no `\`
abbrev pub NeedsNoEscape : ℕ → ℕ → Type 0
NeedsNoEscape least b = (least ≤ b) × (b ≤ 126) × (b ≢ 34) × (b ≢ 92)

-- all octets from here on up to there
abbrev pub CleanBetween : ℕ → List ℕ → ℕ → ℕ → Type 0
CleanBetween least s i j = (k : ℕ) → i ≤ k → k < j → NeedsNoEscape least (get_or s k 0)
