-- Lines that stand for something, where one more line stands behind others.
use Rattle.std.proofs.Common.{◌≡◌, ℕ, Bool, false, cond, not, List, [], ◌∷◌, ◌++◌, ap, ◌∙◌}
use Rattle.dm_text.specs.Joined.{ContentIsJoined}
use Rattle.dm_text.specs.Lines.{trimmed, is_skipped, content}

pub content-one : (line : List ℕ) (b : Bool) → is_skipped (trimmed line) ≡ b
    → content (line ∷ []) ≡ cond (not b) (trimmed line ∷ []) []
content-one line b is = ap (λ v. cond (not v) (trimmed line ∷ []) []) is

pub content-cut : ContentIsJoined → (before : List (List ℕ)) (line : List ℕ) (after : List (List ℕ))
    → is_skipped (trimmed line) ≡ false
    → content (before ++ line ∷ after) ≡ content before ++ trimmed line ∷ content after
content-cut joined before line after counts =
    joined before (line ∷ after) ∙ ap
    (λ b. content before ++ cond (not b) (trimmed line ∷ content after) (content after)) counts
