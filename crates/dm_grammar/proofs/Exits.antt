-- The exit of a `?`.
use Rattle.std.proofs.Common.{◌≡◌, Result, Ok, Err, MatchResult}
use Rattle.std.specs.Result.{IsErrAnd}

-- what a `?` hands on, the same value
pub handed_on : {T E : Type 0} (P : T → Type 0) (Q : E → Type 0) (r : Result T E) (e : E) → IsErrAnd r (λ y. y ≡ e)
    → Q e → MatchResult r P Q
handed_on P Q (Ok x) e h q = absurd h
handed_on P Q (Err y) e h q = rw h q
