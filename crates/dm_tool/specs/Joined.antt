-- Two texts, one behind the other.
use Rattle.std.specs.Prelude.{◌≡◌, ℕ, Bool, ◌&&◌, List, ◌++◌}

-- what Head and Tail print, one behind the other; it is good where both are
pub record Joined (Head Tail : List ℕ → Bool → Type 0) (text : List ℕ) (good : Bool) : Type 0 where
  pub first : List ℕ
  pub rest : List ℕ
  pub fine : Bool
  pub others : Bool
  pub head : Head first fine
  pub tail : Tail rest others
  pub text_is : text ≡ first ++ rest
  pub good_is : good ≡ (fine && others)
