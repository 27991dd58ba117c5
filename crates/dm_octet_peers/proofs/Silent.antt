-- No step hands anything up but at a message of another command on the connection on which the node is open.
use Rattle.std.proofs.Common.{◌≡◌, Bool, true, false, not, refl}
use Rattle.dm_machine.specs.declared.inputs.Input.{Input}
use Rattle.dm_machine.specs.Node.{Node, is_shaped}
use Rattle.dm_machine.specs.Moves.{NodeOutcome, NodeMoved, NodeRefused, machine_outcome}
use Rattle.dm_machine.specs.Upward.{has_up, IsHeardOpen, UpIsHeard, HandsUpWhereOpen}

abbrev pub is_silent : NodeOutcome → Bool
is_silent (NodeMoved commands next) = not (has_up commands)
is_silent (NodeRefused r) = true

silent_unless : (b : Bool) → (b ≡ true → ⊥) → not b ≡ true
silent_unless true none = absurd (none refl)
silent_unless false none = refl

silent_outcome : (n : Node) (i : Input) (o : NodeOutcome) → UpIsHeard n i o → (IsHeardOpen n i → ⊥) → is_silent o ≡ true
silent_outcome n i (NodeMoved commands next) up none = silent_unless (has_up commands) (λ is. none (up is))
silent_outcome n i (NodeRefused r) up none = refl

pub silent_step : HandsUpWhereOpen → (n : Node) → is_shaped n ≡ true → (i : Input) (wins : Bool) →
    (IsHeardOpen n i → ⊥) → is_silent (machine_outcome n i wins) ≡ true
silent_step ups n shaped i wins none = silent_outcome n i (machine_outcome n i wins) (ups n i wins shaped) none
