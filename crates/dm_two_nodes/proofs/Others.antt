-- What befell a neighbour, and its turns, are left by what happens to others.
use Rattle.std.proofs.Common.{◌≡◌, ℕ, nat_eq, Bool, true, false, if◌then◌else◌, List, ◌∷◌, refl}
use Rattle.dm_node.specs.NodeHistory.{NodeStep, WasAdded, WasTold, HasDeclined, MovedNobody, WasRemoved, WasSetBack, AllWereSetBack}
use Rattle.dm_two_peers.specs.Links.{Side}
use Rattle.dm_two_nodes.specs.Stories.{node_story}
use Rattle.dm_two_nodes.specs.Delivering.{node_turns, is_step_of, OthersLeaveTheStory}

else_if : {X : Type 0} (b : Bool) (x y : X) → b ≡ false → (if b then x else y) ≡ y
else_if true x y is = cc
else_if false x y is = refl

story_left : (i : ℕ) (x : NodeStep) (past : List NodeStep) → is_step_of i x ≡ false →
    node_story i (x ∷ past) ≡ node_story i past
story_left i (WasAdded j) past is = else_if (nat_eq i j) _ (node_story i past) is
story_left i (WasTold j e actions) past is = else_if (nat_eq i j) _ (node_story i past) is
story_left i (WasSetBack j) past is = else_if (nat_eq i j) _ (node_story i past) is
story_left i AllWereSetBack past is = cc
story_left i (HasDeclined j e) past is = refl
story_left i MovedNobody past is = refl
story_left i (WasRemoved j) past is = refl

turns_left : (s : Side) (i : ℕ) (x : NodeStep) (past : List NodeStep) → is_step_of i x ≡ false →
    node_turns s i (x ∷ past) ≡ node_turns s i past
turns_left s i (WasAdded j) past is = else_if (nat_eq i j) _ (node_turns s i past) is
turns_left s i (WasTold j e actions) past is = else_if (nat_eq i j) _ (node_turns s i past) is
turns_left s i _ past is = refl

pub others_leave_the_story : OthersLeaveTheStory
others_leave_the_story = record { story = story_left; turns = turns_left }
