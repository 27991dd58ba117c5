-- What a node of the right shape holds, by role.
use Rattle.std.proofs.Common.{◌≡◌, ℕ, Bool, true, false, ◌||◌, ◌==◌, if◌then◌else◌, List, [], ◌∷◌, refl, ◌∙◌}
use Rattle.std.specs.Prelude.{◌&&◌, IsTrue}
use Rattle.dm_machine.specs.declared.state_name.State.{State}
use Rattle.dm_machine.specs.declared.state_name.State.TheVariants.{Closed, WaitConnAck, WaitICea, WaitConnAckElect}
use Rattle.dm_machine.specs.declared.state_name.State.TheVariants.{WaitReturns, ROpen, IOpen, Closing}
use Rattle.dm_machine.specs.Node.{is_held_in, is_count_of}
use Rattle.dm_machine.specs.Connection.{Hold, NotHeld, Pending, OpenAsI, OpenAsR, ClosingAsI, ClosingAsR, hold_in}
use Rattle.dm_machine.specs.Connection as machine
use Rattle.dm_two_peers.specs.Machine.{conn, Conn, Role, Initiated, Accepted, Node, held_as, is_shaped, tie_as, tie_of}
use Rattle.dm_two_peers.specs.Machine.{is_tie_held}
use Rattle.dm_world.specs.Rooms.{is_conn, node_holds_link}

abbrev is_tied : Hold → Bool
is_tied h = is_tie_held (tie_as h)

one_tie : (b : Bool) (h : Hold) → is_tied h ≡ true → is_tied (if b then h else NotHeld) ≡ b
one_tie true h is = is
one_tie false h is = refl

two_ties : (a b : Bool) (h g : Hold) → is_tied h ≡ true → is_tied g ≡ true →
    is_tied (if a then h else (if b then g else NotHeld)) ≡ (a || b)
two_ties true b h g is that = is
two_ties false b h g is that = one_tie b g that

or_false : (b : Bool) → b ≡ (b || false)
or_false true = refl
or_false false = refl

roles_hold : (s : State) (held : List (Role × Conn)) (c : ℕ) → is_held_in s held ≡ true →
    is_tied (hold_in s held (conn c)) ≡ (is_conn (held_as Initiated held) c || is_conn (held_as Accepted held) c)
roles_hold Closed [] c h = refl
roles_hold WaitConnAck ((Initiated, i) ∷ []) c h = one_tie (i.0 == c) Pending refl ∙ or_false (i.0 == c)
roles_hold WaitICea ((Initiated, i) ∷ []) c h = one_tie (i.0 == c) machine.Made refl ∙ or_false (i.0 == c)
roles_hold WaitConnAckElect ((Initiated, i) ∷ (Accepted, r) ∷ []) c h =
    two_ties (i.0 == c) (r.0 == c) Pending machine.Taken refl refl
roles_hold WaitReturns ((Initiated, i) ∷ (Accepted, r) ∷ []) c h = two_ties (i.0 == c) (r.0 == c) machine.Made
    machine.Taken refl refl
roles_hold ROpen ((Accepted, r) ∷ []) c h = one_tie (r.0 == c) OpenAsR refl
roles_hold IOpen ((Initiated, i) ∷ []) c h = one_tie (i.0 == c) OpenAsI refl ∙ or_false (i.0 == c)
roles_hold Closing ((Initiated, x) ∷ []) c h = one_tie (x.0 == c) ClosingAsI refl ∙ or_false (x.0 == c)
roles_hold Closing ((Accepted, x) ∷ []) c h = one_tie (x.0 == c) ClosingAsR refl
roles_hold _ _ c h = cc

first_true : (a b : Bool) → (a && b) ≡ true → a ≡ true
first_true true b h = refl
first_true false b h = cc

pub held_by_role : (n : Node) (c : ℕ) → IsTrue (is_shaped n) → is_tie_held (tie_of n c) ≡ node_holds_link n c
held_by_role n c shaped =
    roles_hold n.state n.held c (first_true (is_held_in n.state n.held) (is_count_of n.state n.count) shaped)
