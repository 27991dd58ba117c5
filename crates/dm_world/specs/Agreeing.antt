-- What two sides are open on, as it is looked up.
use Rattle.std.specs.Prelude.{ℕ, Bool, true, false, ◌&&◌, ◌==◌, if◌then◌else◌, Option, Some, None, List, slice_get}
use Rattle.std.specs.Option.{option_or}
use Rattle.dm_peer.specs.declared.peer.Peer.{Peer}
use Rattle.dm_two_peers.specs.Worlds.{World}
use Rattle.dm_two_peers.specs.Machine.{Conn, Role, Initiated, Accepted, Node, held_as, is_open}
use Rattle.dm_two_peers.specs.Links.{Side, A, B, Coming, Link}
use Rattle.dm_two_peers.specs.Happens.{own_view}
use Rattle.dm_two_peers.specs.Agreement.{IsOpenOn}

-- the connection that a node is open on in a role
abbrev pub open_in_role : Role → Node → Option Conn
open_in_role r n = if is_open n.state then held_as r n.held else None

-- a disconnect is coming to a side
abbrev pub is_coming_at : Side → Option (Link (List ℕ)) → Bool
is_coming_at s None = false
is_coming_at s (Some l) = elim (own_view s l).incoming.mark [ Coming ↦ true | _ ↦ false ]

-- two roles in which one side is open are on one connection
abbrev pub are_one : Option Conn → Option Conn → Bool
are_one (Some c) (Some d) = c.0 == d.0
are_one _ _ = true

-- where both sides are open: on one connection in opposite roles, or on two, with a disconnect coming to each
abbrev pub are_agreed : Bool → List (Link (List ℕ)) → Option Conn → Option Conn → Bool
are_agreed opposite links (Some c) (Some d) =
    if c.0 == d.0 then opposite
    else is_coming_at A (slice_get links c.0) && is_coming_at B (slice_get links d.0)
are_agreed opposite links _ _ = true

-- the connection that both are
abbrev pub shared : Option Conn → Option Conn → Option Conn
shared (Some c) (Some d) = if c.0 == d.0 then Some c else None
shared _ _ = None

-- both nodes are open on a connection, in some roles
pub record AreBothOpenOn (a b : Node) (c : ℕ) : Type 0 where
  pub role_a : Role
  pub role_b : Role
  pub open_a : IsOpenOn a role_a c
  pub open_b : IsOpenOn b role_b c

-- two nodes agree, as it is looked up
abbrev pub agrees : Node → Node → List (Link (List ℕ)) → Bool
agrees a b links =
    are_one (open_in_role Initiated a) (open_in_role Accepted a)
    && are_one (open_in_role Initiated b) (open_in_role Accepted b)
    && are_agreed false links (open_in_role Initiated a) (open_in_role Initiated b)
    && are_agreed true links (open_in_role Initiated a) (open_in_role Accepted b)
    && are_agreed true links (open_in_role Accepted a) (open_in_role Initiated b)
    && are_agreed false links (open_in_role Accepted a) (open_in_role Accepted b)

-- whether two peers agree
abbrev pub is_agreed : World Peer (List ℕ) → Bool
is_agreed w = agrees w.a.standing.core w.b.standing.core w.links

-- the connection that two nodes are both open on
abbrev pub open_on_both : Node → Node → Option Conn
open_on_both a b =
    option_or (option_or (shared (open_in_role Initiated a) (open_in_role Accepted b))
    (shared (open_in_role Accepted a) (open_in_role Initiated b)))
    (option_or (shared (open_in_role Initiated a) (open_in_role Initiated b))
    (shared (open_in_role Accepted a) (open_in_role Accepted b)))

abbrev pub open_link : World Peer (List ℕ) → Option Conn
open_link w = open_on_both w.a.standing.core w.b.standing.core
