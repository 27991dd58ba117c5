-- What an event does to a node that has a policy for hosts that are no neighbours (RFC 6733, 5.3).
use Rattle.std.specs.Prelude.{◌≡◌, ◌⊎◌, ◌<◌, ◌≤◌, ℕ, Option, None, Some, List, [], length, count_by, is_some}
use Rattle.dm_base.specs.declared.node.Node.{Node}
use Rattle.dm_history.specs.History.{new_peer}
use Rattle.dm_machine.specs.declared.connection.Conn.{Conn}
use Rattle.dm_machine.specs.declared.state_name.State.TheVariants.{Closed}
use Rattle.dm_peer.specs.Acts.{Moved, acts}
use Rattle.dm_peer.specs.declared.actions.Action.{Action}
use Rattle.dm_peer.specs.declared.config.Config.{Config}
use Rattle.dm_peer.specs.declared.peer.Peer.{Peer}
use Rattle.dm_peer.specs.Events.{Arrived}
use Rattle.dm_node.specs.Adding.{with_new}
use Rattle.dm_node.specs.Calling.{Caller, caller_of, answer_to}
use Rattle.dm_node.specs.Policies.{Policy, MakesFor, MakesNoneFor}
use Rattle.dm_node.specs.Telling.{Concerns, IsAddressed, PeerIsTold, told_of}
use Rattle.dm_node.specs.declared.events.NodeEvent.{NodeEvent}
use Rattle.dm_node.specs.declared.events.NodeEvent.TheVariants as event

-- how many neighbours there are
abbrev pub present : List (Option Peer) → ℕ
present ps = count_by is_some ps

-- the octets of connection c are the CER of this host, and concern no neighbour
pub record IsStrangeHost (policy : Policy) (ps : List (Option Peer)) (c : Conn) (octets host : List ℕ) : Type 0 where
  pub call : Caller
  pub calls : caller_of octets ≡ Some call
  pub named : call.1 ≡ host
  pub nobody : (i : ℕ) → IsAddressed policy ps c octets i → ⊥

-- the policy makes this configuration for the host whose CER they are, and there are fewer neighbours than there may be
pub record IsPermitted (policy : Policy) (ps : List (Option Peer)) (c : Conn) (octets : List ℕ) (config : Config)
    : Type 0 where
  pub unknown : IsStrangeHost policy ps c octets config.peer
  pub made : MakesFor policy config.peer config
  pub room : present ps < policy.most

-- each such host is turned away: there are as many neighbours as there may be, or the policy makes none for it
abbrev pub IsForbidden : Policy → List (Option Peer) → Conn → List ℕ → Type 0
IsForbidden policy ps c octets =
    (host : List ℕ) → IsStrangeHost policy ps c octets host → (policy.most ≤ present ps) ⊎ MakesNoneFor policy host

-- the host is a neighbour now, behind the others: it was added and then told the octets, and isn't Closed
pub record Joins (ps qs : List (Option Peer)) (i : ℕ) (c : Conn) (octets : List ℕ) (actions : List Action)
    (config : Config) : Type 0 where
  pub number : i ≡ length ps
  pub told : PeerIsTold (with_new ps config) qs i (Arrived c octets) actions
  pub stays : told.after.standing.core.state ≡ Closed → ⊥

-- a peer of its own for the host, told the octets, does this and is Closed: nobody is added
pub record StaysOut (ps qs : List (Option Peer)) (c : Conn) (octets : List ℕ) (actions : List Action) (config : Config)
    : Type 0 where
  pub after : Peer
  pub acted : acts (new_peer config config.first_id) (Arrived c octets) ≡ Moved actions after
  pub closed : after.standing.core.state ≡ Closed
  pub same : qs ≡ ps

-- What octets of a connection do to a node that has a policy: the one neighbour that they concern is told them, and
-- nothing happens to the others; or they concern nobody. Then a host that is permitted becomes a neighbour by its CER,
-- or its peer is Closed behind it; and to all else a stranger is answered and closed, and nothing happens to anybody.
abbrev pub NodeMoves :
    Policy → Conn → List ℕ → Node → List (Option Peer) → Option ℕ → List Action → List (Option Peer) → Type 0
NodeMoves policy c octets n ps (Some i) actions qs =
    (IsAddressed policy ps c octets i × PeerIsTold ps qs i (Arrived c octets) actions)
    ⊎ ((config : Config) × IsPermitted policy ps c octets config × Joins ps qs i c octets actions config)
NodeMoves policy c octets n ps None actions qs =
    ((i : ℕ) → IsAddressed policy ps c octets i → ⊥)
    × (((config : Config) × IsPermitted policy ps c octets config × StaysOut ps qs c octets actions config)
    ⊎ ((actions ≡ answer_to n c (caller_of octets)) × (qs ≡ ps) × IsForbidden policy ps c octets))

-- the one neighbour that the event concerns is told it, and nothing happens to the others; or it concerns nobody, and
-- nothing is done
abbrev pub TellsConcerned :
    Policy → NodeEvent → List (Option Peer) → Option ℕ → List Action → List (Option Peer) → Type 0
TellsConcerned policy e ps (Some i) actions qs = Concerns policy ps e i × PeerIsTold ps qs i (told_of e) actions
TellsConcerned policy e ps None actions qs = ((i : ℕ) → Concerns policy ps e i → ⊥) × (actions ≡ []) × (qs ≡ ps)

-- What an event does to a node that has a policy, which concerns octets alone.
abbrev pub NodeIsTold :
    Policy → NodeEvent → Node → List (Option Peer) → Option ℕ → List Action → List (Option Peer) → Type 0
NodeIsTold policy (event.Arrived c octets) n ps who actions qs = NodeMoves policy c octets.now n ps who actions qs
NodeIsTold policy e n ps who actions qs = TellsConcerned policy e ps who actions qs
