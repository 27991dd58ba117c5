-- What has happened to the neighbours of a node, the latest first, from no neighbours on. Each call of a node is such
-- steps (`laws::calls_are_steps`); an order that a neighbour declines, or that is misdirected, is one too.
use Rattle.std.specs.Prelude.{◌≡◌, ℕ, nat_eq, Option, Some, List, [], ◌∷◌, length, if◌then◌else◌}
use Rattle.dm_history.specs.History.{Happened, done_at, declined_at, new_peer, Became}
use Rattle.dm_peer.specs.declared.actions.Action.{Action}
use Rattle.dm_peer.specs.declared.config.Config.{Config}
use Rattle.dm_peer.specs.declared.peer.Peer.{Peer}
use Rattle.dm_peer.specs.Events.{PeerEvent}
use Rattle.dm_node.specs.Adding.{with_new}
use Rattle.dm_node.specs.Emptying.{without_peer, with_set_back, all_set_back}
use Rattle.dm_node.specs.Holding.{peer_at}
use Rattle.dm_node.specs.Telling.{PeerIsTold}

-- a neighbour was added under this number; the one of this number was told an event and did this, or refused it; an
-- event moved nobody; one was removed; one was set back; all were
pub data NodeStep : Type 0 where
  WasAdded : ℕ → NodeStep
  WasTold : ℕ → PeerEvent → List Action → NodeStep
  HasDeclined : ℕ → PeerEvent → NodeStep
  MovedNobody : NodeStep
  WasRemoved : ℕ → NodeStep
  WasSetBack : ℕ → NodeStep
  AllWereSetBack : NodeStep

-- these steps lead from no neighbours to these
pub data NodeBecame : List NodeStep → List (Option Peer) → Type 0 where
  nobody_yet : NodeBecame [] []
  added : (past : List NodeStep) (ps : List (Option Peer)) (config : Config) →
      NodeBecame past ps → NodeBecame (WasAdded (length ps) ∷ past) (with_new ps config)
  told : (past : List NodeStep) (ps qs : List (Option Peer)) (i : ℕ) (e : PeerEvent) (actions : List Action) →
      NodeBecame past ps → PeerIsTold ps qs i e actions → NodeBecame (WasTold i e actions ∷ past) qs
  refused_event : (past : List NodeStep) (ps : List (Option Peer)) (i : ℕ) (e : PeerEvent) →
      NodeBecame past ps → NodeBecame (HasDeclined i e ∷ past) ps
  unmoved : (past : List NodeStep) (ps : List (Option Peer)) →
      NodeBecame past ps → NodeBecame (MovedNobody ∷ past) ps
  removed : (past : List NodeStep) (ps : List (Option Peer)) (i : ℕ) →
      NodeBecame past ps → NodeBecame (WasRemoved i ∷ past) (without_peer ps i)
  back : (past : List NodeStep) (ps : List (Option Peer)) (i : ℕ) →
      NodeBecame past ps → NodeBecame (WasSetBack i ∷ past) (with_set_back ps i)
  all_back : (past : List NodeStep) (ps : List (Option Peer)) →
      NodeBecame past ps → NodeBecame (AllWereSetBack ∷ past) (all_set_back ps)

-- what has happened to the neighbour of a number since it was added or set back
abbrev pub own_past : ℕ → List NodeStep → List Happened
own_past i [] = []
own_past i (WasAdded j ∷ past) = if nat_eq i j then [] else own_past i past
own_past i (WasTold j e actions ∷ past) = if nat_eq i j then done_at e actions ∷ own_past i past else own_past i past
own_past i (HasDeclined j e ∷ past) = if nat_eq i j then declined_at e ∷ own_past i past else own_past i past
own_past i (MovedNobody ∷ past) = own_past i past
own_past i (WasRemoved j ∷ past) = own_past i past
own_past i (WasSetBack j ∷ past) = if nat_eq i j then [] else own_past i past
own_past i (AllWereSetBack ∷ past) = []

-- the peer is what a new peer of its configuration, told these events, is then
pub record HasOwnHistory (past : List Happened) (p : Peer) : Type 0 where
  pub next : ℕ
  pub became : Became (new_peer p.config next) past p

-- Whatever happens to a node, each neighbour's part of it is the history of a peer of its own: so what is proved of one
-- peer against anyone holds of each neighbour, whatever happens to the others.
abbrev pub EachNeighbourHasItsHistory : Type 0
EachNeighbourHasItsHistory =
    (past : List NodeStep) (ps : List (Option Peer)) (i : ℕ) (p : Peer) →
    NodeBecame past ps → peer_at ps i ≡ Some p → HasOwnHistory (own_past i past) p
