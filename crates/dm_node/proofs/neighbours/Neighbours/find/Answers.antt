use Rattle.std.proofs.Common.{◌≡◌, ℕ, IsSome, IfSome, IfNone, List, Option, Some, subst}
use Rattle.dm_base.specs.Before.{lower}
use Rattle.dm_peer.specs.declared.peer.Peer.{Peer}
use Rattle.dm_node.specs.Holding.{peer_at, host_at}
use Rattle.dm_node.proofs.Named.{there_named, found_named, none_named}
use Rattle.dm_node.proofs.neighbours.Neighbours.find.Goals as goal

pub returns-clause-there : goal.returns-clause-there
returns-clause-there c =
    subst (λ (l : List (Option Peer)). IfSome c.noted_number.result (λ i. IsSome (peer_at l i))) c.self.view_is
    (there_named c.self.inside.hosts c.self.inside.peers.items c.args.host.now c.self.invariant.named c.noted_number.result
    c.noted_number.ensures)

pub returns-clause-found : goal.returns-clause-found
returns-clause-found c =
    subst (λ (l : List (Option Peer)). IfSome c.noted_number.result (λ i. host_at l i ≡ Some (lower c.args.host.now)))
    c.self.view_is
    (found_named c.self.inside.hosts c.self.inside.peers.items c.args.host.now c.self.invariant.named c.noted_number.result
    c.noted_number.ensures)

pub returns-clause-none : goal.returns-clause-none
returns-clause-none c =
    subst (λ (l : List (Option Peer)). IfNone c.noted_number.result
    ((j : ℕ) → host_at l j ≡ Some (lower c.args.host.now) → ⊥)) c.self.view_is
    (none_named c.self.inside.hosts c.self.inside.peers.items c.args.host.now c.self.invariant.named c.noted_number.result
    c.noted_number.ensures)
