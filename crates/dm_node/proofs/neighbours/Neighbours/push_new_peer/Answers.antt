-- The peer is a new one.
use Rattle.std.proofs.Common.{◌≡◌, ◌∷◌, [], ◌++◌, Some, OnOk, subst}
use Rattle.dm_peer.specs.declared.peer.Peer.{Peer}
use Rattle.dm_node.proofs.Growing.{made}
use Rattle.dm_node.proofs.neighbours.Neighbours.push_new_peer.Goals as goal

pub returns-clause-added : goal.returns-clause-added
returns-clause-added c =
    subst (λ (y : Peer). OnOk c.push_peer.result (c.push_peer.new.self ≡ c.args.self.now ++ Some y ∷ []))
    (made c.new.result c.args.config c.new.ensures.config c.new.ensures.standing) c.push_peer.ensures.added
