use Rattle.std.proofs.Common.{ℕ, subst}
use Rattle.std.specs.Option.{IfNone}
use Rattle.dm_octet_peers.specs.Octets.{octet_peers}
use Rattle.dm_world.specs.Agreeing.{AreBothOpenOn}
use Rattle.dm_world.specs.Views.{OctetWorld}
use Rattle.dm_world.proofs.world.World.open_link.Goals as goal

pub returns-clause-none : goal.returns-clause-none
returns-clause-none c =
    subst (λ (w : OctetWorld). IfNone c.conn_open_on_both.result ((k : ℕ) →
    AreBothOpenOn (octet_peers.node_of w.a) (octet_peers.node_of w.b) k → ⊥)) c.self.view_is
    c.conn_open_on_both.ensures.none
