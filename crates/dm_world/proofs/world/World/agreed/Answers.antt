use Rattle.std.proofs.Common.{sym, ap, subst, ◌∙◌}
use Rattle.std.specs.Prelude.{Bool, IsTrue, ◌↔◌}
use Rattle.dm_two_peers.specs.Agreement.{Agreed}
use Rattle.dm_octet_peers.specs.Octets.{octet_peers}
use Rattle.dm_world.specs.Agreeing.{agrees, is_agreed}
use Rattle.dm_world.specs.Seen.{as_links}
use Rattle.dm_world.specs.Views.{as_world}
use Rattle.dm_world.proofs.Agrees.{agrees_as}
use Rattle.dm_world.proofs.world.World.agreed.Goals as goal

pub returns : goal.returns
returns c =
    let inside = as_world c.self.inside.net in
    let w = c.args.self.now in
    let is =
    c.peers_agree.ensures ∙ ap (λ ls. agrees inside.a.standing.core inside.b.standing.core (as_links ls))
    c.as_slice.ensures.value ∙ ap is_agreed c.self.view_is in
    record {
      value = is;
      meaning = subst (λ (b : Bool). IsTrue b ↔ Agreed octet_peers w) (sym is) (agrees_as octet_peers w);
    }
