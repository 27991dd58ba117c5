use Rattle.std.proofs.Common.{ap, ◌∙◌}
use Rattle.std.specs.List.{list_all}
use Rattle.dm_two_peers.specs.Quiet.{is_quiet, is_quiet_link}
use Rattle.dm_world.specs.Seen.{as_links}
use Rattle.dm_world.proofs.world.World.quiet.Goals as goal

pub returns : goal.returns
returns c =
    c.are_quiet.ensures ∙ ap (λ ls. list_all is_quiet_link (as_links ls)) c.as_slice.ensures.value
    ∙ ap is_quiet c.self.view_is
