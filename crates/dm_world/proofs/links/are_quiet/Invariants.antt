use Rattle.std.proofs.Common.{◌≡◌}
use Rattle.std.specs.List.{list_all}
use Rattle.dm_two_peers.specs.Quiet.{is_quiet_link}
use Rattle.dm_world.specs.Seen.{as_links}
use Rattle.dm_world.proofs.Quiets.{quiet_from}
use Rattle.dm_world.proofs.links.are_quiet.Given as goal

abbrev pub invariant-loop-link : goal.invariant-loop-link
invariant-loop-link l = list_all is_quiet_link (as_links l.links) ≡ quiet_from l.link-index l.links
