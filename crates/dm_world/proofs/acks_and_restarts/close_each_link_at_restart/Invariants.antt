use Rattle.std.proofs.Common.{◌≡◌, drop}
use Rattle.dm_world.specs.Ends.{restart_each}
use Rattle.dm_world.specs.Seen.{as_side, as_links}
use Rattle.dm_world.proofs.acks_and_restarts.close_each_link_at_restart.Given as goal

abbrev pub invariant-loop-index : goal.invariant-loop-index
invariant-loop-index l = restart_each (as_side l.side) (drop l.index-index l.indexes)
    (as_links l.links.items) ≡ restart_each (as_side l.side) l.indexes (as_links l.fn.links.items)
