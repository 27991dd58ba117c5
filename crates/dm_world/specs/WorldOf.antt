-- A world as contracts see it.
use Rattle.dm_world.specs.declared.world.World.TheInside.{Inside}
use Rattle.dm_world.specs.Delivering.{HasPast}
use Rattle.dm_world.specs.Ends.{AreNamed}
use Rattle.dm_world.specs.Kept.{IsWorldKept}
use Rattle.dm_world.specs.Seen.{as_links}
use Rattle.dm_world.specs.Views.{OctetWorld, as_world}

abbrev pub world_in : Inside → OctetWorld
world_in w = as_world w.net

-- what holds of its fields: beside what holds of every world, it has a past, and each fresh end is named
pub record IsWhole (w : Inside) : Type 0 where
  pub kept : IsWorldKept (as_world w.net)
  pub past : HasPast (as_world w.net)
  pub named : AreNamed w.made (as_links w.net.links.items)
