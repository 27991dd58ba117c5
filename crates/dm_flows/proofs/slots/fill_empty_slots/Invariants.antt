-- So far the first octets were filled in.
use Rattle.std.proofs.Common.{take}
use Rattle.dm_flows.specs.Windows.{IsFilled}
use Rattle.dm_flows.proofs.slots.fill_empty_slots.Given as goal

abbrev pub invariant-octets : goal.invariant-octets
invariant-octets l = IsFilled l.fn.slots.items l.at (take l.index l.octets) l.slots.items
