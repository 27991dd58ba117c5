-- So far octets were handed out in order.
use Rattle.std.proofs.Common.{length}
use Rattle.dm_flows.specs.Windows.{HandsTo}
use Rattle.dm_flows.proofs.window.Window.hand_out_octets.Given as goal

abbrev pub invariant-octets : goal.invariant-octets
invariant-octets l = HandsTo l.fn.self l.fn.output.items l.self l.output.items

abbrev pub decreases-octets : goal.decreases-octets
decreases-octets l = length l.self.held
