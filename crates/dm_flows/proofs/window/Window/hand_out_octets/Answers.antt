-- Octets were handed out one by one.
use Rattle.dm_flows.proofs.Handing.{hands_none}
use Rattle.dm_flows.proofs.window.Window.hand_out_octets.Goals as goal

pub octets-init : goal.octets-init
octets-init c = hands_none c.args.self.now c.args.output.now.items
