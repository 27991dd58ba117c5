-- The refusals of the state machine, as a peer answers them.
use Rattle.dm_machine.specs.declared.outputs.Refusal.{Refusal}
use Rattle.dm_machine.specs.declared.outputs.Refusal.TheVariants as refusal
use Rattle.dm_peer.specs.declared.fault.PeerFault.{PeerFault}
use Rattle.dm_peer.specs.declared.fault.PeerFault.TheVariants.{NotClosed, NotOpen}

abbrev pub fault_of : Refusal → PeerFault
fault_of refusal.NotClosed = NotClosed
fault_of refusal.NotOpen = NotOpen
