-- What holds of where a peer stands: what it waits for goes by its state, and its numbers fit their fields.
use Rattle.std.specs.Prelude.{◌≡◌, IsTrue, ◌<◌, ◌^◌, false, None, is_some, IfSome}
use Rattle.dm_wire.specs.Limits.{HeaderFits}
use Rattle.dm_machine.specs.Node.{is_shaped}
use Rattle.dm_machine.specs.Awaiting.{awaits_cea, awaits_dwa, awaits_dpa, holds_cer}
use Rattle.dm_peer.specs.declared.standing.Standing.{Standing}

pub record IsSettledAt (s : Standing) : Type 0 where
  pub shaped : IsTrue (is_shaped s.core)
  -- the number of a CER awaits its CEA just in Wait-I-CEA and Wait-Returns
  pub cea : is_some s.awaited.cea ≡ awaits_cea s.core.state
  -- that of a DWR awaits its DWA in R-Open, I-Open and Closing alone, that of a DPR its DPA in Closing alone
  pub dwa : awaits_dwa s.core.state ≡ false → s.awaited.dwa ≡ None
  pub dpa : awaits_dpa s.core.state ≡ false → s.awaited.dpa ≡ None
  -- a CER waits for its CEA just in Wait-Conn-Ack/Elect and Wait-Returns
  pub waiting : is_some s.waiting ≡ holds_cer s.core.state

-- its next number, and those of the CER that waits
pub record IsFittingAt (s : Standing) : Type 0 where
  pub next : s.next < 256 ^ 4
  pub waiting : IfSome s.waiting HeaderFits

pub record IsKeptAt (s : Standing) : Type 0 where
  pub settled : IsSettledAt s
  pub fitting : IsFittingAt s
