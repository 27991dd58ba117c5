-- What a peer sends is a message: the octets of each Send spell one (RFC 6733, 3).
use Rattle.std.specs.Prelude.{ℕ, ◌<◌, ◌^◌, ⊤, List, All}
use Rattle.dm_wire.specs.declared.message.Message.{Message}
use Rattle.dm_wire.specs.Spelling.{SpellsMessage}
use Rattle.dm_peer.specs.declared.actions.Action.{Action}
use Rattle.dm_peer.specs.declared.actions.Action.TheVariants.{Send}
use Rattle.dm_peer.specs.declared.config.Config.{Config}
use Rattle.dm_peer.specs.declared.peer.Peer.{Peer}
use Rattle.dm_peer.specs.Events.{PeerEvent, octets_in}
use Rattle.dm_wire.specs.Octets.{AreOctets}
use Rattle.dm_peer.specs.After.{fresh_standing}
use Rattle.dm_peer.specs.Settled.{IsSettled}
use Rattle.dm_peer.specs.KeptAt.{IsFittingAt}
use Rattle.dm_peer.specs.Acts.{Outcome, Moved, Refused, acts}

-- the octets spell some message
abbrev pub IsSpelling : List ℕ → Type 0
IsSpelling s = (m : Message) × SpellsMessage m s

-- what the action sends, where it sends something, is a spelling
abbrev pub SendsSpelling : Action → Type 0
SendsSpelling (Send c s) = IsSpelling s
SendsSpelling _ = ⊤

-- the numbers that a peer goes by fit their fields: its next one, and those of the CER that waits
abbrev pub IsFitting : Peer → Type 0
IsFitting p = IsFittingAt p.standing

-- those of a new peer do, and of one after `reset`, where the next one does
abbrev pub FreshIsFitting : Type 0
FreshIsFitting = (c : Config) (next : ℕ) → next < 256 ^ 4
    → IsFitting (record { config = c; standing = fresh_standing next })

-- the outcome sends spellings alone, and the numbers fit still
abbrev pub LeavesSpelled : Outcome → Type 0
LeavesSpelled (Moved actions next) = All SendsSpelling actions × IsFitting next
LeavesSpelled (Refused f) = ⊤

abbrev pub EachSendIsSpelled : Type 0
EachSendIsSpelled =
    (p : Peer) (e : PeerEvent) → AreOctets (octets_in e) → IsSettled p → IsFitting p → LeavesSpelled (acts p e)
