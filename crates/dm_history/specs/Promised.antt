-- What is promised of a run, from a history on that began with a new peer.
use Rattle.std.specs.Prelude.{◌≡◌, ℕ, List, ◌∷◌, ◌++◌}
use Rattle.dm_machine.specs.declared.connection.Conn.{Conn}
use Rattle.dm_machine.specs.Connection.{hold_of}
use Rattle.dm_peer.specs.declared.actions.Action.{Action}
use Rattle.dm_peer.specs.declared.actions.Action.TheVariants.{Send, Close}
use Rattle.dm_peer.specs.declared.config.Config.{Config}
use Rattle.dm_peer.specs.declared.peer.Peer.{Peer}
use Rattle.dm_peer.specs.Events.{PeerEvent}
use Rattle.dm_history.specs.History.{Happened, new_peer, Became, StandsAmong}
use Rattle.dm_history.specs.Naming.{EndedSince}
use Rattle.dm_history.specs.Opened.{IsOpened}
use Rattle.dm_history.specs.Carrying.{IsCarried}
use Rattle.dm_history.specs.Over.{IsOver}
use Rattle.dm_history.specs.Replaying.{HoldsThroughout}

-- the fact holds of the configuration and of all that has happened since a new peer of it became this one
abbrev pub FromNew : Peer → (Config → List Happened → Type 0) → Type 0
FromNew p P = (config : Config) (next : ℕ) (past : List Happened) → Became (new_peer config next) past p → P config past

-- the run leads on from each history
abbrev pub LeadsOn : Peer → List Happened → Peer → Type 0
LeadsOn p run last = (first : Peer) (past : List Happened) → Became first past p → Became first (run ++ past) last

-- then each open connection was opened as RFC 6733, 5.6, asks
abbrev pub LeavesOpened : Peer → List Happened → Peer → Type 0
LeavesOpened p run last =
    FromNew p (λ config past. (c : Conn) → IsOpened config c (run ++ past) (hold_of last.standing.core c))

-- each message that was handed up came just then on the open connection, and each that was sent is a base message of
-- the node, or was submitted just then
abbrev pub CarriesThrough : Peer → List Happened → Type 0
CarriesThrough p run = FromNew p (λ config past. HoldsThroughout (IsCarried config.node) p run)

-- a connection that has ended, and that no event named since, is over
abbrev pub LeavesEnded : Peer → List Happened → Peer → Type 0
LeavesEnded p run last = FromNew p (λ config past. (c : Conn) → EndedSince c (run ++ past) → IsOver last c)

-- nothing is sent on a connection behind its Close
abbrev pub EndsAtEachClose : Peer → PeerEvent → List Action → Type 0
EndsAtEachClose p e actions =
    (c : Conn) (s : List ℕ) (earlier later : List Action) → actions ≡ earlier ++ Close c ∷ later →
    StandsAmong later (Send c s) → ⊥

abbrev pub ClosesThrough : Peer → List Happened → Type 0
ClosesThrough p run = FromNew p (λ config past. HoldsThroughout EndsAtEachClose p run)
