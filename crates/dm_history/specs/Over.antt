-- A connection that has ended stays over, until an event names it again; and a Close is the last that is done on one.
use Rattle.std.specs.Prelude.{◌≡◌, ℕ, false, List, ◌∷◌, ◌++◌}
use Rattle.dm_machine.specs.declared.connection.Conn.{Conn}
use Rattle.dm_machine.specs.Connection.{NotHeld, hold_of}
use Rattle.dm_peer.specs.declared.actions.Action.{Action}
use Rattle.dm_peer.specs.declared.actions.Action.TheVariants.{Send, Close}
use Rattle.dm_peer.specs.declared.config.Config.{Config}
use Rattle.dm_peer.specs.declared.peer.Peer.{Peer}
use Rattle.dm_peer.specs.Events.{PeerEvent}
use Rattle.dm_peer.specs.Acts.{Moved, acts}
use Rattle.dm_history.specs.History.{Happened, new_peer, Became, StandsAmong}
use Rattle.dm_history.specs.Naming.{names_conn, EndedSince}

-- the connection isn't held, and nothing is sent on it at an event that doesn't name it
pub record IsOver (p : Peer) (c : Conn) : Type 0 where
  pub free : hold_of p.standing.core c ≡ NotHeld
  pub silent : (e : PeerEvent) (actions : List Action) (next : Peer) (s : List ℕ) → names_conn e c ≡ false →
      acts p e ≡ Moved actions next → StandsAmong actions (Send c s) → ⊥

-- so is each one that has ended and wasn't named since
abbrev pub EachEndIsLast : Type 0
EachEndIsLast =
    (config : Config) (next : ℕ) (past : List Happened) (p : Peer) (c : Conn) →
    Became (new_peer config next) past p → EndedSince c past → IsOver p c

-- behind a Close nothing is sent on it at the same event
abbrev pub NothingFollowsClose : Type 0
NothingFollowsClose =
    (config : Config) (next : ℕ) (past : List Happened) (p : Peer) (e : PeerEvent) (after : Peer) (c : Conn)
    (s : List ℕ) (earlier later : List Action) →
    Became (new_peer config next) past p → acts p e ≡ Moved (earlier ++ Close c ∷ later) after →
    StandsAmong later (Send c s) → ⊥
