-- What comes on a connection that a peer doesn't hold (RFC 6733, 5.6).
use Rattle.std.specs.Prelude.{◌≡◌, ◌⊎◌, ℕ, Bool, false, List, [], ◌∷◌}
use Rattle.dm_machine.specs.declared.connection.Conn.{Conn}
use Rattle.dm_machine.specs.Connection.{NotHeld, hold_of}
use Rattle.dm_machine.specs.Strangers.{lets_in}
use Rattle.dm_peer.specs.declared.actions.Action.{Action}
use Rattle.dm_peer.specs.declared.actions.Action.TheVariants.{Send, Close}
use Rattle.dm_peer.specs.declared.peer.Peer.{Peer}
use Rattle.dm_peer.specs.Events.{Arrived}
use Rattle.dm_peer.specs.Said.{heard_at, word_heard}
use Rattle.dm_peer.specs.Settled.{IsSettled}
use Rattle.dm_peer.specs.Acts.{Outcome, Moved, Refused, acts}

-- a good CER of the configured host, in Closed, Wait-Conn-Ack or Wait-I-CEA
abbrev pub is_welcome : Peer → List ℕ → Bool
is_welcome p s = lets_in p.standing.core.state (word_heard (heard_at p.config s))

-- octets of a stranger: on a connection that isn't held, and not welcome
abbrev pub AreStrange : Peer → Conn → List ℕ → Type 0
AreStrange p c s = (hold_of p.standing.core c ≡ NotHeld) × (is_welcome p s ≡ false)

-- the connection is closed, behind an answer or none
abbrev pub TurnsAway : Conn → List Action → Type 0
TurnsAway c actions = (actions ≡ Close c ∷ []) ⊎ ((answer : List ℕ) × (actions ≡ Send c answer ∷ Close c ∷ []))

-- and no more is done: the peer is what it was
abbrev pub OnlyTurnsAway : Peer → Conn → Outcome → Type 0
OnlyTurnsAway p c (Moved actions next) = TurnsAway c actions × (next ≡ p)
OnlyTurnsAway p c (Refused f) = ⊥

abbrev pub StrangersChangeNothing : Type 0
StrangersChangeNothing =
    (p : Peer) (c : Conn) (s : List ℕ) → IsSettled p → AreStrange p c s → OnlyTurnsAway p c (acts p (Arrived c s))
