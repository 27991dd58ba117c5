-- What is printed of what a peer does.
use Rattle.std.specs.Prelude.{ℕ, Option, None, Some, List, [], ◌∷◌, ◌++◌, codes}
use Rattle.std.specs.Fmt.{decimal}
use Rattle.std.specs.List.{flat_map}
use Rattle.hex.specs.Hex.{encode_lower}
use Rattle.dm_machine.specs.declared.connection.Conn.{Conn}
use Rattle.dm_machine.specs.Printed.{state_text}
use Rattle.dm_peer.specs.declared.actions.Action.{Action}
use Rattle.dm_peer.specs.declared.actions.Action.TheVariants.{Connect, Send, Close, Up}
use Rattle.dm_peer.specs.declared.fault.PeerFault.{PeerFault}
use Rattle.dm_peer.specs.declared.fault.PeerFault.TheVariants.{NotClosed, NotOpen, BadSubmit, NoMemory}
use Rattle.dm_peer.specs.declared.peer.Peer.{Peer}
use Rattle.dm_slots.specs.Raised.{own_of, other_of}

-- the line of an action
unfoldable pub action_line : Action → List ℕ
action_line (Connect c) = codes "connect " ++ decimal c.0 ++ 10 ∷ []
action_line (Send c octets) = codes "send " ++ decimal c.0 ++ codes " " ++ encode_lower octets ++ 10 ∷ []
action_line (Close c) = codes "close " ++ decimal c.0 ++ 10 ∷ []
action_line (Up octets) = codes "up " ++ encode_lower octets ++ 10 ∷ []

-- one behind the other
abbrev pub action_lines : List Action → List ℕ
action_lines actions = flat_map action_line actions

-- a whole message came on the connection, which the watchdog's clock counts (RFC 3539, 3.4.1)
unfoldable pub arrival_line : Option Conn → List ℕ
arrival_line None = []
arrival_line (Some c) = codes "arrived " ++ decimal c.0 ++ 10 ∷ []

-- why an order is refused; want of memory has no words
unfoldable pub refusal_line : PeerFault → List ℕ
refusal_line NotClosed = codes "refused NotClosed" ++ 10 ∷ []
refusal_line NotOpen = codes "refused NotOpen" ++ 10 ∷ []
refusal_line BadSubmit = codes "refused BadSubmit" ++ 10 ∷ []
refusal_line NoMemory = []

-- a connection that is held, behind a space and the letter of its role
unfoldable pub held_words : List ℕ → Option Conn → List ℕ
held_words letter None = []
held_words letter (Some c) = letter ++ decimal c.0

-- its state, and the connections that it holds
unfoldable pub standing_words : Peer → List ℕ
standing_words p =
    state_text p.standing.core.state ++ held_words (codes " i") (own_of p) ++ held_words (codes " r") (other_of p)
    ++ 10 ∷ []
