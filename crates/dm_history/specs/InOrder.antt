-- The whole lists of a run: what is handed up, against what came for the user on the open connection.
use Rattle.std.specs.Prelude.{◌≡◌, ℕ, Bool, false, not, ◌&&◌, Option, None}
use Rattle.std.specs.Prelude.{Some, is_some, List, [], ◌∷◌, ◌++◌, if◌then◌else◌}
use Rattle.dm_wire.specs.declared.message.Message.{Message}
use Rattle.dm_wire.specs.Whole.{message_in}
use Rattle.dm_base.specs.Commands.{is_base_command}
use Rattle.dm_machine.specs.declared.connection.Conn.{Conn}
use Rattle.dm_machine.specs.Connection.{hold_of}
use Rattle.dm_machine.specs.Upward.{is_open_hold}
use Rattle.dm_peer.specs.declared.actions.Action.{Action}
use Rattle.dm_peer.specs.declared.actions.Action.TheVariants.{Send, Up}
use Rattle.dm_peer.specs.declared.peer.Peer.{Peer}
use Rattle.dm_peer.specs.Events.{PeerEvent, Arrived, Submit}
use Rattle.dm_peer.specs.Acts.{Moved, acts}
use Rattle.dm_peer.specs.Settled.{IsSettled}
use Rattle.dm_history.specs.History.{Happened, Became}
use Rattle.dm_history.specs.Carrying.{StandsOpen}
use Rattle.dm_history.specs.Replaying.{peer_after, HoldsThroughout}

-- the octets that actions hand up, in order
abbrev pub ups_in : List Action → List (List ℕ)
ups_in [] = []
ups_in (Up s ∷ actions) = s ∷ ups_in actions
ups_in (_ ∷ actions) = ups_in actions

abbrev pub ups_done : Option (List Action) → List (List ℕ)
ups_done None = []
ups_done (Some actions) = ups_in actions

-- all that was handed up, in order
abbrev pub all_ups : List Happened → List (List ℕ)
all_ups [] = []
all_ups (x ∷ past) = all_ups past ++ ups_done x.did

-- a message of another command than 257, 280 and 282
abbrev pub is_for_user : Option Message → Bool
is_for_user None = false
is_for_user (Some m) = not (is_base_command m.header.command)

-- the octets of such a message that an event brings on the connection on which the peer is open
abbrev pub comes_open : Peer → PeerEvent → List (List ℕ)
comes_open p (Arrived c s) =
    if is_open_hold (hold_of p.standing.core c) && is_for_user (message_in s) then s ∷ [] else []
comes_open p _ = []

abbrev pub came_open : Peer → Happened → List (List ℕ)
came_open p x = if is_some x.did then comes_open p x.event else []

-- all that came so, in order
abbrev pub all_came_open : Peer → List Happened → List (List ℕ)
all_came_open first [] = []
all_came_open first (x ∷ past) = all_came_open first past ++ came_open (peer_after first past) x

-- what is handed up is just that: each message once, in order, octet for octet, and nothing else
abbrev pub EachRunIsInOrder : Type 0
EachRunIsInOrder =
    (first : Peer) (past : List Happened) (p : Peer) →
    IsSettled first → Became first past p → all_ups past ≡ all_came_open first past

-- the octets are sent once, on the connection on which the peer is open, and nothing else is done
pub record IsSentOpen (p : Peer) (s : List ℕ) (actions : List Action) : Type 0 where
  pub conn : Conn
  pub opened : StandsOpen p conn
  pub sent : actions ≡ Send conn s ∷ []

-- so is each Submit that is done; and nothing else is passed on (`EachRunCarries`)
abbrev pub EachSubmitIsSent : Type 0
EachSubmitIsSent =
    (p : Peer) (s : List ℕ) (actions : List Action) (next : Peer) →
    IsSettled p → acts p (Submit s) ≡ Moved actions next → IsSentOpen p s actions

-- the same of an event, whichever it is
abbrev pub SendsIfSubmitted : Peer → PeerEvent → List Action → Type 0
SendsIfSubmitted p e actions = (s : List ℕ) → e ≡ Submit s → IsSentOpen p s actions

-- through each history from a settled peer on
abbrev pub EachRunSends : Type 0
EachRunSends =
    (first : Peer) (past : List Happened) (p : Peer) →
    IsSettled first → Became first past p → HoldsThroughout SendsIfSubmitted first past
