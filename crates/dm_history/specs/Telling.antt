-- A peer that is told events one after the other, and what comes of each.
use Rattle.std.specs.Prelude.{◌≡◌, Result, Ok, Err, List, [], ◌∷◌, length, take, reverse, map}
use Rattle.arrayvec.specs.ArrayVec.{ArrayVec}
use Rattle.dm_peer.specs.declared.actions.Action.{Action}
use Rattle.dm_peer.specs.declared.events.Event as declared_event
use Rattle.dm_peer.specs.declared.fault.PeerFault.{PeerFault}
use Rattle.dm_peer.specs.declared.peer.Peer.{Peer}
use Rattle.dm_peer.specs.Events.{PeerEvent, event_told}
use Rattle.dm_peer.specs.Acts.{Moved, Refused, acts}
use Rattle.dm_history.specs.History.{Happened, done_at, declined_at}

-- what comes of an event: what the peer does, in order, or why it refuses
abbrev pub EventReply : Type 0
EventReply = Result (ArrayVec Action) PeerFault

-- at the event the peer does just that, or refuses it by rule and stays as it is
abbrev pub RepliesSo : Peer → PeerEvent → EventReply → Peer → Type 0
RepliesSo p e (Ok actions) next = acts p e ≡ Moved actions.items next
RepliesSo p e (Err f) next = (acts p e ≡ Refused f) × (next ≡ p)

-- the first peer replies so to these events, the latest first, and is this one then
pub data Replied (first : Peer) : List PeerEvent → List EventReply → Peer → Type 0 where
  unasked : Replied first [] [] first
  asked : (events : List PeerEvent) (replies : List EventReply) (p : Peer) (e : PeerEvent) (reply : EventReply)
      (next : Peer) →
      Replied first events replies p → RepliesSo p e reply next →
      Replied first (e ∷ events) (reply ∷ replies) next

abbrev pub happened_at : PeerEvent → EventReply → Happened
happened_at e (Ok actions) = done_at e actions.items
happened_at e (Err f) = declined_at e

-- what has happened then
abbrev pub happened_in : List PeerEvent → List EventReply → List Happened
happened_in (e ∷ events) (reply ∷ replies) = happened_at e reply ∷ happened_in events replies
happened_in _ _ = []

-- the events of a list that have a reply, the latest first
abbrev pub events_told : List declared_event.Event → List EventReply → List PeerEvent
events_told events replies = reverse (take (length replies) (map event_told events))

abbrev pub run_of : List declared_event.Event → List EventReply → List Happened
run_of events replies = happened_in (events_told events replies) (reverse replies)
