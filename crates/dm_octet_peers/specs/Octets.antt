-- Peers over octets, as the laws of two peers see them.
use Rattle.std.specs.Prelude.{ℕ, List, length, map}
use Rattle.dm_base.specs.declared.kind.Cause as declared_cause
use Rattle.dm_base.specs.declared.kind.Cause.TheVariants as cause
use Rattle.dm_peer.specs.declared.actions.Action as declared_action
use Rattle.dm_peer.specs.declared.actions.Action.TheVariants as action
use Rattle.dm_peer.specs.declared.peer.Peer.{Peer}
use Rattle.dm_peer.specs.Events as told
use Rattle.dm_peer.specs.Acts.{Outcome, Moved, Refused, acts, standing_at}
use Rattle.dm_peer.specs.After.{fresh_standing}
use Rattle.dm_two_peers.specs.Peers.{Cause, Rebooting, Busy, DoNotWantToTalkToYou, Event, StartEvent, StopEvent}
use Rattle.dm_two_peers.specs.Peers.{TimeoutEvent, TickEvent, AckEvent, NackEvent, GoneEvent, SubmitEvent, ArrivedEvent}
use Rattle.dm_two_peers.specs.Peers.{Action, Connect, Send, Close, HandUp, Reply, ActsBy, Declines, Peers}

-- a cause, as it is told
abbrev pub as_cause : declared_cause.Cause → Cause
as_cause cause.Rebooting = Rebooting
as_cause cause.Busy = Busy
as_cause cause.DoNotWantToTalkToYou = DoNotWantToTalkToYou

abbrev pub of_cause : Cause → declared_cause.Cause
of_cause Rebooting = cause.Rebooting
of_cause Busy = cause.Busy
of_cause DoNotWantToTalkToYou = cause.DoNotWantToTalkToYou

-- what a peer is told
abbrev pub of_event : Event (List ℕ) → told.PeerEvent
of_event (StartEvent c) = told.Start c
of_event (StopEvent cause) = told.Stop (of_cause cause)
of_event TimeoutEvent = told.Timeout
of_event TickEvent = told.Tick
of_event (AckEvent c) = told.Ack c
of_event (NackEvent c) = told.Nack c
of_event (GoneEvent c) = told.Gone c
of_event (SubmitEvent s) = told.Submit s
of_event (ArrivedEvent c s) = told.Arrived c s

abbrev pub as_event : told.PeerEvent → Event (List ℕ)
as_event (told.Start c) = StartEvent c
as_event (told.Stop cause) = StopEvent (as_cause cause)
as_event told.Timeout = TimeoutEvent
as_event told.Tick = TickEvent
as_event (told.Ack c) = AckEvent c
as_event (told.Nack c) = NackEvent c
as_event (told.Gone c) = GoneEvent c
as_event (told.Submit s) = SubmitEvent s
as_event (told.Arrived c s) = ArrivedEvent c s

-- what it does
abbrev pub as_action : declared_action.Action → Action (List ℕ)
as_action (action.Connect c) = Connect c
as_action (action.Send c s) = Send c s
as_action (action.Close c) = Close c
as_action (action.Up s) = HandUp s

abbrev pub as_actions : List declared_action.Action → List (Action (List ℕ))
as_actions l = map as_action l

abbrev pub as_reply : Outcome → Reply Peer (List ℕ)
as_reply (Moved actions next) = ActsBy (as_actions actions) next
as_reply (Refused fault) = Declines

abbrev pub octet_peers : Peers Peer (List ℕ)
octet_peers =
    record {
      node_of = λ p. p.standing.core;
      reply = λ p e. as_reply (acts p (of_event e));
      reset = λ p. standing_at p (fresh_standing p.standing.next);
      size = λ s. length s;
    }
