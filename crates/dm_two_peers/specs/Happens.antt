-- What may happen to a world, and what it does.
use Rattle.std.specs.Prelude.{ℕ, ◌+◌, ◌-◌, Bool, true, false, nat_lt, nat_le, ◌==◌, if◌then◌else◌, List, [], ◌∷◌, ◌++◌}
use Rattle.std.specs.Prelude.{length, map, Option, Some, None, slice_get}
use Rattle.dm_two_peers.specs.Machine.{conn}
use Rattle.dm_two_peers.specs.Links.{Side, A, B, flip, opens, LinkPhase, LinkPending}
use Rattle.dm_two_peers.specs.Links.{LinkUp, End, Shut, Mark, Coming, Delivered}
use Rattle.dm_two_peers.specs.Links.{Direction, Link, View, view_of, by_side}
use Rattle.dm_two_peers.specs.Peers.{Cause, Event, StartEvent, StopEvent, TimeoutEvent, TickEvent}
use Rattle.dm_two_peers.specs.Peers.{AckEvent, NackEvent, GoneEvent, SubmitEvent, ArrivedEvent, Peers}
use Rattle.dm_two_peers.specs.Steps.{marked, with_close}
use Rattle.dm_two_peers.specs.Worlds.{World, peer_on, with_peer, with_links, Put, Disconnect, put_if, change_at, After}
use Rattle.dm_two_peers.specs.Worlds.{DoneWith, Ignored, NoLink, tell, after_drop}

-- a Lose names how many of the first octets towards A and towards B are kept, a Piece how many are delivered
pub data Happening (M : Type 0) : Type 0 where
  Starts : Side → Happening M
  Stops : Side → Cause → Happening M
  TimesOut : Side → Happening M
  Ticks : Side → Happening M
  Restarts : Side → Happening M
  Acks : ℕ → Happening M
  Nacks : ℕ → Happening M
  Delivers : ℕ → Side → Happening M
  Pieces : ℕ → Side → ℕ → Happening M
  Loses : ℕ → ℕ → ℕ → Happening M
  Submits : Side → M → Happening M

-- what is next in a direction
pub data Next (M : Type 0) : Type 0 where
  NextMessage : M → Next M
  NextDisconnect : Next M
  NextNothing : Next M

abbrev pub next_in : {M : Type 0} → List M → Mark → Next M
next_in (x ∷ xs) mark = NextMessage x
next_in [] Coming = NextDisconnect
next_in [] _ = NextNothing

-- an event comes to an end
abbrev pub comes : {P M : Type 0} → Peers P M → Side → Event M → End → World P M → After P M
comes m s e Shut w = after_drop s e w
comes m s e _ w = tell m s e w

abbrev pub deliver_next : {P M : Type 0} → Peers P M → ℕ → Side → End → Next M → World P M → After P M
deliver_next m c s end NextNothing w = Ignored
deliver_next m c s end (NextMessage x) w = comes m s (ArrivedEvent (conn c) x) end w
deliver_next m c s end NextDisconnect w = comes m s (GoneEvent (conn c)) end w

-- some octets of the front message are delivered, and not its last
abbrev pub take_part : {M : Type 0} → ℕ → View M → View M
take_part k view = record view { incoming = record view.incoming { taken = view.incoming.taken + k } }

abbrev pub deliver_part : {P M : Type 0} → Peers P M → ℕ → Side → ℕ → End → ℕ → Next M → World P M → After P M
deliver_part m c s k end taken NextNothing w = Ignored
deliver_part m c s k end taken NextDisconnect w = Ignored
deliver_part m c s k end taken (NextMessage x) w =
    if nat_lt (taken + k) (m.size x) then DoneWith (with_links (change_at c (by_side s (take_part k)) w.links) w) []
    else comes m s (ArrivedEvent (conn c) x) end w

-- the first messages that lie wholly in k octets
abbrev pub whole_in : {M : Type 0} → (M → ℕ) → ℕ → List M → List M
whole_in size k [] = []
whole_in size k (x ∷ xs) = if nat_le (size x) k then x ∷ whole_in size (k - size x) xs else []

abbrev pub taken_of : {M : Type 0} → List M → ℕ → ℕ
taken_of [] n = 0
taken_of (x ∷ xs) n = n

-- a direction that keeps k of its octets; one whose disconnect was delivered stays. A front message in part that isn't
-- kept goes with the octets of it that were delivered
abbrev pub lost_messages : {M : Type 0} → Mark → List M → List M → List M
lost_messages Delivered kept old = old
lost_messages _ kept old = kept

abbrev pub lost : {M : Type 0} → (M → ℕ) → ℕ → Direction M → Direction M
lost size k d =
    let messages = lost_messages d.mark (whole_in size (k + d.taken) d.messages) d.messages
    in record { messages = messages; taken = taken_of messages d.taken; mark = marked d.mark }

-- kept are a octets towards A and b towards B
abbrev pub kept_at : Side → ℕ → ℕ → ℕ
kept_at A a b = a
kept_at B a b = b

abbrev pub lost_link : {M : Type 0} → (M → ℕ) → ℕ → ℕ → Link M → Link M
lost_link size a b l =
    record l {
      to_opener = lost size (kept_at l.opener a b) l.to_opener;
      to_other = lost size (kept_at (flip l.opener) a b) l.to_other;
    }

abbrev pub are_shut : End → End → Bool
are_shut Shut Shut = true
are_shut _ _ = false

-- a restart of a side: each of its ends is shut, and the connects that it asked for are cancelled
abbrev pub restarted : {M : Type 0} → Bool → View M → View M
restarted mine v = elim v.phase [ LinkPending ↦ elim mine [ true ↦ with_close v | false ↦ v ] | _ ↦ with_close v ]

abbrev pub restart_links : {M : Type 0} → Side → List (Link M) → List (Link M)
restart_links s links = map (λ l. by_side s (restarted (opens s l.opener)) l) links

abbrev pub restart_puts : {M : Type 0} → Side → ℕ → List (Link M) → List (Put M)
restart_puts s c [] = []
restart_puts s c (l ∷ links) = put_if s (Disconnect c (flip s)) (Some l) ++ restart_puts s (c + 1) links

abbrev pub restart : {P M : Type 0} → Peers P M → Side → World P M → After P M
restart peers side world =
    DoneWith (with_peer side (peers.reset (peer_on side world)) (restart_links side world.links) world)
    (restart_puts side 0 world.links)

-- only on a link that is up, or whose connect is pending
abbrev pub if_up : {X : Type 0} → LinkPhase → X → X → X
if_up LinkUp x y = x
if_up _ x y = y

abbrev pub if_pending : {X : Type 0} → LinkPhase → X → X → X
if_pending LinkPending x y = x
if_pending _ x y = y

-- on the link of a number, where there is one
abbrev pub at_link : {P M : Type 0} → Option (Link M) → (Link M → After P M) → After P M
at_link None f = NoLink
at_link (Some l) f = f l

abbrev pub on_link : {P M : Type 0} → World P M → ℕ → (Link M → After P M) → After P M
on_link world c f = at_link (slice_get world.links c) f

abbrev pub own_view : {M : Type 0} → Side → Link M → View M
own_view s l = view_of (opens s l.opener) l

-- what is next towards a side is delivered, or k octets of it
abbrev pub deliver : {P M : Type 0} → Peers P M → World P M → ℕ → Side → View M → After P M
deliver peers world c side view =
    deliver_next peers c side view.own (next_in view.incoming.messages view.incoming.mark) world

abbrev pub deliver_piece : {P M : Type 0} → Peers P M → World P M → ℕ → Side → ℕ → View M → After P M
deliver_piece peers world c side k view =
    if k == 0 then Ignored else deliver_part peers c side k view.own view.incoming.taken
    (next_in view.incoming.messages view.incoming.mark) world

-- a loss, that both sides are told
abbrev pub lose : {P M : Type 0} → Peers P M → World P M → ℕ → ℕ → ℕ → Link M → After P M
lose peers world c to_a to_b l =
    DoneWith (with_links (change_at c (lost_link peers.size to_a to_b) world.links) world)
    (put_if B (Disconnect c A) (Some l) ++ put_if A (Disconnect c B) (Some l))

abbrev pub unless_shut : {P M : Type 0} → Link M → After P M → After P M
unless_shut l after = if are_shut l.opener_end l.other_end then Ignored else after

-- the one outcome of a happening
abbrev pub happens : {P M : Type 0} → Peers P M → World P M → Happening M → After P M
happens peers world (Starts side) = tell peers side (StartEvent (conn (length world.links))) world
happens peers world (Stops side cause) = tell peers side (StopEvent cause) world
happens peers world (TimesOut side) = tell peers side TimeoutEvent world
happens peers world (Ticks side) = tell peers side TickEvent world
happens peers world (Submits side message) = tell peers side (SubmitEvent message) world
happens peers world (Restarts side) = restart peers side world
happens peers world (Acks link) =
    on_link world link (λ l. if_pending l.phase (tell peers l.opener (AckEvent (conn link)) world) Ignored)
happens peers world (Nacks link) =
    on_link world link (λ l. if_pending l.phase (tell peers l.opener (NackEvent (conn link)) world) Ignored)
happens peers world (Delivers link side) =
    on_link world link (λ l. if_up l.phase (deliver peers world link side (own_view side l)) Ignored)
happens peers world (Pieces link side k) =
    on_link world link (λ l. if_up l.phase (deliver_piece peers world link side k (own_view side l)) Ignored)
happens peers world (Loses link to_a to_b) =
    on_link world link (λ l. if_up l.phase (unless_shut l (lose peers world link to_a to_b l)) Ignored)

-- the world after a happening; what is ignored, and what names no link, leaves it
abbrev pub world_after : {P M : Type 0} → World P M → After P M → World P M
world_after w (DoneWith next put) = next
world_after w Ignored = w
world_after w NoLink = w

-- a world and all that was put into its directions
pub record RunEnd (P M : Type 0) : Type 0 where
  pub world : World P M
  pub put : List (Put M)

abbrev pub ran_on : {P M : Type 0} → RunEnd P M → After P M → Option (RunEnd P M)
ran_on r (DoneWith next put) = Some (record { world = next; put = r.put ++ put })
ran_on r Ignored = Some r
ran_on r NoLink = None

-- happenings one after the other, unless one names no link
abbrev pub run_from : {P M : Type 0} → Peers P M → Option (RunEnd P M) → List (Happening M) → Option (RunEnd P M)
run_from m None hs = None
run_from m (Some r) [] = Some r
run_from m (Some r) (h ∷ hs) = run_from m (ran_on r (happens m r.world h)) hs

abbrev pub run : {P M : Type 0} → Peers P M → World P M → List (Happening M) → Option (RunEnd P M)
run m w hs = run_from m (Some (record { world = w; put = [] })) hs
