-- What the peers of a run were told and what they did, in order: what happens as `happens` and `run` say it.
use Rattle.std.specs.Prelude.{ℕ, ◌+◌, nat_lt, ◌==◌, if◌then◌else◌, Option, Some, None, List, [], ◌∷◌, ◌++◌, length}
use Rattle.std.specs.Prelude.{slice_get}
use Rattle.dm_two_peers.specs.Machine.{conn}
use Rattle.dm_two_peers.specs.Links.{Side, End, Shut, Link}
use Rattle.dm_two_peers.specs.Peers.{Event, StartEvent, StopEvent, TimeoutEvent, TickEvent, AckEvent}
use Rattle.dm_two_peers.specs.Peers.{NackEvent, GoneEvent, SubmitEvent, ArrivedEvent, Action, Reply}
use Rattle.dm_two_peers.specs.Peers.{ActsBy, Declines, Peers}
use Rattle.dm_two_peers.specs.Worlds.{World, peer_on}
use Rattle.dm_two_peers.specs.Happens.{Happening, Starts, Stops, TimesOut, Ticks}
use Rattle.dm_two_peers.specs.Happens.{Restarts, Acks, Nacks, Delivers, Pieces}
use Rattle.dm_two_peers.specs.Happens.{Loses, Submits, Next, NextMessage, NextDisconnect, NextNothing, next_in, if_up}
use Rattle.dm_two_peers.specs.Happens.{if_pending, own_view, happens, world_after}

-- a side's peer was told an event, and did this
pub record WorldTurn (M : Type 0) : Type 0 where
  pub side : Side
  pub event : Event M
  pub actions : List (Action M)

-- what it declines is no turn
abbrev pub turn_by : {P M : Type 0} → Side → Event M → Reply P M → List (WorldTurn M)
turn_by s e Declines = []
turn_by s e (ActsBy actions p) = record { side = s; event = e; actions = actions } ∷ []

abbrev pub turn_of : {P M : Type 0} → Peers P M → Side → Event M → World P M → List (WorldTurn M)
turn_of m s e w = turn_by s e (m.reply (peer_on s w) e)

-- what comes to a shut end is told to no peer
abbrev pub turn_at : {P M : Type 0} → Peers P M → Side → Event M → End → World P M → List (WorldTurn M)
turn_at m s e Shut w = []
turn_at m s e _ w = turn_of m s e w

abbrev pub turn_delivered : {P M : Type 0} → Peers P M → ℕ → Side → End → Next M → World P M → List (WorldTurn M)
turn_delivered m c s end NextNothing w = []
turn_delivered m c s end (NextMessage x) w = turn_at m s (ArrivedEvent (conn c) x) end w
turn_delivered m c s end NextDisconnect w = turn_at m s (GoneEvent (conn c)) end w

-- a piece that ends no message is told to no peer
abbrev pub turn_pieced : {P M : Type 0} → Peers P M → ℕ → Side → ℕ → End → ℕ → Next M → World P M → List (WorldTurn M)
turn_pieced m c s k end taken NextNothing w = []
turn_pieced m c s k end taken NextDisconnect w = []
turn_pieced m c s k end taken (NextMessage x) w =
    if nat_lt (taken + k) (m.size x) then [] else turn_at m s (ArrivedEvent (conn c) x) end w

abbrev pub turns_on : {M : Type 0} → Option (Link M) → (Link M → List (WorldTurn M)) → List (WorldTurn M)
turns_on None f = []
turns_on (Some l) f = f l

-- the turn of a happening: none, where no peer is told anything or it declines
abbrev pub turns : {P M : Type 0} → Peers P M → World P M → Happening M → List (WorldTurn M)
turns m w (Starts s) = turn_of m s (StartEvent (conn (length w.links))) w
turns m w (Stops s cause) = turn_of m s (StopEvent cause) w
turns m w (TimesOut s) = turn_of m s TimeoutEvent w
turns m w (Ticks s) = turn_of m s TickEvent w
turns m w (Submits s x) = turn_of m s (SubmitEvent x) w
turns m w (Restarts s) = []
turns m w (Acks c) = turns_on (slice_get w.links c)
    (λ l. if_pending l.phase (turn_of m l.opener (AckEvent (conn c)) w) [])
turns m w (Nacks c) = turns_on (slice_get w.links c)
    (λ l. if_pending l.phase (turn_of m l.opener (NackEvent (conn c)) w) [])
turns m w (Delivers c s) =
    turns_on (slice_get w.links c)
    (λ l. let v = own_view s l in if_up l.phase
    (turn_delivered m c s v.own (next_in v.incoming.messages v.incoming.mark) w) [])
turns m w (Pieces c s k) =
    turns_on (slice_get w.links c)
    (λ l. let v = own_view s l in if_up l.phase
    (if k == 0 then [] else turn_pieced m c s k v.own v.incoming.taken
    (next_in v.incoming.messages v.incoming.mark) w) [])
turns m w (Loses c a b) = []

-- those of a list of happenings
abbrev pub all_turns : {P M : Type 0} → Peers P M → World P M → List (Happening M) → List (WorldTurn M)
all_turns m w [] = []
all_turns m w (h ∷ hs) = turns m w h ++ all_turns m (world_after w (happens m w h)) hs
