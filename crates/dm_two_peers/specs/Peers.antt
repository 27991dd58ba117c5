-- A peer in a world: whatever answers an event with actions. Its state is of any type P, its messages of any type M.
use Rattle.std.specs.Prelude.{ℕ, Bool, false, ◌||◌, ◌==◌, List, [], ◌∷◌}
use Rattle.dm_machine.specs.Deeds.{Deed, ConnectsOn, SendsOn, ClosesOn, HandsUp}
use Rattle.dm_two_peers.specs.Machine.{Conn, Node, LinkConcern, Elsewhere, StartsLink}
use Rattle.dm_two_peers.specs.Machine.{MakesLink, FailsLink, EndsLink, HeardOnLink}
use Rattle.dm_two_peers.specs.Machine.{concern_if_named}

-- why a peer is told to disconnect [5.4.3]
pub data Cause : Type 0 where
  Rebooting : Cause
  Busy : Cause
  DoNotWantToTalkToYou : Cause

pub data Event (M : Type 0) : Type 0 where
  StartEvent : Conn → Event M
  StopEvent : Cause → Event M
  TimeoutEvent : Event M
  TickEvent : Event M
  AckEvent : Conn → Event M
  NackEvent : Conn → Event M
  GoneEvent : Conn → Event M
  SubmitEvent : M → Event M
  ArrivedEvent : Conn → M → Event M

pub data Action (M : Type 0) : Type 0 where
  Connect : Conn → Action M
  Send : Conn → M → Action M
  Close : Conn → Action M
  HandUp : M → Action M

pub data Reply (P M : Type 0) : Type 0 where
  ActsBy : List (Action M) → P → Reply P M
  Declines : Reply P M

-- the node that a peer is in, its reply to an event, its state after a restart, and how many octets a message has
pub record Peers (P M : Type 0) : Type 0 where
  pub node_of : P → Node
  pub reply : P → Event M → Reply P M
  pub reset : P → P
  pub size : M → ℕ

-- how an event concerns a connection
abbrev pub concern_by : {M : Type 0} → Event M → Conn → LinkConcern
concern_by (StartEvent d) c = concern_if_named d c StartsLink
concern_by (AckEvent d) c = concern_if_named d c MakesLink
concern_by (NackEvent d) c = concern_if_named d c FailsLink
concern_by (GoneEvent d) c = concern_if_named d c EndsLink
concern_by (ArrivedEvent d m) c = concern_if_named d c HeardOnLink
concern_by _ c = Elsewhere

-- what an action does, whatever it says
abbrev pub deed_in : {M : Type 0} → Action M → Deed
deed_in (Connect c) = ConnectsOn c
deed_in (Send c m) = SendsOn c
deed_in (Close c) = ClosesOn c
deed_in (HandUp m) = HandsUp

-- whether one of the deeds closes a link, or sends on it
abbrev pub closes_at : ℕ → List Deed → Bool
closes_at d [] = false
closes_at d (ClosesOn c ∷ os) = (c.0 == d) || closes_at d os
closes_at d (_ ∷ os) = closes_at d os

abbrev pub sends_at : ℕ → List Deed → Bool
sends_at d [] = false
sends_at d (SendsOn c ∷ os) = (c.0 == d) || sends_at d os
sends_at d (_ ∷ os) = sends_at d os
