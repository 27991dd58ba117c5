-- A world: two peers and their links; what an event of a side does to them, and what is put into directions.
use Rattle.std.specs.Prelude.{ℕ, zero, suc, Bool, true, false, List, [], ◌∷◌, ◌++◌, Option, Some, None, slice_get}
use Rattle.dm_two_peers.specs.Machine.{Node, MakesLink, FailsLink, EndsLink, HeardOnLink, tie_of, is_tie_held}
use Rattle.dm_two_peers.specs.Links.{Side, A, B, flip, opens, LinkPhase, LinkUp}
use Rattle.dm_two_peers.specs.Links.{Fresh, Mark, NoMark, Link, new_link, view_of}
use Rattle.dm_two_peers.specs.Links.{by_side}
use Rattle.dm_two_peers.specs.Peers.{Event, StartEvent, AckEvent, NackEvent, GoneEvent}
use Rattle.dm_two_peers.specs.Peers.{ArrivedEvent, Action, Connect, Send, Close, Reply, ActsBy}
use Rattle.dm_two_peers.specs.Peers.{Declines, Peers}
use Rattle.dm_two_peers.specs.Peers as peers
use Rattle.dm_two_peers.specs.Steps.{entered, with_sent, with_close, settled_view}

pub record World (P M : Type 0) : Type 0 where
  pub a : P
  pub b : P
  pub links : List (Link M)

abbrev pub peer_on : {P M : Type 0} → Side → World P M → P
peer_on A w = w.a
peer_on B w = w.b

abbrev pub with_peer : {P M : Type 0} → Side → P → List (Link M) → World P M → World P M
with_peer A p links w = record w { a = p; links = links }
with_peer B p links w = record w { b = p; links = links }

abbrev pub with_links : {P M : Type 0} → List (Link M) → World P M → World P M
with_links links w = record w { links = links }

-- what is put into the direction of a link towards a side
pub data Put (M : Type 0) : Type 0 where
  PutMessage : ℕ → Side → M → Put M
  Disconnect : ℕ → Side → Put M

-- the element at a number, changed
abbrev pub change_at : {X : Type 0} → ℕ → (X → X) → List X → List X
change_at c f [] = []
change_at zero f (x ∷ xs) = f x ∷ xs
change_at (suc c) f (x ∷ xs) = x ∷ change_at c f xs

-- the links after an event reached a side, before its peer acts
abbrev pub enter : {M : Type 0} → Side → Event M → List (Link M) → List (Link M)
enter s (StartEvent c) links = links ++ new_link s ∷ []
enter s (AckEvent c) links = change_at c.0 (by_side s (entered MakesLink)) links
enter s (NackEvent c) links = change_at c.0 (by_side s (entered FailsLink)) links
enter s (GoneEvent c) links = change_at c.0 (by_side s (entered EndsLink)) links
enter s (ArrivedEvent c m) links = change_at c.0 (by_side s (entered HeardOnLink)) links
enter s _ links = links

-- the links after the actions of a side's peer, one after the other
abbrev pub perform : {M : Type 0} → Side → List (Action M) → List (Link M) → List (Link M)
perform s [] links = links
perform s (Send c m ∷ actions) links = perform s actions (change_at c.0 (by_side s (with_sent m)) links)
perform s (Close c ∷ actions) links = perform s actions (change_at c.0 (by_side s with_close) links)
perform s (Connect c ∷ actions) links = perform s actions links
perform s (peers.HandUp m ∷ actions) links = perform s actions links

-- the links once a fresh end that was heard on is settled
abbrev pub settle : {M : Type 0} → Side → Event M → Node → List (Link M) → List (Link M)
settle s (ArrivedEvent c m) n links = change_at c.0
    (by_side s (settled_view HeardOnLink (is_tie_held (tie_of n c.0)))) links
settle s _ n links = links

-- whether a direction takes what is put in
abbrev pub takes_more : LinkPhase → Mark → Bool
takes_more LinkUp NoMark = true
takes_more _ _ = false

abbrev pub put_if : {M : Type 0} → Side → Put M → Option (Link M) → List (Put M)
put_if s p None = []
put_if s p (Some l) =
    elim (takes_more l.phase (view_of (opens s l.opener) l).outgoing.mark) [ true ↦ p ∷ [] | false ↦ [] ]

-- what the actions put in
abbrev pub puts_of : {M : Type 0} → Side → List (Action M) → List (Link M) → List (Put M)
puts_of s [] links = []
puts_of s (Send c m ∷ actions) links =
    put_if s (PutMessage c.0 (flip s) m) (slice_get links c.0) ++ puts_of s actions
    (change_at c.0 (by_side s (with_sent m)) links)
puts_of s (Close c ∷ actions) links =
    put_if s (Disconnect c.0 (flip s)) (slice_get links c.0) ++ puts_of s actions
    (change_at c.0 (by_side s with_close) links)
puts_of s (Connect c ∷ actions) links = puts_of s actions links
puts_of s (peers.HandUp m ∷ actions) links = puts_of s actions links

-- a fresh end answers the end of its link by a disconnect
abbrev pub put_if_fresh : {M : Type 0} → Side → Put M → Option (Link M) → List (Put M)
put_if_fresh s p None = []
put_if_fresh s p (Some l) = elim (view_of (opens s l.opener) l).own [ Fresh ↦ put_if s p (Some l) | _ ↦ [] ]

abbrev pub puts_at_entry : {M : Type 0} → Side → Event M → List (Link M) → List (Put M)
puts_at_entry s (GoneEvent c) links = put_if_fresh s (Disconnect c.0 (flip s)) (slice_get links c.0)
puts_at_entry s _ links = []

-- what happens: it is done, with what was put in; it is ignored, and nothing changes; or there is no such link
pub data After (P M : Type 0) : Type 0 where
  DoneWith : World P M → List (Put M) → After P M
  Ignored : After P M
  NoLink : After P M

-- a side's peer takes an event
abbrev pub after_reply : {P M : Type 0} → Peers P M → Side → Event M → World P M → Reply P M → After P M
after_reply m s e w Declines = Ignored
after_reply m s e w (ActsBy actions p) =
    DoneWith (with_peer s p (settle s e (m.node_of p) (perform s actions (enter s e w.links))) w)
    (puts_at_entry s e w.links ++ puts_of s actions (enter s e w.links))

abbrev pub tell : {P M : Type 0} → Peers P M → Side → Event M → World P M → After P M
tell m s e w = after_reply m s e w (m.reply (peer_on s w) e)

-- what comes to a shut end is dropped
abbrev pub after_drop : {P M : Type 0} → Side → Event M → World P M → After P M
after_drop s e w = DoneWith (with_links (enter s e w.links) w) []
