-- What users submit and what is handed up to them on a link: each message once, and in order.
use Rattle.std.specs.Prelude.{◌≡◌, ℕ, Bool, true, false, not, ◌&&◌, ◌||◌, ◌==◌, IsTrue, IfSome, if◌then◌else◌, Some}
use Rattle.std.specs.Prelude.{List, [], ◌∷◌, ◌++◌, map, slice_get}
use Rattle.dm_machine.specs.Connection.{Hold, NotHeld, Pending, ClosingAsI, ClosingAsR, hold_of}
use Rattle.dm_machine.specs.Upward.{is_open_hold}
use Rattle.dm_two_peers.specs.Machine.{Conn, conn, Node, closed_node, is_shaped}
use Rattle.dm_two_peers.specs.Links.{Side, flip, opens, Link}
use Rattle.dm_two_peers.specs.Peers.{Event, SubmitEvent, ArrivedEvent, Action, Send, ActsBy, Peers, deed_in, sends_at}
use Rattle.dm_two_peers.specs.Peers as peers
use Rattle.dm_two_peers.specs.Worlds.{World, peer_on}
use Rattle.dm_two_peers.specs.Happens.{Happening, Loses, own_view, run}
use Rattle.dm_two_peers.specs.Follows.{IsMachine}
use Rattle.dm_two_peers.specs.Laws.{world_of}
use Rattle.dm_two_peers.specs.Turns.{WorldTurn, all_turns}

-- the message that the user of the side across submits, where its peer sends on the link then
abbrev pub submitted_by : {M : Type 0} → Side → ℕ → WorldTurn M → List M
submitted_by t c u =
    elim u.event [
      | SubmitEvent x ↦ if opens (flip t) u.side && sends_at c (map deed_in u.actions) then x ∷ [] else []
      | _ ↦ []
    ]

abbrev pub submitted_on : {M : Type 0} → Side → ℕ → List (WorldTurn M) → List M
submitted_on t c [] = []
submitted_on t c (u ∷ us) = submitted_by t c u ++ submitted_on t c us

-- what is handed up to a user
abbrev pub ups_of : {M : Type 0} → List (Action M) → List M
ups_of [] = []
ups_of (peers.HandUp x ∷ actions) = x ∷ ups_of actions
ups_of (_ ∷ actions) = ups_of actions

-- what of it came to a side on the link; what comes with no message counts on each link
abbrev pub handed_up_by : {M : Type 0} → Side → ℕ → WorldTurn M → List M
handed_up_by t c u =
    elim u.event [
      | ArrivedEvent d x ↦ if opens t u.side && (d.0 == c) then ups_of u.actions else []
      | _ ↦ if opens t u.side then ups_of u.actions else []
    ]

abbrev pub handed_up_on : {M : Type 0} → Side → ℕ → List (WorldTurn M) → List M
handed_up_on t c [] = []
handed_up_on t c (u ∷ us) = handed_up_by t c u ++ handed_up_on t c us

-- the messages of applications among these
abbrev pub apps : {M : Type 0} → (M → Bool) → List M → List M
apps is_app [] = []
apps is_app (x ∷ xs) = if is_app x then x ∷ apps is_app xs else apps is_app xs

-- a connection on which a node is closing; one on which it hands nothing up any more
abbrev pub is_closing_hold : Hold → Bool
is_closing_hold ClosingAsI = true
is_closing_hold ClosingAsR = true
is_closing_hold _ = false

abbrev pub is_done_hold : Hold → Bool
is_done_hold NotHeld = true
is_done_hold h = is_closing_hold h

-- one that isn't made yet, on which nothing comes
abbrev pub is_unmade : Hold → Bool
is_unmade Pending = true
is_unmade _ = false

-- each message that is sent passes a test
abbrev pub sends_all : {M : Type 0} → (M → Bool) → List (Action M) → Bool
sends_all passes [] = true
sends_all passes (Send c x ∷ actions) = passes x && sends_all passes actions
sends_all passes (_ ∷ actions) = sends_all passes actions

-- a Submit is sent as it is, on the connection on which the node is open, and is a message of an application
pub record SendsSubmitted {M : Type 0} (is_app : M → Bool) (n : Node) (x : M) (actions : List (Action M)) : Type 0 where
  pub link : ℕ
  pub sends : actions ≡ Send (conn link) x ∷ []
  pub opened : IsTrue (is_open_hold (hold_of n (conn link)))
  pub app : IsTrue (is_app x)

-- a message of an application is handed up as it is on the connection on which the node is open, and ends any other
-- that is made; no other message is handed up
pub record HandsUpHeard {M : Type 0} (is_app : M → Bool) (before after : Hold) (x : M) (ups : List M) : Type 0 where
  pub hands : ups ≡ (if is_app x && is_open_hold before then x ∷ [] else [])
  pub ends : IsTrue (is_app x) → is_open_hold before ≡ false → is_unmade before ≡ false → IsTrue (is_done_hold after)

-- a peer whose node has its shape, and that stands as peers of its type do after every list of events
pub record IsCarrier {P M : Type 0} (m : Peers P M) (stands : P → Bool) (p : P) : Type 0 where
  pub shaped : IsTrue (is_shaped (m.node_of p))
  pub fit : IsTrue (stands p)

-- what such peers do with messages of applications: a Submit is sent, no other event sends one, what comes is handed
-- up, and nothing is handed up where none comes
pub record CarriesMessages {P M : Type 0} (m : Peers P M) (is_app : M → Bool) (stands : P → Bool) : Type 0 where
  pub submits : (p next : P) (x : M) (actions : List (Action M)) → IsCarrier m stands p →
      m.reply p (SubmitEvent x) ≡ ActsBy actions next → SendsSubmitted is_app (m.node_of p) x actions
  pub others : (p next : P) (e : Event M) (actions : List (Action M)) → IsCarrier m stands p →
      ((x : M) → e ≡ SubmitEvent x → ⊥) → m.reply p e ≡ ActsBy actions next →
      IsTrue (sends_all (λ x. not (is_app x)) actions)
  pub hears : (p next : P) (c : ℕ) (x : M) (actions : List (Action M)) → IsCarrier m stands p →
      m.reply p (ArrivedEvent (conn c) x) ≡ ActsBy actions next →
      HandsUpHeard is_app (hold_of (m.node_of p) (conn c)) (hold_of (m.node_of next) (conn c)) x (ups_of actions)
  pub silent : (p next : P) (e : Event M) (actions : List (Action M)) → IsCarrier m stands p →
      ((c : Conn) (x : M) → e ≡ ArrivedEvent c x → ⊥) → m.reply p e ≡ ActsBy actions next → ups_of actions ≡ []
  pub keeps : (p next : P) (e : Event M) (actions : List (Action M)) → IsCarrier m stands p →
      m.reply p e ≡ ActsBy actions next → IsTrue (stands next)
  pub resets : (p : P) → IsCarrier m stands p → IsTrue (stands (m.reset p))

-- whether a list of happenings has a loss of the link
abbrev pub has_loss_of : {M : Type 0} → ℕ → List (Happening M) → Bool
has_loss_of c [] = false
has_loss_of c (Loses d a b ∷ hs) = (d == c) || has_loss_of c hs
has_loss_of c (_ ∷ hs) = has_loss_of c hs

-- what was handed up to a side on a link is a front of what the other side submitted on it; where the side is open on
-- the link and no loss was there, the rest is what is under way
pub record DeliversInOrder {P M : Type 0} (m : Peers P M) (is_app : M → Bool) (w : World P M) (t : Side) (c : ℕ)
    (lost : Bool) (sent handed : List M) : Type 0 where
  pub rest : List M
  pub front : sent ≡ handed ++ rest
  pub whole : (l : Link M) → slice_get w.links c ≡ Some l →
      IsTrue (is_open_hold (hold_of (m.node_of (peer_on t w)) (conn c))) → lost ≡ false →
      sent ≡ handed ++ apps is_app (own_view t l).incoming.messages

-- two closed peers that carry messages deliver them so after every list of happenings, whatever is lost
abbrev pub EachRunDelivers : Type 0 → Type 0 → Type 0
EachRunDelivers P M =
    (m : Peers P M) (is_app : M → Bool) (stands : P → Bool) → IsMachine m → CarriesMessages m is_app stands →
    (a b : P) →
    m.node_of a ≡ closed_node → m.node_of b ≡ closed_node → IsTrue (stands a) → IsTrue (stands b) →
    (hs : List (Happening M)) (t : Side) (c : ℕ) →
    IfSome (run m (world_of a b) hs) (λ r. let us = all_turns m (world_of a b) hs in
    DeliversInOrder m is_app r.world t c (has_loss_of c hs) (submitted_on t c us) (handed_up_on t c us))
