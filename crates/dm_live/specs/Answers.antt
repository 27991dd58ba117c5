-- What an order's answer is.
use Rattle.std.specs.Prelude.{◌≡◌, ◌⊎◌, ◌+◌, ℕ, Option, None, Some, List, [], ◌∷◌, ◌++◌, codes}
use Rattle.std.specs.Fmt.{decimal}
use Rattle.std.specs.List.{flat_map}
use Rattle.std.specs.Option.{option_or}
use Rattle.dm_machine.specs.declared.connection.Conn.{Conn}
use Rattle.dm_node.specs.declared.fault.OrderFault.{OrderFault}
use Rattle.dm_node.specs.declared.fault.OrderFault.TheVariants as fault
use Rattle.dm_node.specs.Holding.{peer_at}
use Rattle.dm_node.specs.Policies.{Policy, no_strangers, told_the_first}
use Rattle.dm_peer.specs.declared.peer.Peer.{Peer}
use Rattle.dm_node.specs.declared.order.Order.{Order as NodeOrder}
use Rattle.dm_node.specs.declared.order.Order.TheVariants as order
use Rattle.dm_node.specs.NodeKnown.{KnownAfterOrder, NodeKnownBehind}
use Rattle.dm_node.specs.NodeOrders.{NodeTakes, NodeRefuses}
use Rattle.dm_node.specs.NodeStates.{NodeAnswer, NodeTurn, NodeTellsNext, NodeIsOut, node_fed}
use Rattle.dm_live.specs.AnswerLines.{action_lines, arrival_line, refusal_line, standing_words}
use Rattle.dm_live.specs.declared.form.Form.{Form}
use Rattle.dm_live.specs.declared.form.Form.TheVariants.{Alone, Several}
use Rattle.dm_live.specs.Meetings.{Meeting}
use Rattle.dm_live.specs.declared.asked.Asked.{Asked}
use Rattle.dm_live.specs.declared.asked.Asked.TheVariants as asked

-- what strangers send is told a peer that is alone; where there are several they are turned away
abbrev pub policy_of : Form → Policy
policy_of Alone = told_the_first
policy_of Several = no_strangers

-- the line of an order that tells no event, where it is one of those that tell one: its connection isn't there, or a
-- Start's is there already
unfoldable pub ignored_line : NodeOrder → List ℕ
ignored_line (order.Accept c) = []
ignored_line (order.Reset n) = []
ignored_line order.ResetAll = []
ignored_line o = codes "ignored" ++ 10 ∷ []

-- the neighbour that an event concerned, in front of the event's lines, where there are several; a stranger's have no
-- such line
unfoldable pub neighbour_line : Form → Option ℕ → List ℕ
neighbour_line Alone who = []
neighbour_line Several None = []
neighbour_line Several (Some i) = codes "neighbour " ++ decimal i ++ 10 ∷ []

-- a message that was told, or a fault
abbrev pub turn_lines : Form → NodeTurn → List ℕ
turn_lines form turn =
    neighbour_line form turn.answer.neighbour ++ arrival_line turn.arrived ++ action_lines turn.answer.actions

-- one behind the other
abbrev pub turns_lines : Form → List NodeTurn → List ℕ
turns_lines form turns = flat_map (turn_lines form) turns

-- what an order asks for
abbrev pub asked_lines : Form → NodeOrder → Option NodeAnswer → List ℕ
asked_lines form o None = ignored_line o
asked_lines form o (Some answer) = neighbour_line form answer.neighbour ++ action_lines answer.actions

-- whom it concerns: the one that was told the event, or that begins anew
abbrev pub whom_asked : NodeOrder → Option NodeAnswer → Option ℕ
whom_asked o (Some answer) = answer.neighbour
whom_asked (order.Reset n) None = Some n
whom_asked o None = None

-- the neighbour that an order names
abbrev pub neighbour_named : NodeOrder → Option ℕ
neighbour_named (order.Start n c) = Some n
neighbour_named (order.Timeout n) = Some n
neighbour_named (order.Tick n) = Some n
neighbour_named (order.Stop n cause) = Some n
neighbour_named (order.Submit n octets) = Some n
neighbour_named (order.Reset n) = Some n
neighbour_named o = None

-- the neighbour that refuses an order; where nobody has the number that it names, none does
abbrev pub refuser : NodeOrder → OrderFault → Option ℕ
refuser o (fault.Peer f) = neighbour_named o
refuser o f = None

-- why an order is refused
unfoldable pub event_refusal_line : OrderFault → List ℕ
event_refusal_line fault.NoNeighbour = codes "refused NoNeighbour" ++ 10 ∷ []
event_refusal_line (fault.Peer f) = refusal_line f

-- an order is taken, it concerns this neighbour, if any, and this is printed of it
abbrev pub TakesSo : Form → NodeOrder → Meeting → Option ℕ → Meeting → List ℕ → Type 0
TakesSo form o m who n text =
    (asks : Option NodeAnswer) × NodeTakes o m.node asks n.node
    × KnownAfterOrder asks m.node n.node m.known n.known × (who ≡ whom_asked o asks)
    × (text ≡ asked_lines form o asks)

-- or it is refused, and nothing changes
abbrev pub RefusesSo : Form → NodeOrder → Meeting → Option ℕ → Meeting → List ℕ → Type 0
RefusesSo form o m who n text =
    (f : OrderFault) × NodeRefuses o m.node f × (n ≡ m) × (who ≡ refuser o f)
    × (text ≡ neighbour_line form (refuser o f) ++ event_refusal_line f)

abbrev pub TakesOrder : Form → NodeOrder → Meeting → Option ℕ → Meeting → List ℕ → Type 0
TakesOrder form o m who n text = TakesSo form o m who n text ⊎ RefusesSo form o m who n text

-- or a piece is kept, it concerns nobody yet, and nothing is printed of that
abbrev pub TakesAs : Form → Asked → Meeting → Option ℕ → Meeting → List ℕ → Type 0
TakesAs form (asked.Order o) m who n text = TakesOrder form o m who n text
TakesAs form (asked.Piece c piece) m who n text =
    (n.node ≡ node_fed c piece.now m.node) × (n.known ≡ m.known) × (who ≡ None) × (text ≡ [])

-- one turn of connection c, and whom it met
abbrev pub MeetsNext : Policy → Conn → Meeting → NodeTurn → Meeting → Type 0
MeetsNext policy c m turn n =
    NodeTellsNext policy c m.node turn n.node
    × NodeKnownBehind c m.node turn n.node m.known n.known

-- turn by turn
abbrev pub MeetsAlong : Policy → Conn → Meeting → List NodeTurn → Meeting → Type 0
MeetsAlong policy c m [] n = m ≡ n
MeetsAlong policy c m (turn ∷ turns) n =
    (k : Meeting) × MeetsNext policy c m turn k × MeetsAlong policy c k turns n

-- what came on connection c is told turn by turn until nothing is left to tell
abbrev pub MeetsOut : Policy → Conn → Meeting → List NodeTurn → Meeting → Type 0
MeetsOut policy c m turns n = MeetsAlong policy c m turns n × NodeIsOut c n.node

-- behind a piece what came is told, behind an order nothing
abbrev pub HearsOut : Policy → Asked → Meeting → List NodeTurn → Meeting → Type 0
HearsOut policy (asked.Piece c piece) m turns n = MeetsOut policy c m turns n
HearsOut policy (asked.Order o) m turns n = (turns ≡ []) × (n ≡ m)

-- whom the last one concerned that concerned a neighbour, an order and then turns
abbrev pub whom_last : Option ℕ → List NodeTurn → Option ℕ
whom_last who [] = who
whom_last who (turn ∷ turns) = whom_last (option_or turn.answer.neighbour who) turns

-- how the neighbour of a number stands, where there is one; a peer that is alone has no number
unfoldable pub state_line : Form → ℕ → Option Peer → List ℕ
state_line form i None = []
state_line Alone i (Some p) = codes "state " ++ standing_words p
state_line Several i (Some p) = codes "state " ++ decimal i ++ codes " " ++ standing_words p

-- how several stand, from this number on
abbrev pub states_lines : ℕ → List (Option Peer) → List ℕ
states_lines i [] = []
states_lines i (p ∷ ps) = state_line Several i p ++ states_lines (i + 1) ps

-- how a peer stands that is alone, behind each order; how several stand behind one that concerned all, or the one that
-- was concerned last, if any was
abbrev pub states_behind : Form → Asked → Option ℕ → List (Option Peer) → List ℕ
states_behind Alone o who ps = state_line Alone 0 (peer_at ps 0)
states_behind Several (asked.Order order.ResetAll) who ps = states_lines 0 ps
states_behind Several o None ps = []
states_behind Several o (Some i) ps = state_line Several i (peer_at ps i)

-- what is asked, what it makes of a node and of whom each neighbour met, and its answer: what it comes to itself, what
-- came on its connection, and how whom that concerned last stands then
pub record Answers (form : Form) (o : Asked) (m n : Meeting) (text : List ℕ) : Type 0 where
  pub between : Meeting
  pub who : Option ℕ
  pub own : List ℕ
  pub turns : List NodeTurn
  pub takes : TakesAs form o m who between own
  pub hears : HearsOut (policy_of form) o between turns n
  pub whole : text ≡ own ++ turns_lines form turns ++ states_behind form o (whom_last who turns) n.node.peers
