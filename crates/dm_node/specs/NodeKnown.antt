-- Whom each neighbour of a node met (RFC 6733, 5.3 and 8.16).
use Rattle.std.specs.Prelude.{◌≡◌, ◌<◌, ℕ, true, false, cond, is_some, nat_lt, Option, None, Some, List, []}
use Rattle.std.specs.Prelude.{◌∷◌, ◌++◌, length, map, option_map, slice_get, slice_set, vec_len, vec_capacity}
use Rattle.std.specs.Option.{option_flatten}
use Rattle.dm_machine.specs.declared.connection.Conn.{Conn}
use Rattle.dm_machine.specs.declared.state_name.State.{State}
use Rattle.dm_machine.specs.declared.state_name.State.TheVariants.{Closed}
use Rattle.dm_machine.specs.Moves.{is_open}
use Rattle.dm_node.specs.Holding.{peer_at}
use Rattle.dm_node.specs.Policies.{Policy}
use Rattle.dm_node.specs.Telling.{IsAddressed}
use Rattle.dm_peer.specs.declared.peer.Peer.{Peer}
use Rattle.dm_slots.specs.Acquaintances.{Acquaintance, nobody, spells_exchange, known_at, known_after}
use Rattle.dm_slots.specs.Intakes.{Intake, IsFirst}
use Rattle.dm_node.specs.declared.acquaintances.Acquaintances as declared
use Rattle.dm_node.specs.NodeStates.{NodeState, NodeAnswer, NodeTurn}

-- what is known of the neighbours, a place for each of theirs
abbrev pub known_of : declared.Acquaintances → List (Option Acquaintance)
known_of k = k.places.items

-- there is room for a place more
abbrev pub HasSparePlace : declared.Acquaintances → Type 0
HasSparePlace k = vec_len k.places < vec_capacity k.places

-- a place is taken just where the neighbour's is
abbrev pub AreKnown : List (Option Peer) → List (Option Acquaintance) → Type 0
AreKnown ps ks = map is_some ks ≡ map is_some ps

-- what is known of the neighbour of a number, where there is one
abbrev pub acquaintance_at : List (Option Acquaintance) → ℕ → Option Acquaintance
acquaintance_at ks i = option_flatten (slice_get ks i)

-- one place more, behind the others, of whom nobody was met
abbrev pub with_nobody : List (Option Acquaintance) → List (Option Acquaintance)
with_nobody ks = ks ++ Some nobody ∷ []

-- nobody has the number any more
abbrev pub without_known : List (Option Acquaintance) → ℕ → List (Option Acquaintance)
without_known ks i = slice_set ks i None

-- what is known of the neighbour of a number is changed so
abbrev pub with_known : ℕ → (Acquaintance → Acquaintance) → List (Option Acquaintance) → List (Option Acquaintance)
with_known i change ks = slice_set ks i (option_map change (acquaintance_at ks i))

-- the neighbour of a number has a place: one that was taken in has a new one
abbrev pub given_place : ℕ → List (Option Acquaintance) → List (Option Acquaintance)
given_place i ks = cond (nat_lt i (length ks)) ks (with_nobody ks)

-- the state in which a neighbour is told something; a host that is taken in by it is Closed before
abbrev pub peer_state : Option Peer → State
peer_state None = Closed
peer_state (Some p) = p.standing.core.state

-- The neighbour of this number was told something: what is known of it is what `known` makes of what was, by the state
-- in which it was told and the peer behind it. What is known of the others stays.
pub record IsMet (known : State → Peer → Acquaintance → Acquaintance) (ps qs : List (Option Peer)) (i : ℕ)
    (ks ls : List (Option Acquaintance)) : Type 0 where
  pub after : Peer
  pub is : peer_at qs i ≡ Some after
  pub changed : ls ≡ with_known i (known (peer_state (peer_at ps i)) after) (given_place i ks)

-- where no neighbour was told, all that is known stays
abbrev pub MeetsAny :
    (State → Peer → Acquaintance → Acquaintance) → Option ℕ → List (Option Peer) → List (Option Peer)
    → List (Option Acquaintance) → List (Option Acquaintance) → Type 0
MeetsAny known None ps qs ks ls = ls ≡ ks
MeetsAny known (Some i) ps qs ks ls = IsMet known ps qs i ks ls

-- what is known behind an order, by what it asks for: where no event is told it stays
abbrev pub KnownAfterOrder :
    Option NodeAnswer → NodeState → NodeState → List (Option Acquaintance) → List (Option Acquaintance) → Type 0
KnownAfterOrder None s t ks ls = ls ≡ ks
KnownAfterOrder (Some answer) s t ks ls = MeetsAny known_after answer.neighbour s.peers t.peers ks ls

-- what is known behind this message of connection c, which was told this neighbour, or nobody
abbrev pub MeetsBy :
    Conn → List ℕ → Option ℕ → NodeState → NodeState → List (Option Acquaintance) → List (Option Acquaintance)
    → Type 0
MeetsBy c message who s t ks ls =
    MeetsAny (λ state q a. known_at c state q message a) who s.peers t.peers ks ls

-- the first message of connection c was told
pub record NodeMeetsMessage (c : Conn) (s : NodeState) (answer : NodeAnswer) (t : NodeState)
    (ks ls : List (Option Acquaintance)) : Type 0 where
  pub intake : Intake
  pub message : List ℕ
  pub rest : List ℕ
  pub there : s.intakes c.0 ≡ Some intake
  pub first : IsFirst intake message rest
  pub known : MeetsBy c message answer.neighbour s t ks ls

-- what is known behind a turn of connection c, which is a message or a fault
abbrev pub NodeMeetsAs :
    Option Conn → Conn → NodeState → NodeAnswer → NodeState → List (Option Acquaintance)
    → List (Option Acquaintance) → Type 0
NodeMeetsAs None c s answer t ks ls = MeetsAny known_after answer.neighbour s.peers t.peers ks ls
NodeMeetsAs (Some d) c s answer t ks ls = NodeMeetsMessage c s answer t ks ls

abbrev pub NodeKnownBehind :
    Conn → NodeState → NodeTurn → NodeState → List (Option Acquaintance) → List (Option Acquaintance) → Type 0
NodeKnownBehind c s turn t ks ls = NodeMeetsAs turn.arrived c s turn.answer t ks ls

-- these octets of connection c are a CER or CEA, and concern no neighbour that is open: they are copied
pub record IsCopied (policy : Policy) (c : Conn) (octets : List ℕ) (ps : List (Option Peer)) : Type 0 where
  pub exchange : spells_exchange octets ≡ true
  pub unopened : (i : ℕ) → IsAddressed policy ps c octets i → is_open (peer_state (peer_at ps i)) ≡ false

-- such a message stands first on connection c
pub record AwaitsExchangeAt (policy : Policy) (c : Conn) (s : NodeState) : Type 0 where
  pub intake : Intake
  pub message : List ℕ
  pub rest : List ℕ
  pub there : s.intakes c.0 ≡ Some intake
  pub first : IsFirst intake message rest
  pub copied : IsCopied policy c message s.peers
