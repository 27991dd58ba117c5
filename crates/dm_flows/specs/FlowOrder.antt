-- What is handed out of a direction, while its stream isn't left, is that stream in order.
use Rattle.std.specs.Prelude.{◌≡◌, ◌⊎◌, ℕ, ◌+◌, ◌%◌, ◌^◌, ◌<◌, ◌≤◌, None, Some}
use Rattle.std.specs.Prelude.{List, [], ◌∷◌, ◌++◌, length}
use Rattle.std.specs.List.{concat}
use Rattle.dm_flows.specs.Flows.{FlowState, FlowTakes, HandsMessage}
use Rattle.dm_flows.specs.Order.{IsFrontOf, IsStreamOf, arrival_at}
use Rattle.dm_flows.specs.Windows.{WindowState, Arrival, slot, sequence_behind}

-- all that happened since a stream began: the direction as it is, what came, and the messages that were handed out
pub record FlowPassage : Type 0 where
  pub flow : FlowState
  pub arrivals : List Arrival
  pub messages : List (List ℕ)

-- the octets that were put in order: those of the messages, and those behind them
abbrev pub ordered_octets : FlowPassage → List ℕ
ordered_octets p = concat p.messages ++ p.flow.ready

-- a stream began with the octet of this number: behind a SYN, and no octets came, or with octets that have a header in
-- front
pub record BeginsStream (base : ℕ) (front : List ℕ) (p : FlowPassage) : Type 0 where
  pub window : p.flow.window
      ≡ Some (record { next = sequence_behind (base % 2 ^ 32) (length front); held = [] })
  pub ready : p.flow.ready ≡ front
  pub arrivals : p.arrivals ≡ record { at = base; octets = front } ∷ []
  pub messages : p.messages ≡ []

-- octets came and were taken
pub record StreamGoesOn (base : ℕ) (old new : FlowPassage) : Type 0 where
  pub sequence : ℕ
  pub octets : List ℕ
  pub goes : FlowTakes old.flow sequence octets new.flow
  pub fits : sequence < 2 ^ 32
  pub arrivals : new.arrivals
      ≡ old.arrivals ++ arrival_at (base + length (ordered_octets old)) sequence octets ∷ []
  pub messages : new.messages ≡ old.messages

-- a message was handed out
pub record StreamHandsOut (old new : FlowPassage) : Type 0 where
  pub message : List ℕ
  pub hands : HandsMessage old.flow message new.flow
  pub arrivals : new.arrivals ≡ old.arrivals
  pub messages : new.messages ≡ old.messages ++ message ∷ []

-- something else came that leaves the stream as it is: a FIN or a RST, or octets behind the end
pub record StreamStays (old new : FlowPassage) : Type 0 where
  pub window : new.flow.window ≡ old.flow.window
  pub ready : new.flow.ready ≡ old.flow.ready
  pub arrivals : new.arrivals ≡ old.arrivals
  pub messages : new.messages ≡ old.messages

abbrev pub StreamFollows : ℕ → FlowPassage → List FlowPassage → FlowPassage → Type 0
StreamFollows base old [] new = old ≡ new
StreamFollows base old (next ∷ later) new =
    (StreamGoesOn base old next ⊎ (StreamHandsOut old next ⊎ StreamStays old next)) × StreamFollows base next later new

-- the messages, and what is in order behind them, are a front of the stream: without a gap, nothing twice, of each
-- number the octet that came first
abbrev pub EachStreamIsInOrder : Type 0
EachStreamIsInOrder =
    (base : ℕ) (front : List ℕ) (begun : FlowPassage) (later : List FlowPassage) (now : FlowPassage) → 2 ^ 32 ≤ base
    → BeginsStream base front begun → StreamFollows base begun later now
    → IsFrontOf base now.arrivals (ordered_octets now)

-- all of it where the next octet is missing
abbrev pub EachStreamIsWhole : Type 0
EachStreamIsWhole =
    (base : ℕ) (front : List ℕ) (begun : FlowPassage) (later : List FlowPassage) (now : FlowPassage)
    (window : WindowState) → 2 ^ 32 ≤ base → BeginsStream base front begun → StreamFollows base begun later now
    → now.flow.window ≡ Some window → slot window.held 0 ≡ None → IsStreamOf base now.arrivals (ordered_octets now)
