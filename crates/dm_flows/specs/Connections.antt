-- A connection: what comes of the segments of both its ends (RFC 9293, 3.5 and 3.6).
use Rattle.std.specs.Prelude.{◌≡◌, ◌≢◌, ◌⊎◌, ℕ, ◌+◌, ◌-◌, ◌%◌, ◌^◌, min, nat_eq, Bool, true, false, ◌&&◌}
use Rattle.std.specs.Prelude.{Option, None, Some, is_some, is_none, length, if◌then◌else◌}
use Rattle.dm_flows.specs.declared.address.Endpoint.{Endpoint}
use Rattle.dm_flows.specs.declared.closing.Closing.{Closing}
use Rattle.dm_flows.specs.declared.closing.Closing.TheVariants.{Open, Reset}
use Rattle.dm_flows.specs.Flows.{FlowState, new_flow, more_passed, begun_by_syn, begun_unseen, closing_by_fin}
use Rattle.dm_flows.specs.Flows.{TakesPayload, LeavesPayload, held_octets, pending_octets}
use Rattle.dm_flows.specs.Tcps.{SeenSegment}
use Rattle.dm_flows.specs.Windows.{sequence_behind}

-- both directions: the sender's own, and the other one
pub record BothFlows : Type 0 where
  pub own : FlowState
  pub other : FlowState

abbrev pub is_unended : Closing → Bool
is_unended Open = true
is_unended closing = false

abbrev pub is_syn_number : Option ℕ → ℕ → Bool
is_syn_number None number = false
is_syn_number (Some syn) number = nat_eq syn number

-- the SYN of the connection, sent again
abbrev pub is_same_syn : FlowState → ℕ → Bool
is_same_syn own number = is_unended own.closing && is_syn_number own.syn number

-- the first one of its direction, where that of the other direction was seen: the answer to it
abbrev pub is_answering_syn : BothFlows → Bool
is_answering_syn flows = is_unended flows.own.closing && (is_none flows.own.syn && is_some flows.other.syn)

-- a SYN came: the same one again, the answer to one, or a new connection's
abbrev pub after_syn : ℕ → BothFlows → BothFlows
after_syn number flows =
    if is_same_syn flows.own number then flows
    else if is_answering_syn flows then record flows { own = begun_by_syn flows.own number }
    else record { own = begun_by_syn flows.own number; other = begun_unseen flows.other }

-- a RST came: it ends both directions (3.5.3)
abbrev pub after_rst : BothFlows → BothFlows
after_rst flows = record {
  own = record flows.own { closing = Reset };
  other = record flows.other { closing = Reset };
}

-- a FIN came: it ends the direction of the sender (3.6)
abbrev pub after_fin : ℕ → BothFlows → BothFlows
after_fin number flows = record flows {
  own = record flows.own { closing = closing_by_fin flows.own.closing number };
}

-- a SYN has a number of its own, before that of the first octet (3.4)
abbrev pub first_number : SeenSegment → ℕ
first_number segment = if segment.syn then (segment.sequence + 1) % 2 ^ 32 else segment.sequence

-- and a FIN one behind that of the last octet
abbrev pub fin_number : SeenSegment → ℕ
fin_number segment = sequence_behind (first_number segment) (length segment.payload)

abbrev pub after_any_syn : SeenSegment → BothFlows → BothFlows
after_any_syn segment flows = if segment.syn then after_syn segment.sequence flows else flows

abbrev pub after_any_fin : SeenSegment → BothFlows → BothFlows
after_any_fin segment flows = if segment.fin then after_fin (fin_number segment) flows else flows

-- what the control bits of a segment do, before its octets are taken
abbrev pub controlled : SeenSegment → BothFlows → BothFlows
controlled segment flows =
    if segment.rst then after_rst flows else after_any_fin segment (after_any_syn segment flows)

-- a segment came
pub record HearsSegment (old : BothFlows) (segment : SeenSegment) (new : BothFlows) : Type 0 where
  pub own : TakesPayload (controlled segment old).own (first_number segment) segment.payload new.own
  pub other : new.other ≡ (controlled segment old).other

-- what is left where memory is wanted: its control bits count
pub record LeavesSegment (old : BothFlows) (segment : SeenSegment) (new : BothFlows) : Type 0 where
  pub own : LeavesPayload (controlled segment old).own (first_number segment) segment.payload new.own
  pub other : new.other ≡ (controlled segment old).other

-- both ends, and the octets of either direction: from the first end to the second, and back
pub record ConnectionState : Type 0 where
  pub first : Endpoint
  pub second : Endpoint
  pub forth : FlowState
  pub back : FlowState

-- nothing came
abbrev pub new_connection : ℕ → Endpoint → Endpoint → ConnectionState
new_connection max first second = record {
  first = first;
  second = second;
  forth = new_flow max;
  back = new_flow max;
}

-- how many octets were passed over, up to 2^64 - 1
abbrev pub passed_in : ConnectionState → ℕ
passed_in c = more_passed c.forth.passed c.back.passed

-- how many octets are held in both directions, up to 2^64 - 1
abbrev pub held_in : ConnectionState → ℕ
held_in c = min (held_octets c.forth + held_octets c.back) (2 ^ 64 - 1)

-- how many octets came in both directions that were neither handed out nor passed over, up to 2^64 - 1
abbrev pub pending_in : ConnectionState → ℕ
pending_in c = min (pending_octets c.forth + pending_octets c.back) (2 ^ 64 - 1)

-- as the first end sends, or the second one
abbrev pub sent_by_first : ConnectionState → BothFlows
sent_by_first c = record { own = c.forth; other = c.back }

abbrev pub sent_by_second : ConnectionState → BothFlows
sent_by_second c = record { own = c.back; other = c.forth }

pub record HaveSameEnds (old new : ConnectionState) : Type 0 where
  pub first : new.first ≡ old.first
  pub second : new.second ≡ old.second

-- a segment came, from the first end or from the second one
abbrev pub BySender : ConnectionState → Endpoint → ConnectionState → (BothFlows → BothFlows → Type 0) → Type 0
BySender old source new P =
    HaveSameEnds old new ×
    (((source ≡ old.first) × P (sent_by_first old) (sent_by_first new))
    ⊎ ((source ≢ old.first) × P (sent_by_second old) (sent_by_second new)))

abbrev pub TakesSegment : ConnectionState → SeenSegment → ConnectionState → Type 0
TakesSegment old segment new = BySender old segment.source new (λ before after. HearsSegment before segment after)

abbrev pub LeavesConnection : ConnectionState → SeenSegment → ConnectionState → Type 0
LeavesConnection old segment new = BySender old segment.source new (λ before after. LeavesSegment before segment after)
