-- An association: what comes of the packets of both its ends (RFC 9260, 5, 8.5 and 9).
use Rattle.std.specs.Prelude.{◌≡◌, ◌⊎◌, ℕ, ◌+◌, ◌-◌, ◌^◌, min, nat_eq, Bool, true, false, not, ◌&&◌}
use Rattle.std.specs.Prelude.{Option, None, Some, is_none, if◌then◌else◌}
use Rattle.dm_association.specs.declared.front_chunk.Init.{Init}
use Rattle.dm_association.specs.SctpFlows.{begun_at_tsn, association_left}
use Rattle.dm_associations.specs.declared.front_chunk.Front.{Front}
use Rattle.dm_associations.specs.declared.front_chunk.Front.TheVariants.{Begins, Answers, Ends, Carries}
use Rattle.dm_associations.specs.Fronts.{HasFront}
use Rattle.dm_associations.specs.Ways.{SctpWayState, new_way, way_octets, WayTakes, WayLeaves}
use Rattle.dm_connections.specs.declared.ends.Ends as both
use Rattle.dm_connections.specs.Held.{both_ends}
use Rattle.dm_flows.specs.contracts.address.EndpointPartialEq.TheImpl as compared
use Rattle.dm_flows.specs.declared.address.Endpoint.{Endpoint}
use Rattle.dm_flows.specs.Flows.{more_passed}
use Rattle.dm_flows.specs.Sctps.{SeenSctp}

-- both directions: the sender's own, and the other one; and whether the association ended
pub record BothWays : Type 0 where
  pub own : SctpWayState
  pub other : SctpWayState
  pub ended : Bool

-- this is the tag, as far as one is known
abbrev pub fits_tag : Option ℕ → ℕ → Bool
fits_tag None tag = true
fits_tag (Some known) tag = nat_eq known tag

abbrev pub is_tag : Option ℕ → ℕ → Bool
is_tag None tag = false
is_tag (Some known) tag = nat_eq known tag

-- 8.5: packets carry the tag that their receiver chose, as far as it is known; of an association that ended there are
-- none any more (8.4)
abbrev pub is_own_packet : ℕ → Option ℕ → Bool → Bool
is_own_packet tag known ended = not ended && fits_tag known tag

-- 8.5.1: an ABORT and a SHUTDOWN COMPLETE of which the T bit is set carry the tag of the other direction
abbrev pub ending_tag : Bool → SctpWayState → SctpWayState → Option ℕ
ending_tag reflected own other = if reflected then other.tag else own.tag

-- 5.2.1 and 5.2.2: an INIT is that of the association, sent again, where it has its Initiate Tag
abbrev pub is_init_again : Init → BothWays → Bool
is_init_again init ways = not ways.ended && is_tag ways.other.tag init.initiate_tag

-- 5.1: an INIT begins an association: its Initial TSN is the first in its direction, and its Initiate Tag that of the
-- packets in the other one; of them nothing came
abbrev pub begun_by_init : Init → BothWays → BothWays
begun_by_init init ways = record {
  own = record ways.own { tag = None; flow = begun_at_tsn ways.own.flow init.initial_tsn };
  other = record ways.other { tag = Some init.initiate_tag; flow = association_left ways.other.flow };
  ended = false;
}

-- 8.5.1: the packet of an INIT has the tag 0
abbrev pub after_init : Init → ℕ → BothWays → BothWays
after_init init tag ways = if nat_eq tag 0 && not (is_init_again init ways) then begun_by_init init ways else ways

-- the tag of a direction is known by a packet of it
abbrev pub with_tag : ℕ → SctpWayState → SctpWayState
with_tag tag way = record way { tag = Some tag }

-- 5.1: the INIT ACK says the same of its direction and of the other one; the first that comes counts (5.2.3)
abbrev pub answered : Init → BothWays → BothWays
answered init ways =
    if is_none ways.other.tag
    then record ways {
      own = record ways.own { flow = begun_at_tsn ways.own.flow init.initial_tsn };
      other = record ways.other { tag = Some init.initiate_tag };
    }
    else ways

abbrev pub after_answer : Init → ℕ → BothWays → BothWays
after_answer init tag ways =
    if is_own_packet tag ways.own.tag ways.ended then answered init (record ways { own = with_tag tag ways.own })
    else ways

-- 9.1 and 9.2: the association ended; what waits is passed over
abbrev pub ended_ways : BothWays → BothWays
ended_ways ways = record {
  own = record ways.own { flow = association_left ways.own.flow };
  other = record ways.other { flow = association_left ways.other.flow };
  ended = true;
}

abbrev pub after_ending : Bool → ℕ → BothWays → BothWays
after_ending reflected tag ways =
    if is_own_packet tag (ending_tag reflected ways.own ways.other) ways.ended then ended_ways ways else ways

-- any other packet: its DATA chunks are taken
pub record CarriesChunks (old : SctpWayState) (ended : Bool) (packet : SeenSctp) (new : SctpWayState)
    (P : SctpWayState → SctpWayState → Type 0) : Type 0 where
  pub own : is_own_packet packet.verification_tag old.tag ended ≡ true
  pub goes : P (with_tag packet.verification_tag old) new

abbrev pub TakesCarried : SctpWayState → Bool → SeenSctp → SctpWayState → Type 0
TakesCarried old ended packet new =
    CarriesChunks old ended packet new (λ before after. WayTakes before packet.chunks after)
    ⊎ ((is_own_packet packet.verification_tag old.tag ended ≡ false) × (new ≡ old))

abbrev pub LeavesCarried : SctpWayState → Bool → SeenSctp → SctpWayState → Type 0
LeavesCarried old ended packet new =
    CarriesChunks old ended packet new (λ before after. WayLeaves before packet.chunks after)

-- a packet came, with this chunk at its front; one that isn't of the association changes nothing
abbrev pub HearsFront : Front → BothWays → SeenSctp → BothWays → Type 0
HearsFront (Begins init) old packet new = new ≡ after_init init packet.verification_tag old
HearsFront (Answers init) old packet new = new ≡ after_answer init packet.verification_tag old
HearsFront (Ends reflected) old packet new = new ≡ after_ending reflected packet.verification_tag old
HearsFront Carries old packet new =
    TakesCarried old.own old.ended packet new.own × (new ≡ record old { own = new.own })

abbrev pub HearsPacket : BothWays → SeenSctp → BothWays → Type 0
HearsPacket old packet new = (front : Front) × HasFront packet.chunks front × HearsFront front old packet new

-- what is left where memory is wanted
abbrev pub LeavesPacket : BothWays → SeenSctp → BothWays → Type 0
LeavesPacket old packet new =
    HasFront packet.chunks Carries × LeavesCarried old.own old.ended packet new.own
    × (new ≡ record old { own = new.own })

-- both ends, and either direction: from the first end to the second, and back
pub record AssociationState : Type 0 where
  pub first : Endpoint
  pub second : Endpoint
  pub forth : SctpWayState
  pub back : SctpWayState
  pub ended : Bool

-- nothing came
abbrev pub new_association : Endpoint → Endpoint → AssociationState
new_association first second = record {
  first = first;
  second = second;
  forth = new_way;
  back = new_way;
  ended = false;
}

-- the same of both ends, for a table; the length of a user message has a limit of its own, whatever the greatest is
abbrev pub fresh_association : ℕ → both.Ends → AssociationState
fresh_association max ends = new_association ends.first ends.second

abbrev pub packet_ends : SeenSctp → both.Ends
packet_ends packet = both_ends packet.source packet.destination

-- how many octets were passed over, how many of Diameter over DTLS came, and how many are held, up to 2^64 - 1
abbrev pub passed_by : AssociationState → ℕ
passed_by a = more_passed a.forth.flow.passed a.back.flow.passed

abbrev pub secured_by : AssociationState → ℕ
secured_by a = more_passed a.forth.flow.secured a.back.flow.secured

abbrev pub held_by : AssociationState → ℕ
held_by a = min (way_octets a.forth + way_octets a.back) (2 ^ 64 - 1)

-- one direction, and all with another one in its place
abbrev pub sctp_way : Bool → AssociationState → SctpWayState
sctp_way true a = a.forth
sctp_way false a = a.back

abbrev pub with_sctp_way : Bool → SctpWayState → AssociationState → AssociationState
with_sctp_way true way a = record a { forth = way }
with_sctp_way false way a = record a { back = way }

-- both directions as the first end sends, or else the second one
abbrev pub sent_from : Bool → AssociationState → BothWays
sent_from from_first a = record {
  own = sctp_way from_first a;
  other = sctp_way (not from_first) a;
  ended = a.ended;
}

abbrev pub is_from : AssociationState → Endpoint → Bool
is_from a source = (compared.ghosts).eq source a.first

-- a packet came, from the first end or from the second one
pub record ByEnd (old : AssociationState) (source : Endpoint) (new : AssociationState)
    (P : BothWays → BothWays → Type 0) : Type 0 where
  pub first : new.first ≡ old.first
  pub second : new.second ≡ old.second
  pub goes : P (sent_from (is_from old source) old) (sent_from (is_from old source) new)

abbrev pub TakesPacket : AssociationState → SeenSctp → AssociationState → Type 0
TakesPacket old packet new = ByEnd old packet.source new (λ before after. HearsPacket before packet after)

abbrev pub LeavesAssociation : AssociationState → SeenSctp → AssociationState → Type 0
LeavesAssociation old packet new = ByEnd old packet.source new (λ before after. LeavesPacket before packet after)
