-- What is held of two ends, as far as what is said of it goes: TCP connections, and SCTP associations.
use Rattle.std.specs.Prelude.{ℕ, Bool, List}
use Rattle.dm_associations.specs.Associations.{AssociationState, fresh_association, passed_by, secured_by, held_by}
use Rattle.dm_associations.specs.Associations.{sctp_way, with_sctp_way}
use Rattle.dm_associations.specs.Ways.{SctpWayState, HandsReady, HandsNoneReady}
use Rattle.dm_connections.specs.declared.ends.Ends.{Ends}
use Rattle.dm_connections.specs.Held.{fresh_connection, none_secured, one_way, with_way}
use Rattle.dm_flows.specs.Connections.{ConnectionState, passed_in, held_in, pending_in}
use Rattle.dm_flows.specs.Flows.{FlowState, HandsMessage, HandsNoMessage}

-- its beginning, what was passed over, is secured, is held and came in vain so far, either direction, and the messages
-- that this hands out
pub record Talk (C W : Type 0) : Type 1 where
  pub fresh : ℕ → Ends → C
  pub passed_in : C → ℕ
  pub secured_in : C → ℕ
  pub held_in : C → ℕ
  pub pending_in : C → ℕ
  pub one_way : Bool → C → W
  pub with_way : Bool → W → C → C
  pub Hands : W → List ℕ → W → Type 0
  pub HandsNone : W → W → Type 0

abbrev pub talk_of : {C W : Type 0} → (ℕ → Ends → C) → (C → ℕ) → (C → ℕ) → (C → ℕ) → (C → ℕ) → (Bool → C → W)
    → (Bool → W → C → C) → (W → List ℕ → W → Type 0) → (W → W → Type 0) → Talk C W
talk_of fresh passed_in secured_in held_in pending_in one_way with_way Hands HandsNone = record {
  fresh = fresh;
  passed_in = passed_in;
  secured_in = secured_in;
  held_in = held_in;
  pending_in = pending_in;
  one_way = one_way;
  with_way = with_way;
  Hands = Hands;
  HandsNone = HandsNone;
}

abbrev pub tcp_talk : Talk ConnectionState FlowState
tcp_talk =
    talk_of fresh_connection passed_in none_secured held_in pending_in one_way with_way HandsMessage HandsNoMessage

abbrev pub sctp_talk : Talk AssociationState SctpWayState
sctp_talk =
    talk_of fresh_association passed_by secured_by held_by held_by sctp_way with_sctp_way HandsReady HandsNoneReady
