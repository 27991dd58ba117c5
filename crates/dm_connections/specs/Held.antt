-- What is held of two ends (RFC 9293, 3.1; RFC 9260, 1.3), and what of it was heard last.
use Rattle.std.specs.Prelude.{◌≡◌, ◌⊎◌, ℕ, ◌+◌, ◌-◌, ◌^◌, Bool, true, false, if◌then◌else◌}
use Rattle.std.specs.Prelude.{Option, None, Some, is_some, List, [], ◌∷◌}
use Rattle.std.specs.Map.{lookup, set_value}
use Rattle.lru.specs.LruCache.{promoted}
use Rattle.dm_flows.specs.declared.address.Endpoint.{Endpoint}
use Rattle.dm_flows.specs.Connections.{ConnectionState, new_connection, held_in}
use Rattle.dm_flows.specs.Flows.{FlowState}
use Rattle.dm_flows.specs.Tcps.{SeenSegment}
use Rattle.dm_connections.specs.declared.choice.Choice.{Choice}
use Rattle.dm_connections.specs.declared.ends.Ends.{Ends}
use Rattle.dm_connections.specs.contracts.ends.EndsPartialEq.TheImpl as compared
use Rattle.dm_connections.specs.Choices.{Wants}

-- each connection with its ends, the one that was heard last first
abbrev pub HeldByEnds : Type 0 → Type 0
HeldByEnds C = List (Ends × C)

-- the greatest length of a message, and the connections that are held
pub record HeldTable (C : Type 0) : Type 0 where
  pub max : ℕ
  pub held : HeldByEnds C

-- both are the same ends, in the same order
abbrev pub same_ends : Ends → Ends → Bool
same_ends = (compared.ghosts).eq

abbrev pub both_ends : Endpoint → Endpoint → Ends
both_ends first second = record { first = first; second = second }

-- the connection of these ends, in this order
abbrev pub connection_of : {C : Type 0} → HeldByEnds C → Ends → Option C
connection_of held ends = lookup (same_ends ends) held

abbrev pub holds_ends : {C : Type 0} → HeldByEnds C → Ends → Bool
holds_ends held ends = is_some (connection_of held ends)

-- of two ends, the order in which a connection of theirs is held
abbrev pub found_ends : {C : Type 0} → HeldByEnds C → Endpoint → Endpoint → Option Ends
found_ends held one other =
    if holds_ends held (both_ends one other) then Some (both_ends one other)
    else if holds_ends held (both_ends other one) then Some (both_ends other one) else None

-- a new connection of these ends, the first of all
abbrev pub with_newest : {C : Type 0} → (ℕ → Ends → C) → ℕ → Ends → HeldByEnds C → HeldByEnds C
with_newest new_of max ends held = (ends, new_of max ends) ∷ held

-- a connection of these ends is held: as it was, whichever of them came first, else a new one
abbrev pub with_one : {C : Type 0} → (ℕ → Ends → C) → ℕ → Ends → HeldByEnds C → HeldByEnds C
with_one new_of max ends held =
    if is_some (found_ends held ends.first ends.second) then held else with_newest new_of max ends held

-- the connection of these ends is this one now, and stands where it stood
abbrev pub with_state : {C : Type 0} → Ends → C → HeldByEnds C → HeldByEnds C
with_state ends now held = set_value (same_ends ends) held now

-- the connection of these ends is the first of all
abbrev pub with_first : {C : Type 0} → Ends → HeldByEnds C → HeldByEnds C
with_first ends held = promoted (same_ends ends) held

-- the connection of these ends was heard, and went on so; the others are as they were
pub record ConnectionGoesOn {C : Type 0} (old : HeldByEnds C) (ends : Ends) (new : HeldByEnds C)
    (P : C → C → Type 0) : Type 0 where
  pub before : C
  pub after : C
  pub there : connection_of old ends ≡ Some before
  pub goes : P before after
  pub all : new ≡ with_state ends after (with_first ends old)

-- one direction of the connection of these ends went on so; all else is as it was, the order too
pub record OneWayGoesOn {C W : Type 0} (one_way : Bool → C → W) (with_way : Bool → W → C → C) (old : HeldByEnds C)
    (ends : Ends) (from_first : Bool) (new : HeldByEnds C) (P : W → W → Type 0) : Type 0 where
  pub before : C
  pub flow : W
  pub there : connection_of old ends ≡ Some before
  pub goes : P (one_way from_first before) flow
  pub all : new ≡ with_state ends (with_way from_first flow before) old

-- the connection of what is sent between two ends is held, in whichever order; or it is wanted and a new one
abbrev pub HasPlaceBetween :
    {C : Type 0} → (ℕ → Ends → C) → HeldByEnds C → ℕ → Ends → Type 0 → Ends → HeldByEnds C → Type 0
HasPlaceBetween new_of old max between wanted ends new =
    ((found_ends old between.first between.second ≡ Some ends) × (new ≡ old))
    ⊎ ((found_ends old between.first between.second ≡ None) × wanted × (ends ≡ between)
    × (new ≡ with_newest new_of max ends old))

-- or neither
abbrev pub HasNoPlaceBetween : {C : Type 0} → HeldByEnds C → Ends → Type 0 → Type 0
HasNoPlaceBetween held between wanted =
    (found_ends held between.first between.second ≡ None) × (wanted → ⊥)

-- what is sent had its place, and its connection went on so
pub record SentGoesIn {C : Type 0} (new_of : ℕ → Ends → C) (old : HeldByEnds C) (max : ℕ) (between : Ends)
    (wanted : Type 0) (ends : Ends) (new : HeldByEnds C) (P : C → C → Type 0) : Type 0 where
  pub mid : HeldByEnds C
  pub place : HasPlaceBetween new_of old max between wanted ends mid
  pub goes : ConnectionGoesOn mid ends new P

-- how many octets are held in all
abbrev pub all_octets : {C : Type 0} → (C → ℕ) → HeldByEnds C → ℕ
all_octets held_in [] = 0
all_octets held_in (entry ∷ held) = held_in entry.1 + all_octets held_in held

-- the number of octets is that of all, and any number of connections may be held
pub record AreSummed {C : Type 0} (held_in : C → ℕ) (octets cap : ℕ) (held : HeldByEnds C) : Type 0 where
  pub all : octets ≡ all_octets held_in held
  pub endless : cap ≡ 2 ^ 64 - 1

-- TCP: connections with what comes of their segments
abbrev pub HeldConnections : Type 0
HeldConnections = HeldByEnds ConnectionState

abbrev pub ConnectionTable : Type 0
ConnectionTable = HeldTable ConnectionState

abbrev pub fresh_connection : ℕ → Ends → ConnectionState
fresh_connection max ends = new_connection max ends.first ends.second

abbrev pub with_fresh : ℕ → Ends → HeldConnections → HeldConnections
with_fresh max ends held = with_newest fresh_connection max ends held

abbrev pub with_added : ℕ → Ends → HeldConnections → HeldConnections
with_added max ends held = with_one fresh_connection max ends held

-- DTLS is of SCTP (RFC 6733, 2.1)
abbrev pub none_secured : ConnectionState → ℕ
none_secured c = 0

-- one direction: from the first end to the second, or back
abbrev pub one_way : Bool → ConnectionState → FlowState
one_way true c = c.forth
one_way false c = c.back

abbrev pub with_way : Bool → FlowState → ConnectionState → ConnectionState
with_way true flow c = record c { forth = flow }
with_way false flow c = record c { back = flow }

abbrev pub WayGoesOn :
    HeldConnections → Ends → Bool → HeldConnections → (FlowState → FlowState → Type 0) → Type 0
WayGoesOn old ends from_first new P = OneWayGoesOn one_way with_way old ends from_first new P

abbrev pub segment_ends : SeenSegment → Ends
segment_ends segment = both_ends segment.source segment.destination

-- the connection of a segment is held, in whichever order of its ends; or it is wanted and a new one
abbrev pub HasPlaceFor : HeldConnections → ℕ → Choice → SeenSegment → Ends → HeldConnections → Type 0
HasPlaceFor old max choice segment ends new =
    HasPlaceBetween fresh_connection old max (segment_ends segment) (Wants choice segment) ends new

-- or neither
abbrev pub HasNoPlaceFor : HeldConnections → Choice → SeenSegment → Type 0
HasNoPlaceFor held choice segment = HasNoPlaceBetween held (segment_ends segment) (Wants choice segment)

-- a segment had its place, and its connection went on so
abbrev pub SegmentGoesIn : HeldConnections → ℕ → Choice → SeenSegment → Ends → HeldConnections
    → (ConnectionState → ConnectionState → Type 0) → Type 0
SegmentGoesIn old max choice segment ends new P =
    SentGoesIn fresh_connection old max (segment_ends segment) (Wants choice segment) ends new P

abbrev pub held_in_all : HeldConnections → ℕ
held_in_all held = all_octets held_in held
