-- One direction of a connection: octets by number (RFC 9293, 3.4).
use Rattle.std.specs.Prelude.{◌≡◌, ◌⊎◌, ℕ, zero, suc, ◌+◌, ◌-◌, ◌%◌, ◌^◌, ◌<◌, nat_lt, nat_le}
use Rattle.std.specs.Prelude.{Bool, Option, None, Some, is_some, if◌then◌else◌}
use Rattle.std.specs.Prelude.{List, ◌++◌, map, length, count_by, drop, slice_get, slice_index_or}

-- the sequence number of the next octet that is handed out, and what came of those from it on
pub record WindowState : Type 0 where
  pub next : ℕ
  pub held : List (Option ℕ)

-- octets that came, of which the first has this number
pub record Arrival : Type 0 where
  pub at : ℕ
  pub octets : List ℕ

-- the octet with a number among them
abbrev pub octet_of : Arrival → ℕ → Option ℕ
octet_of arrival k = if nat_le arrival.at k then slice_get arrival.octets (k - arrival.at) else None

abbrev pub first_known : Option ℕ → Option ℕ → Option ℕ
first_known (Some octet) later = Some octet
first_known None later = later

-- what is held of the octet that is so many behind the next
abbrev pub slot : List (Option ℕ) → ℕ → Option ℕ
slot held k = slice_index_or held k None

-- how many octets are held
abbrev pub known_octets : List (Option ℕ) → ℕ
known_octets held = count_by is_some held

-- slots from a place on were filled with octets, but those that had one
pub record IsFilled (old : List (Option ℕ)) (at : ℕ) (octets : List ℕ) (new : List (Option ℕ)) : Type 0 where
  pub len : length new ≡ length old
  pub each : (k : ℕ) → slot new k ≡ first_known (slot old k) (octet_of (record { at = at; octets = octets }) k)

-- how far a sequence number is ahead of another one, modulo 2^32
abbrev pub ahead : ℕ → ℕ → ℕ
ahead next sequence = (sequence + (2 ^ 32 - next)) % 2 ^ 32

-- octets with a sequence number begin at the next one, or less than 2^31 ahead of it; else they begin before it
abbrev pub place_ahead : ℕ → ℕ → ℕ
place_ahead next sequence = if nat_lt (ahead next sequence) (2 ^ 31) then ahead next sequence else 0

-- how many of them are before it
abbrev pub passed_of : ℕ → ℕ → ℕ
passed_of next sequence = if nat_lt (ahead next sequence) (2 ^ 31) then 0 else ahead sequence next

-- they begin more than 1,048,576 octets before it
abbrev pub lies_far_behind : ℕ → ℕ → Bool
lies_far_behind next sequence = nat_lt 1048576 (passed_of next sequence)

-- what came of the octets from the next one on
abbrev pub arrival_from : ℕ → ℕ → List ℕ → Arrival
arrival_from next sequence octets =
    record { at = place_ahead next sequence; octets = drop (passed_of next sequence) octets }

-- octets came: of each number what came first is held
pub record TakesOctets (old : WindowState) (sequence : ℕ) (octets : List ℕ) (new : WindowState) : Type 0 where
  pub next : new.next ≡ old.next
  pub held : (k : ℕ) →
      slot new.held k ≡ first_known (slot old.held k) (octet_of (arrival_from old.next sequence octets) k)

-- they reach further ahead than may be held
abbrev pub IsTooFar : Arrival → Type 0
IsTooFar arrival = (0 < length arrival.octets) × (1048576 < arrival.at + length arrival.octets)

-- the sequence number behind so many octets: numbers go round at 2^32
abbrev pub sequence_behind : ℕ → ℕ → ℕ
sequence_behind next zero = next
sequence_behind next (suc n) = (next + suc n) % 2 ^ 32

-- octets were handed out
pub record HandsOctets (old : WindowState) (front : List ℕ) (new : WindowState) : Type 0 where
  pub held : old.held ≡ map Some front ++ new.held
  pub next : new.next ≡ sequence_behind old.next (length front)

-- behind what stood in the output
abbrev pub HandsTo : WindowState → List ℕ → WindowState → List ℕ → Type 0
HandsTo old before new after = (front : List ℕ) × HandsOctets old front new × (after ≡ before ++ front)

-- octets were handed out that never waited
pub record HandsStraight (old : WindowState) (front : List ℕ) (new : WindowState) : Type 0 where
  pub held : new.held ≡ old.held
  pub next : new.next ≡ sequence_behind old.next (length front)

-- octets came and were taken, and then octets were handed out
pub record TakesThrough (old : WindowState) (sequence : ℕ) (octets before : List ℕ) (new : WindowState)
    (after : List ℕ) : Type 0 where
  pub mid : WindowState
  pub takes : TakesOctets old sequence octets mid
  pub hands : HandsTo mid before new after

-- what is left where memory is wanted: all as it was, or octets that were taken and handed out up to some
abbrev pub LeavesThrough : WindowState → ℕ → List ℕ → List ℕ → WindowState → List ℕ → Type 0
LeavesThrough old sequence octets before new after =
    ((new ≡ old) × (after ≡ before)) ⊎ TakesThrough old sequence octets before new after
