-- What came of one direction of a connection, and what was handed out of it (RFC 9293, 3.4).
use Rattle.std.specs.Prelude.{◌≡◌, ◌⊎◌, ℕ, ◌+◌, ◌-◌, ◌%◌, ◌^◌, ◌<◌, ◌≤◌, nat_lt, Option, None, Some, if◌then◌else◌}
use Rattle.std.specs.Prelude.{List, [], ◌∷◌, ◌++◌, length, slice_get}
use Rattle.dm_flows.specs.Windows.{WindowState, Arrival, octet_of, first_known, slot, ahead, TakesOctets, HandsOctets}

-- the first octet with a number that came, of arrivals in the order in which they came
abbrev pub first_came : List Arrival → ℕ → Option ℕ
first_came [] k = None
first_came (arrival ∷ arrivals) k = first_known (octet_of arrival k) (first_came arrivals k)

-- the stream from a number on: of each octet what came first, up to the first octet that is missing
abbrev pub IsStreamOf : ℕ → List Arrival → List ℕ → Type 0
IsStreamOf base arrivals s = (k : ℕ) → k ≤ length s → first_came arrivals (base + k) ≡ slice_get s k

-- a front of it
abbrev pub IsFrontOf : ℕ → List Arrival → List ℕ → Type 0
IsFrontOf base arrivals s = (k : ℕ) → k < length s → first_came arrivals (base + k) ≡ slice_get s k

-- the number that has this sequence number and is nearest to another one. Numbers go on where sequence numbers begin
-- anew, and the least of them is 2^32, so that there are numbers before it.
abbrev pub number_near : ℕ → ℕ → ℕ
number_near n sequence =
    if nat_lt (ahead (n % 2 ^ 32) sequence) (2 ^ 31) then n + ahead (n % 2 ^ 32) sequence
    else n - ahead sequence (n % 2 ^ 32)

abbrev pub arrival_at : ℕ → ℕ → List ℕ → Arrival
arrival_at n sequence octets = record { at = number_near n sequence; octets = octets }

-- all that happened: the number of the next octet, what waits, what came and what was handed out
pub record Passage : Type 0 where
  pub number : ℕ
  pub waits : WindowState
  pub arrivals : List Arrival
  pub handed : List ℕ

-- nothing came, and the first octet will have this number
abbrev pub begun_passage : ℕ → Passage
begun_passage base = record {
  number = base;
  waits = record { next = base % 2 ^ 32; held = [] };
  arrivals = [];
  handed = [];
}

-- octets came and were taken
pub record Arrives (old new : Passage) : Type 0 where
  pub sequence : ℕ
  pub octets : List ℕ
  pub takes : TakesOctets old.waits sequence octets new.waits
  pub fits : sequence < 2 ^ 32
  pub number : new.number ≡ old.number
  pub arrivals : new.arrivals ≡ old.arrivals ++ arrival_at old.number sequence octets ∷ []
  pub handed : new.handed ≡ old.handed

-- octets were handed out
pub record Departs (old new : Passage) : Type 0 where
  pub front : List ℕ
  pub hands : HandsOctets old.waits front new.waits
  pub number : new.number ≡ old.number + length front
  pub arrivals : new.arrivals ≡ old.arrivals
  pub handed : new.handed ≡ old.handed ++ front

-- one after the other, in whatever order
abbrev pub HappenInTurn : Passage → List Passage → Passage → Type 0
HappenInTurn old [] new = old ≡ new
HappenInTurn old (next ∷ later) new = (Arrives old next ⊎ Departs old next) × HappenInTurn next later new

-- a number is found by its sequence number, whatever the next number is, where it is less than 2^31 ahead of that and
-- no more than 2^31 before it
abbrev pub EachNumberIsFound : Type 0
EachNumberIsFound = (n m : ℕ) → m < n + 2 ^ 31 → n ≤ m + 2 ^ 31 → number_near n (m % 2 ^ 32) ≡ m

-- what is handed out is a front of the stream: in order, without a gap, nothing twice, of each number what came first
abbrev pub EachPassageIsInOrder : Type 0
EachPassageIsInOrder =
    (base : ℕ) (later : List Passage) (now : Passage) → 2 ^ 32 ≤ base → HappenInTurn (begun_passage base) later now
    → IsFrontOf base now.arrivals now.handed

-- all of it where the next octet is missing
abbrev pub EachPassageIsWhole : Type 0
EachPassageIsWhole =
    (base : ℕ) (later : List Passage) (now : Passage) → 2 ^ 32 ≤ base → HappenInTurn (begun_passage base) later now
    → slot now.waits.held 0 ≡ None → IsStreamOf base now.arrivals now.handed

-- arrivals have one stream
abbrev pub OneStream : Type 0
OneStream =
    (base : ℕ) (arrivals : List Arrival) (s t : List ℕ) → IsStreamOf base arrivals s → IsStreamOf base arrivals t
    → s ≡ t

-- one is among others
abbrev pub IsAmongArrivals : List Arrival → Arrival → Type 0
IsAmongArrivals arrivals arrival = (i : ℕ) × (slice_get arrivals i ≡ Some arrival)

-- where two have an octet of the same number it is the same
abbrev pub AgreeOnOctets : List Arrival → Type 0
AgreeOnOctets arrivals =
    (a b : Arrival) (k x y : ℕ) → IsAmongArrivals arrivals a → IsAmongArrivals arrivals b
    → octet_of a k ≡ Some x → octet_of b k ≡ Some y → x ≡ y

-- whatever the order and the repetitions, the stream is the same where they agree
abbrev pub OrderChangesNothing : Type 0
OrderChangesNothing =
    (base : ℕ) (arrivals others : List Arrival) (s t : List ℕ)
    → ((a : Arrival) → IsAmongArrivals arrivals a → IsAmongArrivals others a)
    → ((a : Arrival) → IsAmongArrivals others a → IsAmongArrivals arrivals a)
    → AgreeOnOctets arrivals → IsStreamOf base arrivals s → IsStreamOf base others t → s ≡ t
