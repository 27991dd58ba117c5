-- One direction of a connection: what comes of its segments.
use Rattle.std.specs.Prelude.{◌≡◌, ◌⊎◌, ℕ, ◌+◌, ◌-◌, ◌%◌, ◌^◌, ◌<◌, min, true, Option, None, Some}
use Rattle.std.specs.Prelude.{List, [], ◌++◌, length, take}
use Rattle.dm_framer.specs.declared.fault.FrameFault.{FrameFault}
use Rattle.dm_framer.specs.Frames.{IsFrame, HasFault, IsPartial}
use Rattle.dm_flows.specs.declared.closing.Closing.{Closing}
use Rattle.dm_flows.specs.declared.closing.Closing.TheVariants.{Open, Fin, Reset}
use Rattle.dm_flows.specs.Headers.{BeginsWithHeader}
use Rattle.dm_flows.specs.Windows.{WindowState, known_octets, place_ahead, arrival_from, sequence_behind}
use Rattle.dm_flows.specs.Windows.{lies_far_behind, IsTooFar, TakesThrough}

-- the number of its SYN, where one was seen; what ended it; what waits, where its place in the stream is known; the
-- octets in order that weren't handed out yet; how many octets were passed over; and the greatest Message Length
pub record FlowState : Type 0 where
  pub syn : Option ℕ
  pub closing : Closing
  pub window : Option WindowState
  pub ready : List ℕ
  pub passed : ℕ
  pub max : ℕ

-- nothing came
abbrev pub new_flow : ℕ → FlowState
new_flow max = record { syn = None; closing = Open; window = None; ready = []; passed = 0; max = max }

-- so many octets more were passed over: they are counted up to 2^64 - 1
abbrev pub more_passed : ℕ → ℕ → ℕ
more_passed passed n = min (passed + n) (2 ^ 64 - 1)

abbrev pub with_more_passed : FlowState → ℕ → FlowState
with_more_passed flow n = record flow { passed = more_passed flow.passed n }

-- how many octets wait behind one that is missing
abbrev pub known_waiting : Option WindowState → ℕ
known_waiting None = 0
known_waiting (Some window) = known_octets window.held

-- how many octets there are from the next one to the last that waits, with those that are missing
abbrev pub known_span : Option WindowState → ℕ
known_span None = 0
known_span (Some window) = length window.held

-- how many octets are held: those, and those in order that weren't handed out; they are counted up to 2^64 - 1
abbrev pub held_octets : FlowState → ℕ
held_octets flow = min (known_span flow.window + length flow.ready) (2 ^ 64 - 1)

-- how many octets came that were neither handed out nor passed over: those that wait, and those in order
abbrev pub pending_octets : FlowState → ℕ
pending_octets flow = min (known_waiting flow.window + length flow.ready) (2 ^ 64 - 1)

-- the stream is left: what waits and what wasn't handed out is passed over
abbrev pub stream_left : FlowState → FlowState
stream_left flow = record flow {
  window = None;
  ready = [];
  passed = more_passed flow.passed (known_waiting flow.window + length flow.ready);
}

-- a new connection begins with this SYN: its first octet has the next number (RFC 9293, 3.4)
abbrev pub begun_by_syn : FlowState → ℕ → FlowState
begun_by_syn flow number = record (stream_left flow) {
  syn = Some number;
  closing = Open;
  window = Some (record { next = (number + 1) % 2 ^ 32; held = [] });
}

-- a new connection begins, of which nothing came in this direction
abbrev pub begun_unseen : FlowState → FlowState
begun_unseen flow = record (stream_left flow) { syn = None; closing = Open }

-- a FIN has this number: the first one counts
abbrev pub closing_by_fin : Closing → ℕ → Closing
closing_by_fin Open number = Fin number
closing_by_fin closing number = closing

-- the octets, of which the first has this number, that are before the end
abbrev pub octets_within : Closing → ℕ → List ℕ → List ℕ
octets_within Open number s = s
octets_within (Fin last) number s = take (place_ahead number last) s
octets_within Reset number s = []

-- octets came in a stream whose place is known
pub record FlowTakes (old : FlowState) (number : ℕ) (s : List ℕ) (new : FlowState) : Type 0 where
  pub before : WindowState
  pub after : WindowState
  pub known : old.window ≡ Some before
  pub takes : TakesThrough before number s old.ready after new.ready
  pub others : new ≡ record old { window = Some after; ready = new.ready }

-- where it isn't known, a stream begins with octets at whose front a header may stand
abbrev pub begun_by_header : FlowState → ℕ → List ℕ → FlowState
begun_by_header flow number s = record (stream_left flow) {
  window = Some (record { next = sequence_behind number (length s); held = [] });
  ready = s;
}

abbrev pub BeginsAnew : FlowState → ℕ → List ℕ → FlowState → Type 0
BeginsAnew old number s new =
    (BeginsWithHeader s × (new ≡ begun_by_header old number s))
    ⊎ ((BeginsWithHeader s → ⊥) × (new ≡ with_more_passed (stream_left old) (length s)))

-- it isn't known, or the octets are too far ahead, or too far behind to be a repetition
abbrev pub IsAstrayAt : Option WindowState → ℕ → List ℕ → Type 0
IsAstrayAt None number s = Unit {0}
IsAstrayAt (Some window) number s =
    IsTooFar (arrival_from window.next number s)
    ⊎ ((0 < length s) × (lies_far_behind window.next number ≡ true))

-- octets before the end came
abbrev pub TakesWithin : FlowState → ℕ → List ℕ → FlowState → Type 0
TakesWithin old number s new =
    ((IsAstrayAt old.window number s → ⊥) × FlowTakes old number s new)
    ⊎ (IsAstrayAt old.window number s × BeginsAnew old number s new)

-- octets came: those behind the end are passed over
pub record TakesPayload (old : FlowState) (number : ℕ) (s : List ℕ) (new : FlowState) : Type 0 where
  pub mid : FlowState
  pub within : TakesWithin old number (octets_within old.closing number s) mid
  pub rest : new ≡ with_more_passed mid (length s - length (octets_within old.closing number s))

-- what is left where memory is wanted: all as it was, or octets that were taken, and put in order up to some
abbrev pub LeavesPayload : FlowState → ℕ → List ℕ → FlowState → Type 0
LeavesPayload old number s new =
    (new ≡ old) ⊎ FlowTakes old number (octets_within old.closing number s) new

-- the next message is handed out
pub record HandsMessage (old : FlowState) (message : List ℕ) (new : FlowState) : Type 0 where
  pub frame : IsFrame old.max message
  pub more : List ℕ
  pub first : old.ready ≡ message ++ more
  pub rest : new ≡ record old { ready = more }

-- no message is whole yet, or what is in order is none, and the stream is left
abbrev pub HandsNoMessage : FlowState → FlowState → Type 0
HandsNoMessage old new =
    (IsPartial old.max old.ready × (new ≡ old))
    ⊎ ((fault : FrameFault) × HasFault old.max old.ready fault × (new ≡ stream_left old))
