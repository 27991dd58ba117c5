-- Where the messages of a stream begin and end (RFC 6733, 3).
use Rattle.std.specs.Prelude.{◌≡◌, ◌≢◌, ℕ, ◌%◌, ◌<◌, ◌≤◌, ◌⊎◌, Option, None}
use Rattle.std.specs.Prelude.{Some, List, ◌++◌, length, drop, slice_index}
use Rattle.std.specs.List.{AllByRecursion, concat}
use Rattle.byteorder.specs.Endian.{big_number}
use Rattle.dm_framer.specs.declared.fault.FrameFault.{FrameFault}
use Rattle.dm_framer.specs.declared.fault.FrameFault.TheVariants.{BadVersion, BadLength, TooLong, NoMemory}

-- the Message Length: the second to the fourth octet, in network byte order (3)
abbrev pub message_length : List ℕ → ℕ
message_length s = big_number 3 (drop 1 s)

-- a frame for a maximum: version 1, and a Message Length that is the number of the octets, at least a header's 20,
-- a multiple of 4 and at most the maximum (3)
pub record IsFrame (max : ℕ) (s : List ℕ) : Type 0 where
  pub version : slice_index s 0 ≡ 1
  pub size : message_length s ≡ length s
  pub least : 20 ≤ length s
  pub aligned : length s % 4 ≡ 0
  pub most : length s ≤ max

-- the Message Length that is told at the front of s is one that a frame may have: with four octets there, version 1,
-- and a length that fits (3)
pub record HasLength (max : ℕ) (s : List ℕ) (size : ℕ) : Type 0 where
  pub there : 4 ≤ length s
  pub version : slice_index s 0 ≡ 1
  pub told : message_length s ≡ size
  pub least : 20 ≤ size
  pub aligned : size % 4 ≡ 0
  pub most : size ≤ max

-- a frame is a prefix of s
abbrev pub BeginsWithFrame : ℕ → List ℕ → Type 0
BeginsWithFrame max s = (frame rest : List ℕ) × IsFrame max frame × (s ≡ frame ++ rest)

-- no frame is a prefix of s
abbrev pub BeginsWithNoFrame : ℕ → List ℕ → Type 0
BeginsWithNoFrame max s = (frame rest : List ℕ) → IsFrame max frame → s ≡ frame ++ rest → ⊥

-- the fault stands at the front of s: another version at once; with four octets there, a Message Length below 20 or
-- no multiple of 4, else one above the maximum (3, 7.1.5)
abbrev pub HasFault : ℕ → List ℕ → FrameFault → Type 0
HasFault max s BadVersion = (0 < length s) × (slice_index s 0 ≢ 1)
HasFault max s BadLength =
    (4 ≤ length s) × (slice_index s 0 ≡ 1) × ((message_length s < 20) ⊎ (message_length s % 4 ≢ 0))
HasFault max s TooLong =
    (4 ≤ length s) × (slice_index s 0 ≡ 1) × (20 ≤ message_length s) × (message_length s % 4 ≡ 0) ×
    (max < message_length s)
HasFault max s NoMemory = ⊥

-- the fault that stands at the front of s, if one does
abbrev pub IsFaultOf : ℕ → List ℕ → Option FrameFault → Type 0
IsFaultOf max s None = (fault : FrameFault) → HasFault max s fault → ⊥
IsFaultOf max s (Some fault) = HasFault max s fault

-- neither a frame nor a fault stands at the front of s: its first message isn't whole yet
pub record IsPartial (max : ℕ) (s : List ℕ) : Type 0 where
  pub no_frame : BeginsWithNoFrame max s
  pub no_fault : IsFaultOf max s None

-- the longest list of frames that s begins with, the rest of s, and the fault of the rest, if it has one
pub record Framed (max : ℕ) (s : List ℕ) (frames : List (List ℕ)) (rest : List ℕ) (fault : Option FrameFault) : Type 0
  where
    pub whole : s ≡ concat frames ++ rest
    pub each : AllByRecursion (IsFrame max) frames
    pub longest : BeginsWithNoFrame max rest
    pub fault_is : IsFaultOf max rest fault
