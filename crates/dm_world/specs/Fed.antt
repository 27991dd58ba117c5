-- What a direction holds: messages that are frames, and of the front one the octets that were delivered.
use Rattle.std.specs.Prelude.{◌≡◌, ℕ, ◌-◌, IsTrue, None, List, [], ◌∷◌, length, take}
use Rattle.std.specs.List.{AllByRecursion}
use Rattle.dm_framer.specs.Frames.{IsFrame}
use Rattle.dm_framer.specs.Stream.{Stream}
use Rattle.dm_two_peers.specs.Streams.{is_cut}
use Rattle.dm_wire.specs.Codes.{max_message_len}

-- the front message, or no octets
abbrev pub front_in : List (List ℕ) → List ℕ
front_in [] = []
front_in (x ∷ xs) = x

-- how many of its octets are still to come
abbrev pub octets_to_come : List (List ℕ) → ℕ → ℕ
octets_to_come messages taken = length (front_in messages) - taken

-- a framer for messages of any size (RFC 6733, 3) that holds these octets, and no fault
abbrev pub holding : List ℕ → Stream
holding octets = record { octets = octets; max = max_message_len; fault = None }

-- each message is a frame; fewer octets were delivered than the front one has, and the framer holds just them
pub record IsFed (messages : List (List ℕ)) (taken : ℕ) (framer : Stream) : Type 0 where
  pub frames : AllByRecursion (IsFrame max_message_len) messages
  pub cut : IsTrue (is_cut length messages taken)
  pub fed : framer ≡ holding (take taken (front_in messages))
