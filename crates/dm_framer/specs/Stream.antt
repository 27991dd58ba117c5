-- A framer as its callers see it.
use Rattle.std.specs.Prelude.{◌≡◌, ℕ, ◌≤◌, Option, None, IfSome, List, [], ◌++◌, length, drop}
use Rattle.dm_framer.specs.declared.fault.FrameFault.{FrameFault}
use Rattle.dm_framer.specs.Frames.{HasFault, IsFrame}

-- the octets fed and not yet handed out, the greatest Message Length, and the fault that is kept
pub record Stream : Type 0 where
  pub octets : List ℕ
  pub max : ℕ
  pub fault : Option FrameFault

-- nothing was fed
abbrev pub new_stream : ℕ → Stream
new_stream max = record { octets = []; max = max; fault = None }

-- of a buffer the first octets are handed out, and a kept fault is that of the octets behind them
pub record IsSoundStream (buffer : List ℕ) (taken max : ℕ) (fault : Option FrameFault) : Type 0 where
  pub within : taken ≤ length buffer
  pub kept : IfSome fault (λ found. HasFault max (drop taken buffer) found)

-- the message is the first frame of the octets held
pub record IsFrontFrame (stream : Stream) (message : List ℕ) : Type 0 where
  pub frame : IsFrame stream.max message
  pub first : (more : List ℕ) × (stream.octets ≡ message ++ more)
