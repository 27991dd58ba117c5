-- A stream is cut into messages in one way, whatever pieces it comes in (RFC 6733, 3).
use Rattle.std.specs.Prelude.{◌≡◌, ℕ, Option, None, Some, List, [], ◌++◌}
use Rattle.std.specs.List.{AllByRecursion, concat}
use Rattle.dm_framer.specs.declared.fault.FrameFault.{FrameFault}
use Rattle.dm_framer.specs.Frames.{IsFrame, HasFault, Framed}

-- each list of octets has frames, a rest, and a fault of the rest or none
abbrev pub EachStreamIsFramed : Type 0
EachStreamIsFramed =
    (max : ℕ) (s : List ℕ)
    → (frames : List (List ℕ)) × (rest : List ℕ) × (fault : Option FrameFault) × Framed max s frames rest fault

-- and in one way only
abbrev pub OneFraming : Type 0
OneFraming =
    (max : ℕ) (s : List ℕ) (frames others : List (List ℕ)) (rest left : List ℕ) (fault other : Option FrameFault)
    → Framed max s frames rest fault → Framed max s others left other
    → (frames ≡ others) × (rest ≡ left) × (fault ≡ other)

-- the frames of s and then t are those of s, and then those of s's rest and then t, with the same rest and fault
abbrev pub Cuts : Type 0
Cuts =
    (max : ℕ) (s t : List ℕ) (frames more : List (List ℕ)) (rest left : List ℕ) (fault : Option FrameFault)
    → Framed max s frames rest None → Framed max (rest ++ t) more left fault
    → Framed max (s ++ t) (frames ++ more) left fault

-- a fault stays, and so do the frames before it, whatever comes behind
abbrev pub FaultStays : Type 0
FaultStays =
    (max : ℕ) (s t : List ℕ) (frames : List (List ℕ)) (rest : List ℕ) (fault : FrameFault)
    → Framed max s frames rest (Some fault) → Framed max (s ++ t) frames (rest ++ t) (Some fault)

-- frames, one after the other, are just these frames
abbrev pub WholeFrames : Type 0
WholeFrames =
    (max : ℕ) (frames : List (List ℕ)) → AllByRecursion (IsFrame max) frames → Framed max (concat frames) frames [] None

-- a stream begins with one frame at most
abbrev pub OneFront : Type 0
OneFront =
    (max : ℕ) (frame other rest left : List ℕ) → IsFrame max frame → IsFrame max other → frame ++ rest ≡ other ++ left
    → (frame ≡ other) × (rest ≡ left)

-- and with a frame or a fault, not both
abbrev pub FrameOrFault : Type 0
FrameOrFault =
    (max : ℕ) (frame rest : List ℕ) (fault : FrameFault) → IsFrame max frame → HasFault max (frame ++ rest) fault → ⊥

-- a fault stands at the front whatever comes behind
abbrev pub FaultStands : Type 0
FaultStands = (max : ℕ) (s t : List ℕ) (fault : FrameFault) → HasFault max s fault → HasFault max (s ++ t) fault
