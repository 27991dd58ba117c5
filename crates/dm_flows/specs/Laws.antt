-- What a packet is said to hold is said in one way.
use Rattle.std.specs.Prelude.{◌≡◌, ℕ, List}
use Rattle.dm_flows.specs.declared.passed.Passed.{Passed}
use Rattle.dm_flows.specs.Tcps.{SeenSegment, IsSegment, IsNoSegment}

-- a packet holds one segment at most
abbrev pub OneSegment : Type 0
OneSegment = (link : ℕ) (s : List ℕ) (t u : SeenSegment) → IsSegment link s t → IsSegment link s u → t ≡ u

-- and none where there is a reason why it holds none
abbrev pub SegmentOrReason : Type 0
SegmentOrReason =
    (link : ℕ) (s : List ℕ) (t : SeenSegment) (why : Passed) → IsSegment link s t → IsNoSegment link s why → ⊥

-- of which there is one at most
abbrev pub OneReason : Type 0
OneReason = (link : ℕ) (s : List ℕ) (f g : Passed) → IsNoSegment link s f → IsNoSegment link s g → f ≡ g
