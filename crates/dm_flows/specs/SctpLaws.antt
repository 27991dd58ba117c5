-- What a packet is said to hold of SCTP is said in one way.
use Rattle.std.specs.Prelude.{◌≡◌, ℕ, List}
use Rattle.dm_flows.specs.declared.passed.Passed.{Passed}
use Rattle.dm_flows.specs.Sctps.{SeenSctp, SeenData, IsSctp, IsNoSctp, AreData}

-- a packet holds one SCTP packet at most
abbrev pub OneSctp : Type 0
OneSctp = (link : ℕ) (s : List ℕ) (t u : SeenSctp) → IsSctp link s t → IsSctp link s u → t ≡ u

-- and none where there is a reason why it holds none
abbrev pub SctpOrReason : Type 0
SctpOrReason = (link : ℕ) (s : List ℕ) (t : SeenSctp) (why : Passed) → IsSctp link s t → IsNoSctp link s why → ⊥

-- of which there is one at most
abbrev pub OneSctpReason : Type 0
OneSctpReason = (link : ℕ) (s : List ℕ) (f g : Passed) → IsNoSctp link s f → IsNoSctp link s g → f ≡ g

-- its chunks are read to their end
abbrev pub EachHasDataList : Type 0
EachHasDataList = (s : List ℕ) → (x : List SeenData) × AreData s x

-- and have one list of DATA chunks
abbrev pub OneDataList : Type 0
OneDataList = (s : List ℕ) (x y : List SeenData) → AreData s x → AreData s y → x ≡ y
