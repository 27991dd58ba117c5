-- What is said of a capture that a reader gives, up to its end or to a fault.
use Rattle.std.specs.Prelude.{◌≡◌, ◌⊎◌, ℕ, Option, None, Some, IfSome, List, [], ◌++◌}
use Rattle.std.specs.Io.KnownBytes.{Appends, Consumes}
use Rattle.dm_capture.specs.declared.fault.CaptureFault.{CaptureFault}
use Rattle.dm_capture.specs.declared.fault.FaultKind.{FaultKind}
use Rattle.dm_capture.specs.Packets.{Captured}
use Rattle.dm_capture.specs.Items.{HasFrontFault}
use Rattle.dm_capture.specs.Captures.{Progress, HeldItem, ItemsLead, packets_of, new_progress, EndsWith}
use Rattle.dm_capture.specs.Laws.{with_piece, IsRead}
use Rattle.dm_view_lines.specs.declared.put_fault.PutFault.{PutFault}
use Rattle.dm_view_lines.specs.declared.put_fault.PutFault.TheVariants as put
use Rattle.dm_view_lines.specs.declared.run_fault.RunFault.{RunFault}
use Rattle.dm_view_lines.specs.declared.run_fault.RunFault.TheVariants.{Memory, Read, TooLong, Write}
use Rattle.dm_trace_view.specs.Packets.{SaysPackets, StopsHeld}

-- a fault stands in front of what is left, or it is what is wrong where the file ends
abbrev pub StandsThere : Progress → FaultKind → Type 0
StandsThere end kind = HasFrontFault end.layout end.interfaces end.octets kind ⊎ EndsWith end kind

-- s has these packets up to its end, or up to this fault
abbrev pub IsReadTo : List ℕ → List Captured → Option CaptureFault → Type 0
IsReadTo s packets None = IsRead s packets
IsReadTo s packets (Some fault) =
    (items : List HeldItem) × (end : Progress) × ItemsLead (with_piece new_progress s) items end
    × (packets_of 0 items ≡ packets) × (fault.offset ≡ end.offset) × StandsThere end fault.kind

-- a capture is said up to its end, or up to a fault, behind which nothing is looked at
pub record SaysFile {S : Type 0} (style : List ℕ → List ℕ) (Says : S → Captured → S → List ℕ → Type 0) (a : S)
    (octets : List ℕ) (fault : Option CaptureFault) (b : S) (old new : Option (List ℕ)) : Type 0 where
  pub taken : List ℕ
  pub rest : List ℕ
  pub parts : octets ≡ taken ++ rest
  pub all : fault ≡ None → rest ≡ []
  pub packets : List Captured
  pub read : IsReadTo taken packets fault
  pub text : List ℕ
  pub turns : SaysPackets style Says a packets b text
  pub written : Appends old new text

-- the reader failed: what is said of all packets that it gave whole is written
pub record FailsFile {S : Type 0} (style : List ℕ → List ℕ) (Says : S → Captured → S → List ℕ → Type 0) (a : S)
    (given left old new : Option (List ℕ)) : Type 0 where
  pub taken : List ℕ
  pub read : Consumes given left taken
  pub items : List HeldItem
  pub end : Progress
  pub lead : ItemsLead (with_piece new_progress taken) items end
  pub said : S
  pub text : List ℕ
  pub turns : SaysPackets style Says a (packets_of 0 items) said text
  pub written : Appends old new text

-- a front of the packets of a front of the octets is said
abbrev pub StopsIn : {S : Type 0} → (List ℕ → List ℕ) → (S → Captured → S → List ℕ → Type 0) → S → PutFault
    → List ℕ → Option (List ℕ) → Option (List ℕ) → Type 0
StopsIn style Says a fault octets old new =
    (taken rest : List ℕ) × (octets ≡ taken ++ rest)
    × StopsHeld style Says (with_piece new_progress taken) a fault old [] new []

-- a run over a capture stops by this fault
abbrev pub StopsFile : {S : Type 0} → (List ℕ → List ℕ) → (S → Captured → S → List ℕ → Type 0) → S → RunFault
    → Option (List ℕ) → Option (List ℕ) → Option (List ℕ) → Option (List ℕ) → Type 0
StopsFile style Says a (Read error) given left old new = FailsFile style Says a given left old new
StopsFile style Says a Memory given left old new =
    IfSome given (λ octets. StopsIn style Says a put.Memory octets old new)
StopsFile style Says a (TooLong number) given left old new =
    IfSome given (λ octets. StopsIn style Says a (put.TooLong number) octets old new)
StopsFile style Says a (Write error) given left old new =
    IfSome given (λ octets. StopsIn style Says a (put.Write error) octets old new)
