-- A capture is read in one way, whatever pieces it comes in.
use Rattle.std.specs.Prelude.{◌⊎◌, ◌≡◌, ℕ, List, [], ◌++◌}
use Rattle.dm_capture.specs.declared.front_item.Layout.{Layout}
use Rattle.dm_capture.specs.declared.interface.Interface.{Interface}
use Rattle.dm_capture.specs.declared.front_item.Holds.{Holds}
use Rattle.dm_capture.specs.declared.fault.FaultKind.{FaultKind}
use Rattle.dm_capture.specs.Packets.{Captured}
use Rattle.dm_capture.specs.Items.{IsItem, IsPart, HasFrontFault}
use Rattle.dm_capture.specs.Captures.{Progress, HeldItem, ItemsLead, packets_of, new_progress}
use Rattle.dm_capture.specs.Files.{IsPcap, IsPcapng}

-- octets begin with one item at most
abbrev pub OneItem : Type 0
OneItem =
    (layout : Layout) (interfaces : List Interface) (s t rest left : List ℕ) (holds other : Holds)
    → IsItem layout interfaces s holds → IsItem layout interfaces t other → s ++ rest ≡ t ++ left
    → (s ≡ t) × (holds ≡ other)

-- and with none where a part of one stands
abbrev pub ItemOrPart : Type 0
ItemOrPart =
    (layout : Layout) (interfaces : List Interface) (s rest : List ℕ) (holds : Holds)
    → IsItem layout interfaces s holds → IsPart layout (s ++ rest) → ⊥

-- and with none where a fault stands
abbrev pub ItemOrFault : Type 0
ItemOrFault =
    (layout : Layout) (interfaces : List Interface) (s rest : List ℕ) (holds : Holds) (fault : FaultKind)
    → IsItem layout interfaces s holds → HasFrontFault layout interfaces (s ++ rest) fault → ⊥

-- where a part of an item stands no fault does
abbrev pub PartOrFault : Type 0
PartOrFault =
    (layout : Layout) (interfaces : List Interface) (s : List ℕ) (fault : FaultKind)
    → IsPart layout s → HasFrontFault layout interfaces s fault → ⊥

-- and one fault at most does
abbrev pub OneFrontFault : Type 0
OneFrontFault =
    (layout : Layout) (interfaces : List Interface) (s : List ℕ) (fault other : FaultKind)
    → HasFrontFault layout interfaces s fault → HasFrontFault layout interfaces s other → fault ≡ other

-- a part of an item is left, or a fault
abbrev pub IsStopped : Progress → Type 0
IsStopped end =
    IsPart end.layout end.octets ⊎ ((fault : FaultKind) × HasFrontFault end.layout end.interfaces end.octets fault)

-- where nothing whole is left the items before it are these and no others
abbrev pub OneReading : Type 0
OneReading =
    (begun end other : Progress) (items others : List HeldItem)
    → ItemsLead begun items end → ItemsLead begun others other
    → IsStopped end → IsStopped other → (items ≡ others) × (end ≡ other)

-- one piece more was fed
abbrev pub with_piece : Progress → List ℕ → Progress
with_piece before piece = record before { octets = before.octets ++ piece }

-- what comes later changes none of the items before
abbrev pub LaterChangesNothing : Type 0
LaterChangesNothing =
    (begun end : Progress) (items : List HeldItem) (piece : List ℕ) → ItemsLead begun items end
    → ItemsLead (with_piece begun piece) items (with_piece end piece)

-- a run of items, and one from where it ended
abbrev pub RunsJoin : Type 0
RunsJoin =
    (begun between end : Progress) (items more : List HeldItem)
    → ItemsLead begun items between → ItemsLead between more end
    → ItemsLead begun (items ++ more) end × (packets_of begun.packets (items ++ more) ≡
    packets_of begun.packets items ++ packets_of between.packets more)

-- s is read to its end, and has these packets
abbrev pub IsRead : List ℕ → List Captured → Type 0
IsRead s packets =
    (items : List HeldItem) × (end : Progress) × ItemsLead (with_piece new_progress s) items end × (end.octets ≡ []) ×
    (packets_of 0 items ≡ packets)

abbrev pub EachPcapIsRead : Type 0
EachPcapIsRead = (s : List ℕ) (packets : List Captured) → IsPcap s packets → IsRead s packets

abbrev pub EachPcapngIsRead : Type 0
EachPcapngIsRead = (s : List ℕ) (packets : List Captured) → IsPcapng s packets → IsRead s packets
