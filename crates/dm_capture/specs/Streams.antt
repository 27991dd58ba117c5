-- A capture that a reader gives.
use Rattle.std.specs.Prelude.{◌≡◌, ◌≢◌, ◌⊎◌, ℕ, Bool, true, Option, None, Some, OnSome, Result, Ok, Err, List, [], ◌∷◌}
use Rattle.std.specs.Io.KnownBytes.{Keeps, Consumes, IsAtEnd}
use Rattle.dm_capture.specs.declared.front_item.Layout.TheVariants.{Start}
use Rattle.dm_capture.specs.declared.packet.Packet.{Packet}
use Rattle.dm_capture.specs.declared.fault.CaptureFault.{CaptureFault}
use Rattle.dm_capture.specs.declared.fault.FaultKind.TheVariants.{OutOfMemory}
use Rattle.dm_capture.specs.declared.stream.StreamFault.{StreamFault}
use Rattle.dm_capture.specs.declared.stream.StreamFault.TheVariants.{Capture, Unreadable}
use Rattle.dm_capture.specs.Packets.{captured_of}
use Rattle.dm_capture.specs.Items.{IsPart}
use Rattle.dm_capture.specs.Captures.{Progress, HeldItem, ItemsLead, packets_of, StopsReading, EndsWith}
use Rattle.dm_capture.specs.Laws.{with_piece}

-- octets were taken from the reader, and behind those that were held items were passed that hold no packet
abbrev pub TakesOn : Progress → Option (List ℕ) → Progress → Option (List ℕ) → Type 0
TakesOn old left now more =
    (taken : List ℕ) × (items : List HeldItem) × Consumes left more taken ×
    ItemsLead (with_piece old taken) items now × (packets_of old.packets items ≡ [])

-- the reader's end is the file's
pub record EndsThere (left : Option (List ℕ)) (now : Progress) (more : Option (List ℕ)) : Type 0 where
  pub end : OnSome left (IsAtEnd more)
  pub part : IsPart now.layout now.octets

-- a fault that stands behind what was passed, or what is wrong where the file ends; and what each leaves
abbrev pub StopsThere : CaptureFault → Option (List ℕ) → Progress → Progress → Option (List ℕ) → Type 0
StopsThere fault left before new more =
    StopsReading fault.kind fault before new ⊎
    (EndsThere left before more × EndsWith before fault.kind × (new ≡ before))

-- what a call for the next packet answers, where a reader gives the octets, and what it leaves: the packet of the items
-- passed, behind what was taken from the reader; none where neither holds any more; a fault; or the reader failed
abbrev pub HandsFrom : Progress → Option (List ℕ) → Progress → Option (List ℕ) →
    Result (Option Packet) StreamFault → Type 0
HandsFrom old left new more (Ok (Some packet)) =
    (taken : List ℕ) × (items : List HeldItem) × Consumes left more taken ×
    ItemsLead (with_piece old taken) items new × (packets_of old.packets items ≡ captured_of packet ∷ [])
HandsFrom old left new more (Ok None) =
    TakesOn old left new more × OnSome left (IsAtEnd more) × (new.octets ≡ []) × (new.layout ≢ Start)
HandsFrom old left new more (Err (Capture fault)) =
    (before : Progress) × TakesOn old left before more × (fault.offset ≡ before.offset) ×
    StopsThere fault left before new more
HandsFrom old left new more (Err Unreadable) = TakesOn old left new more

-- a kept fault is answered again, and nothing changes
pub record AnswersAgain (fault : CaptureFault) (old new : Progress) (left more : Option (List ℕ))
    (result : Result (Option Packet) StreamFault) : Type 0 where
  pub answer : result ≡ Err (Capture fault)
  pub same : new ≡ old
  pub unread : Keeps left more

-- what is answered where the file ends
abbrev pub EndsAs : Progress → Result (Option Packet) StreamFault → Type 0
EndsAs now (Ok None) = (now.octets ≡ []) × (now.layout ≢ Start)
EndsAs now (Ok (Some packet)) = ⊥
EndsAs now (Err (Capture fault)) = (fault.offset ≡ now.offset) × EndsWith now fault.kind
EndsAs now (Err Unreadable) = ⊥

-- a piece was taken from the reader and fed; where nothing came that was the reader's end
pub record FeedsPiece (left more : Option (List ℕ)) (before after : Progress) (done : Bool) : Type 0 where
  pub piece : List ℕ
  pub given : Consumes left more piece
  pub whole : after ≡ with_piece before piece
  pub ends : done ≡ true → (piece ≡ []) × OnSome left (IsAtEnd more)

-- why none was: the reader failed, or memory is wanted
abbrev pub IsNoneRead : Progress → StreamFault → Type 0
IsNoneRead before (Capture fault) = fault ≡ record { offset = before.offset; kind = OutOfMemory }
IsNoneRead before Unreadable = Unit {0}

-- then nothing changes
pub record FeedsNone (left more : Option (List ℕ)) (before after : Progress) (fault : StreamFault) : Type 0 where
  pub unread : Keeps left more
  pub same : after ≡ before
  pub why : IsNoneRead before fault
