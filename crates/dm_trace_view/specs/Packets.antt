-- What is said of packets in turn, as they are handed out, and what of it is written.
use Rattle.std.specs.Prelude.{◌≡◌, ℕ, Option, None, Some, List, [], ◌∷◌, ◌++◌}
use Rattle.dm_capture.specs.declared.fault.CaptureFault.{CaptureFault}
use Rattle.dm_capture.specs.Packets.{Captured}
use Rattle.dm_capture.specs.Items.{IsPart, HasFrontFault}
use Rattle.dm_capture.specs.Captures.{Progress, HeldItem, ItemsLead, packets_of}
use Rattle.dm_view_lines.specs.declared.put_fault.PutFault.{PutFault}
use Rattle.dm_view_lines.specs.Turns.{Gathers, Leaves}

-- packets, each said in turn and in this style
abbrev pub SaysPackets : {S : Type 0} → (List ℕ → List ℕ) → (S → Captured → S → List ℕ → Type 0) → S → List Captured
    → S → List ℕ → Type 0
SaysPackets style Says a [] b text = (b ≡ a) × (text ≡ [])
SaysPackets {S} style Says a (packet ∷ packets) b text =
    (m : S) × (first others : List ℕ) × Says a packet m first × SaysPackets style Says m packets b others
    × (text ≡ style first ++ others)

-- these packets are said; what is said is gathered behind what waited
pub record TellsPackets {S : Type 0} (style : List ℕ → List ℕ) (Says : S → Captured → S → List ℕ → Type 0) (a : S)
    (packets : List Captured) (b : S) (old : Option (List ℕ)) (waits : List ℕ) (new : Option (List ℕ)) (left : List ℕ)
    : Type 0 where
  pub text : List ℕ
  pub turns : SaysPackets style Says a packets b text
  pub gathered : Gathers old waits new left text

-- a front of these packets is said, and the run stops by this fault
pub record StopsPackets {S : Type 0} (style : List ℕ → List ℕ) (Says : S → Captured → S → List ℕ → Type 0) (a : S)
    (packets : List Captured) (fault : PutFault) (old : Option (List ℕ)) (waits : List ℕ) (new : Option (List ℕ))
    (left : List ℕ) : Type 0 where
  pub done : List Captured
  pub rest : List Captured
  pub parts : packets ≡ done ++ rest
  pub said : S
  pub text : List ℕ
  pub turns : SaysPackets style Says a done said text
  pub leaves : Leaves fault old waits new left text

-- why nothing more is handed out: no record is whole yet, or this fault stands in front
abbrev pub EndsAt : Option CaptureFault → Progress → Progress → Type 0
EndsAt None end new = (new ≡ end) × IsPart new.layout new.octets
EndsAt (Some fault) end new =
    (fault.offset ≡ end.offset) × HasFrontFault end.layout end.interfaces end.octets fault.kind

-- all whole packets that are held are said
pub record TellsHeld {S : Type 0} (style : List ℕ → List ℕ) (Says : S → Captured → S → List ℕ → Type 0)
    (from : Progress) (a : S) (fault : Option CaptureFault) (new : Progress) (b : S) (before : Option (List ℕ))
    (waits : List ℕ) (after : Option (List ℕ)) (left : List ℕ) : Type 0 where
  pub items : List HeldItem
  pub end : Progress
  pub lead : ItemsLead from items end
  pub tells : TellsPackets style Says a (packets_of from.packets items) b before waits after left
  pub ends : EndsAt fault end new

-- a front of them is, and the run stops by this fault
pub record StopsHeld {S : Type 0} (style : List ℕ → List ℕ) (Says : S → Captured → S → List ℕ → Type 0)
    (from : Progress) (a : S) (fault : PutFault) (before : Option (List ℕ)) (waits : List ℕ) (after : Option (List ℕ))
    (left : List ℕ) : Type 0 where
  pub items : List HeldItem
  pub end : Progress
  pub lead : ItemsLead from items end
  pub stops : StopsPackets style Says a (packets_of from.packets items) fault before waits after left
