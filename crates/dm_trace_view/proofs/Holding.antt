-- The packets that a capture hands out, each said in turn.
use Rattle.std.proofs.Common.{◌≡◌, ◌≢◌, ℕ, Option, None, Some, Result, Ok, Err, IfOk, IfErr, List, [], ◌∷◌, length, ap, sym, refl, subst}
use Rattle.dm_capture.specs.declared.fault.CaptureFault.{CaptureFault}
use Rattle.dm_capture.specs.declared.fault.FaultKind.{FaultKind}
use Rattle.dm_capture.specs.declared.fault.FaultKind.TheVariants as kinds
use Rattle.dm_capture.specs.declared.packet.Packet.{Packet}
use Rattle.dm_capture.specs.Captures.{Progress, HeldItem, ItemsLead, passed, Hands, StopsReading}
use Rattle.dm_capture.specs.Items.{HasFrontFault}
use Rattle.dm_capture.specs.Laws.{RunsJoin}
use Rattle.dm_capture.specs.Packets.{Captured, captured_of}
use Rattle.dm_view_lines.specs.declared.put_fault.PutFault.{PutFault}
use Rattle.dm_trace_view.specs.Packets.{TellsPackets, StopsPackets, TellsHeld, StopsHeld}
use Rattle.dm_trace_view.proofs.Saying.{Gathering, SoHeld, so_then, so_passed, so_ends, so_stops, so_stops_here}

-- no item changes the fault that is kept
pub lead-fault : (before after : Progress) (items : List HeldItem) → ItemsLead before items after
    → after.fault ≡ before.fault
lead-fault before after [] h = ap (λ (p : Progress). p.fault) (sym h)
lead-fault before after (item ∷ items) h =
    lead-fault (passed before (length item.octets) item.holds h.1) after items h.3

-- a fault that is kept stands in front
front_fault : (kind : FaultKind) (fault : CaptureFault) (before after : Progress) → kind ≢ kinds.OutOfMemory
    → StopsReading kind fault before after → HasFrontFault before.layout before.interfaces before.octets kind
front_fault kinds.NoCapture fault before after other h = h.0
front_fault kinds.OtherVersion fault before after other h = h.0
front_fault kinds.WrongLength fault before after other h = h.0
front_fault kinds.RecordTooLong fault before after other h = h.0
front_fault kinds.LengthsDiffer fault before after other h = h.0
front_fault kinds.UnknownInterface fault before after other h = h.0
front_fault kinds.TooManyInterfaces fault before after other h = h.0
front_fault kinds.CutRecord fault before after other h = h.0
front_fault kinds.OutOfMemory fault before after other h = absurd (other refl)

module _ {S : Type 0} (style : List ℕ → List ℕ) (Says : S → Captured → S → List ℕ → Type 0) where
  module _ (laws : Gathering) (joins : RunsJoin) where
    -- one packet more is said
    pub holds_next : (from now to : Progress) (a m b : S) (packet : Packet) (c d e : Option (List ℕ)) (w v u : List ℕ)
        → SoHeld style Says from a now m c w d v → Hands now to (Ok (Some packet))
        → TellsPackets style Says m (captured_of packet ∷ []) b d v e u → SoHeld style Says from a to b c w e u
    holds_next from now to a m b packet c d e w v u so hands told =
        let Packets : List Captured → Type 0 = λ l. TellsPackets style Says m l b d v e u in
        so_then style Says laws joins from now to a m b hands.0 c d e w v u so hands.1
        (subst Packets (sym hands.2) told)

    -- it can't be said, or not put
    pub holds_stops : (from now to : Progress) (a m : S) (packet : Packet) (fault : PutFault) (c d e : Option (List ℕ))
        (w v u : List ℕ) → SoHeld style Says from a now m c w d v → Hands now to (Ok (Some packet))
        → StopsPackets style Says m (captured_of packet ∷ []) fault d v e u → StopsHeld style Says from a fault c w e u
    holds_stops from now to a m packet fault c d e w v u so hands stops =
        let Packets : List Captured → Type 0 = λ l. StopsPackets style Says m l fault d v e u in
        so_stops style Says laws joins from now to a m hands.0 fault c d e w v u so hands.1
        (subst Packets (sym hands.2) stops)

    -- no record is whole yet
    pub holds_end : (from now new : Progress) (a m : S) (c d : Option (List ℕ)) (w v : List ℕ)
        → SoHeld style Says from a now m c w d v → Hands now new (Ok None)
        → TellsHeld style Says from a None new m c w d v
    holds_end from now new a m c d w v so hands =
        so_ends style Says laws from new new a m None c d w v
        (so_passed style Says laws joins from now new a m hands.0 c d w v so hands.1 hands.2) (refl, hands.3)

    -- a fault stands in front
    pub holds_fault : (r : Result (Option CaptureFault) PutFault) (fault : CaptureFault) (from now new : Progress)
        (a m : S) (c d : Option (List ℕ)) (w v : List ℕ) → SoHeld style Says from a now m c w d v
        → Hands now new (Err fault) → IfOk r (λ told. (told ≡ Some fault) × (fault.kind ≢ kinds.OutOfMemory))
        → IfOk r (λ told. TellsHeld style Says from a told new m c w d v)
    holds_fault (Err put) fault from now new a m c d w v so hands is = tt
    holds_fault (Ok told) fault from now new a m c d w v so hands is =
        let Fault : Option CaptureFault → Type 0 = λ f. TellsHeld style Says from a f new m c w d v in
        subst Fault (sym is.0)
        (so_ends style Says laws from hands.1 new a m (Some fault) c d w v
        (so_passed style Says laws joins from now hands.1 a m hands.0 c d w v so hands.2 hands.3)
        (hands.4, front_fault fault.kind fault hands.1 new is.1 hands.5))

    -- memory is wanted to hand out the next one
    pub holds_none : (r : Result (Option CaptureFault) PutFault) (fault : CaptureFault) (from now new : Progress)
        (a m : S) (c d : Option (List ℕ)) (w v : List ℕ) → SoHeld style Says from a now m c w d v
        → Hands now new (Err fault) → IfErr r (λ put. StopsHeld style Says from a put c w d v)
    holds_none (Ok told) fault from now new a m c d w v so hands = tt
    holds_none (Err put) fault from now new a m c d w v so hands =
        so_stops_here style Says laws joins from now hands.1 a m hands.0 put c d w v so hands.2
