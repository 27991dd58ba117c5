-- What a call hands out, behind items that hold no packet.
use Rattle.std.proofs.Common.{◌≡◌, ◌≤◌, ℕ, ◌+◌, Option, None, Some, Result, Ok, Err, IfOk, IfErr, OnOk, OnErr, IsSomeAnd, List, [], ◌∷◌, ◌++◌, length, take, drop, refl, sym, ◌∙◌, ap, subst, append-nil}
use Rattle.dm_capture.specs.declared.front_item.Holds.{Holds}
use Rattle.dm_capture.specs.declared.front_item.Holds.TheVariants.{Form, Section, Description, PacketRecord, Other}
use Rattle.dm_capture.specs.declared.packet.Record.{Record}
use Rattle.dm_capture.specs.declared.packet.Packet.{Packet}
use Rattle.dm_capture.specs.declared.fault.CaptureFault.{CaptureFault}
use Rattle.dm_capture.specs.declared.fault.FaultKind.TheVariants.{OutOfMemory}
use Rattle.dm_capture.specs.Items.{IsItem}
use Rattle.dm_capture.specs.Packets.{captured_of, packet_of}
use Rattle.dm_capture.specs.Captures.{Progress, HeldItem, ItemsLead, packets_of, packet_in, capped, passed, Hands, StopsReading}
use Rattle.dm_capture.proofs.Runs.{leads_join, packets_join, one_passed, front_item}

-- items were passed, and none of them holds a packet
abbrev pub PassedNone : Progress → Progress → Type 0
PassedNone old now = (items : List HeldItem) × ItemsLead old items now × (packets_of old.packets items ≡ [])

no_packet : (packets : ℕ) (s : List ℕ) (holds : Holds) → ((stands : Record) → holds ≡ PacketRecord stands → ⊥) →
    packet_in packets s holds ≡ []
no_packet packets s (Form form) other = refl
no_packet packets s (Section order) other = refl
no_packet packets s (Description interface) other = refl
no_packet packets s (PacketRecord stands) other = absurd (other stands refl)
no_packet packets s Other other = refl

-- one item more, at the front of what is left
one_more : (old now : Progress) (size : ℕ) (holds : Holds) (left : PassedNone old now) → size ≤ length now.octets →
    IsItem now.layout now.interfaces (take size now.octets) holds →
    ItemsLead old (left.0 ++ front_item size holds now ∷ []) (passed now size holds (drop size now.octets)) ×
    (packets_of old.packets (left.0 ++ front_item size holds now ∷ []) ≡
    packet_in now.packets (take size now.octets) holds)
one_more old now size holds left within is =
    let item : HeldItem = front_item size holds now in (
      leads_join old now (passed now size holds (drop size now.octets)) left.0 (item ∷ []) left.1
          (one_passed now size holds within is),
      packets_join old now left.0 (item ∷ []) left.1 ∙ ap (λ l. l ++ packets_of now.packets (item ∷ [])) left.2 ∙
          append-nil (packet_in now.packets (take size now.octets) holds),
    )

pub none_more : (old now new : Progress) (size : ℕ) (holds : Holds) → PassedNone old now → size ≤ length now.octets →
    IsItem now.layout now.interfaces (take size now.octets) holds →
    ((stands : Record) → holds ≡ PacketRecord stands → ⊥) → new ≡ passed now size holds (drop size now.octets) →
    PassedNone old new
none_more old now new size holds left within is other e =
    let more = one_more old now size holds left within is in (
      left.0 ++ front_item size holds now ∷ [],
      subst (λ p. ItemsLead old (left.0 ++ front_item size holds now ∷ []) p) (sym e) more.0,
      more.1 ∙ no_packet now.packets (take size now.octets) holds other,
    )

-- the packet at the front was handed out, or memory ran out
pub packet_handed : (old now new : Progress) (size : ℕ) (stands : Record)
    (result : Result (Option Packet) CaptureFault) → PassedNone old now → size ≤ length now.octets →
    IsItem now.layout now.interfaces (take size now.octets) (PacketRecord stands) →
    IfOk result (λ found. IsSomeAnd found (λ packet.
    captured_of packet ≡ packet_of (capped (now.packets + 1)) stands (take size now.octets))) →
    OnOk result (new ≡ passed now size (PacketRecord stands) (drop size now.octets)) → OnErr result (new ≡ now) →
    IfErr result (λ fault. fault ≡ record { offset = now.offset; kind = OutOfMemory }) → Hands old new result
packet_handed old now new size stands (Ok None) left within is packet all same memory = absurd packet
packet_handed old now new size stands (Ok (Some packet)) left within is says all same memory =
    let more = one_more old now size (PacketRecord stands) left within is in (
      left.0 ++ front_item size (PacketRecord stands) now ∷ [],
      subst (λ p. ItemsLead old (left.0 ++ front_item size (PacketRecord stands) now ∷ []) p) (sym all) more.0,
      more.1 ∙ ap (λ one. one ∷ []) (sym says),
    )
packet_handed old now new size stands (Err fault) left within is packet all same memory =
    let P : CaptureFault → Type 0 = λ f. (f.offset ≡ now.offset) × StopsReading f.kind f now new in
    let stops : P fault = subst P (sym memory) (refl, same) in
    (left.0, now, left.1, left.2, stops.0, stops.1)
