-- What packets do to an association, whatever came before.
use Rattle.std.specs.Prelude.{◌≡◌, ◌≢◌, ℕ, true, Some}
use Rattle.dm_association.specs.declared.front_chunk.Init.{Init}
use Rattle.dm_association.specs.FrontChunks.{SaysInit}
use Rattle.dm_associations.specs.declared.front_chunk.Front.TheVariants.{Carries}
use Rattle.dm_associations.specs.Associations.{BothWays, HearsPacket}
use Rattle.dm_associations.specs.Fronts.{HasFront}
use Rattle.dm_flows.specs.Sctps.{SeenSctp}

-- 8.5: a packet of chunks with another tag than that of its direction, where that is known, changes nothing
abbrev pub ForeignPacketsChangeNothing : Type 0
ForeignPacketsChangeNothing =
    (old new : BothWays) (packet : SeenSctp) (known : ℕ) → HearsPacket old packet new → old.own.tag ≡ Some known
    → packet.verification_tag ≢ known → HasFront packet.chunks Carries → new ≡ old

-- 8.4: where the association ended no packet changes anything, up to an INIT
abbrev pub EndedUntilInit : Type 0
EndedUntilInit =
    (old new : BothWays) (packet : SeenSctp) → HearsPacket old packet new → old.ended ≡ true
    → ((init : Init) → SaysInit packet.chunks init → init.is_ack ≡ true) → new ≡ old
