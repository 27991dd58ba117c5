-- What a packet is to its association by the chunk at its front (RFC 9260, 3.3).
use Rattle.std.specs.Prelude.{◌≡◌, true, false, List, ℕ}
use Rattle.dm_association.specs.declared.front_chunk.Init.{Init}
use Rattle.dm_association.specs.FrontChunks.{SaysInit, EndsAssociation}
use Rattle.dm_associations.specs.declared.front_chunk.Front.{Front}
use Rattle.dm_associations.specs.declared.front_chunk.Front.TheVariants.{Begins, Answers, Ends, Carries}
use Rattle.dm_flows.specs.Sctps.{has_flag}

-- an INIT, an INIT ACK, an ABORT or a SHUTDOWN COMPLETE, of which the T bit is the lowest (3.3.7 and 3.3.13), or
-- anything else
abbrev pub HasFront : List ℕ → Front → Type 0
HasFront s (Begins init) = SaysInit s init × (init.is_ack ≡ false)
HasFront s (Answers init) = SaysInit s init × (init.is_ack ≡ true)
HasFront s (Ends reflected) = EndsAssociation s × (reflected ≡ has_flag 1 s)
HasFront s Carries = ((init : Init) → SaysInit s init → ⊥) × (EndsAssociation s → ⊥)
