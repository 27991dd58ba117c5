-- What is found for faults that are listed with their paths lies in the message.
use Rattle.std.proofs.Common.{◌≡◌, List, [], ◌∷◌, map, refl, ap, ◌∙◌}
use Rattle.dm_wire.specs.declared.message.Message.{Message}
use Rattle.dm_tables.specs.Definitions.{Definitions}
use Rattle.dm_dict.specs.declared.located_fault.LocatedFault.{LocatedFault}
use Rattle.dm_dict.specs.Listing.{fault_listed, AreFoundIn}
use Rattle.dm_dict.specs.Located.{located_faults}
use Rattle.dm_dict.specs.Locating.{told_at}
use Rattle.dm_dict.proofs.Located.{located_are_faults}
use Rattle.dm_dict.proofs.Placed.{listed_found}

without_paths : (listed : List LocatedFault)
    → map fault_listed (map (λ f. f.fault) listed) ≡ map (λ f. f.fault) (map told_at listed)
without_paths [] = refl
without_paths (f ∷ listed) = ap (λ t. fault_listed f.fault ∷ t) (without_paths listed)

pub located_found : (d : Definitions) (m : Message) (listed : List LocatedFault) → map told_at listed ≡ located_faults d m
    → AreFoundIn m.avps (map (λ f. f.fault) listed)
located_found d m listed is =
    listed_found d m (map (λ f. f.fault) listed)
    (without_paths listed ∙ ap (map (λ f. f.fault)) is ∙ located_are_faults d m)
