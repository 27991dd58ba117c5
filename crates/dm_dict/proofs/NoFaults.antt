-- A message in which nothing is wrong has no fault, with a path or without.
use Rattle.std.proofs.Common.{◌≡◌, true, true≢false, List, [], ◌∷◌, map, refl, sym, ◌∙◌}
use Rattle.dm_wire.specs.declared.message.Message.{Message}
use Rattle.dm_tables.specs.Definitions.{Definitions}
use Rattle.dm_dict.specs.Faults.{Fault, faults, has_none}
use Rattle.dm_dict.specs.Located.{Located, located_faults}
use Rattle.dm_dict.proofs.Located.{located_are_faults}

pub none_listed : (l : List Fault) → true ≡ has_none l → [] ≡ l
none_listed [] e = refl
none_listed (f ∷ l) e = absurd (true≢false e)

none_behind : (l : List Located) → [] ≡ map (λ f. f.fault) l → [] ≡ l
none_behind [] e = refl
none_behind (f ∷ l) e = absurd cc

pub none_located : (d : Definitions) (m : Message) → true ≡ has_none (faults d m) → [] ≡ located_faults d m
none_located d m e = none_behind (located_faults d m) (none_listed (faults d m) e ∙ sym (located_are_faults d m))
