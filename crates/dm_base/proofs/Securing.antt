-- Inband-Security-Ids, one after the other.
use Rattle.std.proofs.Common.{◌≡◌, not, ℕ, suc, Bool, true, false, nat_eq, List, [], ◌∷◌, ◌++◌, length, if◌then◌else◌, refl, ◌∙◌, arith}
use Rattle.std.specs.List.{flat_map}
use Rattle.dm_wire.specs.declared.avp.Avp.{Avp}
use Rattle.std.proofs.lemmas.Bool.{ne_eqb}
use Rattle.dm_base.specs.Common.{lists_id, are_secure}

abbrev pub secure_from : Bool → List ℕ → Bool
secure_from named ids = if named then lists_id ids 0 else are_secure ids

-- an AVP that names none changes nothing
pub no_id : (named : Bool) (one rest : List ℕ) → [] ≡ one
    → secure_from named (one ++ rest) ≡ secure_from named rest
no_id named one rest e = rw (← e) refl

-- another id leaves it to those behind it
pub other : (named : Bool) (id : ℕ) (one rest : List ℕ) → id ∷ [] ≡ one → nat_eq id 0 ≡ false
    → secure_from named (one ++ rest) ≡ lists_id rest 0
other true id one rest e h = rw (← e, h) refl
other false id one rest e h =
    let some : nat_eq (suc (length rest)) 0 ≡ false = ne_eqb (suc (length rest)) 0 (λ k. omega arith) in
    rw (← e, some, h) refl

-- 0 decides
pub zero : (named : Bool) (id : ℕ) (one rest : List ℕ) → id ∷ [] ≡ one → id ≡ 0
    → true ≡ secure_from named (one ++ rest)
zero true id one rest e h = rw (← e, h) refl
zero false id one rest e h =
    let some : nat_eq (suc (length rest)) 0 ≡ false = ne_eqb (suc (length rest)) 0 (λ k. omega arith) in
    rw (← e, h, some) refl

-- where nothing is left
pub nothing_named : (named : Bool) (f : Avp → List ℕ) (k : List Avp) (all : Bool) → k ≡ []
    → secure_from named (flat_map f k) ≡ all → not named ≡ all
nothing_named named f k all e h = by named ∙ rw e at h where
  by : (b : Bool) → not b ≡ secure_from b []
  by true = refl
  by false = refl
