-- The names of strays.
use Rattle.std.proofs.Common.{◌≡◌, ℕ, Bool, true, false, ◌||◌, nat_eq, List, [], ◌∷◌, ◌++◌, map, Option, Some, None, Bor, refl, sym, ap, ◌∙◌}
use Rattle.std.proofs.lemmas.List.{map-append}
use Rattle.std.specs.List.{list_any}
use Rattle.std.specs.Cmp.Lexicographic.{pointwise}
use Rattle.indexmap.specs.IndexSet.{insert_key}
use Rattle.dm_grammar.specs.Tokens.{Word}
use Rattle.dm_dict_text.specs.declared.fault.DictFault.{DictFault}
use Rattle.dm_tables.specs.Definitions.{is_named}
use Rattle.dm_tables.specs.Sound.{is_any}
use Rattle.dm_tables.specs.declared.def.AvpDef.{AvpDef}
use Rattle.dm_dict_text.specs.Meaning.{WithStrays, placed}
use Rattle.dm_dict_text.specs.Faults.{fault_if, is_defined, name_faults}
use Rattle.dm_dict_text.proofs.EntryFaults.{any-map}

no_fault : (b : Bool) (f : DictFault) → fault_if b f ≡ [] → b ≡ false
no_fault true f e = absurd cc
no_fault false f e = refl

second : (a b : Bool) → (a || b) ≡ false → b ≡ false
second true b e = absurd cc
second false b e = e

-- a name without fault is no stray's
pub no_stray : (m : WithStrays) (w : Word) → name_faults m w ≡ [] → list_any (pointwise nat_eq w.text) m.strays ≡ false
no_stray m w e =
    second (list_any (is_named w.text) m.definitions.avps) (list_any (pointwise nat_eq w.text) m.strays)
    (second (is_any w.text) (is_defined m w.text) (no_fault _ _ e))

pub stray_noted : (old new : List (Bor (List ℕ))) (k : Bor (List ℕ))
    → new ≡ insert_key (λ x y. pointwise nat_eq x.now y.now) old k
    → list_any (pointwise nat_eq k.now) (map (λ x. x.now) old) ≡ false
    → map (λ x. x.now) new ≡ map (λ x. x.now) old ++ k.now ∷ []
stray_noted old new k put fresh =
    let new_key : list_any (λ x. pointwise nat_eq k.now x.now) old ≡
    false = sym (any-map (pointwise nat_eq k.now) (λ x. x.now) old)
    ∙ fresh in
    let behind : new ≡ old ++ k ∷ [] = put ∙ rw new_key refl in
    ap (map (λ x. x.now)) behind ∙ map-append (λ x. x.now) old (k ∷ [])

-- an AVP that is what is defined wherever its vendor is known
pub placed_same : (m : WithStrays) (name : List ℕ) (def : Option ℕ → AvpDef) (a : AvpDef) (o : Option (Option ℕ))
    → ((v : Option ℕ) → o ≡ Some v → a ≡ def v) → placed m name (λ _. a) o ≡ placed m name def o
placed_same m name def a None same = refl
placed_same m name def a (Some v) same = ap (λ x. placed m name (λ _. x) (Some v)) (same v refl)
