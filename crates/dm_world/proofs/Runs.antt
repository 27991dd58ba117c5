-- Happenings one after the other.
use Rattle.std.proofs.Common.{◌≡◌, ℕ, zero, suc, ◌+◌, ◌<◌, Option, Some, None, List, [], ◌∷◌, ◌++◌, length, take, map}
use Rattle.std.proofs.Common.{get_or, slice_get, refl, sym, ap, subst, ◌∙◌, arith}
use Rattle.std.proofs.lemmas.List.{take_more}
use Rattle.dm_two_peers.specs.Peers.{Peers}
use Rattle.dm_two_peers.specs.Worlds.{World, Put, After, DoneWith, Ignored}
use Rattle.dm_two_peers.specs.Happens.{Happening, RunEnd, ran_on, run_from, run, happens}
use Rattle.dm_world.specs.declared.fault.Effect.{Effect}
use Rattle.dm_world.specs.declared.fault.Effect.TheVariants as effect
use Rattle.dm_world.specs.declared.fault.WorldFault.{WorldFault}
use Rattle.dm_world.specs.declared.happening.Happening as declared_happening
use Rattle.dm_world.specs.Happening.{as_happening, may_want}
use Rattle.dm_octet_peers.specs.Octets.{octet_peers}
use Rattle.dm_world.specs.Settling.{RanTo}
use Rattle.dm_world.specs.Views.{OctetWorld, Effects, IsFault, IsEnd}

run_none : {P M : Type 0} (m : Peers P M) (o : Option (RunEnd P M)) → run_from m o [] ≡ o
run_none m None = refl
run_none m (Some r) = refl

ran_same : {P M : Type 0} (m : Peers P M) (h : Happening M) (q r : RunEnd P M) → Some q ≡ Some r →
    ran_on q (happens m q.world h) ≡ ran_on r (happens m r.world h)
ran_same {P} {M} m h q r is = let same : q ≡ r = cc in ap (λ (x : RunEnd P M). ran_on x (happens m x.world h)) same

run_snoc : {P M : Type 0} (m : Peers P M) (o : Option (RunEnd P M)) (hs : List (Happening M)) (h : Happening M)
    (r : RunEnd P M) → run_from m o hs ≡ Some r → run_from m o (hs ++ h ∷ []) ≡ ran_on r (happens m r.world h)
run_snoc m None hs h r is = cc
run_snoc m (Some q) [] h r is = run_none m (ran_on q (happens m q.world h)) ∙ ran_same m h q r is
run_snoc m (Some q) (k ∷ hs) h r is = run_snoc m (ran_on q (happens m q.world k)) hs h r is

-- one happening more
snoc_done : {P M : Type 0} (m : Peers P M) (w v v' : World P M) (put more : List (Put M)) (hs : List (Happening M))
    (h : Happening M) → run m w hs ≡ Some (record { world = v; put = put }) → happens m v h ≡ DoneWith v' more →
    run m w (hs ++ h ∷ []) ≡ Some (record { world = v'; put = put ++ more })
snoc_done {P} {M} m w v v' put more hs h ran step =
    let r : RunEnd P M = record { world = v; put = put } in
    run_snoc m (Some (record { world = w; put = [] })) hs h r ran ∙ ap (λ (a : After P M). ran_on r a) step

snoc_ignored : {P M : Type 0} (m : Peers P M) (w v v' : World P M) (put : List (Put M)) (hs : List (Happening M))
    (h : Happening M) → run m w hs ≡ Some (record { world = v; put = put }) → happens m v h ≡ Ignored → v' ≡ v →
    run m w (hs ++ h ∷ []) ≡ Some (record { world = v'; put = put })
snoc_ignored {P} {M} m w v v' put hs h ran step same =
    let r : RunEnd P M = record { world = v; put = put } in
    run_snoc m (Some (record { world = w; put = [] })) hs h r ran ∙ ap (λ (a : After P M). ran_on r a) step
    ∙ ap (λ (x : World P M). Some (record { world = x; put = put })) (sym same)

map_snoc : (list : List declared_happening.Happening) (h : declared_happening.Happening) →
    map as_happening (list ++ h ∷ []) ≡ map as_happening list ++ as_happening h ∷ []
map_snoc [] h = refl
map_snoc (x ∷ list) h = ap (λ z. as_happening x ∷ z) (map_snoc list h)

pub ran_snoc : (outcome : Effect) (w v v' : OctetWorld) (list : List declared_happening.Happening)
    (h : declared_happening.Happening) → RanTo w list v →
    Effects outcome (happens octet_peers v (as_happening h)) v v' → RanTo w (list ++ h ∷ []) v'
ran_snoc effect.Done w v v' list h ran step = (
  ran.0 ++ step.0,
  ap (λ hs. run octet_peers w hs) (map_snoc list h) ∙ snoc_done octet_peers w v v' ran.0 step.0 (map as_happening list)
      (as_happening h) ran.1 step.1,
)
ran_snoc effect.Ignored w v v' list h ran step = (
  ran.0,
  ap (λ hs. run octet_peers w hs) (map_snoc list h) ∙ snoc_ignored octet_peers w v v' ran.0 (map as_happening list)
      (as_happening h) ran.1 step.0 step.1,
)

pub ran_more : (outcome : Effect) (w v v' : OctetWorld) (list : List declared_happening.Happening) (i : ℕ)
    (h : declared_happening.Happening) → RanTo w (take i list) v → i < length list → h ≡ get_or list i h →
    Effects outcome (happens octet_peers v (as_happening h)) v v' → RanTo w (take (i + 1) list) v'
ran_more outcome w v v' list i h ran lt at step =
    let more : take (i + 1) list ≡ take i list ++ h ∷ [] = take_more list i h lt ∙
    ap (λ z. take i list ++ z ∷ []) (sym at) in
    subst (λ l. RanTo w l v') (sym more) (ran_snoc outcome w v v' (take i list) h ran step)

pub ran_none : (w : OctetWorld) (list : List declared_happening.Happening) → RanTo w (take 0 list) w
ran_none w list = ([], refl)

element_at : (list : List declared_happening.Happening) (i : ℕ) (h : declared_happening.Happening) → i < length list →
    h ≡ get_or list i h → slice_get list i ≡ Some h
element_at [] i h lt at = absurd (omega arith)
element_at (x ∷ list) zero h lt at = ap (λ z. Some z) (sym at)
element_at (x ∷ list) (suc i) h lt at = element_at list i h (omega arith) at

pub ended_at : (f : WorldFault) (v v' : OctetWorld) (list : List declared_happening.Happening) (i : ℕ)
    (h : declared_happening.Happening) → i < length list → h ≡ get_or list i h → v' ≡ v →
    IsFault f (may_want v h) (happens octet_peers v (as_happening h)) → IsEnd f (slice_get list i) v'
ended_at f v v' list i h lt at same fault =
    subst (λ o. IsEnd f o v') (sym (element_at list i h lt at))
    (subst (λ (x : OctetWorld). IsFault f (may_want x h) (happens octet_peers x (as_happening h))) (sym same)
    fault)

pub ran_still : (w v v' : OctetWorld) (list : List declared_happening.Happening) → v' ≡ v → RanTo w list v →
    RanTo w list v'
ran_still w v v' list same ran = subst (λ (x : OctetWorld). RanTo w list x) (sym same) ran
