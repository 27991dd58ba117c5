-- A world's past, and what happened in it since.
use Rattle.std.proofs.Common.{◌≡◌, ℕ, Option, Some, None, IfSome, List, [], ◌∷◌, ◌++◌, map, refl, sym, ap, subst, ◌∙◌}
use Rattle.std.proofs.lemmas.List.{map-append}
use Rattle.std.specs.Prelude.{◌<◌, ◌^◌, Result, Ok, Err, IfOk, OnErr, IsTrue}
use Rattle.dm_peer.specs.declared.config.Config.{Config}
use Rattle.dm_two_peers.specs.Links.{Side}
use Rattle.dm_two_peers.specs.Peers.{Peers}
use Rattle.dm_two_peers.specs.Worlds.{World, Put, After, DoneWith, Ignored, NoLink}
use Rattle.dm_two_peers.specs.Happens.{Happening, RunEnd, ran_on, run_from, run, happens}
use Rattle.dm_two_peers.specs.ClosedOrOpen.{AreClosedOrOpen}
use Rattle.dm_two_peers.specs.Quiet.{is_quiet}
use Rattle.dm_octet_peers.specs.Carrying.{EachOctetRunDelivers}
use Rattle.dm_octet_peers.specs.Matching.{EachOctetQuietRunIsClosedOrOpen}
use Rattle.dm_octet_peers.specs.Octets.{octet_peers}
use Rattle.dm_octet_peers.specs.Talking.{ArePaired}
use Rattle.dm_world.specs.declared.fault.Effect.{Effect}
use Rattle.dm_world.specs.declared.fault.WorldFault.{WorldFault}
use Rattle.dm_world.specs.declared.happening.Happening as declared_happening
use Rattle.dm_world.specs.Happening.{as_happening}
use Rattle.dm_world.specs.Settling.{RanTo}
use Rattle.dm_world.specs.Views.{OctetWorld, Effects}
use Rattle.dm_world.specs.Delivering.{new_world, IsPast, HasPast, DeliversSubmitted}
use Rattle.dm_world.proofs.Runs.{ran_snoc}

run_append : {P M : Type 0} (m : Peers P M) (o : Option (RunEnd P M)) (hs gs : List (Happening M)) →
    run_from m o (hs ++ gs) ≡ run_from m (run_from m o hs) gs
run_append m None hs gs = refl
run_append m (Some r) [] gs = refl
run_append m (Some r) (h ∷ hs) gs = run_append m (ran_on r (happens m r.world h)) hs gs

-- a run comes to the same world whatever was put in before
abbrev ComesTo : {P M : Type 0} → Peers P M → Option (RunEnd P M) → List (Happening M) → World P M → Type 0
ComesTo {P} {M} m o hs v = (put : List (Put M)) × (run_from m o hs ≡ Some (record { world = v; put = put }))

some_is : {X : Type 0} {q r : X} → Some q ≡ Some r → q ≡ r
some_is e = cc

abbrev Again : {P M : Type 0} → Peers P M → List (Happening M) → World P M → Type 0
Again {P} {M} m hs v = (w : World P M) (old new : List (Put M)) →
    ComesTo m (Some (record { world = w; put = old })) hs v → ComesTo m (Some (record { world = w; put = new })) hs v

step_with : {P M : Type 0} (m : Peers P M) (hs : List (Happening M)) (v : World P M) → Again m hs v →
    (w : World P M) (old new : List (Put M)) (after : After P M) →
    ComesTo m (ran_on (record { world = w; put = old }) after) hs v →
    ComesTo m (ran_on (record { world = w; put = new }) after) hs v
step_with m hs v again w old new (DoneWith next put) came = again next (old ++ put) (new ++ put) came
step_with m hs v again w old new Ignored came = again w old new came
step_with m hs v again w old new NoLink came = came

comes_with : {P M : Type 0} (m : Peers P M) (hs : List (Happening M)) (v : World P M) → Again m hs v
comes_with {P} {M} m [] v w old new came =
    let same : w ≡ v = ap (λ (r : RunEnd P M). r.world) (some_is came.1) in
    (new, ap (λ (x : World P M). Some (record { world = x; put = new })) same)
comes_with m (h ∷ hs) v w old new came = step_with m hs v (comes_with m hs v) w old new (happens m w h) came

pub past_goes_on : (w v x : OctetWorld) (past list : List declared_happening.Happening) → RanTo w past v →
    RanTo v list x → RanTo w (past ++ list) x
past_goes_on w v x past list before now =
    let went = comes_with octet_peers (map as_happening list) x v [] before.0 now in (
      went.0,
      ap (λ hs. run octet_peers w hs) (map-append as_happening past list)
          ∙ run_append octet_peers (Some (record { world = w; put = [] })) (map as_happening past)
          (map as_happening list)
          ∙ ap (λ o. run_from octet_peers o (map as_happening list)) before.1
          ∙ went.1,
    )

at_end : {P M : Type 0} (o : Option (RunEnd P M)) (r : RunEnd P M) (Q : RunEnd P M → Type 0) → o ≡ Some r →
    IfSome o Q → Q r
at_end o r Q e h = subst (λ o. IfSome o Q) e h

-- what is so of each run's end is so of the world that a past led to
pub past_delivers : EachOctetRunDelivers → (a b : Config) (past : List declared_happening.Happening) (w : OctetWorld) →
    IsPast w a b past → (t : Side) (c : ℕ) → DeliversSubmitted a b past w t c
past_delivers law a b past w is t c =
    at_end (run octet_peers (new_world a b) (map as_happening past)) (record { world = w; put = is.0 })
    (λ r. DeliversSubmitted a b past r.world t c) is.1 (law a b (map as_happening past) t c)

-- and where nothing is under way in it both are Closed, or both open on one link
pub past_closed_or_open : EachOctetQuietRunIsClosedOrOpen → (a b : Config)
    (past : List declared_happening.Happening) (w : OctetWorld) → IsPast w a b past → ArePaired a b →
    a.first_id < 2 ^ 32 → b.first_id < 2 ^ 32 → IsTrue (is_quiet w) →
    AreClosedOrOpen w.a.standing.core w.b.standing.core
past_closed_or_open law a b past w is paired low_a low_b =
    at_end (run octet_peers (new_world a b) (map as_happening past)) (record { world = w; put = is.0 })
    (λ r. IsTrue (is_quiet r.world) → AreClosedOrOpen r.world.a.standing.core r.world.b.standing.core) is.1
    (law a b paired low_a low_b (map as_happening past))

-- a new world has no past yet
pub new_past : (a b : Config) (w : OctetWorld) → w ≡ new_world a b → HasPast w
new_past a b w is =
    record {
      a = a;
      b = b;
      past = [];
      is = ([], ap (λ (v : OctetWorld). Some (record { world = v; put = [] })) (sym is));
    }

-- one happening more
pub past_result : (r : Result Effect WorldFault) (h : declared_happening.Happening) (w w' : OctetWorld) → HasPast w →
    IfOk r (λ outcome. Effects outcome (happens octet_peers w (as_happening h)) w w') → OnErr r (w' ≡ w) → HasPast w'
past_result (Ok outcome) h w w' has step still =
    record {
      a = has.a;
      b = has.b;
      past = has.past ++ h ∷ [];
      is = ran_snoc outcome (new_world has.a has.b) w w' has.past h has.is step;
    }
past_result (Err f) h w w' has step still = subst (λ (v : OctetWorld). HasPast v) (sym still) has
