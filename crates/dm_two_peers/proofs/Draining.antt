-- After both have restarted nobody acts, and each step takes off one thing that is under way.
use Rattle.std.proofs.Common.{◌≡◌, inl, inr, ℕ, ◌+◌, Bool, true, false, Option, Some, None, IfSome, List, [], ◌∷◌, ◌++◌}
use Rattle.std.proofs.Common.{slice_get, refl, sym, subst, ◌∙◌, arith, append-nil}
use Rattle.std.proofs.lemmas.Bool.{and_parts}
use Rattle.std.proofs.lemmas.Option.{IfSome_then}
use Rattle.dm_two_peers.specs.Machine.{conn}
use Rattle.dm_two_peers.specs.Links.{LinkPhase, LinkPending, LinkUp, LinkCancelled, Link, by_side}
use Rattle.dm_two_peers.specs.Peers.{AckEvent, NackEvent, Peers}
use Rattle.dm_two_peers.specs.Steps.{entered}
use Rattle.dm_two_peers.specs.Worlds.{World, with_links, change_at, After, DoneWith, Ignored, NoLink, tell}
use Rattle.dm_two_peers.specs.Happens.{Happening, Acks, Nacks, Delivers, if_pending, at_link, happens, world_after, RunEnd}
use Rattle.dm_two_peers.specs.Happens.{ran_on, run_from}
use Rattle.dm_two_peers.specs.Quiet.{is_quiet, cost, steps_of, steps_taken}
use Rattle.dm_two_peers.specs.Draining.{under_way, both_restarted, is_ack_nack_or_delivery, are_acks_nacks_or_deliveries}
use Rattle.dm_two_peers.specs.Draining.{Drains, EachRestartedRunDrains}
use Rattle.dm_two_peers.proofs.Running.{delivery_of}
use Rattle.dm_two_peers.proofs.Depths.{all_at}
use Rattle.dm_two_peers.proofs.Dead.{is_dead, are_dead, dead_after, dead_changed, less_changed}
use Rattle.dm_two_peers.proofs.Dropping.{seen, find}
use Rattle.dm_two_peers.proofs.Clearing.{too_few, less_found}

-- what one happening does to dead links
data Wanes {P M : Type 0} (m : Peers P M) (w : World P M) (h : Happening M) : After P M → Type 0 where
  stays : Wanes m w h Ignored
  is_lost : Wanes m w h NoLink
  moves : (links : List (Link M)) → are_dead links ≡ true → under_way links + cost m w h ≡ under_way w.links →
      Wanes m w h (DoneWith (with_links links w) [])

no_pending : {P M : Type 0} (m : Peers P M) (w : World P M) (h : Happening M) (p : LinkPhase) (u v : Bool)
    (x : After P M) → elim p [ LinkPending ↦ false | LinkUp ↦ u | LinkCancelled ↦ v ] ≡ true →
    Wanes m w h (if_pending p x Ignored)
no_pending m w h LinkPending u v x e = cc
no_pending m w h LinkUp u v x e = stays
no_pending m w h LinkCancelled u v x e = stays

at_wanes : {P M : Type 0} (m : Peers P M) (w : World P M) (h : Happening M) (f : Link M → After P M)
    (o : Option (Link M)) → ((l : Link M) → o ≡ Some l → Wanes m w h (f l)) → Wanes m w h (at_link o f)
at_wanes m w h f None g = is_lost
at_wanes m w h f (Some l) g = g l refl

wanes_proof : {P M : Type 0} (m : Peers P M) (w : World P M) (h : Happening M) → are_dead w.links ≡ true →
    is_ack_nack_or_delivery h ≡ true → Wanes m w h (happens m w h)
wanes_proof m w (Acks c) d e =
    at_wanes m w (Acks c) _ (slice_get w.links c)
    (λ l at. no_pending m w (Acks c) l.phase _ _ (tell m l.opener (AckEvent (conn c)) w)
    (all_at (λ z. is_dead z) w.links c l d at))
wanes_proof m w (Nacks c) d e =
    at_wanes m w (Nacks c) _ (slice_get w.links c)
    (λ l at. no_pending m w (Nacks c) l.phase _ _ (tell m l.opener (NackEvent (conn c)) w)
    (all_at (λ z. is_dead z) w.links c l d at))
wanes_proof {P} {M} m w (Delivers c s) d e =
    at_wanes m w (Delivers c s) (delivery_of m c s w) (slice_get w.links c)
    (λ l at.
    elim (seen s l.opener l.phase l.opener_end l.other_end l.to_opener l.to_other
    (all_at (λ z. is_dead z) w.links c l d at)) [
      | inl idles ↦ subst (λ a. Wanes m w (Delivers c s) a) (sym (idles.ignored m w c)) stays
      | inr drops ↦
          let f : Link M → Link M = by_side s (entered drops.concern) in
          subst (λ a. Wanes m w (Delivers c s) a) (sym (drops.delivers m w c))
          (moves (change_at c f w.links) (dead_changed w.links c l f d at drops.dead)
          (less_changed w.links c l f at drops.less))
    ])
wanes_proof m w _ d e = cc

-- a run
counted_on : (k n u v x : ℕ) → n + u ≡ v → v + k ≡ x → k + n + u ≡ x
counted_on k n u v x h g = omega (arith, h, g)

free : (n u v : ℕ) → n + u ≡ v → 0 + n + u ≡ v
free n u v h = omega (arith, h)

none_yet : (u : ℕ) → 0 + u ≡ u
none_yet u = omega arith

rested : {P M : Type 0} (r : RunEnd P M) → are_dead r.world.links ≡ true → under_way r.world.links ≡ 0 →
    is_quiet r.world ≡ true
rested r d none =
    elim (find r.world.links d) [
      | inl quiet ↦ quiet
      | inr f ↦ absurd (too_few _ (under_way r.world.links) (less_found r f) none)
    ]

abbrev DrainsFrom : {P M : Type 0} → Peers P M → List (Happening M) → Type 0
DrainsFrom {P} {M} m hs =
    (r : RunEnd P M) → are_dead r.world.links ≡ true → r.put ≡ [] →
    IfSome (run_from m (Some r) hs) (λ z. Drains r.world (steps_taken m r.world hs) z)

went_on : {P M : Type 0} (m : Peers P M) (h : Happening M) (hs : List (Happening M)) → DrainsFrom m hs →
    (r : RunEnd P M) → are_dead r.world.links ≡ true → r.put ≡ [] → (after : After P M) → Wanes m r.world h after →
    IfSome (run_from m (ran_on r after) hs)
    (λ z. Drains r.world (steps_of m r.world h after + steps_taken m (world_after r.world after) hs) z)
went_on m h hs ih r d e after stays = IfSome_then (run_from m (Some r) hs) (ih r d e)
    (λ z q. record {
      same_a = q.same_a;
      same_b = q.same_b;
      silent = q.silent;
      counted = free (steps_taken m r.world hs) (under_way z.world.links) (under_way r.world.links) q.counted;
      rests = q.rests;
    })
went_on m h hs ih r d e after is_lost = tt
went_on {P} {M} m h hs ih r d e after (moves links dead less) =
    let r' : RunEnd P M = record { world = with_links links r.world; put = r.put ++ [] } in
    IfSome_then (run_from m (Some r') hs) (ih r' dead (append-nil r.put ∙ e))
    (λ z q. record {
      same_a = q.same_a;
      same_b = q.same_b;
      silent = q.silent;
      counted = counted_on (cost m r.world h) (steps_taken m r'.world hs) (under_way z.world.links) (under_way links)
          (under_way r.world.links) q.counted less;
      rests = q.rests;
    })

drains_proof : {P M : Type 0} (m : Peers P M) (hs : List (Happening M)) → are_acks_nacks_or_deliveries hs ≡ true →
    DrainsFrom m hs
drains_proof m [] c r d e =
    record {
      same_a = refl;
      same_b = refl;
      silent = e;
      counted = none_yet (under_way r.world.links);
      rests = λ none. rested r d none;
    }
drains_proof m (h ∷ hs) c r d e =
    let p = and_parts (is_ack_nack_or_delivery h) (are_acks_nacks_or_deliveries hs) c in
    went_on m h hs (drains_proof m hs p.1) r d e (happens m r.world h) (wanes_proof m r.world h d p.0)

pub restarted_drains : {P M : Type 0} → EachRestartedRunDrains P M
restarted_drains m w good hs only =
    drains_proof m hs only (record { world = both_restarted m w; put = [] }) (dead_after m w good) refl
