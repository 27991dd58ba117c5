-- A world in which both have restarted falls quiet by deliveries alone.
use Rattle.std.proofs.Common.{◌≡◌, inl, inr, ℕ, zero, suc, ◌+◌, true, Some, List, [], ◌∷◌, ◌++◌, length, refl, ap, ◌∙◌}
use Rattle.std.proofs.Common.{arith}
use Rattle.dm_two_peers.specs.Links.{Side, A, B, Link, by_side}
use Rattle.dm_two_peers.specs.Peers.{Peers}
use Rattle.dm_two_peers.specs.Steps.{entered}
use Rattle.dm_two_peers.specs.Worlds.{World, with_links, change_at}
use Rattle.dm_two_peers.specs.Happens.{Happening, Delivers, restart_links, restart_puts, at_link, RunEnd, ran_on, run_from}
use Rattle.dm_two_peers.specs.Facts.{IsSoundWorld}
use Rattle.dm_two_peers.specs.Quiet.{is_quiet}
use Rattle.dm_two_peers.specs.Recovering.{are_deliveries, CanClear}
use Rattle.dm_two_peers.specs.Draining.{under_way, both_restarted}
use Rattle.dm_two_peers.proofs.Lists.{length-change_at}
use Rattle.dm_two_peers.proofs.Running.{delivery_of}
use Rattle.dm_two_peers.proofs.Dead.{are_dead, dead_after, dead_changed, less_changed}
use Rattle.dm_two_peers.proofs.Dropping.{Found, find}

-- what some deliveries leave of a run
record Cleared {P M : Type 0} (m : Peers P M) (r : RunEnd P M) : Type 0 where
  pub more : List (Happening M)
  pub only : are_deliveries more ≡ true
  pub end : RunEnd P M
  pub runs : run_from m (Some r) more ≡ Some end
  pub quiet : is_quiet end.world ≡ true
  pub same_a : end.world.a ≡ r.world.a
  pub same_b : end.world.b ≡ r.world.b
  pub links : length end.world.links ≡ length r.world.links

cleared_here : {P M : Type 0} (m : Peers P M) (r : RunEnd P M) → is_quiet r.world ≡ true → Cleared m r
cleared_here m r quiet =
    record {
      more = [];
      only = refl;
      end = r;
      runs = refl;
      quiet = quiet;
      same_a = refl;
      same_b = refl;
      links = refl;
    }

-- the links and the run after what was found is delivered
abbrev links_after : {P M : Type 0} (r : RunEnd P M) → Found r.world.links → List (Link M)
links_after r f = change_at f.number (by_side f.side (entered f.drops.concern)) r.world.links

abbrev ran_after : {P M : Type 0} (r : RunEnd P M) → Found r.world.links → RunEnd P M
ran_after r f = record { world = with_links (links_after r f) r.world; put = r.put ++ [] }

one_delivered : {P M : Type 0} (m : Peers P M) (r : RunEnd P M) (f : Found r.world.links) → Cleared m (ran_after r f) →
    Cleared m r
one_delivered m r f next =
    let w = r.world in
    let is = ap (λ o. at_link o (delivery_of m f.number f.side w)) f.at ∙ f.drops.delivers m w f.number in
    record {
      more = Delivers f.number f.side ∷ next.more;
      only = next.only;
      end = next.end;
      runs = ap (λ a. run_from m (ran_on r a) next.more) is ∙ next.runs;
      quiet = next.quiet;
      same_a = next.same_a;
      same_b = next.same_b;
      links = next.links ∙ length-change_at f.number (by_side f.side (entered f.drops.concern)) w.links;
    }

pub too_few : (a b : ℕ) → a + 1 ≡ b → b ≡ 0 → ⊥
too_few a b h e = absurd (omega (arith, h, e))

fewer : (a b n : ℕ) → a + 1 ≡ b → b ≡ suc n → a ≡ n
fewer a b n h e = omega (arith, h, e)

pub less_found : {P M : Type 0} (r : RunEnd P M) (f : Found r.world.links) →
    under_way (links_after r f) + 1 ≡ under_way r.world.links
less_found r f =
    less_changed r.world.links f.number f.link (by_side f.side (entered f.drops.concern)) f.at f.drops.less

-- a world of dead links falls quiet by as many deliveries as there are things under way
clear : {P M : Type 0} (m : Peers P M) (n : ℕ) (r : RunEnd P M) → are_dead r.world.links ≡ true →
    under_way r.world.links ≡ n → Cleared m r
clear m zero r dead e =
    elim (find r.world.links dead) [
      | inl quiet ↦ cleared_here m r quiet
      | inr f ↦ absurd (too_few (under_way (links_after r f)) (under_way r.world.links) (less_found r f) e)
    ]
clear m (suc n) r dead e =
    elim (find r.world.links dead) [
      | inl quiet ↦ cleared_here m r quiet
      | inr f ↦
          let still_dead = dead_changed r.world.links f.number f.link (by_side f.side (entered f.drops.concern)) dead
          f.at f.drops.dead in
          one_delivered m r f (clear m n (ran_after r f) still_dead
          (fewer (under_way (links_after r f)) (under_way r.world.links) n (less_found r f) e))
    ]

length-restart : {M : Type 0} (s : Side) (links : List (Link M)) → length (restart_links s links) ≡ length links
length-restart s [] = refl
length-restart s (l ∷ links) = ap (λ n. suc n) (length-restart s links)

pub can_clear_proof : {P M : Type 0} (m : Peers P M) (w : World P M) → IsSoundWorld m w → CanClear m w
can_clear_proof m w good =
    let r : RunEnd _ _ = record {
      world = both_restarted m w;
      put = [] ++ restart_puts A 0 w.links ++ restart_puts B 0 (restart_links A w.links);
    } in
    let c = clear m (under_way r.world.links) r (dead_after m w good) refl in
    record {
      more = c.more;
      only = c.only;
      end = c.end;
      runs = c.runs;
      quiet = c.quiet;
      same_a = c.same_a;
      same_b = c.same_b;
      links = c.links ∙ (length-restart B (restart_links A w.links) ∙ length-restart A w.links);
    }
