-- After both have restarted what is under way gets less at each step, in whatever order it comes.
use Rattle.std.specs.Prelude.{◌≡◌, ℕ, ◌+◌, Bool, true, false, IsTrue, IfSome, List, [], ◌∷◌, length}
use Rattle.std.specs.List.{list_all}
use Rattle.dm_two_peers.specs.Links.{A, B, Mark, Coming, Direction, Link}
use Rattle.dm_two_peers.specs.Peers.{Peers}
use Rattle.dm_two_peers.specs.Worlds.{World}
use Rattle.dm_two_peers.specs.Happens.{Happening, Acks, Nacks, Delivers, restart_links, RunEnd, run}
use Rattle.dm_two_peers.specs.Facts.{IsSoundWorld}
use Rattle.dm_two_peers.specs.Quiet.{is_quiet, steps_taken}

-- how much is under way: each message, and each disconnect that is coming
abbrev pub coming_in : Mark → ℕ
coming_in Coming = 1
coming_in _ = 0

abbrev pub under_way_in : {M : Type 0} → Direction M → ℕ
under_way_in d = length d.messages + coming_in d.mark

abbrev pub under_way_on : {M : Type 0} → Link M → ℕ
under_way_on l = under_way_in l.to_opener + under_way_in l.to_other

abbrev pub under_way : {M : Type 0} → List (Link M) → ℕ
under_way [] = 0
under_way (l ∷ links) = under_way_on l + under_way links

-- the world after both sides' restarts
abbrev pub both_restarted : {P M : Type 0} → Peers P M → World P M → World P M
both_restarted m w =
    record { a = m.reset w.a; b = m.reset w.b; links = restart_links B (restart_links A w.links) }

-- only Acks, Nacks and deliveries
abbrev pub is_ack_nack_or_delivery : {M : Type 0} → Happening M → Bool
is_ack_nack_or_delivery (Acks c) = true
is_ack_nack_or_delivery (Nacks c) = true
is_ack_nack_or_delivery (Delivers c s) = true
is_ack_nack_or_delivery _ = false

abbrev pub are_acks_nacks_or_deliveries : {M : Type 0} → List (Happening M) → Bool
are_acks_nacks_or_deliveries hs = list_all (λ h. is_ack_nack_or_delivery h) hs

-- n steps from a world: nobody acts, nothing is put in, each step takes off one thing that was under way, and where
-- nothing is left it is quiet
pub record Drains {P M : Type 0} (w : World P M) (n : ℕ) (r : RunEnd P M) : Type 0 where
  pub same_a : r.world.a ≡ w.a
  pub same_b : r.world.b ≡ w.b
  pub silent : r.put ≡ []
  pub counted : n + under_way r.world.links ≡ under_way w.links
  pub rests : under_way r.world.links ≡ 0 → IsTrue (is_quiet r.world)

-- so it is from each sound world in which both have restarted
abbrev pub EachRestartedRunDrains : Type 0 → Type 0 → Type 0
EachRestartedRunDrains P M =
    (m : Peers P M) (w : World P M) → IsSoundWorld m w → (hs : List (Happening M)) →
    IsTrue (are_acks_nacks_or_deliveries hs) →
    IfSome (run m (both_restarted m w) hs)
    (λ r. Drains (both_restarted m w) (steps_taken m (both_restarted m w) hs) r)
