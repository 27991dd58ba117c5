-- A clean run falls quiet, in whatever order things come, and can do so within nine steps in all.
use Rattle.std.specs.Prelude.{◌≡◌, ◌⊎◌, ◌+◌, ◌≤◌, Bool, true, false, IsTrue, IfSome, Some, List, [], ◌++◌, length}
use Rattle.std.specs.List.{list_all}
use Rattle.dm_two_peers.specs.Links.{A, B}
use Rattle.dm_two_peers.specs.Peers.{Peers}
use Rattle.dm_two_peers.specs.Worlds.{World, Put, DoneWith}
use Rattle.dm_two_peers.specs.Happens.{Happening, Acks, Delivers, RunEnd, happens, run}
use Rattle.dm_two_peers.specs.Quiet.{is_quiet, is_clean, links_made, steps_taken, kept}
use Rattle.dm_two_peers.specs.Electing.{Talks, IsElecting}
use Rattle.dm_two_peers.specs.Settled.{AreOpenOnKept, IsAtRest}

-- only Acks and deliveries
abbrev pub is_ack_or_delivery : {M : Type 0} → Happening M → Bool
is_ack_or_delivery (Acks c) = true
is_ack_or_delivery (Delivers c s) = true
is_ack_or_delivery _ = false

abbrev pub are_acks_or_deliveries : {M : Type 0} → List (Happening M) → Bool
are_acks_or_deliveries hs = list_all (λ h. is_ack_or_delivery h) hs

-- some Acks and deliveries, with the run's own steps nine at most, after which it is quiet, with both open on the
-- connection that is kept
pub record CanFallQuiet {P M C H : Type 0} (m : Peers P M) (t : Talks P M C H) (w : World P M)
    (hs : List (Happening M)) : Type 0 where
  pub more : List (Happening M)
  pub only : IsTrue (are_acks_or_deliveries more)
  pub few : steps_taken m w hs + length more ≤ 9
  pub end : RunEnd P M
  pub runs : run m w (hs ++ more) ≡ Some end
  pub quiet : IsTrue (is_quiet end.world)
  pub opened : IfSome (kept m t.wins w hs) (λ k. AreOpenOnKept m end.world k)

-- each clean run of two closed peers, from where nothing is under way, can fall quiet
abbrev pub EachCleanRunCanFallQuiet : Type 0 → Type 0 → Type 0 → Type 0 → Type 0
EachCleanRunCanFallQuiet P M C H =
    (m : Peers P M) (t : Talks P M C H) → IsElecting m t → (w : World P M) → IsAtRest m t w →
    (hs : List (Happening M)) → IsTrue (is_clean hs) → IfSome (run m w hs) (λ r. CanFallQuiet m t w hs)

-- nothing comes any more: no Ack and no delivery is done
abbrev pub NothingComes : {P M : Type 0} → Peers P M → World P M → Type 0
NothingComes {P} {M} m w =
    (h : Happening M) → IsTrue (is_ack_or_delivery h) → (next : World P M) (put : List (Put M)) →
    happens m w h ≡ DoneWith next put → ⊥

-- a run is quiet where nothing comes any more, after nine steps, and after four where one side alone starts
pub record FallsQuiet {P M C H : Type 0} (m : Peers P M) (t : Talks P M C H) (w : World P M)
    (hs : List (Happening M)) (r : RunEnd P M) : Type 0 where
  pub at_end : NothingComes m r.world → IsTrue (is_quiet r.world)
  pub nine : 9 ≤ steps_taken m w hs → IsTrue (is_quiet r.world)
  pub four : (links_made m A w hs ≡ []) ⊎ (links_made m B w hs ≡ []) → 4 ≤ steps_taken m w hs →
      IsTrue (is_quiet r.world)

-- each clean run of two closed peers, from where nothing is under way, falls quiet, in whatever order things come
abbrev pub EachCleanRunFallsQuiet : Type 0 → Type 0 → Type 0 → Type 0 → Type 0
EachCleanRunFallsQuiet P M C H =
    (m : Peers P M) (t : Talks P M C H) → IsElecting m t → (w : World P M) → IsAtRest m t w →
    (hs : List (Happening M)) → IsTrue (is_clean hs) → IfSome (run m w hs) (λ r. FallsQuiet m t w hs r)
