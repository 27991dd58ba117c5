-- Two peers recover, whatever happened before: two restarts and deliveries bring them to rest, and a Start opens them.
use Rattle.std.specs.Prelude.{◌≡◌, ℕ, Bool, true, false, IsTrue, Some, List, [], ◌∷◌, ◌++◌, length}
use Rattle.std.specs.List.{list_all}
use Rattle.dm_two_peers.specs.Links.{Side, A, B, flip}
use Rattle.dm_two_peers.specs.Peers.{Peers}
use Rattle.dm_two_peers.specs.Worlds.{World}
use Rattle.dm_two_peers.specs.Happens.{Happening, Starts, Restarts, Acks, Delivers, RunEnd, run}
use Rattle.dm_two_peers.specs.Follows.{IsMachine}
use Rattle.dm_two_peers.specs.Facts.{IsSoundWorld}
use Rattle.dm_two_peers.specs.Quiet.{is_quiet}
use Rattle.dm_two_peers.specs.Electing.{Talks, IsPeerOf, IsElecting}
use Rattle.dm_two_peers.specs.Settled.{AreOpenOnKept}

-- only deliveries
abbrev pub is_delivery : {M : Type 0} → Happening M → Bool
is_delivery (Delivers c s) = true
is_delivery _ = false

abbrev pub are_deliveries : {M : Type 0} → List (Happening M) → Bool
are_deliveries hs = list_all (λ h. is_delivery h) hs

-- both sides restart, and after some deliveries nothing is under way, with each peer as its restart left it
pub record CanClear {P M : Type 0} (m : Peers P M) (w : World P M) : Type 0 where
  pub more : List (Happening M)
  pub only : IsTrue (are_deliveries more)
  pub end : RunEnd P M
  pub runs : run m w (Restarts A ∷ Restarts B ∷ more) ≡ Some end
  pub quiet : IsTrue (is_quiet end.world)
  pub same_a : end.world.a ≡ m.reset w.a
  pub same_b : end.world.b ≡ m.reset w.b
  pub links : length end.world.links ≡ length w.links

-- so it is from each sound world
abbrev pub EachWorldCanClear : Type 0 → Type 0 → Type 0
EachWorldCanClear P M = (m : Peers P M) (w : World P M) → IsSoundWorld m w → CanClear m w

-- a side's Start, the Ack of the link that it makes, and a delivery to each side
abbrev pub steps_to_open : {M : Type 0} → Side → ℕ → List (Happening M)
steps_to_open s c = Starts s ∷ Acks c ∷ Delivers c (flip s) ∷ Delivers c s ∷ []

-- and then a Start of that side, the Ack and two deliveries open both on the link that it makes
pub record CanOpen {P M : Type 0} (m : Peers P M) (w : World P M) (s : Side) : Type 0 where
  pub clearing : List (Happening M)
  pub only : IsTrue (are_deliveries clearing)
  pub end : RunEnd P M
  pub runs : run m w (Restarts A ∷ Restarts B ∷ (clearing ++ steps_to_open s (length w.links))) ≡ Some end
  pub quiet : IsTrue (is_quiet end.world)
  pub opened : AreOpenOnKept m end.world (record { opener = s; link = length w.links })

-- a restart leaves a peer its side's
abbrev pub ResetKeepsPeer : {P M C H : Type 0} → Peers P M → Talks P M C H → Type 0
ResetKeepsPeer {P} m t = (s : Side) (p : P) → IsPeerOf t s p → IsPeerOf t s (m.reset p)

-- no sound world of two peers that elect is a trap: a Start of either side can open both
abbrev pub EachWorldCanOpen : Type 0 → Type 0 → Type 0 → Type 0 → Type 0
EachWorldCanOpen P M C H =
    (m : Peers P M) (t : Talks P M C H) → IsMachine m → IsElecting m t → ResetKeepsPeer m t → (w : World P M) →
    IsSoundWorld m w → IsPeerOf t A w.a → IsPeerOf t B w.b → (s : Side) → CanOpen m w s
