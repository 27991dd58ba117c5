-- When nothing is under way, runs without losses, and the connection that is kept.
use Rattle.std.specs.Prelude.{ℕ, ◌+◌, Bool, true, false, ◌&&◌, nat_lt, if◌then◌else◌, Option, Some, None, List, [], ◌∷◌}
use Rattle.std.specs.Prelude.{◌++◌, length, slice_get}
use Rattle.std.specs.List.{list_all}
use Rattle.dm_two_peers.specs.Links.{Side, A, B, opens, LinkPending, Coming, Direction, Link}
use Rattle.dm_two_peers.specs.Peers.{Peers}
use Rattle.dm_two_peers.specs.Worlds.{World, After, DoneWith}
use Rattle.dm_two_peers.specs.Happens.{Happening, Starts, Acks, Delivers, Pieces, own_view, happens, world_after}

-- nothing is under way in a direction
abbrev pub is_still : {M : Type 0} → Direction M → Bool
is_still d = elim d.messages [ [] ↦ elim d.mark [ Coming ↦ false | _ ↦ true ] | x ∷ xs ↦ false ]

abbrev pub is_quiet_link : {M : Type 0} → Link M → Bool
is_quiet_link l = elim l.phase [ LinkPending ↦ false | _ ↦ is_still l.to_opener && is_still l.to_other ]

-- no link is pending, and no direction has a message or a disconnect that is coming
abbrev pub is_quiet : {P M : Type 0} → World P M → Bool
is_quiet w = list_all (λ l. is_quiet_link l) w.links

-- only Starts, Acks, deliveries and pieces
abbrev pub is_clean_one : {M : Type 0} → Happening M → Bool
is_clean_one (Starts s) = true
is_clean_one (Acks c) = true
is_clean_one (Delivers c s) = true
is_clean_one (Pieces c s k) = true
is_clean_one _ = false

abbrev pub is_clean : {M : Type 0} → List (Happening M) → Bool
is_clean hs = list_all (λ h. is_clean_one h) hs

-- the link that a happening makes, where it is a taken Start of the side
abbrev pub makes : {P M : Type 0} → Side → World P M → Happening M → After P M → List ℕ
makes s w (Starts t) (DoneWith next put) = if opens s t then length w.links ∷ [] else []
makes s w _ _ = []

-- the links that the taken Starts of a side make in a run
abbrev pub links_made : {P M : Type 0} → Peers P M → Side → World P M → List (Happening M) → List ℕ
links_made m s w [] = []
links_made m s w (h ∷ hs) = makes s w h (happens m w h) ++ links_made m s (world_after w (happens m w h)) hs

-- whether a piece of k octets leaves the front message of a direction in part
abbrev pub is_in_part : {M : Type 0} → (M → ℕ) → ℕ → Direction M → Bool
is_in_part size k d = elim d.messages [ [] ↦ false | x ∷ xs ↦ nat_lt (d.taken + k) (size x) ]

abbrev pub is_in_part_at : {M : Type 0} → (M → ℕ) → Side → ℕ → Option (Link M) → Bool
is_in_part_at size s k None = false
is_in_part_at size s k (Some l) = is_in_part size k (own_view s l).incoming

-- how many steps a happening is where it is done: a piece that ends no message is none, any other is one
abbrev pub cost : {P M : Type 0} → Peers P M → World P M → Happening M → ℕ
cost m w (Pieces c s k) = if is_in_part_at m.size s k (slice_get w.links c) then 0 else 1
cost m w _ = 1

abbrev pub steps_of : {P M : Type 0} → Peers P M → World P M → Happening M → After P M → ℕ
steps_of m w h (DoneWith next put) = cost m w h
steps_of m w h _ = 0

-- the steps of a run: its happenings that aren't ignored, but for pieces that end no message
abbrev pub steps_taken : {P M : Type 0} → Peers P M → World P M → List (Happening M) → ℕ
steps_taken m w [] = 0
steps_taken m w (h ∷ hs) = steps_of m w h (happens m w h) + steps_taken m (world_after w (happens m w h)) hs

-- a link and its opener
pub record KeptLink : Type 0 where
  pub opener : Side
  pub link : ℕ

abbrev pub kept_of : Side → List ℕ → Option KeptLink → Option KeptLink
kept_of s [] else_kept = else_kept
kept_of s (c ∷ cs) else_kept = Some (record { opener = s; link = c })

-- of the links that taken Starts make: the only one, or, where both sides made one, that of the side whose host comes
-- first, which doesn't win the election [5.6.4]
abbrev pub kept : {P M : Type 0} → Peers P M → (Side → Bool) → World P M → List (Happening M) → Option KeptLink
kept m wins w hs =
    if wins A then kept_of B (links_made m B w hs) (kept_of A (links_made m A w hs) None)
    else kept_of A (links_made m A w hs) (kept_of B (links_made m B w hs) None)
