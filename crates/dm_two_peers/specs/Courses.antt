-- What a clean run puts in: on which links, towards which side, and in which order.
use Rattle.std.specs.Prelude.{◌≡◌, ℕ, ◌≤◌, IsTrue, Option, Some, None, List, [], ◌∷◌, ◌++◌, length, map}
use Rattle.dm_two_peers.specs.Links.{Side, flip}
use Rattle.dm_two_peers.specs.Peers.{Peers}
use Rattle.dm_two_peers.specs.Worlds.{World, Put, PutMessage, Disconnect}
use Rattle.dm_two_peers.specs.Happens.{Happening, RunEnd}
use Rattle.dm_two_peers.specs.Quiet.{is_quiet, links_made, KeptLink, kept}
use Rattle.dm_two_peers.specs.Electing.{Talks}

-- one CER on each link that a side made, from that side to the other
abbrev pub cers_on : {P M C H : Type 0} → Talks P M C H → (Side → ℕ) → Side → List ℕ → List (Put M)
cers_on t numbers s links = map (λ c. PutMessage c (flip s) (t.cer (t.config s) (numbers s))) links

-- the CEA of code 2001 that a side is given for its CER, on the same link
abbrev pub cea_on : {P M C H : Type 0} → Talks P M C H → (Side → ℕ) → Side → ℕ → Put M
cea_on t numbers s c = PutMessage c s (t.cea (t.config (flip s)) (numbers s))

-- one disconnect on each of the links, towards a side
abbrev pub disconnects_on : {M : Type 0} → Side → List ℕ → List (Put M)
disconnects_on s links = map (λ c. Disconnect c s) links

-- what comes after the CERs: the side that didn't open the link that is kept disconnects its own link, if it made one,
-- and gives the CEA on the kept one; the opener disconnects the other link in turn
abbrev pub after_cers : {P M C H : Type 0} → Talks P M C H → (Side → ℕ) → (Side → List ℕ) → Option KeptLink →
    List (Put M)
after_cers t numbers links None = []
after_cers t numbers links (Some k) =
    disconnects_on k.opener (links (flip k.opener)) ++ cea_on t numbers k.opener k.link ∷ disconnects_on
    (flip k.opener) (links (flip k.opener))

-- all that is put in, where the sides made such links and such a one is kept: the CERs of one side, those of the other,
-- and what comes after them
abbrev pub course : {P M C H : Type 0} → Talks P M C H → (Side → ℕ) → Side → (Side → List ℕ) → Option KeptLink →
    List (Put M)
course t numbers first links k =
    cers_on t numbers first (links first) ++ cers_on t numbers (flip first) (links (flip first))
    ++ after_cers t numbers links k

-- each side makes one link at most, and what a run put in is the course that these give, up to what is still to come:
-- nothing, where it is quiet. Either side's CER may be the first; its number is that of the CEA too
pub record IsOnCourse {P M C H : Type 0} (m : Peers P M) (t : Talks P M C H) (w : World P M)
    (hs : List (Happening M)) (r : RunEnd P M) : Type 0 where
  pub one_each : (s : Side) → length (links_made m s w hs) ≤ 1
  pub numbers : Side → ℕ
  pub first : Side
  pub to_come : List (Put M)
  pub put : r.put ++ to_come ≡ course t numbers first (λ s. links_made m s w hs) (kept m t.wins w hs)
  pub ended : IsTrue (is_quiet r.world) → to_come ≡ []
