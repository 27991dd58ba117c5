-- The ends that were made for each side, and those that are fresh.
use Rattle.std.specs.Prelude.{◌≡◌, ℕ, ◌<◌, Bool, true, ◌==◌, Option, Some, None, List, [], ◌∷◌, ◌++◌, slice_get}
use Rattle.std.specs.Prelude.{vec_len, vec_capacity}
use Rattle.std.specs.List.{list_any}
use Rattle.dm_two_peers.specs.Machine.{Conn, Node, Initiated, Accepted, held_as}
use Rattle.dm_two_peers.specs.Links.{Side, A, B, flip, Link}
use Rattle.dm_two_peers.specs.Making.{is_fresh_on}
use Rattle.dm_two_peers.specs.Worlds.{change_at}
use Rattle.dm_world.specs.declared.fault.Effect.{Effect}
use Rattle.dm_world.specs.declared.fault.Effect.TheVariants as effect
use Rattle.dm_world.specs.declared.happening.Happening as declared_happening
use Rattle.dm_world.specs.declared.happening.Happening.TheVariants as happening
use Rattle.dm_world.specs.declared.made_ends.MadeEnds.{MadeEnds}
use Rattle.dm_world.specs.Seen.{as_side, restart_link}

-- the links on which an end was made for a side
abbrev pub ends_of : Side → MadeEnds → List ℕ
ends_of A m = m.of_a.items
ends_of B m = m.of_b.items

abbrev pub AreSameEnds : MadeEnds → MadeEnds → Type 0
AreSameEnds old new = (s : Side) → ends_of s new ≡ ends_of s old

abbrev pub HasRoomForEnd : Side → MadeEnds → Type 0
HasRoomForEnd A m = vec_len m.of_a < vec_capacity m.of_a
HasRoomForEnd B m = vec_len m.of_b < vec_capacity m.of_b

-- a list names each link on which a side's end is fresh
abbrev pub is_among : ℕ → List ℕ → Bool
is_among c cs = list_any (λ d. d == c) cs

abbrev pub NamesFresh : Side → List ℕ → List (Link (List ℕ)) → Type 0
NamesFresh s cs ls = (c : ℕ) → is_fresh_on s (slice_get ls c) ≡ true → is_among c cs ≡ true

abbrev pub AreNamed : MadeEnds → List (Link (List ℕ)) → Type 0
AreNamed m ls = (s : Side) → NamesFresh s (ends_of s m) ls

-- links on which a side has started anew, one after the other
abbrev pub restart_each : Side → List ℕ → List (Link (List ℕ)) → List (Link (List ℕ))
restart_each s [] ls = ls
restart_each s (c ∷ cs) ls = restart_each s cs (change_at c (restart_link s) ls)

-- the number of a connection, if there is one
abbrev pub numbers : Option Conn → List ℕ
numbers None = []
numbers (Some c) = c.0 ∷ []

-- the links that a node holds
abbrev pub held_numbers : Node → List ℕ
held_numbers n = numbers (held_as Initiated n.held) ++ numbers (held_as Accepted n.held)

-- an Ack that is done names its link for the side that didn't open it
abbrev pub MakesEnds : Effect → Option (Link (List ℕ)) → ℕ → MadeEnds → MadeEnds → Type 0
MakesEnds effect.Done (Some l) c old new =
    (ends_of (flip l.opener) new ≡ ends_of (flip l.opener) old ++ c ∷ []) ×
    (ends_of l.opener new ≡ ends_of l.opener old)
MakesEnds _ _ c old new = AreSameEnds old new

-- none is named any more for a side
abbrev pub AreCleared : Side → MadeEnds → MadeEnds → Type 0
AreCleared s old new = (ends_of s new ≡ []) × (ends_of (flip s) new ≡ ends_of (flip s) old)

-- what is named after a happening
abbrev pub AreEndsAfter : Effect → declared_happening.Happening → List (Link (List ℕ)) → MadeEnds → MadeEnds → Type 0
AreEndsAfter outcome (happening.Ack c) ls old new = MakesEnds outcome (slice_get ls c.0) c.0 old new
AreEndsAfter outcome (happening.Restart s) ls old new = AreCleared (as_side s) old new
AreEndsAfter outcome _ ls old new = AreSameEnds old new
