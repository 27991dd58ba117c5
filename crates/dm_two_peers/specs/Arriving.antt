-- What is handed up to a user came just then.
use Rattle.std.specs.Prelude.{◌≡◌, ◌⊎◌, Bool, IsTrue, List, [], ◌∷◌}
use Rattle.std.specs.List.{All}
use Rattle.dm_two_peers.specs.Machine.{closed_node}
use Rattle.dm_two_peers.specs.Peers.{Event, ArrivedEvent, Peers}
use Rattle.dm_two_peers.specs.Happens.{Happening}
use Rattle.dm_two_peers.specs.Follows.{IsMachine}
use Rattle.dm_two_peers.specs.Laws.{world_of}
use Rattle.dm_two_peers.specs.Turns.{WorldTurn, all_turns}
use Rattle.dm_two_peers.specs.Delivery.{ups_of, CarriesMessages}

-- what is handed up at an event is the message that it brings, once, or nothing
abbrev pub IsWhatCame : {M : Type 0} → Event M → List M → Type 0
IsWhatCame (ArrivedEvent c x) ups = (ups ≡ x ∷ []) ⊎ (ups ≡ [])
IsWhatCame e ups = ups ≡ []

abbrev pub HandUpWhatCame : {M : Type 0} → List (WorldTurn M) → Type 0
HandUpWhatCame us = All (λ u. IsWhatCame u.event (ups_of u.actions)) us

-- two closed peers that carry messages hand up so at each event of every list of happenings
abbrev pub EachRunHandsUpWhatCame : Type 0 → Type 0 → Type 0
EachRunHandsUpWhatCame P M =
    (m : Peers P M) (is_app : M → Bool) (stands : P → Bool) → IsMachine m → CarriesMessages m is_app stands →
    (a b : P) →
    m.node_of a ≡ closed_node → m.node_of b ≡ closed_node → IsTrue (stands a) → IsTrue (stands b) →
    (hs : List (Happening M)) → HandUpWhatCame (all_turns m (world_of a b) hs)
