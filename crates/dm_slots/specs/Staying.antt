-- What stays there, whatever is done with what came: all but what is closed or shut.
use Rattle.std.specs.Prelude.{◌≡◌, ℕ, true, false, Some, List, length}
use Rattle.dm_peer.specs.declared.actions.Action.{Action}
use Rattle.dm_peer.specs.declared.peer.Peer.{Peer}
use Rattle.dm_slots.specs.Intakes.{Intake, Intakes, is_there, opened, taken_down}
use Rattle.dm_slots.specs.Intakes.{changed, with_intake, fed_intake, unfed_intake, actions_close, left_by}
use Rattle.dm_slots.specs.Raised.{raised}

-- each connection that is there before is there afterwards
abbrev pub KeepsThere : Intakes → Intakes → Type 0
KeepsThere f g = (c : ℕ) → is_there c f ≡ true → is_there c g ≡ true

-- where a connection is opened it is there, and the others stay
abbrev pub OpeningKeeps : Type 0
OpeningKeeps = (max c : ℕ) (f : Intakes) → (is_there c (opened max c f) ≡ true) × KeepsThere f (opened max c f)

-- what came may change, be told or be thrown away, and longer messages may come
abbrev pub ChangingKeeps : Type 0
ChangingKeeps = (c : ℕ) (change : Intake → Intake) (f : Intakes) → KeepsThere f (changed c change f)

abbrev pub TellingKeeps : Type 0
TellingKeeps = (c : ℕ) (i : Intake) (f : Intakes) → KeepsThere f (with_intake c (Some i) f)

abbrev pub RaisingKeeps : Type 0
RaisingKeeps = (most : ℕ) (p : Peer) (f : Intakes) → KeepsThere f (raised most p f)

-- what was kept of a piece, and taken away again, leaves nothing
abbrev pub TakingBackUndoes : Type 0
TakingBackUndoes =
    (c : ℕ) (piece : List ℕ) (f : Intakes)
    → changed c (unfed_intake (length piece)) (changed c (fed_intake piece) f) ≡ f

-- what isn't closed stays, and what isn't shut
abbrev pub ClosingKeeps : Type 0
ClosingKeeps =
    (actions : List Action) (c : ℕ) (f : Intakes) → actions_close actions c ≡ false → left_by actions f c ≡ f c

abbrev pub ShuttingKeeps : Type 0
ShuttingKeeps = (d c : ℕ) (f : Intakes) → (d ≡ c → ⊥) → taken_down d f c ≡ f c
