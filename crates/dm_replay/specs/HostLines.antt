-- The lines of the two peers.
use Rattle.std.specs.Prelude.{◌≡◌, ℕ, true, List, [], ◌∷◌, codes}
use Rattle.dm_text.specs.Words.{words}
use Rattle.dm_text.specs.Numbers.{TellsNumber}
use Rattle.dm_base.specs.Fit.{is_name}
use Rattle.dm_world.specs.declared.side.Side.{Side}
use Rattle.dm_replay.specs.HappeningLines.{side_name}

-- what is said of a peer: its host and its application
pub record Host : Type 0 where
  pub host : List ℕ
  pub application : ℕ

-- the line of a side's peer
abbrev pub TellsHost : Side → Host → List ℕ → Type 0
TellsHost side h line =
    (number : List ℕ) × (words line ≡ codes "peer" ∷ side_name side ∷ h.host ∷ number ∷ []) × (is_name h.host ≡ true)
    × TellsNumber h.application number
