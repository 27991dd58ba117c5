-- What is known behind some of the lines of a script.
use Rattle.std.specs.Prelude.{◌≡◌, ℕ, List, [], ◌∷◌}
use Rattle.dm_world.specs.declared.side.Side.TheVariants.{A, B}
use Rattle.dm_world.specs.declared.happening.Happening.{Happening}
use Rattle.dm_replay.specs.declared.host_line.HostLine.{HostLine}
use Rattle.dm_replay.specs.declared.lines_so_far.NamedPeers.{NamedPeers}
use Rattle.dm_replay.specs.declared.lines_so_far.NamedPeers.TheVariants.{NotYet, One, Both}
use Rattle.dm_replay.specs.HostLines.{Host, TellsHost}
use Rattle.dm_replay.specs.Scripts.{TellsEach}

-- what a line says of a peer
abbrev pub line_host : HostLine → Host
line_host line = record { host = line.host.now; application = line.application }

-- the lines tell these peers, and then these happenings
abbrev pub TellSoFar : List (List ℕ) → NamedPeers → List Happening → Type 0
TellSoFar lines NotYet list = (lines ≡ []) × (list ≡ [])
TellSoFar lines (One left) list =
    (first : List ℕ) × (lines ≡ first ∷ []) × (list ≡ []) × TellsHost A (line_host left) first
TellSoFar lines (Both left right) list =
    (first second : List ℕ) × (rest : List (List ℕ)) × (lines ≡ first ∷ second ∷ rest)
    × TellsHost A (line_host left) first × TellsHost B (line_host right) second × TellsEach list rest
