-- What a text is read as, and what is printed for it, is the text's own.
use Rattle.std.specs.Prelude.{◌≡◌, ℕ, Bool, List, Option, Result}
use Rattle.dm_replay.specs.declared.fault.ScriptFault.{ScriptFault}
use Rattle.dm_replay.specs.declared.script.Script.{Script}
use Rattle.dm_replay.specs.ReadScript.{IsReading}
use Rattle.dm_replay.specs.Replay.{ReplaysText}

-- a text is read as one thing at most
abbrev pub OneRead : Type 0
OneRead =
    (text : List ℕ) (read other : Result (Option Script) ScriptFault) → IsReading text read → IsReading text other →
    read ≡ other

-- a text is read as something
abbrev pub SomeRead : Type 0
SomeRead = (text : List ℕ) → (read : Result (Option Script) ScriptFault) × IsReading text read

-- a text has at most one replay, which is good or not
abbrev pub OneReplay : Type 0
OneReplay =
    (text out other : List ℕ) (good fine : Bool) → ReplaysText text out good → ReplaysText text other fine
    → (out ≡ other) × (good ≡ fine)

-- a text has a replay
abbrev pub SomeReplay : Type 0
SomeReplay = (text : List ℕ) → (out : List ℕ) × (good : Bool) × ReplaysText text out good
