-- What is printed for a text, and whether all of it was good.
use Rattle.std.specs.Prelude.{◌≡◌, ℕ, ◌+◌, Bool, true, false, if◌then◌else◌, List, []}
use Rattle.std.specs.Prelude.{◌∷◌, ◌++◌, codes, Option, Some, None, Result, Ok, Err}
use Rattle.std.specs.Fmt.{decimal}
use Rattle.dm_base.specs.Common.{are_common}
use Rattle.dm_peer.specs.declared.peer.Peer.{Peer}
use Rattle.dm_two_peers.specs.Worlds.{World, After, DoneWith, Ignored, NoLink}
use Rattle.dm_two_peers.specs.Happens.{happens}
use Rattle.dm_two_peers.specs.Laws.{world_of}
use Rattle.dm_world.specs.declared.fault.Effect.TheVariants as effects
use Rattle.dm_world.specs.declared.happening.Happening.{Happening}
use Rattle.dm_octet_peers.specs.Octets.{octet_peers}
use Rattle.dm_world.specs.Happening.{as_happening}
use Rattle.dm_octet_peers.specs.Laws.{fresh_peer}
use Rattle.dm_replay.specs.declared.fault.ScriptFault.{ScriptFault}
use Rattle.dm_replay.specs.declared.fault.ScriptFault.TheVariants.{Syntax, SameHost, NoMemory}
use Rattle.dm_replay.specs.declared.script.Script.{Script}
use Rattle.dm_replay.specs.ReadScript.{IsReading}
use Rattle.dm_replay.specs.ReplayLines.{trace_line, nolink_line, end_line}

-- a line before the others
abbrev pub put_before : List ℕ → List ℕ × Bool → List ℕ × Bool
put_before line rest = (line ++ rest.0, rest.1)

-- the line of happening n in a world, and then what is printed for the others in the world that it leaves; a link that
-- isn't there ends the run
abbrev pub and_then : ℕ → World Peer (List ℕ) → After Peer (List ℕ) → (World Peer (List ℕ) → List ℕ × Bool)
    → List ℕ × Bool
and_then n w (DoneWith next put) others = put_before (trace_line n effects.Done next) (others next)
and_then n w Ignored others = put_before (trace_line n effects.Ignored w) (others w)
and_then n w NoLink others = (nolink_line n, false)

-- what is printed for these happenings in a world, the first with this number, and whether each names a link that is
-- there
abbrev pub replay_from : ℕ → World Peer (List ℕ) → List Happening → List ℕ × Bool
replay_from n w [] = (end_line w, true)
replay_from n w (h ∷ list) =
    and_then n w (happens octet_peers w (as_happening h)) (λ next. replay_from (n + 1) next list)

-- what is printed for a script: its two peers have an application in common (RFC 6733, 5.3), or that is its fault
abbrev pub script_text : Script → List ℕ × Bool
script_text s =
    if are_common s.left.node s.right.node then replay_from 1 (world_of (fresh_peer s.left) (fresh_peer s.right)) s.list
    else (codes "fault NothingCommon" ++ 10 ∷ [], false)

-- what is printed for what a text is read as
abbrev pub text_of : Result (Option Script) ScriptFault → List ℕ × Bool
text_of (Ok None) = ([], true)
text_of (Ok (Some s)) = script_text s
text_of (Err (Syntax line)) = (codes "fault syntax " ++ decimal line ++ 10 ∷ [], false)
text_of (Err SameHost) = (codes "fault SameHost" ++ 10 ∷ [], false)
text_of (Err NoMemory) = ([], false)

-- what is printed for a text, and whether all of it was good
abbrev pub ReplaysText : List ℕ → List ℕ → Bool → Type 0
ReplaysText text out good =
    (read : Result (Option Script) ScriptFault) × IsReading text read × ((out, good) ≡ text_of read)
