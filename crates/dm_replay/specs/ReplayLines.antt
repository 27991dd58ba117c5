-- What is printed for a happening and for the end of a script.
use Rattle.std.specs.Prelude.{ℕ, Bool, true, false, Option, None, Some, List, [], ◌∷◌, ◌++◌, codes}
use Rattle.std.specs.Fmt.{decimal}
use Rattle.dm_machine.specs.declared.connection.Conn.{Conn}
use Rattle.dm_machine.specs.declared.phase.Role.TheVariants.{Initiated, Accepted}
use Rattle.dm_machine.specs.Node.{Node, held_as}
use Rattle.dm_machine.specs.Printed.{state_text}
use Rattle.dm_peer.specs.declared.peer.Peer.{Peer}
use Rattle.dm_two_peers.specs.Quiet.{is_quiet}
use Rattle.dm_two_peers.specs.Worlds.{World}
use Rattle.dm_world.specs.declared.fault.Effect.{Effect}
use Rattle.dm_world.specs.declared.fault.Effect.TheVariants.{Done, Ignored}
use Rattle.dm_world.specs.Agreeing.{is_agreed, open_link}

-- where a connection is held, a space, the letter of its role and its number
abbrev pub held_text : List ℕ → Option Conn → List ℕ
held_text letter None = []
held_text letter (Some c) = letter ++ decimal c.0

-- how a peer stands: the name of its state, and the connections that it holds
unfoldable pub node_text : Node → List ℕ
node_text n =
    state_text n.state ++ held_text (codes " i") (held_as Initiated n.held)
    ++ held_text (codes " r") (held_as Accepted n.held)

-- what became of a happening, and the word before the peer A
abbrev pub effect_text : Effect → List ℕ
effect_text Done = codes " done A "
effect_text Ignored = codes " ignored A "

-- the line of happening n, which left this world
unfoldable pub trace_line : ℕ → Effect → World Peer (List ℕ) → List ℕ
trace_line n effect w =
    decimal n ++ effect_text effect ++ node_text w.a.standing.core ++ codes " B " ++ node_text w.b.standing.core ++
    10 ∷ []

-- the line of a happening that names a link that isn't there
unfoldable pub nolink_line : ℕ → List ℕ
nolink_line n = decimal n ++ codes " nolink" ++ 10 ∷ []

-- yes or no
abbrev pub answer_text : Bool → List ℕ
answer_text true = codes "yes"
answer_text false = codes "no"

-- the number of a link, or `-` where there is none
abbrev pub link_text : Option Conn → List ℕ
link_text None = codes "-"
link_text (Some c) = decimal c.0

-- the last line
unfoldable pub end_line : World Peer (List ℕ) → List ℕ
end_line w =
    codes "end agreed=" ++ answer_text (is_agreed w) ++ codes " quiet=" ++ answer_text (is_quiet w)
    ++ codes " open=" ++ link_text (open_link w) ++ 10 ∷ []
