-- What an open peer holds takes longer messages (RFC 6733, 5.3).
use Rattle.std.specs.Prelude.{ℕ, cond, Option}
use Rattle.dm_machine.specs.declared.connection.Conn.{Conn}
use Rattle.dm_machine.specs.declared.phase.Role.TheVariants.{Initiated, Accepted}
use Rattle.dm_machine.specs.Moves.{is_open}
use Rattle.dm_machine.specs.Node.{held_as}
use Rattle.dm_peer.specs.declared.peer.Peer.{Peer}
use Rattle.dm_slots.specs.Intakes.{Intakes, raised_at}

-- a connection with its role, where the peer holds one as such
abbrev pub own_of : Peer → Option Conn
own_of p = held_as Initiated p.standing.core.held

abbrev pub other_of : Peer → Option Conn
other_of p = held_as Accepted p.standing.core.held

-- behind the capabilities exchange the connection that is held takes longer messages
abbrev pub raised : ℕ → Peer → Intakes → Intakes
raised most p f = cond (is_open p.standing.core.state) (raised_at most (other_of p) (raised_at most (own_of p) f)) f
