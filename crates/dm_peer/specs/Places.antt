-- How a connection stands to a node, as far as what comes on it asks.
use Rattle.std.specs.Prelude.{Bool, true, false, ◌==◌, Option, None, Some}
use Rattle.dm_machine.specs.declared.connection.Conn.{Conn}
use Rattle.dm_machine.specs.declared.state_name.State.{State}
use Rattle.dm_machine.specs.declared.state_name.State.TheVariants.{WaitConnAck, WaitConnAckElect}
use Rattle.dm_machine.specs.Connection.{Hold, NotHeld, Pending}
use Rattle.dm_peer.specs.declared.arrivals.Footing.{Footing}
use Rattle.dm_peer.specs.declared.arrivals.Footing.TheVariants.{New, Unmade, Made}

-- the connection is the one held
abbrev pub is_on : Option Conn → Conn → Bool
is_on None c = false
is_on (Some held) c = held.0 == c.0

-- the states in which the initiated connection isn't made yet
abbrev pub before_ack : State → Bool
before_ack WaitConnAck = true
before_ack WaitConnAckElect = true
before_ack _ = false

-- a new one isn't held, and one that is held is made or not
abbrev pub footing_of : Hold → Footing
footing_of NotHeld = New
footing_of Pending = Unmade
footing_of _ = Made

abbrev pub has_made : Footing → Bool
has_made Made = true
has_made _ = false
