-- Where what a message says makes no difference: the step is the same for every word, so that it needn't be read.
use Rattle.std.specs.Prelude.{◌≡◌, Bool, true, false, not, IsTrue, [], ◌∷◌}
use Rattle.dm_machine.specs.declared.connection.Conn.{Conn}
use Rattle.dm_machine.specs.declared.state_name.State.{State}
use Rattle.dm_machine.specs.declared.state_name.State.TheVariants.{Closed, WaitConnAck, WaitICea}
use Rattle.dm_machine.specs.declared.inputs.Input.TheVariants.{Gone, Heard}
use Rattle.dm_machine.specs.declared.inputs.Word.{Word}
use Rattle.dm_machine.specs.declared.outputs.Command.TheVariants.{Close}
use Rattle.dm_machine.specs.Table.{RPeerDisc}
use Rattle.dm_machine.specs.Node.{Node, is_shaped}
use Rattle.dm_machine.specs.Reading.{event_of}
use Rattle.dm_machine.specs.Moves.{Moves, machine_outcome}
use Rattle.dm_machine.specs.Connection.{NotHeld, Pending, Taken, hold_of}

-- whether the first message of a new connection is read
abbrev pub reads_first : State → Bool
reads_first Closed = true
reads_first WaitConnAck = true
reads_first WaitICea = true
reads_first _ = false

-- where it isn't, the connection is closed whatever came on it, and the node stays
abbrev pub ClosesUnread : Type 0
ClosesUnread =
    (n : Node) (c : Conn) (w : Word) (wins : Bool) →
    IsTrue (is_shaped n) → IsTrue (not (reads_first n.state)) → hold_of n c ≡ NotHeld →
    Moves n (Heard c w) wins (Close c ∷ []) n

-- a message on a connection before its Ack is no event: nothing is ordered, and the node stays
abbrev pub DropsBeforeAck : Type 0
DropsBeforeAck =
    (n : Node) (c : Conn) (w : Word) (wins : Bool) →
    IsTrue (is_shaped n) → hold_of n c ≡ Pending → Moves n (Heard c w) wins [] n

-- a message on an accepted connection whose CEA isn't sent is R-Peer-Disc
abbrev pub ReadsAsPeerDisc : Type 0
ReadsAsPeerDisc = (n : Node) (c : Conn) (w : Word) → hold_of n c ≡ Taken → event_of n (Heard c w) ≡ RPeerDisc

-- and so the step is that of its end
abbrev pub EndsAtWord : Type 0
EndsAtWord =
    (n : Node) (c : Conn) (w : Word) (wins : Bool) →
    hold_of n c ≡ Taken → machine_outcome n (Heard c w) wins ≡ machine_outcome n (Gone c) wins
