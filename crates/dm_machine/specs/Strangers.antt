-- What comes on a connection that a node doesn't hold (RFC 6733, 5.6).
use Rattle.std.specs.Prelude.{◌≡◌, Bool, true, false, ◌&&◌, if◌then◌else◌, IsTrue, List, [], ◌∷◌}
use Rattle.dm_machine.specs.declared.connection.Conn.{Conn}
use Rattle.dm_machine.specs.declared.state_name.State.{State}
use Rattle.dm_machine.specs.declared.inputs.Input.TheVariants.{Heard}
use Rattle.dm_machine.specs.declared.inputs.Word.{Word}
use Rattle.dm_machine.specs.declared.inputs.Word.TheVariants.{Cer, CerRefused}
use Rattle.dm_machine.specs.declared.outputs.Command.{Command}
use Rattle.dm_machine.specs.declared.outputs.Command.TheVariants.{Close, SendRefusal}
use Rattle.dm_machine.specs.Node.{Node, is_shaped}
use Rattle.dm_machine.specs.Moves.{Moves}
use Rattle.dm_machine.specs.Connection.{NotHeld, hold_of}
use Rattle.dm_machine.specs.Unread.{reads_first}

abbrev pub is_good_cer : Word → Bool
is_good_cer Cer = true
is_good_cer _ = false

abbrev pub is_refused_cer : Word → Bool
is_refused_cer CerRefused = true
is_refused_cer _ = false

-- a good CER where first messages are read, which alone is let in
abbrev pub lets_in : State → Word → Bool
lets_in s w = reads_first s && is_good_cer w

-- what turns the message away: its connection is closed, behind an answer where it is a CER that is read and refused
abbrev pub turned_away : State → Word → Conn → List Command
turned_away s w c = if reads_first s && is_refused_cer w then SendRefusal c ∷ Close c ∷ [] else Close c ∷ []

-- what isn't let in is turned away, and the node stays
abbrev pub TurnsStrangersAway : Type 0
TurnsStrangersAway =
    (n : Node) (c : Conn) (w : Word) (wins : Bool) →
    IsTrue (is_shaped n) → hold_of n c ≡ NotHeld → lets_in n.state w ≡ false →
    Moves n (Heard c w) wins (turned_away n.state w c) n
