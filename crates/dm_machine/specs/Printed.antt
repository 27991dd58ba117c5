-- What states and orders are printed as.
use Rattle.std.specs.Prelude.{ℕ, ◌++◌, List, codes}
use Rattle.std.specs.Fmt.{decimal}
use Rattle.dm_machine.specs.declared.connection.Conn.{Conn}
use Rattle.dm_machine.specs.declared.state_name.State.{State}
use Rattle.dm_machine.specs.declared.state_name.State.TheVariants.{Closed, WaitConnAck, WaitICea, WaitConnAckElect}
use Rattle.dm_machine.specs.declared.state_name.State.TheVariants.{WaitReturns, ROpen, IOpen, Closing}
use Rattle.dm_machine.specs.declared.outputs.Command.{Command}
use Rattle.dm_machine.specs.declared.outputs.Command.TheVariants.{Connect, SendCer, SendCea, SendRefusal, SendDwr}
use Rattle.dm_machine.specs.declared.outputs.Command.TheVariants.{SendDwa, SendDpr, SendDpa, SendSubmit, Close, Up}

-- the names of the states (RFC 6733, 5.6)
abbrev pub state_text : State → List ℕ
state_text Closed = codes "Closed"
state_text WaitConnAck = codes "Wait-Conn-Ack"
state_text WaitICea = codes "Wait-I-CEA"
state_text WaitConnAckElect = codes "Wait-Conn-Ack/Elect"
state_text WaitReturns = codes "Wait-Returns"
state_text ROpen = codes "R-Open"
state_text IOpen = codes "I-Open"
state_text Closing = codes "Closing"

-- words, and the connection's number
abbrev pub on_conn : List ℕ → Conn → List ℕ
on_conn words conn = words ++ decimal conn.0

abbrev pub command_text : Command → List ℕ
command_text (Connect conn) = on_conn (codes "connect ") conn
command_text (SendCer conn) = on_conn (codes "send CER on ") conn
command_text (SendCea conn) = on_conn (codes "send CEA on ") conn
command_text (SendRefusal conn) = on_conn (codes "send refusal on ") conn
command_text (SendDwr conn) = on_conn (codes "send DWR on ") conn
command_text (SendDwa conn) = on_conn (codes "send DWA on ") conn
command_text (SendDpr conn) = on_conn (codes "send DPR on ") conn
command_text (SendDpa conn) = on_conn (codes "send DPA on ") conn
command_text (SendSubmit conn) = on_conn (codes "send submitted on ") conn
command_text (Close conn) = on_conn (codes "close ") conn
command_text Up = codes "up"
