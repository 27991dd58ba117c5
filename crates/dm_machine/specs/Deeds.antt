-- What a command does, whatever it says: to which connection, or for the user.
use Rattle.dm_machine.specs.declared.connection.Conn.{Conn}
use Rattle.dm_machine.specs.declared.outputs.Command.{Command}
use Rattle.dm_machine.specs.declared.outputs.Command.TheVariants.{Connect, SendCer, SendCea, SendRefusal, SendDwr}
use Rattle.dm_machine.specs.declared.outputs.Command.TheVariants.{SendDwa, SendDpr, SendDpa, SendSubmit, Close, Up}

pub data Deed : Type 0 where
  ConnectsOn : Conn → Deed
  SendsOn : Conn → Deed
  ClosesOn : Conn → Deed
  HandsUp : Deed

abbrev pub deed_of_command : Command → Deed
deed_of_command (Connect c) = ConnectsOn c
deed_of_command (SendCer c) = SendsOn c
deed_of_command (SendCea c) = SendsOn c
deed_of_command (SendRefusal c) = SendsOn c
deed_of_command (SendDwr c) = SendsOn c
deed_of_command (SendDwa c) = SendsOn c
deed_of_command (SendDpr c) = SendsOn c
deed_of_command (SendDpa c) = SendsOn c
deed_of_command (SendSubmit c) = SendsOn c
deed_of_command (Close c) = ClosesOn c
deed_of_command Up = HandsUp
