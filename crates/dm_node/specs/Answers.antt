-- What a call of a node asks for, as definitions see it.
use Rattle.std.specs.Prelude.{◌≡◌, Option, None, Some, []}
use Rattle.dm_machine.specs.declared.connection.Conn.{Conn}
use Rattle.dm_node.specs.declared.answer.Answer.{Answer}
use Rattle.dm_node.specs.declared.answer.Told.{Told}
use Rattle.dm_node.specs.declared.answer.Told.TheVariants.{Nothing, Message}
use Rattle.dm_node.specs.NodeStates.{NodeAnswer, NodeTurn}

-- nothing was told, and nothing is asked for
pub record IsUntold (a : Answer) : Type 0 where
  pub nothing : a.told ≡ Nothing
  pub nobody : a.neighbour ≡ None
  pub none : a.actions.items ≡ []

abbrev pub as_answer : Answer → NodeAnswer
as_answer a = record { neighbour = a.neighbour; actions = a.actions.items }

-- what an order asks for; None where nothing was told
abbrev pub asks_as : Told → NodeAnswer → Option NodeAnswer
asks_as Nothing answer = None
asks_as told answer = Some answer

abbrev pub asks_of : Answer → Option NodeAnswer
asks_of a = asks_as a.told (as_answer a)

-- the turn of what came on connection c; None where nothing was told
abbrev pub turn_told : Conn → Told → NodeAnswer → Option NodeTurn
turn_told c Nothing answer = None
turn_told c Message answer = Some (record { arrived = Some c; answer = answer })
turn_told c told answer = Some (record { arrived = None; answer = answer })

abbrev pub turn_in : Conn → Answer → Option NodeTurn
turn_in c a = turn_told c a.told (as_answer a)
