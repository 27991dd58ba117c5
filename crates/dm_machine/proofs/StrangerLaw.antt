-- A message on a connection that isn't held is turned away, but for a good CER where first messages are read.
use Rattle.std.proofs.Common.{◌≡◌, Bool, false, Some, refl, ap, ◌∙◌}
use Rattle.dm_machine.specs.declared.connection.Conn.{Conn}
use Rattle.dm_machine.specs.declared.inputs.Word.{Word}
use Rattle.dm_machine.specs.declared.inputs.Word.TheVariants.{Cer, CerRefused}
use Rattle.dm_machine.specs.Node.{Node}
use Rattle.dm_machine.specs.Forms.{Form, closed, wait_conn_ack, wait_i_cea, wait_conn_ack_elect, wait_returns, r_open, i_open, closing}
use Rattle.dm_machine.specs.Reading.{Place, first_message, message_event}
use Rattle.dm_machine.specs.Moves.{NodeMoved, by_table}
use Rattle.dm_machine.specs.Connection.{NotHeld}
use Rattle.dm_machine.specs.Strangers.{lets_in, turned_away, TurnsStrangersAway}
use Rattle.dm_machine.proofs.FormLemmas.{form_of}
use Rattle.dm_machine.proofs.UnreadLaw.{placed, rejected}

-- by the form of the node
away : (n : Node) → Form n → (c : Conn) (wins : Bool) (w : Word) → lets_in n.state w ≡ false →
    by_table n (first_message w) (Some c) wins ≡ NodeMoved (turned_away n.state w c) n
away n closed c wins Cer out = cc
away n closed c wins CerRefused out = refl
away n closed c wins _ out = refl
away n (wait_conn_ack i) c wins Cer out = cc
away n (wait_conn_ack i) c wins CerRefused out = refl
away n (wait_conn_ack i) c wins _ out = refl
away n (wait_i_cea i) c wins Cer out = cc
away n (wait_i_cea i) c wins CerRefused out = refl
away n (wait_i_cea i) c wins _ out = refl
away n (wait_conn_ack_elect i r apart) c wins w out = rejected n (wait_conn_ack_elect i r apart) refl c wins w
away n (wait_returns i r apart) c wins w out = rejected n (wait_returns i r apart) refl c wins w
away n (r_open r k few) c wins w out = rejected n (r_open r k few) refl c wins w
away n (i_open i k few) c wins w out = rejected n (i_open i k few) refl c wins w
away n (closing role x) c wins w out = rejected n (closing role x) refl c wins w

pub turns_strangers_away : TurnsStrangersAway
turns_strangers_away n c w wins shaped free out =
    ap (λ (p : Place). by_table n (message_event n.state w p) (Some c) wins) (placed n c NotHeld free)
    ∙ away n (form_of n shaped) c wins w out
