-- The lines of orders, to a peer alone and to a node of several neighbours.
use Rattle.std.specs.Prelude.{◌≡◌, ℕ, Option, Some, List, [], ◌∷◌, codes, MatchOption}
use Rattle.dm_text.specs.Words.{words}
use Rattle.dm_text.specs.Numbers.{TellsNumber, TellsLongNumber}
use Rattle.dm_text.specs.Hexadecimal.{word_octets}
use Rattle.dm_base.specs.Built.{cause_number}
use Rattle.dm_machine.specs.declared.connection.Conn.{Conn}
use Rattle.dm_node.specs.declared.order.Order.TheVariants as order
use Rattle.dm_live.specs.declared.asked.Asked.{Asked}
use Rattle.dm_live.specs.declared.asked.Asked.TheVariants as asked
use Rattle.dm_live.specs.declared.form.Form.{Form}
use Rattle.dm_live.specs.declared.form.Form.TheVariants.{Alone, Several}
use Rattle.dm_live.specs.declared.order_line.OrderLine.{OrderLine}
use Rattle.dm_live.specs.declared.order_line.OrderLine.TheVariants as line
use Rattle.dm_live.specs.declared.order_name.OrderName.{OrderName}
use Rattle.dm_live.specs.declared.order_name.OrderName.TheVariants as names

-- the first word of an order's line
abbrev pub name_word : OrderName → List ℕ
name_word names.Start = codes "start"
name_word names.Ack = codes "ack"
name_word names.Nack = codes "nack"
name_word names.Accept = codes "accept"
name_word names.Octets = codes "octets"
name_word names.Gone = codes "gone"
name_word names.Timeout = codes "timeout"
name_word names.Tick = codes "tick"
name_word names.Stop = codes "stop"
name_word names.Submit = codes "submit"
name_word names.Reset = codes "reset"

-- the name of an order
abbrev pub order_name : OrderLine → OrderName
order_name (line.Start n c) = names.Start
order_name (line.Ack c) = names.Ack
order_name (line.Nack c) = names.Nack
order_name (line.Accept c) = names.Accept
order_name (line.Octets c piece) = names.Octets
order_name (line.Gone c) = names.Gone
order_name (line.Timeout n) = names.Timeout
order_name (line.Tick n) = names.Tick
order_name (line.Stop n cause) = names.Stop
order_name (line.Submit n octets) = names.Submit
order_name (line.Reset n) = names.Reset
order_name line.ResetAll = names.Reset

-- what is asked of a node, as a line tells it
abbrev pub node_asked : Asked → OrderLine
node_asked (asked.Order (order.Start n c)) = line.Start n c
node_asked (asked.Order (order.Ack c)) = line.Ack c
node_asked (asked.Order (order.Nack c)) = line.Nack c
node_asked (asked.Order (order.Accept c)) = line.Accept c
node_asked (asked.Order (order.Gone c)) = line.Gone c
node_asked (asked.Order (order.Timeout n)) = line.Timeout n
node_asked (asked.Order (order.Tick n)) = line.Tick n
node_asked (asked.Order (order.Stop n cause)) = line.Stop n cause
node_asked (asked.Order (order.Submit n octets)) = line.Submit n octets.now
node_asked (asked.Order (order.Reset n)) = line.Reset n
node_asked (asked.Order order.ResetAll) = line.ResetAll
node_asked (asked.Piece c piece) = line.Octets c piece.now

-- one word, the number of a connection in decimal
abbrev pub TellsConn : Conn → List (List ℕ) → Type 0
TellsConn c rest = (number : List ℕ) × (rest ≡ number ∷ []) × TellsLongNumber c.0 number

-- words name neighbour n in front of more: by its number in decimal, where there are several; one alone is 0, and no
-- word names it
abbrev pub NamesNeighbour : Form → ℕ → List (List ℕ) → List (List ℕ) → Type 0
NamesNeighbour Alone n rest more = (n ≡ 0) × (rest ≡ more)
NamesNeighbour Several n rest more = (number : List ℕ) × (rest ≡ number ∷ more) × TellsLongNumber n number

-- what an order says behind its name: the neighbour that it names, if it names one, numbers in decimal, octets in
-- hexadecimal; where there is one alone a reset is of all
abbrev pub TellsRest : Form → OrderLine → List (List ℕ) → Type 0
TellsRest form (line.Start n c) rest = (more : List (List ℕ)) × NamesNeighbour form n rest more × TellsConn c more
TellsRest form (line.Ack c) rest = TellsConn c rest
TellsRest form (line.Nack c) rest = TellsConn c rest
TellsRest form (line.Accept c) rest = TellsConn c rest
TellsRest form (line.Octets c piece) rest =
    (number digits : List ℕ) × (rest ≡ number ∷ digits ∷ []) × TellsLongNumber c.0 number
    × (word_octets digits ≡ Some piece)
TellsRest form (line.Gone c) rest = TellsConn c rest
TellsRest form (line.Timeout n) rest = NamesNeighbour form n rest []
TellsRest form (line.Tick n) rest = NamesNeighbour form n rest []
TellsRest form (line.Stop n cause) rest =
    (more : List (List ℕ)) × NamesNeighbour form n rest more × (number : List ℕ) × (more ≡ number ∷ [])
    × TellsNumber (cause_number cause) number
TellsRest form (line.Submit n octets) rest =
    (more : List (List ℕ)) × NamesNeighbour form n rest more × (digits : List ℕ) × (more ≡ digits ∷ [])
    × (word_octets digits ≡ Some octets)
TellsRest form (line.Reset n) rest = (form ≡ Several) × NamesNeighbour form n rest []
TellsRest form line.ResetAll rest = rest ≡ []

-- what is read of the words behind this name: an order that they tell, or that they tell none
abbrev pub ReadsNamed : Form → OrderName → List (List ℕ) → Option OrderLine → Type 0
ReadsNamed form name rest read =
    MatchOption read ((o : OrderLine) → order_name o ≡ name → TellsRest form o rest → ⊥)
    (λ o. (order_name o ≡ name) × TellsRest form o rest)

-- the line of an order: its name, and what it says behind it
abbrev pub TellsOrder : Form → OrderLine → List ℕ → Type 0
TellsOrder form o line =
    (rest : List (List ℕ)) × (words line ≡ name_word (order_name o) ∷ rest) × TellsRest form o rest
