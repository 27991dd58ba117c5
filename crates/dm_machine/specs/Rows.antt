-- The rows of the state table and the own ones, and the row of a state and an event.
use Rattle.std.specs.Prelude.{ℕ, Bool, true, ◌&&◌, ◌==◌, if◌then◌else◌, Option, Some, None}
use Rattle.std.specs.Prelude.{IfSome, is_none, IsTrue, List, [], ◌∷◌, ◌++◌, Contains}
use Rattle.dm_machine.specs.declared.state_name.State.{State}
use Rattle.dm_machine.specs.declared.state_name.State.TheVariants.{Closed, WaitConnAck, WaitICea, WaitConnAckElect}
use Rattle.dm_machine.specs.declared.state_name.State.TheVariants.{WaitReturns, ROpen, IOpen, Closing}
use Rattle.dm_machine.specs.Table.{TableEvent, Start, RConnCer, IRcvConnAck, IRcvConnNack, Timeout, IRcvCea}
use Rattle.dm_machine.specs.Table.{IRcvNonCea, IPeerDisc, RPeerDisc, WinElection, SendMessage, XRcvMessage}
use Rattle.dm_machine.specs.Table.{XRcvDwr, XRcvDwa, Stop, XRcvDpr, XRcvDpa, XPeerDisc, RConnRefusedCer}
use Rattle.dm_machine.specs.Table.{RConnOther, XRcvExchange, XRcvRefusedRequest, XRcvBadDwa, XRcvBadDpa}
use Rattle.dm_machine.specs.Table.{FirstTick, SecondTick, ThirdTick, NoEvent, Row, table}
use Rattle.dm_machine.specs.OwnRows.{own_rows}

abbrev pub rows : List Row
rows = table ++ own_rows

-- states and events are told apart by their numbers
abbrev pub state_code : State → ℕ
state_code Closed = 0
state_code WaitConnAck = 1
state_code WaitICea = 2
state_code WaitConnAckElect = 3
state_code WaitReturns = 4
state_code ROpen = 5
state_code IOpen = 6
state_code Closing = 7

abbrev pub event_code : TableEvent → ℕ
event_code Start = 0
event_code RConnCer = 1
event_code IRcvConnAck = 2
event_code IRcvConnNack = 3
event_code Timeout = 4
event_code IRcvCea = 5
event_code IRcvNonCea = 6
event_code IPeerDisc = 7
event_code RPeerDisc = 8
event_code WinElection = 9
event_code SendMessage = 10
event_code XRcvMessage = 11
event_code XRcvDwr = 12
event_code XRcvDwa = 13
event_code Stop = 14
event_code XRcvDpr = 15
event_code XRcvDpa = 16
event_code XPeerDisc = 17
event_code RConnRefusedCer = 18
event_code RConnOther = 19
event_code XRcvExchange = 20
event_code XRcvRefusedRequest = 21
event_code XRcvBadDwa = 22
event_code XRcvBadDpa = 23
event_code FirstTick = 24
event_code SecondTick = 25
event_code ThirdTick = 26
event_code NoEvent = 27

-- whether the row is for this state and event
abbrev pub is_for : State → TableEvent → Row → Bool
is_for s e r = (state_code r.from == state_code s) && (event_code r.event == event_code e)

-- the row of a state and an event
abbrev pub row_in : List Row → State → TableEvent → Option Row
row_in [] s e = None
row_in (r ∷ rs) s e = if is_for s e r then Some r else row_in rs s e

-- no row is followed by another for its state and event
abbrev pub rows_apart : List Row → Bool
rows_apart [] = true
rows_apart (r ∷ rs) = is_none (row_in rs r.from r.event) && rows_apart rs

-- a state and an event have at most one row, and the row that is found is a row of the list, for that state and event
pub record HasOneRowEach : Type 0 where
  pub apart : IsTrue (rows_apart rows)
  pub found : (s : State) (e : TableEvent) → IfSome (row_in rows s e) (λ r. Contains rows r × IsTrue (is_for s e r))
