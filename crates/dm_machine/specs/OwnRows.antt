-- The rows beside the state table: this project's own rules, where RFC 6733 leaves a gap.
use Rattle.std.specs.Prelude.{List, [], ◌∷◌, ◌++◌}
use Rattle.dm_machine.specs.declared.state_name.State.{State}
use Rattle.dm_machine.specs.declared.state_name.State.TheVariants.{Closed, WaitConnAck, WaitICea, WaitConnAckElect}
use Rattle.dm_machine.specs.declared.state_name.State.TheVariants.{WaitReturns, ROpen, IOpen, Closing}
use Rattle.dm_machine.specs.Table.{RConnCer, XRcvDpr, XRcvDpa, RConnRefusedCer, RConnOther, XRcvExchange}
use Rattle.dm_machine.specs.Table.{XRcvRefusedRequest, XRcvBadDwa, XRcvBadDpa, FirstTick, SecondTick, ThirdTick}
use Rattle.dm_machine.specs.Table.{Row, table_row, RReject, XDisc, XSndDpa, RSndRefusal, XSndRefusal, XSndDwr}

-- a first message that is no good CER, where the peer takes connections: a refused CER is answered, then the connection
-- is closed
abbrev pub first_message_rows : State → List Row
first_message_rows same =
    table_row same RConnRefusedCer (RSndRefusal ∷ RReject ∷ []) same
    ∷ table_row same RConnOther (RReject ∷ []) same
    ∷ []

-- elsewhere the connection is closed whatever came on it
abbrev pub unread_rows : State → List Row
unread_rows same =
    table_row same RConnRefusedCer (RReject ∷ []) same
    ∷ table_row same RConnOther (RReject ∷ []) same
    ∷ []

-- an open connection: a CER, CEA or DPA closes it, a request that fails its check is answered, a DWA that fails it is
-- dropped
abbrev pub open_connection_rows : State → List Row
open_connection_rows same =
    table_row same XRcvExchange (XDisc ∷ []) Closed
    ∷ table_row same XRcvDpa (XDisc ∷ []) Closed
    ∷ table_row same XRcvBadDpa (XDisc ∷ []) Closed
    ∷ table_row same XRcvRefusedRequest (XSndRefusal ∷ []) same
    ∷ table_row same XRcvBadDwa [] same
    ∷ []

-- the watchdog of an open connection [5.5.1; RFC 3539, 3.4.1]
abbrev pub watchdog_rows : State → List Row
watchdog_rows same =
    table_row same FirstTick (XSndDwr ∷ []) same
    ∷ table_row same SecondTick [] same
    ∷ table_row same ThirdTick (XDisc ∷ []) Closed
    ∷ []

abbrev pub own_rows : List Row
own_rows =
    first_message_rows Closed
    ++ first_message_rows WaitConnAck
    ++ first_message_rows WaitICea
    ++ unread_rows WaitConnAckElect
    ++ unread_rows WaitReturns
    ++ unread_rows ROpen
    ++ unread_rows IOpen
    ++ unread_rows Closing
    ++ open_connection_rows ROpen
    ++ open_connection_rows IOpen
    ++ (table_row Closing RConnCer (RReject ∷ []) Closing
    ∷ table_row Closing XRcvDpr (XSndDpa ∷ []) Closing
    ∷ [])
    ++ watchdog_rows ROpen
    ++ watchdog_rows IOpen
