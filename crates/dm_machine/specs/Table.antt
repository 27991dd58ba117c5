-- The state table of a peer [RFC 6733, 5.6], as a list of rows in the table's order and words (docs/ARCHITECTURE.md).
-- I is the initiated, R the accepted connection, x the one on which the peer is open or closing.
use Rattle.std.specs.Prelude.{List, [], ◌∷◌, ◌++◌}
use Rattle.dm_machine.specs.declared.state_name.State.{State}
use Rattle.dm_machine.specs.declared.state_name.State.TheVariants.{Closed, WaitConnAck, WaitICea, WaitConnAckElect}
use Rattle.dm_machine.specs.declared.state_name.State.TheVariants.{WaitReturns, ROpen, IOpen, Closing}

-- the events of the table [5.6.2], then those of the own rules, then what is no event of the table
pub data TableEvent : Type 0 where
  Start : TableEvent
  RConnCer : TableEvent
  IRcvConnAck : TableEvent
  IRcvConnNack : TableEvent
  Timeout : TableEvent
  IRcvCea : TableEvent
  IRcvNonCea : TableEvent
  IPeerDisc : TableEvent
  RPeerDisc : TableEvent
  WinElection : TableEvent
  SendMessage : TableEvent
  XRcvMessage : TableEvent
  XRcvDwr : TableEvent
  XRcvDwa : TableEvent
  Stop : TableEvent
  XRcvDpr : TableEvent
  XRcvDpa : TableEvent
  XPeerDisc : TableEvent
  -- (own) the first message of a new connection: a CER that is refused, or no CER at all
  RConnRefusedCer : TableEvent
  RConnOther : TableEvent
  -- (own) on x: a CER or CEA; a DWR or DPR that fails its check; such a DWA; such a DPA
  XRcvExchange : TableEvent
  XRcvRefusedRequest : TableEvent
  XRcvBadDwa : TableEvent
  XRcvBadDpa : TableEvent
  -- (own) the watchdog's tick at count 0, 1 and 2
  FirstTick : TableEvent
  SecondTick : TableEvent
  ThirdTick : TableEvent
  -- (own) what concerns no connection that the peer waits for
  NoEvent : TableEvent

-- the actions of the table [5.6.3], then those of the own rules
pub data Act : Type 0 where
  ISndConnReq : Act
  RAccept : Act
  RSndCea : Act
  ISndCer : Act
  Cleanup : Act
  Elect : Act
  Error : Act
  IDisc : Act
  RDisc : Act
  RReject : Act
  XSndMessage : Act
  Up : Act
  XSndDwa : Act
  XSndDpr : Act
  XSndDpa : Act
  XDisc : Act
  -- (own) the answer that refuses what was heard, on a new connection or on x; a DWR
  RSndRefusal : Act
  XSndRefusal : Act
  XSndDwr : Act

pub record Row : Type 0 where
  pub from : State
  pub event : TableEvent
  pub acts : List Act
  pub next : State

abbrev pub table_row : State → TableEvent → List Act → State → Row
table_row from event acts next = record { from = from; event = event; acts = acts; next = next }

-- the rows that R-Open and I-Open share
abbrev pub open_rows : State → List Row
open_rows same =
    table_row same SendMessage (XSndMessage ∷ []) same
    ∷ table_row same XRcvMessage (Up ∷ []) same
    ∷ table_row same XRcvDwr (XSndDwa ∷ []) same
    ∷ table_row same XRcvDwa [] same
    ∷ table_row same RConnCer (RReject ∷ []) same
    ∷ table_row same Stop (XSndDpr ∷ []) Closing
    ∷ table_row same XRcvDpr (XSndDpa ∷ []) Closing
    ∷ table_row same XPeerDisc (XDisc ∷ []) Closed
    ∷ []

abbrev pub table : List Row
table =
    (table_row Closed Start (ISndConnReq ∷ []) WaitConnAck
    ∷ table_row Closed RConnCer (RAccept ∷ RSndCea ∷ []) ROpen
    ∷ table_row WaitConnAck IRcvConnAck (ISndCer ∷ []) WaitICea
    ∷ table_row WaitConnAck IRcvConnNack (Cleanup ∷ []) Closed
    ∷ table_row WaitConnAck RConnCer (RAccept ∷ []) WaitConnAckElect
    ∷ table_row WaitConnAck Timeout (Error ∷ []) Closed
    ∷ table_row WaitICea IRcvCea [] IOpen
    ∷ table_row WaitICea RConnCer (RAccept ∷ Elect ∷ []) WaitReturns
    ∷ table_row WaitICea IPeerDisc (IDisc ∷ []) Closed
    ∷ table_row WaitICea IRcvNonCea (Error ∷ []) Closed
    ∷ table_row WaitICea Timeout (Error ∷ []) Closed
    ∷ table_row WaitConnAckElect IRcvConnAck (ISndCer ∷ Elect ∷ []) WaitReturns
    ∷ table_row WaitConnAckElect IRcvConnNack (RSndCea ∷ []) ROpen
    ∷ table_row WaitConnAckElect RPeerDisc (RDisc ∷ []) WaitConnAck
    ∷ table_row WaitConnAckElect RConnCer (RReject ∷ []) WaitConnAckElect
    ∷ table_row WaitConnAckElect Timeout (Error ∷ []) Closed
    ∷ table_row WaitReturns WinElection (IDisc ∷ RSndCea ∷ []) ROpen
    ∷ table_row WaitReturns IPeerDisc (IDisc ∷ RSndCea ∷ []) ROpen
    ∷ table_row WaitReturns IRcvCea (RDisc ∷ []) IOpen
    ∷ table_row WaitReturns RPeerDisc (RDisc ∷ []) WaitICea
    ∷ table_row WaitReturns RConnCer (RReject ∷ []) WaitReturns
    ∷ table_row WaitReturns Timeout (Error ∷ []) Closed
    ∷ [])
    ++ open_rows ROpen
    ++ open_rows IOpen
    ++ (table_row Closing XRcvDpa (XDisc ∷ []) Closed
    ∷ table_row Closing XPeerDisc (XDisc ∷ []) Closed
    ∷ table_row Closing Timeout (Error ∷ []) Closed
    ∷ [])
