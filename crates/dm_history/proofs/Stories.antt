-- What each connection has been through, by what it is to a peer.
use Rattle.std.proofs.Common.{◌≡◌, inr, ℕ, Some, List, ◌∷◌}
use Rattle.std.specs.Prelude.{⊤}
use Rattle.dm_wire.specs.declared.message.Message.{Message}
use Rattle.dm_machine.specs.declared.connection.Conn.{Conn}
use Rattle.dm_machine.specs.Forms.{EachShapeIsAForm}
use Rattle.dm_machine.specs.Connection.{Hold, NotHeld, Pending, Made, OpenAsI, ClosingAsI, Taken, OpenAsR, ClosingAsR, hold_of}
use Rattle.dm_machine.specs.Openings.{SendsCerAtAck, ClosesWhatItGivesUp}
use Rattle.dm_machine.specs.Ordered.{EachOrderIsACommand, EachCommandIsAnOrder}
use Rattle.dm_machine.specs.Causes.{EachHoldIsCaused}
use Rattle.dm_machine.specs.Unread.{ClosesUnread}
use Rattle.dm_peer.specs.declared.config.Config.{Config}
use Rattle.dm_peer.specs.declared.peer.Peer.{Peer}
use Rattle.dm_peer.specs.declared.standing.Standing.{Standing}
use Rattle.dm_peer.specs.Settled.{IsSettled, FreshIsSettled, EachEventKeepsSettled}
use Rattle.dm_history.specs.History.{Happened, Once}
use Rattle.dm_history.specs.Meant.{IsAcceptableCer}
use Rattle.dm_history.specs.Opened.{IsUnheard, CameFirst, IsAsked, OpenedByCer, OpenedByCea}

-- the laws of one step that it rests on
pub record StepLaws : Type 0 where
  pub form : EachShapeIsAForm
  pub caused : EachHoldIsCaused
  pub asked : SendsCerAtAck
  pub closes : ClosesUnread
  pub closed : ClosesWhatItGivesUp
  pub commands : EachOrderIsACommand
  pub orders : EachCommandIsAnOrder
  pub fresh : FreshIsSettled
  pub kept : EachEventKeepsSettled

-- what a connection that waits has been through, and what the peer keeps of it
pub record HasAsked (config : Config) (standing : Standing) (c : Conn) (past : List Happened) : Type 0 where
  pub id : ℕ
  pub kept : standing.awaited.cea ≡ Some id
  pub asked : Once (λ y earlier. IsAsked config.node c id y) past

pub record HasHeard (config : Config) (standing : Standing) (c : Conn) (past : List Happened) : Type 0 where
  pub cer : Message
  pub good : IsAcceptableCer config cer
  pub kept : standing.waiting ≡ Some cer.header
  pub heard : Once (λ y earlier. CameFirst c cer y earlier) past

abbrev pub StoryOf : Config → Standing → Conn → List Happened → Hold → Type 0
StoryOf config standing c past Made = HasAsked config standing c past
StoryOf config standing c past Taken = HasHeard config standing c past
StoryOf config standing c past OpenAsR = OpenedByCer config c past
StoryOf config standing c past OpenAsI = OpenedByCea config c past
StoryOf config standing c past h = ⊤

pub later : (config : Config) (standing : Standing) (c : Conn) (x : Happened) (past : List Happened) (h : Hold) →
    StoryOf config standing c past h → StoryOf config standing c (x ∷ past) h
later config standing c x past Made s = record { id = s.id; kept = s.kept; asked = inr s.asked }
later config standing c x past Taken s = record { cer = s.cer; good = s.good; kept = s.kept; heard = inr s.heard }
later config standing c x past OpenAsR s = record { cer = s.cer; good = s.good; accepted = inr s.accepted }
later config standing c x past OpenAsI s = record { cea = s.cea; good = s.good; answered = inr s.answered }
later config standing c x past NotHeld s = tt
later config standing c x past Pending s = tt
later config standing c x past ClosingAsI s = tt
later config standing c x past ClosingAsR s = tt

-- on a connection that isn't held nothing came since it was closed or told ended
abbrev pub UnheardIfFree : Peer → List Happened → Type 0
UnheardIfFree p past = (c : Conn) → hold_of p.standing.core c ≡ NotHeld → IsUnheard c past

pub record IsTold (p : Peer) (past : List Happened) : Type 0 where
  pub settled : IsSettled p
  pub unheard : UnheardIfFree p past
  pub story : (c : Conn) → StoryOf p.config p.standing c past (hold_of p.standing.core c)
