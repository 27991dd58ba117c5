-- What holds of each step of a peer over octets, whatever it hears, holds of what it does at an event.
use Rattle.std.proofs.Common.{◌≡◌, ℕ, Bool, true, false, Option, None, Some, List, [], if◌then◌else◌, ◌⊎◌, inl, inr, refl, ap, ◌∙◌}
use Rattle.dm_wire.specs.declared.message.Header.{Header}
use Rattle.dm_wire.specs.declared.message.Message.{Message}
use Rattle.dm_wire.specs.Whole.{message_in}
use Rattle.dm_base.specs.Commands.{is_base_command}
use Rattle.dm_machine.specs.declared.connection.Conn.{Conn}
use Rattle.dm_machine.specs.declared.inputs.Input.TheVariants as input
use Rattle.dm_machine.specs.Connection.{hold_of}
use Rattle.dm_machine.specs.Moves.{is_open}
use Rattle.dm_peer.specs.declared.fault.PeerFault.{PeerFault}
use Rattle.dm_peer.specs.declared.fault.PeerFault.TheVariants.{NotOpen, BadSubmit}
use Rattle.dm_peer.specs.declared.peer.Peer.{Peer}
use Rattle.dm_peer.specs.Events as told
use Rattle.dm_peer.specs.Said.{Heard, heard_in}
use Rattle.dm_peer.specs.Acts.{Outcome, Moved, Refused, input_of, steps, is_unread, is_dropped, heard_outcome, can_submit, acts}
use Rattle.dm_octet_peers.proofs.Bases.{other_heard, heard_header}
use Rattle.dm_octet_peers.proofs.Stepping.{is_request}
use Rattle.dm_octet_peers.proofs.Plain.{is_submit_input}

-- a peer hears nothing, or what a message says to it
pub data MayHear (p : Peer) : Option Heard → Type 0 where
  nothing : MayHear p None
  something : (m : Message) → MayHear p (Some (heard_in p.config m))

abbrev pub is_submit_event : told.PeerEvent → Bool
is_submit_event (told.Submit s) = true
is_submit_event _ = false

pub no_submit : (e : told.PeerEvent) (h : Option Heard) → is_submit_event e ≡ false →
    is_submit_input (input_of e h) ≡ false
no_submit (told.Submit s) h other = cc
no_submit _ h other = refl

module _ (p : Peer) (Holds : Outcome → Type 0) (drops : Holds (Moved [] p)) where
  abbrev OfSteps : told.PeerEvent → Type 0
  OfSteps e = (h : Option Heard) → MayHear p h → Holds (steps p e h)

  dropped : (e : told.PeerEvent) (m : Message) (b : Bool) → OfSteps e →
      Holds (if b then Moved [] p else steps p e (Some (heard_in p.config m)))
  dropped e m true each = drops
  dropped e m false each = each (Some (heard_in p.config m)) (something m)

  read : (e : told.PeerEvent) (c : Conn) (o : Option Message) → OfSteps e → Holds (heard_outcome p e c o)
  read e c None each = each None nothing
  read e c (Some m) each = dropped e m (is_dropped p c m.header) each

  arrived : (e : told.PeerEvent) (c : Conn) (s : List ℕ) (unread : Bool) → OfSteps e →
      Holds (if unread then steps p e None else heard_outcome p e c (message_in s))
  arrived e c s true each = each None nothing
  arrived e c s false each = read e c (message_in s) each

  submits : (e : told.PeerEvent) (opened can : Bool) → ((f : PeerFault) → Holds (Refused f)) → OfSteps e →
      Holds (if opened then (if can then steps p e None else Refused BadSubmit) else Refused NotOpen)
  submits e true true refuses each = each None nothing
  submits e true false refuses each = refuses BadSubmit
  submits e false can refuses each = refuses NotOpen

  -- a Submit alone is refused before any step
  pub walked : (e : told.PeerEvent) → (is_submit_event e ≡ true → (f : PeerFault) → Holds (Refused f)) → OfSteps e →
      Holds (acts p e)
  walked (told.Arrived c s) refuses each =
      arrived (told.Arrived c s) c s (is_unread p.standing.core.state (hold_of p.standing.core c)) each
  walked (told.Submit s) refuses each =
      submits (told.Submit s) (is_open p.standing.core.state) (can_submit (message_in s)) (refuses refl) each
  walked (told.Start c) refuses each = each None nothing
  walked (told.Stop cause) refuses each = each None nothing
  walked told.Timeout refuses each = each None nothing
  walked told.Tick refuses each = each None nothing
  walked (told.Ack c) refuses each = each None nothing
  walked (told.Nack c) refuses each = each None nothing
  walked (told.Gone c) refuses each = each None nothing

-- the header that was heard is one of a base command
abbrev pub is_base_heard : Option Heard → Bool
is_base_heard None = false
is_base_heard (Some h) = is_base_command h.header.command

-- a message that isn't one of a base command is no base request
same_header : (p : Peer) (m : Message) → is_base_heard (Some (heard_in p.config m)) ≡ is_base_command m.header.command
same_header p m = ap (λ (h : Header). is_base_command h.command) (heard_header p.config m)

message_request : (p : Peer) (c : Conn) (m : Message) (base : Bool) → is_base_command m.header.command ≡ base →
    (is_base_heard (Some (heard_in p.config m)) ≡ true)
    ⊎ (is_request (input.Heard c (heard_in p.config m).word) ≡ false)
message_request p c m true e = inl (same_header p m ∙ e)
message_request p c m false e = inr (ap (λ w. is_request (input.Heard c w)) (other_heard p.config m e))

pub hears_base : (p : Peer) (e : told.PeerEvent) (h : Option Heard) → MayHear p h →
    (is_base_heard h ≡ true) ⊎ (is_request (input_of e h) ≡ false)
hears_base p (told.Arrived c s) None nothing = inr refl
hears_base p (told.Arrived c s) (Some _) (something m) = message_request p c m (is_base_command m.header.command) refl
hears_base p _ h may = inr refl
