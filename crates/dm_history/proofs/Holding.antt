-- What a node's state says of the connections that it holds, by its forms.
use Rattle.std.proofs.Common.{◌≡◌, Bool, true, false, ◌==◌, if◌then◌else◌, refl}
use Rattle.dm_machine.specs.declared.connection.Conn.{Conn}
use Rattle.dm_machine.specs.declared.phase.Role.TheVariants.{Initiated, Accepted}
use Rattle.dm_machine.specs.declared.state_name.State.{State}
use Rattle.dm_machine.specs.declared.state_name.State.TheVariants.{Closed, WaitConnAck, WaitICea}
use Rattle.dm_machine.specs.Node.{Node}
use Rattle.dm_machine.specs.Forms.{Form, closed, wait_conn_ack, wait_i_cea, wait_conn_ack_elect, wait_returns, r_open, i_open, closing}
use Rattle.dm_machine.specs.Connection.{Hold, NotHeld, Pending, Made, OpenAsI, ClosingAsI, Taken, OpenAsR, ClosingAsR, hold_of}
use Rattle.dm_machine.specs.Openings.{is_hold}
use Rattle.dm_machine.specs.Unread.{reads_first}
use Rattle.dm_machine.specs.Awaiting.{awaits_cea, holds_cer}

pub is_pending : (h : Hold) → is_hold Pending h ≡ true → h ≡ Pending
is_pending Pending e = refl
is_pending _ e = cc

pub is_free : (h : Hold) → is_hold NotHeld h ≡ true → h ≡ NotHeld
is_free NotHeld e = refl
is_free _ e = cc

not_one : (b : Bool) (a wanted : Hold) → (if b then a else NotHeld) ≡ wanted → (a ≡ wanted → ⊥) →
    (NotHeld ≡ wanted → ⊥) → ⊥
not_one true a wanted e differs none = differs e
not_one false a wanted e differs none = none e

not_two : (b d : Bool) (a z wanted : Hold) → (if b then a else (if d then z else NotHeld)) ≡ wanted →
    (a ≡ wanted → ⊥) → (z ≡ wanted → ⊥) → (NotHeld ≡ wanted → ⊥) → ⊥
not_two true d a z wanted e differs none free = differs e
not_two false true a z wanted e differs none free = none e
not_two false false a z wanted e differs none free = free e

pub holds_taken : (n : Node) → Form n → (c : Conn) → hold_of n c ≡ Taken → holds_cer n.state ≡ true
holds_taken n closed c e = cc
holds_taken n (wait_conn_ack i) c e = absurd (not_one (i.0 == c.0) Pending Taken e (λ x. cc x) (λ x. cc x))
holds_taken n (wait_i_cea i) c e = absurd (not_one (i.0 == c.0) Made Taken e (λ x. cc x) (λ x. cc x))
holds_taken n (wait_conn_ack_elect i r apart) c e = refl
holds_taken n (wait_returns i r apart) c e = refl
holds_taken n (r_open r k few) c e = absurd (not_one (r.0 == c.0) OpenAsR Taken e (λ x. cc x) (λ x. cc x))
holds_taken n (i_open i k few) c e = absurd (not_one (i.0 == c.0) OpenAsI Taken e (λ x. cc x) (λ x. cc x))
holds_taken n (closing Initiated x) c e =
    absurd (not_one (x.0 == c.0) ClosingAsI Taken e (λ y. cc y) (λ y. cc y))
holds_taken n (closing Accepted x) c e = absurd (not_one (x.0 == c.0) ClosingAsR Taken e (λ y. cc y) (λ y. cc y))

pub awaits_made : (n : Node) → Form n → (c : Conn) → hold_of n c ≡ Made → awaits_cea n.state ≡ true
awaits_made n closed c e = cc
awaits_made n (wait_conn_ack i) c e = absurd (not_one (i.0 == c.0) Pending Made e (λ x. cc x) (λ x. cc x))
awaits_made n (wait_i_cea i) c e = refl
awaits_made n (wait_conn_ack_elect i r apart) c e =
    absurd (not_two (i.0 == c.0) (r.0 == c.0) Pending Taken Made e (λ x. cc x) (λ x. cc x) (λ x. cc x))
awaits_made n (wait_returns i r apart) c e = refl
awaits_made n (r_open r k few) c e = absurd (not_one (r.0 == c.0) OpenAsR Made e (λ x. cc x) (λ x. cc x))
awaits_made n (i_open i k few) c e = absurd (not_one (i.0 == c.0) OpenAsI Made e (λ x. cc x) (λ x. cc x))
awaits_made n (closing Initiated x) c e =
    absurd (not_one (x.0 == c.0) ClosingAsI Made e (λ y. cc y) (λ y. cc y))
awaits_made n (closing Accepted x) c e = absurd (not_one (x.0 == c.0) ClosingAsR Made e (λ y. cc y) (λ y. cc y))

pub pending_awaits_none : (n : Node) → Form n → (c : Conn) → hold_of n c ≡ Pending → awaits_cea n.state ≡ false
pending_awaits_none n (wait_i_cea i) c e = absurd (not_one (i.0 == c.0) Made Pending e (λ x. cc x) (λ x. cc x))
pending_awaits_none n (wait_returns i r apart) c e =
    absurd (not_two (i.0 == c.0) (r.0 == c.0) Made Taken Pending e (λ x. cc x) (λ x. cc x) (λ x. cc x))
pending_awaits_none n closed c e = refl
pending_awaits_none n (wait_conn_ack i) c e = refl
pending_awaits_none n (wait_conn_ack_elect i r apart) c e = refl
pending_awaits_none n (r_open r k few) c e = refl
pending_awaits_none n (i_open i k few) c e = refl
pending_awaits_none n (closing role x) c e = refl

-- where a first message is read no CER waits
pub reads_none : (s : State) → reads_first s ≡ true → holds_cer s ≡ false
reads_none Closed e = refl
reads_none WaitConnAck e = refl
reads_none WaitICea e = refl
reads_none _ e = cc

pub is_open_as_r : (h : Hold) → is_hold OpenAsR h ≡ true → h ≡ OpenAsR
is_open_as_r OpenAsR e = refl
is_open_as_r _ e = cc
