-- Whom an input concerns: the event that it is, and the message that was heard.
use Rattle.std.proofs.Common.{◌≡◌, ℕ, Bool, true, false, ◌==◌, Option, None, Some, List, refl, sym, ap, ◌∙◌}
use Rattle.dm_wire.specs.declared.message.Message.{Message}
use Rattle.dm_wire.specs.Whole.{message_in}
use Rattle.dm_machine.specs.declared.connection.Conn.{Conn}
use Rattle.dm_machine.specs.declared.inputs.Word.{Word}
use Rattle.dm_machine.specs.declared.inputs.Word.TheVariants.{Unreadable}
use Rattle.dm_machine.specs.Connection.{Concern, NamesAnother, StartsIt, AcksIt, NacksIt, EndsIt, HeardOnIt, if_named, concern_of}
use Rattle.dm_peer.specs.declared.peer.Peer.{Peer}
use Rattle.dm_peer.specs.Events.{PeerEvent, Start, Ack, Nack, Arrived, Gone}
use Rattle.dm_peer.specs.Said.{Heard, heard_in, word_heard}
use Rattle.dm_peer.specs.Acts.{input_of, is_dropped}
use Rattle.dm_history.proofs.SameConn.{same_conn}
use Rattle.dm_history.proofs.Turning.{AreRead}

named : (d c : Conn) (k wanted : Concern) (b : Bool) → (d.0 == c.0) ≡ b → if_named b k ≡ wanted →
    (NamesAnother ≡ wanted → ⊥) → (d ≡ c) × (k ≡ wanted)
named d c k wanted true is e other = (same_conn d c is, e)
named d c k wanted false is e other = absurd (other e)

heard_on : (e : PeerEvent) (h : Option Heard) (c : Conn) (w : Word) → concern_of (input_of e h) c ≡ HeardOnIt w →
    (s : List ℕ) × (e ≡ Arrived c s) × (word_heard h ≡ w)
heard_on (Arrived d s) h c w k =
    let n = named d c (HeardOnIt (word_heard h)) (HeardOnIt w) (d.0 == c.0) refl k (λ x. cc x) in
    (s, ap (λ y. Arrived y s) n.0, cc n.1)
heard_on (Start d) h c w k = absurd (cc (named d c StartsIt (HeardOnIt w) (d.0 == c.0) refl k (λ x. cc x)).1)
heard_on (Ack d) h c w k = absurd (cc (named d c AcksIt (HeardOnIt w) (d.0 == c.0) refl k (λ x. cc x)).1)
heard_on (Nack d) h c w k = absurd (cc (named d c NacksIt (HeardOnIt w) (d.0 == c.0) refl k (λ x. cc x)).1)
heard_on (Gone d) h c w k = absurd (cc (named d c EndsIt (HeardOnIt w) (d.0 == c.0) refl k (λ x. cc x)).1)
heard_on _ h c w k = absurd cc

pub acked_by : (e : PeerEvent) (h : Option Heard) (c : Conn) → concern_of (input_of e h) c ≡ AcksIt → e ≡ Ack c
acked_by (Ack d) h c k = ap Ack (named d c AcksIt AcksIt (d.0 == c.0) refl k (λ x. cc x)).0
acked_by (Arrived d s) h c k =
    absurd (cc (named d c (HeardOnIt (word_heard h)) AcksIt (d.0 == c.0) refl k (λ x. cc x)).1)
acked_by (Start d) h c k = absurd (cc (named d c StartsIt AcksIt (d.0 == c.0) refl k (λ x. cc x)).1)
acked_by (Nack d) h c k = absurd (cc (named d c NacksIt AcksIt (d.0 == c.0) refl k (λ x. cc x)).1)
acked_by (Gone d) h c k = absurd (cc (named d c EndsIt AcksIt (d.0 == c.0) refl k (λ x. cc x)).1)
acked_by _ h c k = absurd cc

-- the message of a word that was heard on a connection
pub record WordCame (p : Peer) (e : PeerEvent) (h : Option Heard) (c : Conn) (w : Word) : Type 0 where
  pub octets : List ℕ
  pub message : Message
  pub came : e ≡ Arrived c octets
  pub spelled : message_in octets ≡ Some message
  pub heard : h ≡ Some (heard_in p.config message)
  pub word : (heard_in p.config message).word ≡ w
  pub awaited : is_dropped p c message.header ≡ false

pub came_by : (p : Peer) (e : PeerEvent) (h : Option Heard) (c : Conn) (w : Word) → AreRead p e h →
    (Unreadable ≡ w → ⊥) → (s : List ℕ) → e ≡ Arrived c s → word_heard h ≡ w → WordCame p e h c w
came_by p e None c w read differs s is word = absurd (differs word)
came_by p e (Some said) c w read differs s is word =
    let conn : read.conn ≡ c = cc (read.came, is) in
    record {
      octets = read.octets;
      message = read.message;
      came = read.came ∙ ap (λ d. Arrived d read.octets) conn;
      spelled = read.spelled;
      heard = ap Some read.meant;
      word = sym (ap (λ h. h.word) read.meant) ∙ word;
      awaited = ap (λ d. is_dropped p d read.message.header) (sym conn) ∙ read.awaited;
    }

pub came_on : (p : Peer) (e : PeerEvent) (h : Option Heard) (c : Conn) (w : Word) → AreRead p e h →
    (Unreadable ≡ w → ⊥) → concern_of (input_of e h) c ≡ HeardOnIt w → WordCame p e h c w
came_on p e h c w read differs k =
    let o = heard_on e h c w k in
    came_by p e h c w read differs o.0 o.1 o.2
