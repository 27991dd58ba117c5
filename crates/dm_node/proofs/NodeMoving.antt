-- One neighbour is told an event: what is held behind it, what it closes, and who is kept.
use Rattle.std.proofs.Common.{◌≡◌, inl, inr, ℕ, Bool, true, false, nat_eq, Option, None, Some, List, refl, sym, ap, ◌∙◌, subst}
use Rattle.std.proofs.Math.Bool.{or-false}
use Rattle.std.proofs.lemmas.Bool.{eqb-true, false_from_ne_true}
use Rattle.dm_base.specs.declared.node.Node.{Node}
use Rattle.dm_machine.specs.declared.connection.Conn.{Conn}
use Rattle.dm_node.specs.Calling.{Caller, answer_to}
use Rattle.dm_node.specs.Holding.{holds_it, holds_at, AreApart}
use Rattle.dm_node.specs.Policies.{Policy}
use Rattle.dm_node.specs.Telling.{IsAddressed, PeerIsTold, IsFree}
use Rattle.dm_peer.specs.declared.actions.Action.{Action}
use Rattle.dm_peer.specs.declared.peer.Peer.{Peer}
use Rattle.dm_peer.specs.Events.{PeerEvent, Arrived}
use Rattle.dm_peer.specs.Holding.{holds, names_conn, ClosedIsUnheld}
use Rattle.dm_peer.specs.Kept.{IsKept}
use Rattle.dm_slots.specs.Intakes.{Intakes, is_there, actions_close}
use Rattle.dm_slots.specs.Naming.{NamesThere}
use Rattle.dm_node.specs.NodeHeld.{AllHeldAreThere, AreKept}
use Rattle.dm_node.proofs.Basics.{two_truths}
use Rattle.dm_node.proofs.Closing.{CameOn, ClosesItsOwn, closes_as}
use Rattle.dm_node.proofs.Taking.{told_cases}

-- what is held behind it is there
pub held_told : (ps qs : List (Option Peer)) (i : ℕ) (e : PeerEvent) (actions : List Action) (f : Intakes)
    (told : PeerIsTold ps qs i e actions) →
    ((c : Conn) → holds c told.before ≡ false → names_conn e c ≡ false → holds c told.after ≡ false) →
    AllHeldAreThere ps f → NamesThere e f → AllHeldAreThere qs f
held_told ps qs i e actions f told others there named j c held =
    told_cases (λ o. holds_it c o ≡ true → is_there c.0 f ≡ true) ps qs i j e actions told
    (λ s now. at now (holds c told.before) (names_conn e c) refl refl) (λ un. there j c) held
  where
    at : holds c told.after ≡ true → (b n : Bool) → holds c told.before ≡ b → names_conn e c ≡ n → is_there c.0 f ≡ true
    at now true n before names = there i c (ap (holds_it c) told.was ∙ before)
    at now false true before names = named c names
    at now false false before names = absurd (two_truths (holds c told.after) now (others c before names))

-- nobody else holds a connection on which the event brings octets
abbrev pub IsHolderOf : List (Option Peer) → PeerEvent → ℕ → Type 0
IsHolderOf ps e i = (j : ℕ) (c : Conn) → CameOn e c → holds_at ps c j ≡ true → j ≡ i

pub came_there : (c d : Conn) (octets : List ℕ) → CameOn (Arrived c octets) d → c ≡ d
came_there c d octets (s, e) = cc e

pub octets_alone : (policy : Policy) (ps : List (Option Peer)) (c : Conn) (octets : List ℕ) (i : ℕ) → AreApart ps →
    IsAddressed policy ps c octets i → IsHolderOf ps (Arrived c octets) i
octets_alone policy ps c octets i apart is j d came held =
    let here : holds_at ps c j ≡ true = subst (λ x. holds_at ps x j ≡ true) (sym (came_there c d octets came)) held in
    elim is [
      | inl own ↦ apart.one j i c here own
      | inr strange ↦ absurd (two_truths (holds_at ps c j) here (strange.0 j))
    ]

-- what is closed nobody holds behind it
pub closed_told : ClosedIsUnheld → ClosesItsOwn → (ps qs : List (Option Peer)) (i : ℕ) (e : PeerEvent)
    (actions : List Action) → AreKept ps → AreApart ps → IsHolderOf ps e i → PeerIsTold ps qs i e actions →
    (c : Conn) → actions_close actions c.0 ≡ true → IsFree qs c
closed_told closed own ps qs i e actions kept apart alone told c closing j =
    told_cases (λ o. holds_it c o ≡ false) ps qs i j e actions told
    (λ s. closed told.before told.after e actions c keeps told.acts (sym (closes_as c actions) ∙ closing))
    (λ un. false_from_ne_true (holds_at ps c j) (other_holds un))
  where
    keeps : IsKept told.before
    keeps = kept i told.before told.was

    other_holds : (j ≡ i → ⊥) → holds_at ps c j ≡ true → ⊥
    other_holds un held = elim (own told.before told.after e actions c keeps told.acts closing) [
      | inl holding ↦ un (apart.one j i c held (ap (holds_it c) told.was ∙ holding))
      | inr came ↦ un (alone j c came held)
    ]

-- what a stranger's answer closes is his connection
answer_closes : (n : Node) (d : Conn) (call : Option Caller) (c : Conn) →
    actions_close (answer_to n d call) c.0 ≡ nat_eq d.0 c.0
answer_closes n d None c = or-false (nat_eq d.0 c.0)
answer_closes n d (Some call) c = or-false (nat_eq d.0 c.0)

pub closed_answer : (n : Node) (d : Conn) (call : Option Caller) (c : Conn) → actions_close (answer_to n d call) c.0 ≡ true →
    d ≡ c
closed_answer n d call c is = ap (λ m. record { 0 = m }) (eqb-true d.0 c.0 (sym (answer_closes n d call c) ∙ is))
