-- Whose the connections are behind an event.
use Rattle.std.proofs.Common.{◌≡◌, inl, inr, ℕ, false, Option, None, Some, IfSome, IfNone, List, sym, ap, ◌∙◌}
use Rattle.dm_base.specs.declared.node.Node.{Node}
use Rattle.dm_machine.specs.declared.connection.Conn.{Conn}
use Rattle.dm_peer.specs.declared.actions.Action.{Action}
use Rattle.dm_peer.specs.declared.peer.Peer.{Peer}
use Rattle.dm_peer.specs.declared.config.Config.{Config}
use Rattle.dm_node.specs.Holding.{peer_at, holds_it, holds_at}
use Rattle.dm_node.specs.Neighbourhoods.{IsNeighbourhood}
use Rattle.dm_node.specs.NodeStates.{concerned_in}
use Rattle.dm_node.specs.Owning.{has, IsResettled, IsReowned}
use Rattle.dm_node.specs.Policies.{Policy}
use Rattle.dm_node.specs.Strangers.{Joins, NodeMoves, NodeIsTold}
use Rattle.dm_node.specs.Telling.{Concerns, IsAddressed, IsStrangeCer}
use Rattle.dm_node.specs.declared.events.NodeEvent.{NodeEvent}
use Rattle.dm_node.specs.declared.owners.Holding.{Holding}
use Rattle.dm_node.proofs.Concerned.{one_is_concerned}
use Rattle.dm_node.proofs.Newcomers.{peers_stay, else_at}
use Rattle.dm_node.proofs.NodeKnowing.{told_event, untold_event}
use Rattle.dm_node.proofs.Places.{nobody_behind}

-- what was looked at is what whom an event concerns holds, and nothing where it concerns nobody
pub record IsHoldingOf (concerns : ℕ → Type 0) (ps : List (Option Peer)) (held : Holding) : Type 0 where
  pub told : (i : ℕ) → concerns i → (c : Conn) → has held c ≡ holds_at ps c i
  pub nobody : ((i : ℕ) → concerns i → ⊥) → (c : Conn) → has held c ≡ false

pub held_looked : (policy : Policy) (ps : List (Option Peer)) (e : NodeEvent) (who : Option ℕ) (held : Holding) →
    IsNeighbourhood ps → IfSome who (Concerns policy ps e) → IfNone who ((i : ℕ) → Concerns policy ps e i → ⊥) →
    ((c : Conn) → has held c ≡ holds_it c (concerned_in ps who)) → IsHoldingOf (Concerns policy ps e) ps held
held_looked policy ps e None held apart concerned nobody is = record {
  told = λ i one. absurd (nobody i one);
  nobody = λ none. is;
}
held_looked policy ps e (Some k) held apart concerned nobody is = record {
  told = λ i one c. is c ∙ ap (holds_at ps c) (one_is_concerned policy ps e k i apart concerned one);
  nobody = λ none. absurd (none k concerned);
}

joined : (ps qs : List (Option Peer)) (i : ℕ) (c : Conn) (octets : List ℕ) (actions : List Action) (config : Config)
    (held : Holding) → ((d : Conn) → has held d ≡ false) → Joins ps qs i c octets actions config →
    IsResettled ps qs i held
joined ps qs i c octets actions config held free joins = record {
  held = λ d. free d ∙ sym (ap (holds_it d) (ap (peer_at ps) joins.number ∙ nobody_behind ps));
  others = λ j un. else_at ps qs i j c octets actions config joins un;
}

pub reowned_moved : (policy : Policy) (c : Conn) (octets : List ℕ) (n : Node) (ps qs : List (Option Peer))
    (who : Option ℕ) (actions : List Action) (held : Holding) → IsHoldingOf (IsAddressed policy ps c octets) ps held →
    NodeMoves policy c octets n ps who actions qs → IsReowned ps qs who held
reowned_moved policy c octets n ps qs (Some i) actions held looked (inl (concerned, told)) =
    record { held = looked.told i concerned; others = told.others }
reowned_moved policy c octets n ps qs (Some i) actions held looked (inr (config, permitted, joins)) =
    joined ps qs i c octets actions config held (looked.nobody permitted.unknown.nobody) joins
reowned_moved policy c octets n ps qs None actions held looked m = peers_stay policy c octets n ps qs actions m.1

pub reowned_told : (policy : Policy) (e : NodeEvent) (n : Node) (ps qs : List (Option Peer)) (who : Option ℕ)
    (actions : List Action) (held : Holding) → (IsStrangeCer e → ⊥) → IsHoldingOf (Concerns policy ps e) ps held →
    NodeIsTold policy e n ps who actions qs → IsReowned ps qs who held
reowned_told policy e n ps qs (Some i) actions held calm looked m =
    let told = told_event policy e n ps qs i actions calm m in
    record { held = looked.told i told.0; others = told.1.others }
reowned_told policy e n ps qs None actions held calm looked m = untold_event policy e n ps qs actions m
