-- A policy makes one configuration for a host.
use Rattle.std.proofs.Common.{◌≡◌, inl, inr, ℕ, true, false, is_some, Option, IfSome, List, sym, ap, ◌∙◌, subst, true≢false, arith}
use Rattle.std.proofs.Props.{props}
use Rattle.dm_base.specs.Fit.{is_name}
use Rattle.dm_machine.specs.declared.connection.Conn.{Conn}
use Rattle.dm_node.specs.Calling.{Caller, caller_of}
use Rattle.dm_node.specs.Policies.{Policy, MakesFor, IsUnfit}
use Rattle.dm_node.specs.Strangers.{IsPermitted, IsForbidden}
use Rattle.dm_peer.specs.Hosts.{is_same_host}
use Rattle.dm_peer.specs.declared.config.Config.{Config}
use Rattle.dm_peer.specs.declared.peer.Peer.{Peer}
use mathlib.Core.HLevel.{is_prop→PathP}
use mathlib.Core.Path.{contract'}
use Rattle.dm_node.proofs.Basics.{one_some, one_inside}

-- configurations of the same parts are the same: each has the base dictionary
same_config : (k l : Config) → k.node ≡ l.node → k.peer ≡ l.peer → k.first_id ≡ l.first_id →
    k.compares ≡ l.compares → k ≡ l
same_config k l node peer first_id compares =
    let based = sym (contract' k.based) ∙ contract' l.based in
    λ i. record {
      node = node i;
      peer = peer i;
      first_id = first_id i;
      compares = compares i;
      dictionary = (based i).0;
      fit_peer = is_prop→PathP (λ j. is_name (peer j) ≡ true) (λ j. hlevel props) k.fit_peer l.fit_peer i;
      other_host = is_prop→PathP (λ j. is_same_host (node j).host (peer j) ≡ false) (λ j. hlevel props) k.other_host
          l.other_host i;
      based = (based i).1;
    }

-- one that is made for a host is that of the host's template
one_made : (policy : Policy) (k l : Config) → k.peer ≡ l.peer → MakesFor policy k.peer k → MakesFor policy l.peer l →
    k ≡ l
one_made policy k l same makes also =
    let template : makes.template ≡ also.template =
    one_some makes.template also.template (sym makes.chosen ∙ ap policy.template same ∙ also.chosen) in
    same_config k l (makes.made.node ∙ ap (λ (t : Config). t.node) template ∙ sym also.made.node) same
    (makes.made.first_id ∙ ap (λ (t : Config). t.first_id) template ∙ sym also.made.first_id)
    (makes.made.compares ∙ ap (λ (t : Config). t.compares) template ∙ sym also.made.compares)

-- the host that calls is permitted in one way
pub one_permitted : (policy : Policy) (ps : List (Option Peer)) (c : Conn) (octets : List ℕ) (k l : Config) →
    IsPermitted policy ps c octets k → IsPermitted policy ps c octets l → k ≡ l
one_permitted policy ps c octets k l h g =
    one_made policy k l
    (sym h.unknown.named
    ∙ ap (λ (x : Caller). x.1)
    (one_inside (caller_of octets) h.unknown.call g.unknown.call h.unknown.calls g.unknown.calls)
    ∙ g.unknown.named) h.made g.made

-- and isn't forbidden
pub permitted_or_not : (policy : Policy) (ps : List (Option Peer)) (c : Conn) (octets : List ℕ) (k : Config) →
    IsPermitted policy ps c octets k → IsForbidden policy ps c octets → ⊥
permitted_or_not policy ps c octets k h forbidden =
    elim (forbidden k.peer h.unknown) [
      | inl full ↦ omega (arith, h.room, full)
      | inr none ↦ unfit (subst (λ (o : Option Config). IfSome o (λ t. IsUnfit t k.peer)) h.made.chosen none)
    ]
  where
    unfit : IsUnfit h.made.template k.peer → ⊥
    unfit is = true≢false (sym is ∙ ap is_some h.made.made.fits)
