-- Each connection is its holder's, whatever is done.
use Rattle.std.proofs.Common.{◌≡◌, ℕ, true, false, nat_eq, cond, Option, None, Some, List, Result, Ok, Err, OnOk, OnErr, refl, sym, ap, ◌∙◌, subst}
use Rattle.std.proofs.Math.ListN.{set}
use Rattle.dm_machine.specs.declared.connection.Conn.{Conn}
use Rattle.dm_peer.specs.declared.actions.Action.{Action}
use Rattle.dm_peer.specs.declared.config.Config.{Config}
use Rattle.dm_peer.specs.declared.peer.Peer.{Peer}
use Rattle.dm_slots.specs.Held.{Owners, disowned_by, closed_by}
use Rattle.dm_slots.specs.Intakes.{actions_close}
use Rattle.dm_node.specs.Adding.{with_new}
use Rattle.dm_node.specs.Holding.{holds_it, holds_at, AreApart}
use Rattle.dm_node.specs.Owning.{has, AreOwned}
use Rattle.dm_node.specs.Telling.{IsFree}
use Rattle.dm_node.specs.declared.owners.Holding.{Holding}
use Rattle.dm_node.proofs.NodeStaying.{by_number}
use Rattle.dm_node.proofs.Owned.{owned_grown, owned_less, emptied}
use Rattle.dm_node.proofs.Rostered.{apart_set, resettled, set_free}

-- owners that stay
pub owned_same : (ps : List (Option Peer)) (f g : Owners) → g ≡ f → AreOwned f ps → AreOwned g ps
owned_same ps f g is owned = subst (λ h. AreOwned h ps) (sym is) owned

-- one that nobody holds may go
pub owned_shut : (ps : List (Option Peer)) (d : Conn) (f g : Owners) → IsFree ps d → g ≡ disowned_by (Some d) f →
    AreOwned f ps → AreOwned g ps
owned_shut ps d f g free is owned =
    owned_less ps f g (nat_eq d.0) owned (λ c e. subst (IsFree ps) (sym (by_number d c e)) free) (λ c. ap (λ h. h c) is)

-- and so may what is closed
pub owned_left : (ps : List (Option Peer)) (actions : List Action) (f g : Owners) →
    ((c : Conn) → actions_close actions c.0 ≡ true → IsFree ps c) → g ≡ closed_by actions f → AreOwned f ps →
    AreOwned g ps
owned_left ps actions f g free is owned =
    owned_less ps f g (actions_close actions) owned free (λ c. ap (λ h. h c) is)

-- a neighbour more holds nothing
pub owned_added : {T E : Type 0} (r : Result T E) (ps qs : List (Option Peer)) (k : Config) (f : Owners) →
    OnOk r (qs ≡ with_new ps k) → OnErr r (qs ≡ ps) → AreOwned f ps → AreOwned f qs
owned_added (Ok v) ps qs k f ok err owned = subst (AreOwned f) (sym ok) (owned_grown ps _ k.first_id f refl owned)
owned_added (Err e) ps qs k f ok err owned = subst (AreOwned f) (sym err) owned

-- nor does one that is gone, or was set back
pub owned_set : (ps qs : List (Option Peer)) (i : ℕ) (y : Option Peer) (before : Holding) (f g : Owners) →
    qs ≡ set ps i y → ((c : Conn) → holds_it c y ≡ false) → AreApart ps → ((c : Conn) → has before c ≡ holds_at ps c i) →
    ((c : Conn) → g c.0 ≡ cond (has before c) None (f c.0)) → AreOwned f ps → AreOwned g qs
owned_set ps qs i y before f g is free apart held gone owned =
    emptied ps qs i before f g (apart_set ps qs i y is free apart) (resettled ps qs i y before is held)
    (λ c. ap (λ l. holds_at l c i) is ∙ set_free ps i y c (free c)) owned gone
