-- Neighbours that come, go or are set back: what is held is there.
use Rattle.std.proofs.Common.{◌≡◌, ℕ, true, false, cond, ◌||◌, is_some, Option, None, List, refl, sym, ap, ◌∙◌}
use Rattle.std.proofs.Math.ListN.{set}
use Rattle.std.proofs.Math.Path.{fun_ext}
use Rattle.std.proofs.lemmas.Bool.{cond-false, false_from_ne_true}
use Rattle.dm_history.specs.History.{new_peer}
use Rattle.dm_machine.specs.declared.connection.Conn.{Conn}
use Rattle.dm_node.specs.Adding.{with_new}
use Rattle.dm_node.specs.Holding.{peer_at, holds_it, holds_at, AreApart}
use Rattle.dm_peer.specs.Places.{is_on}
use Rattle.dm_peer.specs.declared.config.Config.{Config}
use Rattle.dm_peer.specs.declared.peer.Peer.{Peer}
use Rattle.dm_slots.specs.Intakes.{Intakes, is_there}
use Rattle.dm_node.specs.NodeHeld.{AllHeldAreThere}
use Rattle.dm_node.specs.NodeOrders.{left_by_peer}
use Rattle.dm_node.proofs.Basics.{two_truths}
use Rattle.dm_node.proofs.Growing.{still}
use Rattle.dm_node.proofs.Owned.{two}
use Rattle.dm_node.proofs.Rostered.{less_set, set_free}

-- a neighbour more holds nothing
pub held_added : (ps qs : List (Option Peer)) (config : Config) → qs ≡ with_new ps config →
    (c : Conn) (j : ℕ) → holds_at qs c j ≡ true → holds_at ps c j ≡ true
held_added ps qs config is c j held =
    still ps (new_peer config config.first_id) config.first_id c j refl (ap (λ l. holds_at l c j) (sym is) ∙ held)

-- what the one who is replaced held goes, and what others hold is there
pub held_set : (ps qs : List (Option Peer)) (i : ℕ) (y : Option Peer) (f g : Intakes) → qs ≡ set ps i y →
    g ≡ left_by_peer (peer_at ps i) f → AreApart ps → ((c : Conn) → holds_it c y ≡ false) → AllHeldAreThere ps f →
    AllHeldAreThere qs g
held_set ps qs i y f g is left apart free there j c held =
    ap (λ h. is_there c.0 h) left
    ∙ ap is_some (cond-false (holds_at ps c i) None (f c.0) (false_from_ne_true (holds_at ps c i) not_his))
    ∙ there j c before
  where
    now : holds_at (set ps i y) c j ≡ true
    now = ap (λ l. holds_at l c j) (sym is) ∙ held

    before : holds_at ps c j ≡ true
    before = less_set ps i y free j c now

    not_his : holds_at ps c i ≡ true → ⊥
    not_his his =
        let here : j ≡ i = apart.one j i c before his in
        two_truths (holds_at (set ps i y) c i) (ap (holds_at (set ps i y) c) (sym here) ∙ now)
        (set_free ps i y c (free c))

-- what is shut one by one is what a peer held
pub shut_both : (own other : Option Conn) (p : Option Peer) (f g h : Intakes) →
    ((c : Conn) → holds_it c p ≡ (is_on own c || is_on other c)) →
    ((c : ℕ) → g c ≡ cond (is_on own (record { 0 = c })) None (f c)) →
    ((c : ℕ) → h c ≡ cond (is_on other (record { 0 = c })) None (g c)) → h ≡ left_by_peer p f
shut_both own other p f g h holds first second = fun_ext (λ c.
    second c ∙ ap (cond (is_on other (record { 0 = c })) None) (first c)
    ∙ two (is_on own (record { 0 = c })) (is_on other (record { 0 = c })) (f c)
    ∙ ap (λ b. cond b None (f c)) (sym (holds (record { 0 = c }))))
