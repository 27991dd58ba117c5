-- A neighbour that holds nothing, with a host of its own, is put behind the others.
use Rattle.std.proofs.Common.{◌≡◌, ℕ, true, false, List, Option, [], ◌∷◌, ◌++◌, Some, sym, ap, ◌∙◌}
use Rattle.dm_base.specs.Before.{lower}
use Rattle.dm_machine.specs.declared.connection.Conn.{Conn}
use Rattle.dm_peer.specs.declared.config.Config.{Config}
use Rattle.dm_peer.specs.declared.peer.Peer.{Peer}
use Rattle.dm_peer.specs.declared.standing.Standing.{Standing}
use Rattle.dm_history.specs.History.{new_peer}
use Rattle.dm_peer.specs.After.{fresh_standing}
use Rattle.dm_machine.specs.Connection.{hold_of}
use Rattle.dm_node.specs.Holding.{is_held, holds, holds_it, holds_at, host_of, host_at, AreUnlike}
use Rattle.dm_node.proofs.Basics.{two_truths}
use Rattle.dm_node.proofs.Places.{grown_cases}

pub fresh_holds : (y : Peer) (n : ℕ) (c : Conn) → y.standing ≡ fresh_standing n → holds c y ≡ false
fresh_holds y n c is = ap (λ (s : Standing). is_held (hold_of s.core c)) is

pub still : (ps : List (Option Peer)) (y : Peer) (n : ℕ) (c : Conn) (j : ℕ) → y.standing ≡ fresh_standing n →
    holds_at (ps ++ Some y ∷ []) c j ≡ true →
    holds_at ps c j ≡ true
still ps y n c j is =
    grown_cases (λ o. holds_it c o ≡ true → holds_at ps c j ≡ true) ps (Some y) j
    (λ last held. absurd (two_truths (holds c y) held (fresh_holds y n c is))) (λ held. held)

pub unlike_grown : (ps : List (Option Peer)) (y : Peer) (host : List ℕ) → y.config.peer ≡ host →
    ((j : ℕ) → host_at ps j ≡ Some (lower host) → ⊥) → AreUnlike ps → AreUnlike (ps ++ Some y ∷ [])
unlike_grown ps y host is none unlike = record {
  one = λ i j h.
      grown_cases (λ o. host_of o ≡ Some h → host_at (ps ++ Some y ∷ []) j ≡ Some h → i ≡ j) ps (Some y) i
      (λ last p. grown_cases (λ o. host_of o ≡ Some h → i ≡ j) ps (Some y) j (λ also q. last ∙ sym also)
      (λ q. absurd (none j (q ∙ sym p ∙ own))))
      (λ p. grown_cases (λ o. host_of o ≡ Some h → i ≡ j) ps (Some y) j (λ also q. absurd (none i (p ∙ sym q ∙ own)))
      (unlike.one i j h p));
}
  where
    own : host_of (Some y) ≡ Some (lower host)
    own = ap (λ z. Some (lower z)) is

-- what a new peer is
pub made : (y : Peer) (k : Config) → y.config ≡ k → y.standing ≡ fresh_standing k.first_id → y ≡ new_peer k k.first_id
made y k p q =
    ap (λ c. record { config = c; standing = y.standing }) p ∙ ap (λ s. record { config = k; standing = s }) q
