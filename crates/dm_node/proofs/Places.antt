-- The neighbours with one place changed, or one more behind them.
use Rattle.std.proofs.Common.{◌≡◌, ℕ, zero, suc, List, [], ◌∷◌, length, get_or, Option, None, Some, IsSome, ◌++◌, ◌⊎◌, inl, inr, refl, sym, ap, ◌∙◌, subst}
use Rattle.std.proofs.Math.ListN.{set}
use Rattle.std.proofs.lemmas.Bool.{cases_eq}
use Rattle.dm_peer.specs.declared.peer.Peer.{Peer}
use Rattle.dm_node.specs.Holding.{peer_at, host_of, host_at}

pub set_here : (ps : List (Option Peer)) (i : ℕ) (y : Option Peer) → IsSome (peer_at ps i) → peer_at (set ps i y) i ≡ y
set_here [] i y h = cc
set_here (x ∷ xs) zero y h = refl
set_here (x ∷ xs) (suc i) y h = set_here xs i y h

pub set_else : (ps : List (Option Peer)) (i j : ℕ) (y : Option Peer) → (j ≡ i → ⊥) →
    peer_at (set ps i y) j ≡ peer_at ps j
set_else [] i j y h = refl
set_else (x ∷ xs) zero zero y h = absurd (h refl)
set_else (x ∷ xs) zero (suc j) y h = refl
set_else (x ∷ xs) (suc i) zero y h = refl
set_else (x ∷ xs) (suc i) (suc j) y h = set_else xs i j y (λ e. h (ap suc e))

-- what is read at a place where somebody is
pub found : (ps : List (Option Peer)) (i : ℕ) (x : Option Peer) (p : Peer) → x ≡ get_or ps i x → x ≡ Some p →
    IsSome (peer_at ps i) → peer_at ps i ≡ Some p
found [] i x p at is h = cc
found (z ∷ zs) zero x p at is h = sym at ∙ is
found (z ∷ zs) (suc i) x p at is h = found zs i x p at is h

-- the one behind the others, and they
pub grown : (ps : List (Option Peer)) (y : Option Peer) (j : ℕ) →
    (peer_at (ps ++ y ∷ []) j ≡ peer_at ps j) ⊎ ((j ≡ length ps) × (peer_at (ps ++ y ∷ []) j ≡ y))
grown [] y zero = inr (refl, refl)
grown [] y (suc j) = inl refl
grown (x ∷ xs) y zero = inl refl
grown (x ∷ xs) y (suc j) = elim (grown xs y j) [ inl same ↦ inl same | inr last ↦ inr (ap suc last.0, last.1) ]

pub grown_cases : (Q : Option Peer → Type 0) (ps : List (Option Peer)) (y : Option Peer) (j : ℕ) →
    (j ≡ length ps → Q y) → Q (peer_at ps j) → Q (peer_at (ps ++ y ∷ []) j)
grown_cases Q ps y j last before =
    elim (grown ps y j) [ inl same ↦ subst Q (sym same) before | inr l ↦ subst Q (sym l.1) (last l.0) ]

pub grown_else : (ps : List (Option Peer)) (y : Option Peer) (j : ℕ) → (j ≡ length ps → ⊥) →
    peer_at (ps ++ y ∷ []) j ≡ peer_at ps j
grown_else ps y j un = grown_cases (λ o. o ≡ peer_at ps j) ps y j (λ last. absurd (un last)) refl

-- who is there stays there
pub kept_at : (ps : List (Option Peer)) (y : Option Peer) (j : ℕ) → IsSome (peer_at ps j) →
    peer_at (ps ++ y ∷ []) j ≡ peer_at ps j
kept_at [] y j h = cc
kept_at (x ∷ xs) y zero h = refl
kept_at (x ∷ xs) y (suc j) h = kept_at xs y j h

-- what is read at a changed place: nobody where there is no such place
pub set_or_none : (ps : List (Option Peer)) (i : ℕ) (y : Option Peer) →
    (peer_at (set ps i y) i ≡ y) ⊎ ((peer_at (set ps i y) i ≡ None) × (peer_at ps i ≡ None))
set_or_none [] i y = inr (refl, refl)
set_or_none (x ∷ xs) zero y = inl refl
set_or_none (x ∷ xs) (suc i) y = set_or_none xs i y

-- so what holds of who is put in, and of who was there, holds of whoever is there
pub set_cases : (Q : Option Peer → Type 0) (ps : List (Option Peer)) (i j : ℕ) (y : Option Peer) → (j ≡ i → Q y) →
    Q (peer_at ps j) → Q (peer_at (set ps i y) j)
set_cases Q ps i j y here there =
    elim (cases_eq j i) [
      | inl s ↦ elim (set_or_none ps i y) [
        | inl put ↦ subst Q (sym (ap (peer_at (set ps i y)) s ∙ put)) (here s)
        | inr none ↦ subst Q (ap (peer_at ps) s ∙ none.1 ∙ sym (ap (peer_at (set ps i y)) s ∙ none.0)) there
      ]
      | inr un ↦ subst Q (sym (set_else ps i j y un)) there
    ]

-- who has the host of who was there is put in
pub hosts_set : (ps : List (Option Peer)) (i : ℕ) (y : Option Peer) → host_of y ≡ host_at ps i → (j : ℕ) →
    host_at (set ps i y) j ≡ host_at ps j
hosts_set ps i y same j =
    set_cases (λ o. host_of o ≡ host_at ps j) ps i j y (λ s. same ∙ sym (ap (host_at ps) s)) refl

-- the one behind the others
pub grown_here : (ps : List (Option Peer)) (y : Option Peer) → peer_at (ps ++ y ∷ []) (length ps) ≡ y
grown_here [] y = refl
grown_here (x ∷ xs) y = grown_here xs y

pub longer : (ps : List (Option Peer)) (y : Option Peer) → length (ps ++ y ∷ []) ≡ suc (length ps)
longer [] y = refl
longer (x ∷ xs) y = ap suc (longer xs y)

-- neighbours that are the same one by one are the same
pub each_same : (qs rs : List (Option Peer)) → length qs ≡ length rs → ((j : ℕ) → peer_at qs j ≡ peer_at rs j) → qs ≡ rs
each_same [] [] count same = refl
each_same [] (r ∷ rs) count same = absurd (cc count)
each_same (q ∷ qs) [] count same = absurd (cc count)
each_same (q ∷ qs) (r ∷ rs) count same =
    let first : q ≡ r = same 0 in
    let rest : length qs ≡ length rs = cc count in
    ap (λ x. x ∷ qs) first ∙ ap (λ l. r ∷ l) (each_same qs rs rest (λ j. same (suc j)))

-- nobody is behind the others yet
pub nobody_behind : (ps : List (Option Peer)) → peer_at ps (length ps) ≡ None
nobody_behind [] = refl
nobody_behind (x ∷ xs) = nobody_behind xs
