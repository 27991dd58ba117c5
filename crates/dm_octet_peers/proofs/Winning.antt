-- Of two that are configured for each other one wins.
use Rattle.std.proofs.Common.{◌≡◌, ℕ, Bool, true, false, not, List, [], ◌∷◌, nat_lt, if◌then◌else◌, refl, sym, ap, ◌∙◌, arith}
use Rattle.std.proofs.lemmas.Bool.Decides.{nat_tests}
use Rattle.dm_base.specs.Before.{lower, order_of_hosts}
use Rattle.std.specs.declared.cmp.Ordering.TheVariants.{Less, Greater}
use Rattle.dm_peer.specs.declared.config.Config.{Config}
use Rattle.dm_peer.specs.Configs.{wins}
use Rattle.dm_peer.specs.Hosts.{is_equal, is_greater}
use Rattle.dm_octet_peers.specs.Talking.{ArePaired}

neither : (x y : ℕ) → nat_lt x y ≡ false → nat_lt y x ≡ false → x ≡ y
neither x y e g = grind (arith, nat_tests)

not_both : (x y : ℕ) → nat_lt x y ≡ true → nat_lt y x ≡ true → ⊥
not_both x y e g = grind (arith, nat_tests)

-- texts of which neither comes before the other are equal
same_text : (s t : List ℕ) → is_equal (order_of_hosts s t) ≡ true → s ≡ t
same_text [] [] e = refl
same_text [] (y ∷ t) e = cc
same_text (x ∷ s) [] e = cc
same_text (x ∷ s) (y ∷ t) e = by_first (nat_lt x y) (nat_lt y x) refl refl e (same_text s t)
  where
    by_first : (b c : Bool) → nat_lt x y ≡ b → nat_lt y x ≡ c →
        is_equal (if b then Less else (if c then Greater else order_of_hosts s t)) ≡ true →
        (is_equal (order_of_hosts s t) ≡ true → s ≡ t) → x ∷ s ≡ y ∷ t
    by_first true c f g e more = cc
    by_first false true f g e more = cc
    by_first false false f g e more = cc (neither x y f g, more e)

-- else one of them comes before the other
one_greater : (s t : List ℕ) → is_equal (order_of_hosts s t) ≡ false →
    is_greater (order_of_hosts s t) ≡ not (is_greater (order_of_hosts t s))
one_greater [] [] e = cc
one_greater [] (y ∷ t) e = refl
one_greater (x ∷ s) [] e = refl
one_greater (x ∷ s) (y ∷ t) e = by_first (nat_lt x y) (nat_lt y x) refl refl e (one_greater s t)
  where
    by_first : (b c : Bool) → nat_lt x y ≡ b → nat_lt y x ≡ c →
        is_equal (if b then Less else (if c then Greater else order_of_hosts s t)) ≡ false →
        (is_equal (order_of_hosts s t) ≡ false → is_greater (order_of_hosts s t) ≡ not (is_greater (order_of_hosts t s))) →
        is_greater (if b then Less else (if c then Greater else order_of_hosts s t))
        ≡ not (is_greater (if c then Less else (if b then Greater else order_of_hosts t s)))
    by_first true true f g e more = absurd (not_both x y f g)
    by_first true false f g e more = refl
    by_first false true f g e more = refl
    by_first false false f g e more = more e

pub one_wins : (a b : Config) → ArePaired a b → wins a ≡ not (wins b)
one_wins a b paired =
    let left = same_text (lower a.node.host) (lower b.peer) paired.left in
    let right = same_text (lower b.node.host) (lower a.peer) paired.right in
    one_greater (lower a.node.host) (lower a.peer) a.other_host
    ∙ ap (λ s. not (is_greater (order_of_hosts (lower a.peer) s))) left
    ∙ ap (λ s. not (is_greater (order_of_hosts s (lower b.peer)))) (sym right)
