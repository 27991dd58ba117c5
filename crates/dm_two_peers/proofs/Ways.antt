-- What a direction of a link carries: what was submitted is what was handed up and the rest.
use Rattle.std.proofs.Common.{◌≡◌, Bool, true, false, if◌then◌else◌, List, [], ◌∷◌, ◌++◌, refl, ap}
use Rattle.dm_two_peers.specs.Links.{LinkPhase, End, Mark, NoMark}
use Rattle.dm_two_peers.specs.Facts.{is_shut}
use Rattle.dm_two_peers.specs.Delivery.{apps}
use Rattle.dm_two_peers.proofs.Hearing.{may_hear}

-- what is left is what is under way, and, of a direction that has its disconnect after a loss, what was dropped
pub record Under {M : Type 0} (is_app : M → Bool) (lost : Bool) (messages : List M) (mark : Mark)
    (rest : List M) : Type 0 where
  pub tail : List M
  pub is : rest ≡ apps is_app messages ++ tail
  pub unmarked : mark ≡ NoMark → tail ≡ []
  pub sure : lost ≡ false → tail ≡ []

-- a direction to an end, with the other end, and whether the node at it is done
pub record Way {M : Type 0} (is_app : M → Bool) (lost : Bool) (p : LinkPhase) (own other : End) (messages : List M)
    (mark : Mark) (over : Bool) (said up : List M) : Type 0 where
  pub rest : List M
  pub whole : said ≡ up ++ rest
  pub under : may_hear p own over ≡ true → Under is_app lost messages mark rest
  pub marks : lost ≡ false → is_shut other ≡ false → mark ≡ NoMark

pub apps_append : {M : Type 0} (is_app : M → Bool) (xs ys : List M) →
    apps is_app (xs ++ ys) ≡ apps is_app xs ++ apps is_app ys
apps_append is_app [] ys = refl
apps_append is_app (x ∷ xs) ys = by_test (is_app x) (apps_append is_app xs ys)
  where
    by_test : (b : Bool) → apps is_app (xs ++ ys) ≡ apps is_app xs ++ apps is_app ys →
        (if b then x ∷ apps is_app (xs ++ ys) else apps is_app (xs ++ ys))
        ≡ (if b then x ∷ apps is_app xs else apps is_app xs) ++ apps is_app ys
    by_test true h = ap (λ zs. x ∷ zs) h
    by_test false h = h
