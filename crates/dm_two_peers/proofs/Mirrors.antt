-- A link as its two sides see it.
use Rattle.std.proofs.Common.{◌≡◌, List, refl, ap, ◌∙◌}
use Rattle.dm_two_peers.specs.Links.{Side, A, B, flip, opens, Link, View, view_of, link_of, by_side}
use Rattle.dm_two_peers.specs.Worlds.{World, peer_on, with_peer}
use Rattle.dm_two_peers.specs.Happens.{own_view}
use Rattle.dm_two_peers.proofs.Lists.{view_link}
use Rattle.dm_two_peers.proofs.Pairs.{mirror}

-- the two views of a link
pub mirrored : {M : Type 0} (t o : Side) (l : Link M) → view_of (opens (flip t) o) l ≡ mirror (view_of (opens t o) l)
mirrored A A l = refl
mirrored A B l = refl
mirrored B A l = refl
mirrored B B l = refl

mirror_link : {M : Type 0} (t o : Side) (v : View M) →
    view_of (opens t o) (link_of (opens (flip t) o) o v) ≡ mirror v
mirror_link A A v = refl
mirror_link A B v = refl
mirror_link B A v = refl
mirror_link B B v = refl

pub view_other : {M : Type 0} (t : Side) (f : View M → View M) (l : Link M) →
    own_view t (by_side (flip t) f l) ≡ mirror (f (mirror (own_view t l)))
view_other t f l =
    mirror_link t l.opener (f (view_of (opens (flip t) l.opener) l))
    ∙ ap (λ v. mirror (f v)) (mirrored t l.opener l)

pub view_own : {M : Type 0} (t : Side) (f : View M → View M) (l : Link M) →
    own_view t (by_side t f l) ≡ f (own_view t l)
view_own t f l = view_link (opens t l.opener) l.opener (f (own_view t l))

pub peer_own : {P M : Type 0} (t : Side) (p : P) (links : List (Link M)) (w : World P M) →
    peer_on t (with_peer t p links w) ≡ p
peer_own A p links w = refl
peer_own B p links w = refl

pub peer_other : {P M : Type 0} (t : Side) (p : P) (links : List (Link M)) (w : World P M) →
    peer_on t (with_peer (flip t) p links w) ≡ peer_on t w
peer_other A p links w = refl
peer_other B p links w = refl
