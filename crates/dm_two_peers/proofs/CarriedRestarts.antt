-- A restart keeps it.
use Rattle.std.proofs.Common.{ℕ, Bool, true, false, Option, List, [], ◌++◌, slice_get, refl, sym, ap, subst, ◌∙◌}
use Rattle.std.proofs.Common.{append-nil}
use Rattle.std.proofs.lemmas.Option.{slice_get-map}
use Rattle.dm_two_peers.specs.Machine.{Elsewhere}
use Rattle.dm_two_peers.specs.Links.{Side, A, B, flip, opens, Link, View, by_side}
use Rattle.dm_two_peers.specs.Peers.{Peers}
use Rattle.dm_two_peers.specs.Worlds.{World, peer_on, with_peer, DoneWith}
use Rattle.dm_two_peers.specs.Happens.{restarted, restart_links, own_view}
use Rattle.dm_two_peers.specs.Follows.{IsMachine}
use Rattle.dm_two_peers.proofs.StandingOthers.{closes_own}
use Rattle.dm_two_peers.proofs.Closing.{CarriesOn}
use Rattle.dm_two_peers.proofs.Pairs.{mirror}
use Rattle.dm_two_peers.proofs.Happenings.{restarted_at}
use Rattle.dm_two_peers.proofs.WaysOther.{says_none, other_acts}
use Rattle.dm_two_peers.proofs.WaysOwn.{own_calm}
use Rattle.dm_two_peers.proofs.Mirrors.{view_other, view_own}
use Rattle.dm_two_peers.proofs.Carried.{Carried, WayOnLink, WayOnView, over_of}
use Rattle.dm_two_peers.proofs.CarriedViews.{on_mapped, padded}
use Rattle.dm_two_peers.proofs.CarriedTold.{Keeps}

module _ {P M : Type 0} (m : Peers P M) (is_app : M → Bool) (stands : P → Bool) (carries : CarriesOn m is_app stands)
    (lost : Bool) where
  -- a restart
  restart_own : (t : Side) (l : Link M) (over : Bool) (said up : List M) →
      WayOnView is_app lost over (own_view t l) said up →
      WayOnView is_app lost true (own_view t (by_side t (restarted (opens t l.opener)) l)) said up
  restart_own t l over said up way =
      let v = own_view t l in
      let mine = opens t l.opener in
      subst (λ u. WayOnView is_app lost true u said up)
      (sym (view_own t (restarted mine) l
      ∙ restarted_at mine v.phase v.own v.other v.incoming v.outgoing))
      (own_calm is_app lost Elsewhere (closes_own mine v.phase) false over true v.phase v.own v.other
      v.incoming.messages
      v.incoming.mark said up refl
      (record { acks = λ a. cc; blank = λ a. cc; ends = λ a. cc; stays = λ a b c. refl }) way)

  restart_other : (t : Side) (l : Link M) (over : Bool) (said up : List M) →
      WayOnView is_app lost over (own_view t l) said up →
      WayOnView is_app lost over (own_view t (by_side (flip t) (restarted (opens (flip t) l.opener)) l)) said up
  restart_other t l over said up way =
      let v = own_view t l in
      let mine = opens (flip t) l.opener in
      subst (λ (xs : List M). WayOnView is_app lost over
      (own_view t (by_side (flip t) (restarted (opens (flip t) l.opener)) l)) xs up) (append-nil said)
      (subst (λ u. WayOnView is_app lost over u (said ++ []) up)
      (sym (view_other t (restarted mine) l
      ∙ ap (λ (u : View M). mirror u) (restarted_at mine v.phase v.other v.own v.outgoing v.incoming)))
      (other_acts is_app lost Elsewhere (closes_own mine v.phase) false over v.phase v.own v.other v.incoming.messages
      []
      [] v.incoming.mark said up refl (says_none refl) (λ a. cc) (λ a. cc) way))

  restart_links_keep : (t s : Side) (c : ℕ) (w : World P M) (over' : Bool) (said up : List M) →
      ((l : Link M) (said up : List M) → WayOnView is_app lost (over_of (m.node_of (peer_on t w)) c) (own_view t l) said
      up →
      WayOnView is_app lost over' (own_view t (by_side s (restarted (opens s l.opener)) l)) said up) →
      Carried m is_app lost w t c said up →
      WayOnLink is_app lost over' t (slice_get (restart_links s w.links) c) (said ++ []) (up ++ [])
  restart_links_keep t s c w over' said up each h =
      let f : Link M → Link M = λ l. by_side s (restarted (opens s l.opener)) l in
      padded m is_app stands carries lost over' t (slice_get (restart_links s w.links) c) said up [] [] refl refl
      (subst (λ (o : Option (Link M)). WayOnLink is_app lost over' t o said up) (sym (slice_get-map f w.links c))
      (on_mapped m is_app stands carries lost t f (over_of (m.node_of (peer_on t w)) c) over' said up said up
      (slice_get w.links c)
      (λ l at way. each l said up way) (λ at e g. (e, g)) h))

  pub restart_keeps : IsMachine m → (t s : Side) (c : ℕ) (w : World P M) →
      Keeps m is_app stands carries lost w t c (DoneWith (with_peer s (m.reset (peer_on s w)) (restart_links s w.links) w)
      []) []
  restart_keeps is A A c w said up h =
      restart_links_keep A A c w (over_of (m.node_of (m.reset w.a)) c) said up
      (λ l said up way. subst (λ n. WayOnView is_app lost (over_of n c)
      (own_view A (by_side A (restarted (opens A l.opener)) l)) said up) (sym (is.resets w.a))
      (restart_own A l (over_of (m.node_of w.a) c) said up way)) h
  restart_keeps is B B c w said up h =
      restart_links_keep B B c w (over_of (m.node_of (m.reset w.b)) c) said up
      (λ l said up way. subst (λ n. WayOnView is_app lost (over_of n c)
      (own_view B (by_side B (restarted (opens B l.opener)) l)) said up) (sym (is.resets w.b))
      (restart_own B l (over_of (m.node_of w.b) c) said up way)) h
  restart_keeps is A B c w said up h =
      restart_links_keep A B c w (over_of (m.node_of w.a) c) said up
      (λ l said up way. restart_other A l (over_of (m.node_of w.a) c) said up way) h
  restart_keeps is B A c w said up h =
      restart_links_keep B A c w (over_of (m.node_of w.b) c) said up
      (λ l said up way. restart_other B l (over_of (m.node_of w.b) c) said up way) h
