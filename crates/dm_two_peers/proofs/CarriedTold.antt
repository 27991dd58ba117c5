-- What either side is told keeps it, and so does what changes links alone.
use Rattle.std.proofs.Common.{◌≡◌, ℕ, Bool, true, false, if◌then◌else◌, Option, Some, List, [], ◌∷◌, ◌++◌, slice_get}
use Rattle.std.proofs.Common.{refl, sym, ap, subst, append-nil}
use Rattle.std.specs.Prelude.{option_map}
use Rattle.dm_two_peers.specs.Links.{Side, A, B, flip, Link}
use Rattle.dm_two_peers.specs.Peers.{Event, Reply, ActsBy, Declines, Peers}
use Rattle.dm_two_peers.specs.Worlds.{World, peer_on, with_links, enter, perform, settle, After, DoneWith, after_reply, tell}
use Rattle.dm_two_peers.specs.Happens.{own_view, world_after}
use Rattle.dm_two_peers.specs.Turns.{WorldTurn, turn_by, turn_of}
use Rattle.dm_two_peers.specs.Delivery.{submitted_by, submitted_on, handed_up_by, handed_up_on}
use Rattle.dm_two_peers.proofs.Closing.{CarriesOn}
use Rattle.dm_two_peers.proofs.Stepped.{IsStart}
use Rattle.dm_two_peers.proofs.Keeps.{Hands}
use Rattle.dm_two_peers.proofs.Mirrors.{peer_other, peer_own}
use Rattle.dm_two_peers.proofs.Carried.{Carried, Front, IsCarrying, WayOnLink, WayOnView, over_of, turn_with}
use Rattle.dm_two_peers.proofs.CarriedViews.{into_world, on_mapped, padded}
use Rattle.dm_two_peers.proofs.CarriedOwn.{own_step}
use Rattle.dm_two_peers.proofs.CarriedOther.{other_step}

module _ {P M : Type 0} (m : Peers P M) (is_app : M → Bool) (stands : P → Bool) (carries : CarriesOn m is_app stands)
    (lost : Bool) where
  -- what a side is told
  abbrev pub Keeps : World P M → Side → ℕ → After P M → List (WorldTurn M) → Type 0
  Keeps w t c after us =
      (said up : List M) → Carried m is_app lost w t c said up →
      Carried m is_app lost (world_after w after) t c (said ++ submitted_on t c us) (up ++ handed_up_on t c us)

  one_turn : (over : Bool) (t : Side) (c : ℕ) (o : Option (Link M)) (u : WorldTurn M) (said up : List M) →
      WayOnLink is_app lost over t o (said ++ submitted_by t c u) (up ++ handed_up_by t c u) →
      WayOnLink is_app lost over t o (said ++ submitted_on t c (u ∷ [])) (up ++ handed_up_on t c (u ∷ []))
  one_turn over t c o u said up h =
      subst (λ (xs : List M). WayOnLink is_app lost over t o (said ++ xs) (up ++ handed_up_on t c (u ∷ [])))
      (sym (append-nil (submitted_by t c u)))
      (subst (λ (ys : List M). WayOnLink is_app lost over t o (said ++ submitted_by t c u) (up ++ ys))
      (sym (append-nil (handed_up_by t c u))) h)

  answered_own : (t : Side) (w : World P M) (c : ℕ) (e : Event M) (r : Reply P M) → (IsStart e → ⊥) →
      IsCarrying m stands w →
      Hands t (m.node_of (peer_on t w)) (m.node_of (peer_on (flip t) w)) e w.links → Front w t e →
      m.reply (peer_on t w) e ≡ r → Keeps w t c (after_reply m t e w r) (turn_by t e r)
  answered_own t w c e Declines no_start good hands front replies said up h = padded m is_app stands carries lost _ t _
      said up [] [] refl refl h
  answered_own t w c e (ActsBy actions p) no_start good hands front replies said up h =
      one_turn _ t c _ (turn_with t e actions) said up
      (into_world m is_app stands carries lost t e w c p actions t (over_of (m.node_of p) c) _ _ no_start
      (ap (λ q. over_of (m.node_of q) c) (sym (peer_own t p
      (settle t e (m.node_of p) (perform t actions (enter t e w.links))) w)))
      (own_step m is_app stands carries lost t w c e p actions no_start said up good hands front replies h))

  answered_other : (t : Side) (w : World P M) (c : ℕ) (e : Event M) (r : Reply P M) → (IsStart e → ⊥) →
      IsCarrying m stands w →
      Hands (flip t) (m.node_of (peer_on (flip t) w)) (m.node_of (peer_on (flip (flip t)) w)) e w.links →
      m.reply (peer_on (flip t) w) e ≡ r → Keeps w t c (after_reply m (flip t) e w r) (turn_by (flip t) e r)
  answered_other t w c e Declines no_start good hands replies said up h = padded m is_app stands carries lost _ t _
      said up [] [] refl refl h
  answered_other t w c e (ActsBy actions p) no_start good hands replies said up h =
      one_turn _ t c _ (turn_with (flip t) e actions) said up
      (into_world m is_app stands carries lost (flip t) e w c p actions t (over_of (m.node_of (peer_on t w)) c) _ _
      no_start
      (ap (λ q. over_of (m.node_of q) c) (sym (peer_other t p
      (settle (flip t) e (m.node_of p) (perform (flip t) actions (enter (flip t) e w.links))) w)))
      (other_step m is_app stands carries lost t w c e p actions said up good hands replies h))

  pub told_keeps : (t s : Side) (w : World P M) (c : ℕ) (e : Event M) → (IsStart e → ⊥) → IsCarrying m stands w →
      Hands s (m.node_of (peer_on s w)) (m.node_of (peer_on (flip s) w)) e w.links → Front w s e →
      Keeps w t c (tell m s e w) (turn_of m s e w)
  told_keeps A A w c e no_start good hands front =
      answered_own A w c e (m.reply (peer_on A w) e) no_start good hands front refl
  told_keeps B B w c e no_start good hands front =
      answered_own B w c e (m.reply (peer_on B w) e) no_start good hands front refl
  told_keeps A B w c e no_start good hands front =
      answered_other A w c e (m.reply (peer_on B w) e) no_start good hands refl
  told_keeps B A w c e no_start good hands front =
      answered_other B w c e (m.reply (peer_on A w) e) no_start good hands refl

  -- one link is changed in no more than what it carries
  abbrev LinkKeeps : Side → ℕ → World P M → (Link M → Link M) → Type 0
  LinkKeeps t c w f =
      (l : Link M) (said up : List M) → slice_get w.links c ≡ Some l →
      WayOnView is_app lost (over_of (m.node_of (peer_on t w)) c) (own_view t l) said up →
      WayOnView is_app lost (over_of (m.node_of (peer_on t w)) c) (own_view t (f l)) said up

  pub mapped_keeps : (t : Side) (c : ℕ) (w : World P M) (f : Link M → Link M) (links : List (Link M)) →
      slice_get links c ≡ option_map f (slice_get w.links c) → LinkKeeps t c w f →
      Keeps w t c (DoneWith (with_links links w) []) []
  mapped_keeps t c w f links is each said up h =
      let over = over_of (m.node_of (peer_on t w)) c in
      subst (λ (b : Bool). WayOnLink is_app lost b t (slice_get links c) (said ++ []) (up ++ [])) (same_peer t)
      (padded m is_app stands carries lost over t (slice_get links c) said up [] [] refl refl
      (subst (λ (o : Option (Link M)). WayOnLink is_app lost over t o said up) (sym is)
      (on_mapped m is_app stands carries lost t f over over said up said up (slice_get w.links c)
      (λ l at way. each l said up at way) (λ at e g. (e, g))
      h)))
    where
      same_peer : (t : Side) → over_of (m.node_of (peer_on t w)) c ≡ over_of
          (m.node_of (peer_on t (with_links links w))) c
      same_peer A = refl
      same_peer B = refl

  pub kept_if : (t : Side) (b : Bool) (f : Link M → Link M) (l : Link M) (over : Bool) (said up : List M) →
      (b ≡ true → WayOnView is_app lost over (own_view t (f l)) said up) →
      WayOnView is_app lost over (own_view t l) said up →
      WayOnView is_app lost over (own_view t (if b then f l else l)) said up
  kept_if t true f l over said up g h = g refl
  kept_if t false f l over said up g h = h
