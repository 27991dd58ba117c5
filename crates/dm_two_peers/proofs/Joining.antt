-- Where nothing is under way the two sides stand on one link, unless each lost an election to the other.
use Rattle.std.proofs.Common.{◌≡◌, ◌⊎◌, inl, inr, ℕ, Bool, true, false, not, sym, ap, subst, ◌∙◌}
use Rattle.std.proofs.lemmas.Bool.{and_from}
use Rattle.dm_machine.specs.declared.state_name.State.{State}
use Rattle.dm_machine.specs.declared.state_name.State.TheVariants.{Closed, WaitReturns}
use Rattle.dm_two_peers.specs.Machine.{Accepted, Node, is_same_role, tie_of, is_tie_held}
use Rattle.dm_two_peers.specs.Links.{Side, A, B, flip, opens, LinkPhase, LinkPending, LinkUp, LinkCancelled}
use Rattle.dm_two_peers.specs.Peers.{Peers}
use Rattle.dm_two_peers.specs.Worlds.{World, peer_on}
use Rattle.dm_two_peers.specs.Facts.{is_pending, IsSoundWorld}
use Rattle.dm_two_peers.specs.Quiet.{is_quiet_link, is_quiet}
use Rattle.dm_two_peers.specs.Joining.{StandsOn, AreJoined, both_closed, on_one, is_returning, QuietIsJoined}
use Rattle.dm_two_peers.proofs.StandingSteps.{is_when}
use Rattle.dm_two_peers.proofs.StandingOthers.{is_connecting, is_taken, same_bool}
use Rattle.dm_two_peers.proofs.Checks.{conclusion}
use Rattle.dm_two_peers.proofs.Events.{side_sound}
use Rattle.dm_two_peers.proofs.Comings.{standing_at}
use Rattle.dm_two_peers.proofs.OpenNodes.{held_there}
use Rattle.dm_two_peers.proofs.Promise.{roles_apart}
use Rattle.dm_two_peers.proofs.Depths.{all_at}
use Rattle.dm_two_peers.proofs.Sharing.{shares}
use Rattle.dm_two_peers.proofs.Holding.{HeldLinks, none, one, two, pends, holding_of, none_held}

-- what is known of two nodes and the links that they hold
record Known (a b : Node) : Type 0 where
  pub to_b : (c : ℕ) → is_tie_held (tie_of a c) ≡ true → is_tie_held (tie_of b c) ≡ true
  pub to_a : (c : ℕ) → is_tie_held (tie_of b c) ≡ true → is_tie_held (tie_of a c) ≡ true
  pub opposed : (c : ℕ) → is_tie_held (tie_of a c) ≡ true → is_tie_held (tie_of b c) ≡ true →
      not (same_bool (is_taken (tie_of a c)) (is_taken (tie_of b c))) ≡ true
  pub empty_a : a.state ≡ Closed → (c : ℕ) → is_tie_held (tie_of a c) ≡ true → ⊥
  pub empty_b : b.state ≡ Closed → (c : ℕ) → is_tie_held (tie_of b c) ≡ true → ⊥
  pub calm_a : (c : ℕ) → is_tie_held (tie_of a c) ≡ true → is_connecting (tie_of a c) ≡ true → ⊥
  pub calm_b : (c : ℕ) → is_tie_held (tie_of b c) ≡ true → is_connecting (tie_of b c) ≡ true → ⊥

not_both : (x : Bool) → x ≡ false → x ≡ true → ⊥
not_both x e f = cc

same_taken : (n : Node) (c d : ℕ) → c ≡ d → is_taken (tie_of n c) ≡ false → is_taken (tie_of n d) ≡ true → ⊥
same_taken n c d e f g = not_both (is_taken (tie_of n d)) (subst (λ k. is_taken (tie_of n k) ≡ false) e f) g

abbrev AreJoinedUnlessLost : Node → Node → Type 0
AreJoinedUnlessLost a b = AreJoined a b ⊎ ((a.state ≡ WaitReturns) × (b.state ≡ WaitReturns))

pairs : (a b : Node) → Known a b → HeldLinks a → HeldLinks b → AreJoinedUnlessLost a b
pairs a b k (pends c h p) _ = absurd (k.calm_a c h p)
pairs a b k (none e) (pends c h p) = absurd (k.calm_b c h p)
pairs a b k (one role c st h t only) (pends d h' p) = absurd (k.calm_b d h' p)
pairs a b k (two i r st hi ti hr tr) (pends d h' p) = absurd (k.calm_b d h' p)
pairs a b k (none e) (none e') = inl (both_closed e e')
pairs a b k (none e) (one role c st h t only) = absurd (k.empty_a e c (k.to_a c h))
pairs a b k (none e) (two i r st hi ti hr tr) = absurd (k.empty_a e i (k.to_a i hi))
pairs a b k (one role c st h t only) (none e) = absurd (k.empty_b e c (k.to_b c h))
pairs a b k (two i r st hi ti hr tr) (none e) = absurd (k.empty_b e i (k.to_b i hi))
pairs a b k (one role c st h t only) (one role' d st' h' t' only') =
    let same : d ≡ c = only' c (k.to_b c h) in
    let t_b : is_taken (tie_of b c) ≡ is_same_role role' Accepted = subst
    (λ x. is_taken (tie_of b x) ≡ is_same_role role' Accepted) same t' in
    inl (on_one role role' c
    (roles_apart role role' (is_taken (tie_of a c)) (is_taken (tie_of b c)) t t_b (k.opposed c h (k.to_b c h))) st
    (subst (λ x. StandsOn b role' x) same st'))
pairs a b k (one role c st h t only) (two i r st' hi ti hr tr) =
    absurd (same_taken b i r (sym (only i (k.to_a i hi)) ∙ only r (k.to_a r hr)) ti tr)
pairs a b k (two i r st hi ti hr tr) (one role c st' h t only') =
    absurd (same_taken a i r (sym (only' i (k.to_b i hi)) ∙ only' r (k.to_b r hr)) ti tr)
pairs a b k (two i r st hi ti hr tr) (two i' r' st' hi' ti' hr' tr') = inr (st, st')

-- two sides of a quiet world
opposed_at : {P M : Type 0} (m : Peers P M) (w : World P M) → IsSoundWorld m w → (c : ℕ) →
    is_tie_held (tie_of (m.node_of w.a) c) ≡ true → is_tie_held (tie_of (m.node_of w.b) c) ≡ true →
    not (same_bool (is_taken (tie_of (m.node_of w.a) c)) (is_taken (tie_of (m.node_of w.b) c))) ≡ true
opposed_at m w good c h h' =
    let at = held_there A (m.node_of w.a) (m.node_of w.b) w.links c good h in
    let l = at.0 in
    let st = standing_at m A w c l in
    is_when _ _ (conclusion 3 (opens A l.opener) st (good.each c l at.1))
    (and_from (is_tie_held st.own_tie) (is_tie_held st.other_tie) h h')

pending_loud : (p : LinkPhase) (b : Bool) → is_pending p ≡ true → elim p [ LinkPending ↦ false | _ ↦ b ] ≡ true → ⊥
pending_loud LinkPending b e h = cc
pending_loud LinkUp b e h = cc
pending_loud LinkCancelled b e h = cc

calm_at : {P M : Type 0} (m : Peers P M) (w : World P M) → IsSoundWorld m w → is_quiet w ≡ true → (s : Side) (c : ℕ) →
    is_tie_held (tie_of (m.node_of (peer_on s w)) c) ≡ true →
    is_connecting (tie_of (m.node_of (peer_on s w)) c) ≡ true → ⊥
calm_at m w good quiet s c h p =
    let g = side_sound m s w good in
    let at = held_there s (m.node_of (peer_on s w)) (m.node_of (peer_on (flip s) w)) w.links c g h in
    let l = at.0 in
    let st = standing_at m s w c l in
    pending_loud l.phase _
    (is_when (is_connecting st.own_tie) _ (conclusion 8 (opens s l.opener) st (g.each c l at.1)) p)
    (all_at (λ z. is_quiet_link z) w.links c l quiet at.1)

-- of two that lost neither did
not_lost : (s : State) → s ≡ WaitReturns → is_returning s ≡ false → ⊥
not_lost s e f = cc (ap (λ x. is_returning x) e, f)

one_lost : {P M : Type 0} (m : Peers P M) (w : World P M) (s : Side) →
    is_returning (m.node_of (peer_on s w)).state ≡ false → (m.node_of w.a).state ≡ WaitReturns →
    (m.node_of w.b).state ≡ WaitReturns → ⊥
one_lost m w A h e f = not_lost (m.node_of w.a).state e h
one_lost m w B h e f = not_lost (m.node_of w.b).state f h

pub quiet_is_joined_proof : {P M : Type 0} → QuietIsJoined P M
quiet_is_joined_proof m w good quiet s away =
    let a = m.node_of w.a in
    let b = m.node_of w.b in
    elim (pairs a b
    (record {
      to_b = λ c h. shares m w good quiet A c h;
      to_a = λ c h. shares m w good quiet B c h;
      opposed = λ c h h'. opposed_at m w good c h h';
      empty_a = λ e c h. none_held a c good.own_shaped e h;
      empty_b = λ e c h. none_held b c good.other_shaped e h;
      calm_a = λ c h p. calm_at m w good quiet A c h p;
      calm_b = λ c h p. calm_at m w good quiet B c h p;
    }) (holding_of a good.own_shaped) (holding_of b good.other_shaped)) [
      | inl joined ↦ joined
      | inr lost ↦ absurd (one_lost m w s away lost.0 lost.1)
    ]
