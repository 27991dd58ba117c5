-- In each phase what is under way carries the number that is awaited.
use Rattle.std.proofs.Common.{◌≡◌, ℕ, ◌==◌, Bool, true, false, ◌&&◌, IsTrue, Some, List, [], ◌∷◌, slice_get, refl, sym}
use Rattle.std.proofs.Common.{ap, subst, ◌∙◌, inl, inr}
use Rattle.std.specs.Prelude.{option_map, All}
use Rattle.std.proofs.lemmas.Bool.{cases_Bool, and_parts, eqb-true}
use Rattle.std.proofs.lemmas.List.Elements.{All-nil, All-cons}
use Rattle.dm_two_peers.specs.Machine.{Node}
use Rattle.dm_two_peers.specs.Links.{Side, flip, LinkPhase, LinkPending, LinkUp, LinkCancelled, Direction, Link, link_of}
use Rattle.dm_two_peers.specs.Peers.{Peers}
use Rattle.dm_two_peers.specs.Worlds.{World, peer_on}
use Rattle.dm_two_peers.specs.Quiet.{is_still, is_quiet_link}
use Rattle.dm_machine.specs.Awaiting.{awaits_cea}
use Rattle.dm_two_peers.specs.Electing.{Talks}
use Rattle.dm_two_peers.specs.Settled.{IsMatchedLink, AnswersMatch}
use Rattle.dm_two_peers.proofs.Pairs.{IsPair, swapped, Stands, flipped}
use Rattle.dm_two_peers.proofs.Stages.{Stage, Unmade, Dialled, Asked, Accepted, Answered, Dropped, Halved, Parted}
use Rattle.dm_two_peers.proofs.Acting.{own_at}
use Rattle.dm_two_peers.proofs.Phases.{Phase, node_g, node_l, stage_g, stage_l, InPhase}
use Rattle.dm_two_peers.proofs.Phasing.{flip_in}
use Rattle.dm_two_peers.proofs.Running.{either_side}

-- nothing is under way on a quiet link
still_none : {M : Type 0} (d : Direction M) → is_still d ≡ true → d.messages ≡ []
still_none d h = still_list d.messages d h refl
  where
    still_list : {M : Type 0} (ms : List M) (d : Direction M) → is_still d ≡ true → d.messages ≡ ms →
        d.messages ≡ []
    still_list [] d h e = e
    still_list (x ∷ xs) d h e = cc
        (subst (λ zs. is_still (record { messages = zs; taken = d.taken; mark = d.mark }) ≡ true) e h)

both_still : (p : LinkPhase) (b : Bool) → elim p [ LinkPending ↦ false | _ ↦ b ] ≡ true → b ≡ true
both_still LinkPending b h = cc
both_still LinkUp b h = h
both_still LinkCancelled b h = h

-- what is under way on a link of a stage
record CarriesNumbered {M : Type 0} (s : Side) (a b : M) (l : Link M) : Type 0 where
  pub opener : l.opener ≡ s
  pub asked : All (λ x. x ≡ a) l.to_other.messages
  pub answered : All (λ x. x ≡ b) l.to_opener.messages

none_of : {M : Type 0} (a : M) → All (λ x. x ≡ a) []
none_of a = All-nil (λ x. x ≡ a)

one_of : {M : Type 0} (a : M) → All (λ x. x ≡ a) (a ∷ [])
one_of a = All-cons (λ x. x ≡ a) a [] refl (none_of a)

carried_along : {M : Type 0} (s : Side) (a b : M) (l q : Link M) → Some l ≡ Some q → CarriesNumbered s a b l →
    CarriesNumbered s a b q
carried_along {M} s a b l q e h = let same : l ≡ q = cc e in subst (λ z. CarriesNumbered s a b z) same h

module _ {P M C H : Type 0} (m : Peers P M) (t : Talks P M C H) where
  stage_carries : (s o : Side) (st : Stage) (h i j : ℕ) (q : Link M) →
      option_map (link_of true s) (own_at m t s o st h i j) ≡ Some q →
      CarriesNumbered s (t.cer (t.config s) h) (t.cea (t.config o) h) q
  stage_carries s o Unmade h i j q e = cc
  stage_carries s o Dialled h i j q e = carried_along s (t.cer (t.config s) h) (t.cea (t.config o) h) _ q e
      (record { opener = refl; asked = none_of (t.cer (t.config s) h); answered = none_of (t.cea (t.config o) h) })
  stage_carries s o Asked h i j q e = carried_along s (t.cer (t.config s) h) (t.cea (t.config o) h) _ q e
      (record { opener = refl; asked = one_of (t.cer (t.config s) h); answered = none_of (t.cea (t.config o) h) })
  stage_carries s o Accepted h i j q e = carried_along s (t.cer (t.config s) h) (t.cea (t.config o) h) _ q e
      (record { opener = refl; asked = none_of (t.cer (t.config s) h); answered = none_of (t.cea (t.config o) h) })
  stage_carries s o Answered h i j q e = carried_along s (t.cer (t.config s) h) (t.cea (t.config o) h) _ q e
      (record { opener = refl; asked = none_of (t.cer (t.config s) h); answered = one_of (t.cea (t.config o) h) })
  stage_carries s o Dropped h i j q e = carried_along s (t.cer (t.config s) h) (t.cea (t.config o) h) _ q e
      (record { opener = refl; asked = one_of (t.cer (t.config s) h); answered = none_of (t.cea (t.config o) h) })
  stage_carries s o Halved h i j q e = carried_along s (t.cer (t.config s) h) (t.cea (t.config o) h) _ q e
      (record { opener = refl; asked = none_of (t.cer (t.config s) h); answered = none_of (t.cea (t.config o) h) })
  stage_carries s o (Parted a b) h i j q e = carried_along s (t.cer (t.config s) h) (t.cea (t.config o) h) _ q e
      (record { opener = refl; asked = none_of (t.cer (t.config s) h); answered = none_of (t.cea (t.config o) h) })

  quiet_carries : (s : Side) (a b : M) (q : Link M) → is_quiet_link q ≡ true → q.opener ≡ s → CarriesNumbered s a b q
  quiet_carries s a b q h e =
      let parts = and_parts (is_still q.to_opener) (is_still q.to_other)
      (both_still q.phase (is_still q.to_opener && is_still q.to_other) h) in
      record {
        opener = e;
        asked = subst (λ ms. All (λ x. x ≡ a) ms) (sym (still_none q.to_other parts.1)) (All-nil (λ x. x ≡ a));
        answered = subst (λ ms. All (λ x. x ≡ b) ms) (sym (still_none q.to_opener parts.0)) (All-nil (λ x. x ≡ b));
      }

  matches : (s o : Side) → IsPair s o → (w : World P M) (n : Node) (h h' : ℕ) (q : Link M) →
      Stands m t s (peer_on s w) n h h' → CarriesNumbered s (t.cer (t.config s) h) (t.cea (t.config o) h) q →
      IsTrue (awaits_cea (m.node_of (peer_on q.opener w)).state) → IsMatchedLink t w q
  matches s o pair w n h h' q a c awaits =
      record {
        number = h;
        awaited = ap (λ z. t.awaited_of (peer_on z w)) c.opener
            ∙ a.awaits (subst (λ (k : Node). awaits_cea k.state ≡ true) a.node
            (subst (λ z. awaits_cea (m.node_of (peer_on z w)).state ≡ true) c.opener awaits));
        asked = subst (λ z. All (λ x. x ≡ t.cer (t.config z) h) q.to_other.messages) (sym c.opener) c.asked;
        answered = subst (λ z. All (λ x. x ≡ t.cea (t.config (flip z)) h) q.to_opener.messages) (sym c.opener)
            (subst (λ z. All (λ x. x ≡ t.cea (t.config z) h) q.to_opener.messages) (sym (flipped pair)) c.answered);
      }

  pub phase_matches : (g l : Side) → IsPair g l → (w : World P M) (k : Phase) (x y : ℕ) → InPhase m t g l w k x y →
      AnswersMatch m t w
  phase_matches g l pair w k x y q c z at awaits =
      let f = flip_in m t g l w k x y q in
      elim (cases_Bool (x == c)) [
        | inl hx ↦
            let here = sym q.at.at_x ∙ (ap (slice_get w.links) (eqb-true x c hx) ∙ at) in
            matches g l pair w (node_g k x y) q.h q.h' z q.at.own
            (stage_carries g l (stage_g k) q.h q.i q.j z here) awaits
        | inr hx ↦ elim (cases_Bool (y == c)) [
          | inl hy ↦
              let here = sym f.at_x ∙ (ap (slice_get w.links) (eqb-true y c hy) ∙ at) in
              matches l g (swapped pair) w (node_l k x y) q.h' q.h z q.at.other
              (stage_carries l g (stage_l k) q.h' q.i' q.j' z here) awaits
          | inr hy ↦ elim (either_side g l pair z.opener) [
            | inl e ↦ matches g l pair w (node_g k x y) q.h q.h' z q.at.own
                (quiet_carries g (t.cer (t.config g) q.h) (t.cea (t.config l) q.h) z (q.at.others c z at hx hy) e)
                awaits
            | inr e ↦ matches l g (swapped pair) w (node_l k x y) q.h' q.h z q.at.other
                (quiet_carries l (t.cer (t.config l) q.h') (t.cea (t.config g) q.h') z
                (q.at.others c z at hx hy) e) awaits
          ]
        ]
      ]
