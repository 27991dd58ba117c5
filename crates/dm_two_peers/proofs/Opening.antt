-- From rest a Start, the Ack and two deliveries open both; so it is after both have restarted and what is left has
-- come.
use Rattle.std.proofs.Common.{◌≡◌, ℕ, suc, true, Some, None, List, [], ◌∷◌, ◌++◌, length, refl, sym, ap, subst, ◌∙◌}
use Rattle.std.specs.Prelude.{option_map}
use Rattle.dm_two_peers.specs.Machine.{closed_node}
use Rattle.dm_two_peers.specs.Links.{Side, A, B, Link}
use Rattle.dm_two_peers.specs.Peers.{Peers}
use Rattle.dm_two_peers.specs.Worlds.{World, peer_on, Put, DoneWith}
use Rattle.dm_two_peers.specs.Happens.{Happening, Starts, Restarts, Acks, Delivers, at_link, happens, RunEnd, ran_on}
use Rattle.dm_two_peers.specs.Happens.{run_from, run}
use Rattle.dm_two_peers.specs.Follows.{IsMachine}
use Rattle.dm_two_peers.specs.Facts.{IsSoundWorld}
use Rattle.dm_two_peers.specs.Quiet.{is_quiet_link, is_quiet}
use Rattle.dm_two_peers.specs.Electing.{Talks, IsPeerOf, IsElecting}
use Rattle.dm_two_peers.specs.Settled.{AreOpenOnKept}
use Rattle.dm_two_peers.specs.Recovering.{CanClear, CanOpen, ResetKeepsPeer}
use Rattle.dm_two_peers.proofs.Lists.{same_test}
use Rattle.dm_two_peers.proofs.Pairs.{IsPair, ab, ba, swapped, mirror, AreAt, at_flip}
use Rattle.dm_two_peers.proofs.Stages.{Dialled, Asked, Accepted, Answered}
use Rattle.dm_two_peers.proofs.CleanSteps.{wait_i_cea, i_open, r_open}
use Rattle.dm_two_peers.proofs.Acting.{own_at, acks_plain, cer_closed, cea_plain}
use Rattle.dm_two_peers.proofs.Starting.{start_first}
use Rattle.dm_two_peers.proofs.Phasing.{acked_own, arrives_own, arrives_other}
use Rattle.dm_two_peers.proofs.Running.{ack_of, delivery_of}
use Rattle.dm_two_peers.proofs.Settling.{are_open, begins}
use Rattle.dm_two_peers.proofs.Runs.{run_joined}
use Rattle.dm_two_peers.proofs.Resting.{quiet_where}
use Rattle.dm_two_peers.proofs.Clearing.{can_clear_proof}

-- four happenings that are done
four_done : {P M : Type 0} (m : Peers P M) (r : RunEnd P M) (h1 h2 h3 h4 : Happening M) (w1 w2 w3 w4 : World P M)
    (p1 p2 p3 p4 : List (Put M)) → happens m r.world h1 ≡ DoneWith w1 p1 → happens m w1 h2 ≡ DoneWith w2 p2 →
    happens m w2 h3 ≡ DoneWith w3 p3 → happens m w3 h4 ≡ DoneWith w4 p4 →
    run_from m (Some r) (h1 ∷ h2 ∷ h3 ∷ h4 ∷ []) ≡ Some
    (record { world = w4; put = r.put ++ p1 ++ p2 ++ p3 ++ p4 })
four_done {P} {M} m r h1 h2 h3 h4 w1 w2 w3 w4 p1 p2 p3 p4 e1 e2 e3 e4 =
    let r1 : RunEnd P M = record { world = w1; put = r.put ++ p1 } in
    let r2 : RunEnd P M = record { world = w2; put = r.put ++ p1 ++ p2 } in
    let r3 : RunEnd P M = record { world = w3; put = r.put ++ p1 ++ p2 ++ p3 } in
    ap (λ a. run_from m (ran_on r a) (h2 ∷ h3 ∷ h4 ∷ [])) e1
    ∙ (ap (λ a. run_from m (ran_on r1 a) (h3 ∷ h4 ∷ [])) e2
    ∙ (ap (λ a. run_from m (ran_on r2 a) (h4 ∷ [])) e3 ∙ ap (λ a. run_from m (ran_on r3 a) []) e4))

module _ {P M C H : Type 0} (m : Peers P M) (t : Talks P M C H) where
  quiet_open : (s o : Side) (w : World P M) (x y h h' : ℕ) →
      AreAt m t s o w x y (own_at m t s o Accepted h 0 0) None (i_open x) (r_open x) h h' → is_quiet w ≡ true
  quiet_open s o w x y h h' a =
      quiet_where w x y (λ z at. same_test (λ l. is_quiet_link l) _ z (sym a.at_x ∙ at) refl)
      (λ z at. absurd (no_link z (sym a.at_y ∙ at))) (λ d z at hx hy. a.others d z at hx hy)
    where
      no_link : (z : Link M) → None ≡ Some z → ⊥
      no_link z e = cc

  -- from where both are closed and nothing is under way
  record Opened (s o : Side) (r : RunEnd P M) (n : ℕ) : Type 0 where
    pub end : RunEnd P M
    pub runs : run_from m (Some r) (Starts s ∷ Acks n ∷ Delivers n o ∷ Delivers n s ∷ []) ≡ Some end
    pub quiet : is_quiet end.world ≡ true
    pub opened : AreOpenOnKept m end.world (record { opener = s; link = n })

  open_from : IsElecting m t → (s o : Side) → IsPair s o → (r : RunEnd P M) → IsPeerOf t s (peer_on s r.world) →
      IsPeerOf t o (peer_on o r.world) → m.node_of (peer_on s r.world) ≡ closed_node →
      m.node_of (peer_on o r.world) ≡ closed_node → is_quiet r.world ≡ true →
      Opened s o r (length r.world.links)
  open_from el s o pair r own other own_closed other_closed quiet =
      let x = length r.world.links in
      let y = suc x in
      let q = begins m t el s o r.world own other own_closed other_closed quiet in
      let g1 = start_first m t el s o pair r.world x y closed_node q.h q.h' q.at in
      let h1 = t.next_of (peer_on s g1.world) in
      let g2 = acks_plain m t el s o pair g1.world x y 0 0 None closed_node q.h q.h' g1.at refl in
      let f2 = at_flip m t s o g2.world x y (own_at m t s o Asked h1 0 0) None (wait_i_cea x) closed_node h1 q.h'
      g2.at in
      let g3 = cer_closed m t el o s (swapped pair) g2.world y x 0 0 None (wait_i_cea x) q.h' h1 f2 in
      let f3 = at_flip m t o s g3.world y x None (option_map mirror (own_at m t s o Answered h1 0 0)) (r_open x)
      (wait_i_cea x) q.h' h1 g3.at in
      let g4 = cea_plain m t el s o pair g3.world x y 0 0 None (r_open x) h1 q.h' f3 in
      record {
        end = record { world = g4.world; put = r.put ++ g1.put ++ g2.put ++ g3.put ++ g4.put };
        runs = four_done m r (Starts s) (Acks x) (Delivers x o) (Delivers x s) g1.world g2.world g3.world g4.world
            g1.put g2.put g3.put g4.put g1.is
            (ap (λ k. at_link k (ack_of m x g1.world)) g1.at.at_x
            ∙ (acked_own m s x g1.world (own_at m t s o Dialled q.h 0 0) ∙ g2.is))
            (ap (λ k. at_link k (delivery_of m x o g2.world)) f2.at_y
            ∙ (arrives_other m o s (swapped pair) x g2.world (option_map mirror (own_at m t s o Asked h1 0 0))
            ∙ g3.is))
            (ap (λ k. at_link k (delivery_of m x s g3.world)) f3.at_x
            ∙ (arrives_own m s o pair x g3.world (own_at m t s o Answered h1 0 0) ∙ g4.is));
        quiet = quiet_open s o g4.world x y h1 q.h' g4.at;
        opened = are_open m t s o pair g4.world x g4.at.own.node g4.at.other.node;
      }

  joined : (w : World P M) (s o : Side) → (c : CanClear m w) → (z : Opened s o c.end (length c.end.world.links)) →
      run m w (Restarts A ∷ Restarts B ∷ (c.more ++ (Starts s ∷ Acks (length w.links) ∷ Delivers (length w.links) o ∷
      Delivers (length w.links) s ∷ []))) ≡ Some z.end
  joined w s o c z =
      let n = length c.end.world.links in
      let last : List (Happening M) = Starts s ∷ Acks n ∷ Delivers n o ∷ Delivers n s ∷ [] in
      subst (λ k. run m w (Restarts A ∷ Restarts B ∷ (c.more ++ (Starts s ∷ Acks k ∷ Delivers k o ∷
      Delivers k s ∷ []))) ≡ Some z.end) c.links
      (run_joined m (Some (record { world = w; put = [] })) (Restarts A ∷ Restarts B ∷ c.more) last
      ∙ (ap (λ q. run_from m q last) c.runs ∙ z.runs))

  pub can_open : IsMachine m → IsElecting m t → ResetKeepsPeer m t → (w : World P M) → IsSoundWorld m w →
      IsPeerOf t A w.a → IsPeerOf t B w.b → (s : Side) → CanOpen m w s
  can_open is el keeps w good a b s =
      let c = can_clear_proof m w good in
      let peer_a : IsPeerOf t A c.end.world.a = subst (λ p. IsPeerOf t A p) (sym c.same_a) (keeps A w.a a) in
      let peer_b : IsPeerOf t B c.end.world.b = subst (λ p. IsPeerOf t B p) (sym c.same_b) (keeps B w.b b) in
      let closed_a = ap (λ p. m.node_of p) c.same_a ∙ is.resets w.a in
      let closed_b = ap (λ p. m.node_of p) c.same_b ∙ is.resets w.b in
      elim s as (λ s. CanOpen m w s) [
        | A ↦
            let z = open_from el A B ab c.end peer_a peer_b closed_a closed_b c.quiet in
            record {
              clearing = c.more;
              only = c.only;
              end = z.end;
              runs = joined w A B c z;
              quiet = z.quiet;
              opened = subst (λ n. AreOpenOnKept m z.end.world (record { opener = A; link = n })) c.links z.opened;
            }
        | B ↦
            let z = open_from el B A ba c.end peer_b peer_a closed_b closed_a c.quiet in
            record {
              clearing = c.more;
              only = c.only;
              end = z.end;
              runs = joined w B A c z;
              quiet = z.quiet;
              opened = subst (λ n. AreOpenOnKept m z.end.world (record { opener = B; link = n })) c.links z.opened;
            }
      ]
