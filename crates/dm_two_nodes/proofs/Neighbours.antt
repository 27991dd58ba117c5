-- A neighbour of a node is what its story makes of a new peer.
use Rattle.std.proofs.Common.{◌≡◌, ℕ, zero, suc, nat_eq, Bool, true, false, List, [], ◌∷◌, ◌++◌, length, Option, None, Some, option_map, if◌then◌else◌, ◌⊎◌, inl, inr, refl, sym, ap, subst, ◌∙◌, arith}
use Rattle.std.specs.Prelude.{slice_set}
use Rattle.dm_peer.specs.declared.actions.Action.{Action}
use Rattle.dm_peer.specs.declared.config.Config.{Config}
use Rattle.dm_peer.specs.declared.peer.Peer.{Peer}
use Rattle.dm_peer.specs.Events.{PeerEvent}
use Rattle.dm_peer.specs.Acts.{Moved, acts}
use Rattle.dm_peer.specs.Steps.{Follows, EachEventIsOneStep}
use Rattle.dm_history.specs.Replaying.{peer_left}
use Rattle.dm_node.specs.Adding.{with_new}
use Rattle.dm_node.specs.Emptying.{set_back, without_peer, with_set_back, all_set_back}
use Rattle.dm_node.specs.Holding.{peer_at}
use Rattle.dm_node.specs.NodeHistory.{NodeStep, NodeBecame, nobody_yet, added, told, refused_event, unmoved, removed, back, all_back}
use Rattle.dm_node.specs.Telling.{PeerIsTold}
use Rattle.dm_two_peers.specs.Links.{Side}
use Rattle.dm_two_peers.specs.Turns.{WorldTurn}
use Rattle.dm_octet_peers.specs.Laws.{fresh_peer}
use Rattle.dm_two_nodes.specs.Delivering.{turn_as, node_turns}
use Rattle.std.proofs.lemmas.List.{append-nil}
use Rattle.dm_two_nodes.specs.Stories.{Chapter, TakesEvent, IsSetBack, node_story}
use Rattle.dm_two_nodes.proofs.Behind.{peer_behind, behind_both, deeds, dones, dones_both, as_turns, turns_both}

-- places of a list of neighbours
grown : (ps : List (Option Peer)) (y : Option Peer) (j : ℕ) →
    (peer_at (ps ++ y ∷ []) j ≡ peer_at ps j) ⊎ ((j ≡ length ps) × (peer_at (ps ++ y ∷ []) j ≡ y))
grown [] y zero = inr (refl, refl)
grown [] y (suc j) = inl refl
grown (x ∷ xs) y zero = inl refl
grown (x ∷ xs) y (suc j) = elim (grown xs y j) [ inl same ↦ inl same | inr last ↦ inr (ap suc last.0, last.1) ]

nobody_behind : (ps : List (Option Peer)) → peer_at ps (length ps) ≡ None
nobody_behind [] = refl
nobody_behind (x ∷ xs) = nobody_behind xs

set_else : (ps : List (Option Peer)) (i j : ℕ) (y : Option Peer) → (j ≡ i → ⊥) →
    peer_at (slice_set ps i y) j ≡ peer_at ps j
set_else [] i j y h = refl
set_else (x ∷ xs) zero zero y h = absurd (h refl)
set_else (x ∷ xs) zero (suc j) y h = refl
set_else (x ∷ xs) (suc i) zero y h = refl
set_else (x ∷ xs) (suc i) (suc j) y h = set_else xs i j y (λ e. h (ap suc e))

set_at : (ps : List (Option Peer)) (i : ℕ) (y : Option Peer) →
    (peer_at (slice_set ps i y) i ≡ y) ⊎ ((peer_at (slice_set ps i y) i ≡ None) × (peer_at ps i ≡ None))
set_at [] i y = inr (refl, refl)
set_at (x ∷ xs) zero y = inl refl
set_at (x ∷ xs) (suc i) y = set_at xs i y

each_back : (ps : List (Option Peer)) (i : ℕ) → peer_at (all_set_back ps) i ≡ option_map set_back (peer_at ps i)
each_back [] i = refl
each_back (x ∷ xs) zero = refl
each_back (x ∷ xs) (suc i) = each_back xs i

no_peer : {P : Type 0} (p : Peer) → None ≡ Some p → P
no_peer p e = absurd (cc)

same_peer : (p q : Peer) → Some p ≡ Some q → p ≡ q
same_peer p q e = cc

same_number : (a b : ℕ) → nat_eq a b ≡ true → a ≡ b
same_number a b h = grind arith

other_number : (a b : ℕ) → nat_eq a b ≡ false → a ≡ b → ⊥
other_number a b h = grind arith

-- an event leaves a configuration
config_of : (p : Peer) (e : PeerEvent) (actions : List Action) (q : Peer) → Follows p e (Moved actions q) →
    q.config ≡ p.config
config_of p e actions q (inl step) = step.config
config_of p e actions q (inr drop) = ap (λ (r : Peer). r.config) drop.same

pub config_kept : EachEventIsOneStep → (p : Peer) (e : PeerEvent) (actions : List Action) (q : Peer) →
    acts p e ≡ Moved actions q → q.config ≡ p.config
config_kept law p e actions q is = config_of p e actions q (subst (Follows p e) is (law p e))

-- the turns of each side
abbrev Turns : Type 0
Turns = Side → List (WorldTurn (List ℕ))

-- a new peer's story, with its turns, and the peer that it makes
abbrev Makes : Turns → List Chapter → Peer → Type 0
Makes turns story p =
    (peer_behind (fresh_peer p.config) story ≡ p)
    × ((s : Side) → turns s ≡ as_turns s (dones (fresh_peer p.config) story))

made_new : (p : Peer) (c : Config) → p ≡ fresh_peer c → Makes (λ s. []) [] p
made_new p c is = (ap (λ (q : Peer). fresh_peer q.config) is ∙ sym is, λ s. refl)

made_by_event : EachEventIsOneStep → (turns : Turns) (story : List Chapter) (p q : Peer) (e : PeerEvent)
    (actions : List Action) → Makes turns story p → acts p e ≡ Moved actions q →
    Makes (λ s. turns s ++ turn_as s e actions ∷ []) (story ++ TakesEvent e ∷ []) q
made_by_event law turns story p q e actions made is =
    let first = fresh_peer p.config in
    let longer = story ++ TakesEvent e ∷ [] in
    let same : q.config ≡ p.config = config_kept law p e actions q is in (
      ap (λ (c : Config). peer_behind (fresh_peer c) longer) same
          ∙ behind_both first story (TakesEvent e ∷ [])
          ∙ ap (λ (r : Peer). peer_left r (acts r e)) made.0 ∙ ap (peer_left p) is,
      λ s.
          ap (λ (us : List (WorldTurn (List ℕ))). us ++ turn_as s e actions ∷ []) (made.1 s)
          ∙ ap (λ (did : List Action). as_turns s (dones first story) ++ turn_as s e did ∷ [])
          (sym (ap (λ (r : Peer). deeds (acts r e)) made.0 ∙ ap deeds is))
          ∙ sym (turns_both s (dones first story) (dones (peer_behind first story) (TakesEvent e ∷ [])))
          ∙ ap (as_turns s) (sym (dones_both first story (TakesEvent e ∷ [])))
          ∙ ap (λ (c : Config). as_turns s (dones (fresh_peer c) longer)) (sym same),
    )

reset_dones : (p : Peer) (story : List Chapter) → dones p story ≡ dones p (story ++ IsSetBack ∷ [])
reset_dones p story = sym (dones_both p story (IsSetBack ∷ []) ∙ append-nil (dones p story))

made_by_reset : (turns : Turns) (story : List Chapter) (p q : Peer) → Makes turns story p → q ≡ set_back p →
    Makes turns (story ++ IsSetBack ∷ []) q
made_by_reset turns story p q made is =
    subst (Makes turns (story ++ IsSetBack ∷ [])) (sym is) (
      behind_both (fresh_peer p.config) story (IsSetBack ∷ []) ∙ ap set_back made.0,
      λ s. made.1 s ∙ ap (as_turns s) (reset_dones (fresh_peer p.config) story),
    )

abbrev Each : List NodeStep → List (Option Peer) → Type 0
Each past ps = (i : ℕ) (p : Peer) → peer_at ps i ≡ Some p → Makes (λ s. node_turns s i past) (node_story i past) p

module _ (past : List NodeStep) (ps : List (Option Peer)) (each : Each past ps) where
  added_here : (c : Config) (i : ℕ) (p : Peer) → i ≡ length ps → peer_at (with_new ps c) i ≡ Some p →
      Makes (λ s. []) [] p
  added_here c i p here at =
      elim (grown ps (Some (fresh_peer c)) i) [
        | inl same ↦ no_peer p (sym (nobody_behind ps) ∙ ap (peer_at ps) (sym here) ∙ sym same ∙ at)
        | inr last ↦ made_new p c (same_peer p (fresh_peer c) (sym at ∙ last.1))
      ]

  added_else : (c : Config) (i : ℕ) (p : Peer) → (i ≡ length ps → ⊥) → peer_at (with_new ps c) i ≡ Some p →
      peer_at ps i ≡ Some p
  added_else c i p un at =
      elim (grown ps (Some (fresh_peer c)) i) [
        | inl same ↦ sym same ∙ at
        | inr last ↦ absurd (un last.0)
      ]

  added_story : (c : Config) (i : ℕ) (p : Peer) (b : Bool) → nat_eq i (length ps) ≡ b →
      peer_at (with_new ps c) i ≡ Some p →
      Makes (λ s. if b then [] else node_turns s i past) (if b then [] else node_story i past) p
  added_story c i p true q at = added_here c i p (same_number i (length ps) q) at
  added_story c i p false q at = each i p (added_else c i p (other_number i (length ps) q) at)

  told_story : EachEventIsOneStep → (qs : List (Option Peer)) (j : ℕ) (e : PeerEvent) (actions : List Action) (i : ℕ)
      (p : Peer) (b : Bool) → nat_eq i j ≡ b → PeerIsTold ps qs j e actions → peer_at qs i ≡ Some p →
      Makes (λ s. if b then node_turns s i past ++ turn_as s e actions ∷ [] else node_turns s i past)
      (if b then node_story i past ++ TakesEvent e ∷ [] else node_story i past) p
  told_story law qs j e actions i p true q tells at =
      let here : i ≡ j = same_number i j q in
      let is : tells.after ≡ p = same_peer tells.after p (sym tells.is ∙ ap (peer_at qs) (sym here) ∙ at) in
      subst (Makes (λ s. node_turns s i past ++ turn_as s e actions ∷ []) (node_story i past ++ TakesEvent e ∷ [])) is
      (made_by_event law (λ s. node_turns s i past) (node_story i past) tells.before tells.after e actions
      (each i tells.before (ap (peer_at ps) here ∙ tells.was)) tells.acts)
  told_story law qs j e actions i p false q tells at = each i p (sym (tells.others i (other_number i j q)) ∙ at)

  removed_story : (j i : ℕ) (p : Peer) (b : Bool) → nat_eq i j ≡ b → peer_at (without_peer ps j) i ≡ Some p →
      Makes (λ s. node_turns s i past) (node_story i past) p
  removed_story j i p true q at =
      let there : peer_at (without_peer ps j) j ≡ Some p
      = ap (peer_at (without_peer ps j)) (sym (same_number i j q)) ∙ at in
      elim (set_at ps j None) [
        | inl gone ↦ no_peer p (sym gone ∙ there)
        | inr gone ↦ no_peer p (sym gone.0 ∙ there)
      ]
  removed_story j i p false q at = each i p (sym (set_else ps j i None (other_number i j q)) ∙ at)

  back_at : (i : ℕ) (p : Peer) (o : Option Peer) → peer_at ps i ≡ o → option_map set_back o ≡ Some p →
      Makes (λ s. node_turns s i past) (node_story i past ++ IsSetBack ∷ []) p
  back_at i p None was at = no_peer p at
  back_at i p (Some q) was at =
      made_by_reset (λ s. node_turns s i past) (node_story i past) q p (each i q was)
      (same_peer p (set_back q) (sym at))

  back_here : (i : ℕ) (p : Peer) → peer_at (with_set_back ps i) i ≡ Some p →
      Makes (λ s. node_turns s i past) (node_story i past ++ IsSetBack ∷ []) p
  back_here i p at =
      elim (set_at ps i (option_map set_back (peer_at ps i))) [
        | inl is ↦ back_at i p (peer_at ps i) refl (sym is ∙ at)
        | inr gone ↦ no_peer p (sym gone.0 ∙ at)
      ]

  back_story : (j i : ℕ) (p : Peer) (b : Bool) → nat_eq i j ≡ b → peer_at (with_set_back ps j) i ≡ Some p →
      Makes (λ s. node_turns s i past) (if b then node_story i past ++ IsSetBack ∷ [] else node_story i past) p
  back_story j i p true q at =
      back_here i p (ap (λ n. peer_at (with_set_back ps n) i) (same_number i j q) ∙ at)
  back_story j i p false q at = each i p (sym (set_else ps j i _ (other_number i j q)) ∙ at)

module _ (law : EachEventIsOneStep) where
  story : (past : List NodeStep) (ps : List (Option Peer)) → NodeBecame past ps → Each past ps
  story past ps nobody_yet i p at = no_peer p at
  story past ps (added old before c was) i p at = added_story old before (story old before was) c i p _ refl at
  story past ps (told old before after j e actions was tells) i p at =
      told_story old before (story old before was) law after j e actions i p _ refl tells at
  story past ps (refused_event old before j e was) i p at = story old before was i p at
  story past ps (unmoved old before was) i p at = story old before was i p at
  story past ps (removed old before j was) i p at = removed_story old before (story old before was) j i p _ refl at
  story past ps (back old before j was) i p at = back_story old before (story old before was) j i p _ refl at
  story past ps (all_back old before was) i p at =
      back_at old before (story old before was) i p (peer_at before i) refl (sym (each_back before i) ∙ at)

-- a neighbour of a node is what its story makes of a new peer, and its turns are those of the story
pub neighbour_is : EachEventIsOneStep → (past : List NodeStep) (ps : List (Option Peer)) (i : ℕ) (p : Peer) →
    NodeBecame past ps → peer_at ps i ≡ Some p →
    (peer_behind (fresh_peer p.config) (node_story i past) ≡ p)
    × ((s : Side) → node_turns s i past ≡ as_turns s (dones (fresh_peer p.config) (node_story i past)))
neighbour_is law past ps i p was at = story law past ps was i p at
