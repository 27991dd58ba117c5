-- For each run of two peers there are two nodes whose neighbours play its sides.
use Rattle.std.proofs.Common.{◌≡◌, ℕ, zero, suc, Some, List, [], ◌∷◌, ◌++◌, refl, sym, ap, subst, ◌∙◌}
use Rattle.std.proofs.lemmas.List.{append-nil, append_assoc}
use Rattle.dm_peer.specs.declared.actions.Action.{Action}
use Rattle.dm_peer.specs.declared.config.Config.{Config}
use Rattle.dm_peer.specs.declared.peer.Peer.{Peer}
use Rattle.dm_peer.specs.Events.{PeerEvent}
use Rattle.dm_peer.specs.Acts.{Outcome, Moved, Refused, acts}
use Rattle.dm_peer.specs.Steps.{EachEventIsOneStep}
use Rattle.dm_history.specs.Replaying.{peer_left}
use Rattle.dm_node.specs.Emptying.{set_back}
use Rattle.dm_node.specs.Holding.{peer_at}
use Rattle.dm_node.specs.NodeHistory.{NodeStep, WasAdded, WasTold, WasSetBack, NodeBecame, nobody_yet, added, told, back}
use Rattle.dm_node.specs.Telling.{PeerIsTold}
use Rattle.dm_two_peers.specs.Links.{A, B}
use Rattle.dm_two_peers.specs.Laws.{world_of}
use Rattle.dm_octet_peers.specs.Laws.{fresh_peer}
use Rattle.dm_two_nodes.specs.Numbering.{IsOneToOne}
use Rattle.dm_two_nodes.specs.Renaming.{PeersGoByNoNumber}
use Rattle.dm_two_nodes.specs.Stories.{Chapter, TakesEvent, IsSetBack, renumbered_story, node_story, side_story, gist}
use Rattle.dm_two_nodes.specs.Meeting.{Neighbour, PlaysSide, world_between, EachRunIsPlayed}
use Rattle.dm_two_nodes.proofs.Behind.{peer_behind, IsTaken, AreTaken, taken_renumbered}
use Rattle.dm_two_nodes.proofs.Neighbours.{config_kept}
use Rattle.dm_two_nodes.proofs.Sides.{side_takes}
use Rattle.dm_two_nodes.proofs.Gists.{gist_renumbered}

-- a node of one neighbour to which a story happened
pub record Lived (story : List Chapter) (p : Peer) : Type 0 where
  pub past : List NodeStep
  pub became : NodeBecame past (Some p ∷ [])
  pub is : node_story 0 past ≡ story

only_one : (p q : Peer) (j : ℕ) → (j ≡ 0 → ⊥) → peer_at (Some q ∷ []) j ≡ peer_at (Some p ∷ []) j
only_one p q zero un = absurd (un refl)
only_one p q (suc j) un = refl

one_told : (p q : Peer) (e : PeerEvent) (actions : List Action) → acts p e ≡ Moved actions q →
    PeerIsTold (Some p ∷ []) (Some q ∷ []) 0 e actions
one_told p q e actions is =
    record { before = p; after = q; was = refl; acts = is; is = refl; others = only_one p q; count = refl }

told_more : (story : List Chapter) (p : Peer) (e : PeerEvent) (o : Outcome) → acts p e ≡ o → IsTaken o →
    Lived story p → Lived (story ++ TakesEvent e ∷ []) (peer_left p o)
told_more story p e (Moved actions q) is taken lived =
    record {
      past = WasTold 0 e actions ∷ lived.past;
      became = told lived.past (Some p ∷ []) (Some q ∷ []) 0 e actions lived.became (one_told p q e actions is);
      is = ap (λ (l : List Chapter). l ++ TakesEvent e ∷ []) lived.is;
    }
told_more story p e (Refused fault) is taken lived = absurd taken

set_back_more : (story : List Chapter) (p : Peer) → Lived story p → Lived (story ++ IsSetBack ∷ []) (set_back p)
set_back_more story p lived =
    record {
      past = WasSetBack 0 ∷ lived.past;
      became = back lived.past (Some p ∷ []) 0 lived.became;
      is = ap (λ (l : List Chapter). l ++ IsSetBack ∷ []) lived.is;
    }

lived_on : (story : List Chapter) (p : Peer) (xs : List Chapter) → Lived story p → AreTaken p xs →
    Lived (story ++ xs) (peer_behind p xs)
lived_on story p [] lived taken = subst (λ (l : List Chapter). Lived l p) (sym (append-nil story)) lived
lived_on story p (TakesEvent e ∷ xs) lived taken =
    let q = peer_left p (acts p e) in
    subst (λ (l : List Chapter). Lived l (peer_behind q xs)) (append_assoc story (TakesEvent e ∷ []) xs)
    (lived_on (story ++ TakesEvent e ∷ []) q xs (told_more story p e (acts p e) refl taken.0 lived) taken.1)
lived_on story p (IsSetBack ∷ xs) lived taken =
    subst (λ (l : List Chapter). Lived l (peer_behind (set_back p) xs)) (append_assoc story (IsSetBack ∷ []) xs)
    (lived_on (story ++ IsSetBack ∷ []) (set_back p) xs (set_back_more story p lived) taken)

just_added : (c : Config) → Lived [] (fresh_peer c)
just_added c = record { past = WasAdded 0 ∷ []; became = added [] [] c nobody_yet; is = refl }

left_config : EachEventIsOneStep → (p : Peer) (e : PeerEvent) (o : Outcome) → acts p e ≡ o →
    (peer_left p o).config ≡ p.config
left_config law p e (Moved actions q) is = config_kept law p e actions q is
left_config law p e (Refused fault) is = refl

behind_config : EachEventIsOneStep → (p : Peer) (xs : List Chapter) → (peer_behind p xs).config ≡ p.config
behind_config law p [] = refl
behind_config law p (TakesEvent e ∷ xs) =
    behind_config law (peer_left p (acts p e)) xs ∙ left_config law p e (acts p e) refl
behind_config law p (IsSetBack ∷ xs) = behind_config law (set_back p) xs

module _ (numbers : PeersGoByNoNumber) (step : EachEventIsOneStep) where
  module _ (f : ℕ → ℕ) (one : IsOneToOne f) (c : Config) (xs : List Chapter) (taken : AreTaken (fresh_peer c) xs) where
    player_lived : Lived (renumbered_story f xs) (peer_behind (fresh_peer c) (renumbered_story f xs))
    player_lived =
        lived_on [] (fresh_peer c) (renumbered_story f xs) (just_added c)
        (taken_renumbered numbers f one (fresh_peer c) xs taken)

    abbrev player : Neighbour
    player =
        record {
          past = player_lived.past;
          peers = Some (peer_behind (fresh_peer c) (renumbered_story f xs)) ∷ [];
          number = 0;
          peer = peer_behind (fresh_peer c) (renumbered_story f xs);
          became = player_lived.became;
          there = refl;
        }

    player_config : player.peer.config ≡ c
    player_config = behind_config step (fresh_peer c) (renumbered_story f xs)

    plays_it : gist (fresh_peer player.peer.config) (node_story player.number player.past)
        ≡ renumbered_story f (gist (fresh_peer c) xs)
    plays_it =
        ap (λ (k : Config). gist (fresh_peer k) (node_story 0 player.past)) player_config
        ∙ ap (gist (fresh_peer c)) player_lived.is ∙ gist_renumbered numbers f one (fresh_peer c) xs

  pub each_run_is_played : EachRunIsPlayed
  each_run_is_played f g a b hs one other =
      let w = world_of (fresh_peer a) (fresh_peer b) in
      let n = player f one a (side_story A w hs) (side_takes w hs A) in
      let m = player g other b (side_story B w hs) (side_takes w hs B) in
      let left = player_config f one a (side_story A w hs) (side_takes w hs A) in
      let right = player_config g other b (side_story B w hs) (side_takes w hs B) in
      let same : world_between n m ≡ w
      = ap (λ (c : Config). world_of (fresh_peer c) (fresh_peer m.peer.config)) left
      ∙ ap (λ (c : Config). world_of (fresh_peer a) (fresh_peer c)) right in
      record {
        near = n;
        far = m;
        near_config = left;
        far_config = right;
        meet = record {
          left = subst (λ v. PlaysSide f n A v hs) (sym same)
              (record {
                apart = one;
                begins = ap fresh_peer (sym left);
                story = plays_it f one a (side_story A w hs) (side_takes w hs A);
              });
          right = subst (λ v. PlaysSide g m B v hs) (sym same)
              (record {
                apart = other;
                begins = ap fresh_peer (sym right);
                story = plays_it g other b (side_story B w hs) (side_takes w hs B);
              });
        };
      }
