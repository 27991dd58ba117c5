-- The peer behind a story: one story behind another, and a story under other numbers.
use Rattle.std.specs.Prelude.{⊤}
use Rattle.std.proofs.Common.{sym, subst, ◌≡◌, ℕ, List, [], ◌∷◌, ◌++◌, refl, ap, ◌∙◌}
use Rattle.dm_peer.specs.declared.peer.Peer.{Peer}
use Rattle.dm_peer.specs.Acts.{Outcome, Moved, Refused, acts}
use Rattle.dm_history.specs.Replaying.{peer_left}
use Rattle.dm_node.specs.Emptying.{set_back}
use Rattle.dm_two_peers.specs.Links.{Side}
use Rattle.dm_two_peers.specs.Turns.{WorldTurn}
use Rattle.dm_two_nodes.specs.Delivering.{turn_as}
use Rattle.dm_peer.specs.Events.{PeerEvent}
use Rattle.dm_peer.specs.declared.actions.Action.{Action}
use Rattle.dm_two_nodes.specs.Numbering.{IsOneToOne}
use Rattle.dm_two_nodes.specs.Renaming.{renumbered_acts, renumbered_peer, PeersGoByNoNumber}
use Rattle.dm_two_nodes.specs.Stories.{Chapter, TakesEvent, IsSetBack, renumbered_story}

-- the peer behind a story
abbrev pub peer_behind : Peer → List Chapter → Peer
peer_behind p [] = p
peer_behind p (TakesEvent e ∷ more) = peer_behind (peer_left p (acts p e)) more
peer_behind p (IsSetBack ∷ more) = peer_behind (set_back p) more

pub behind_both : (p : Peer) (xs ys : List Chapter) → peer_behind p (xs ++ ys) ≡ peer_behind (peer_behind p xs) ys
behind_both p [] ys = refl
behind_both p (TakesEvent e ∷ xs) ys = behind_both (peer_left p (acts p e)) xs ys
behind_both p (IsSetBack ∷ xs) ys = behind_both (set_back p) xs ys

pub left_renumbered : (f : ℕ → ℕ) (p : Peer) (o : Outcome) →
    peer_left (renumbered_peer f p) (renumbered_acts f o) ≡ renumbered_peer f (peer_left p o)
left_renumbered f p (Moved actions next) = refl
left_renumbered f p (Refused fault) = refl

pub behind_renumbered : PeersGoByNoNumber → (f : ℕ → ℕ) → IsOneToOne f → (p : Peer) (xs : List Chapter) →
    peer_behind (renumbered_peer f p) (renumbered_story f xs) ≡ renumbered_peer f (peer_behind p xs)
behind_renumbered law f one p [] = refl
behind_renumbered law f one p (TakesEvent e ∷ xs) =
    ap (λ (q : Peer). peer_behind q (renumbered_story f xs))
    (ap (peer_left (renumbered_peer f p)) (law f p e one) ∙ left_renumbered f p (acts p e))
    ∙ behind_renumbered law f one (peer_left p (acts p e)) xs
behind_renumbered law f one p (IsSetBack ∷ xs) = behind_renumbered law f one (set_back p) xs

-- what a peer does at each event of a story
abbrev pub deeds : Outcome → List Action
deeds (Moved actions next) = actions
deeds (Refused fault) = []

abbrev pub dones : Peer → List Chapter → List (PeerEvent × List Action)
dones p [] = []
dones p (TakesEvent e ∷ more) = (e, deeds (acts p e)) ∷ dones (peer_left p (acts p e)) more
dones p (IsSetBack ∷ more) = dones (set_back p) more

pub dones_both : (p : Peer) (xs ys : List Chapter) → dones p (xs ++ ys) ≡ dones p xs ++ dones (peer_behind p xs) ys
dones_both p [] ys = refl
dones_both p (TakesEvent e ∷ xs) ys =
    ap (λ (l : List (PeerEvent × List Action)). (e, deeds (acts p e)) ∷ l) (dones_both (peer_left p (acts p e)) xs ys)
dones_both p (IsSetBack ∷ xs) ys = dones_both (set_back p) xs ys

-- as turns of a side
abbrev pub as_turns : Side → List (PeerEvent × List Action) → List (WorldTurn (List ℕ))
as_turns s [] = []
as_turns s (d ∷ l) = turn_as s d.0 d.1 ∷ as_turns s l

pub turns_both : (s : Side) (k l : List (PeerEvent × List Action)) → as_turns s (k ++ l) ≡ as_turns s k ++ as_turns s l
turns_both s [] l = refl
turns_both s (d ∷ k) l = ap (λ (us : List (WorldTurn (List ℕ))). turn_as s d.0 d.1 ∷ us) (turns_both s k l)

-- each event of a story is taken, and none refused
abbrev pub IsTaken : Outcome → Type 0
IsTaken (Moved actions next) = ⊤
IsTaken (Refused fault) = ⊥

abbrev pub AreTaken : Peer → List Chapter → Type 0
AreTaken p [] = ⊤
AreTaken p (TakesEvent e ∷ more) = IsTaken (acts p e) × AreTaken (peer_left p (acts p e)) more
AreTaken p (IsSetBack ∷ more) = AreTaken (set_back p) more

pub taken_both : (p : Peer) (xs ys : List Chapter) → AreTaken p xs → AreTaken (peer_behind p xs) ys →
    AreTaken p (xs ++ ys)
taken_both p [] ys first more = more
taken_both p (TakesEvent e ∷ xs) ys first more =
    (first.0, taken_both (peer_left p (acts p e)) xs ys first.1 more)
taken_both p (IsSetBack ∷ xs) ys first more = taken_both (set_back p) xs ys first more

taken_renumbered_at : (f : ℕ → ℕ) (o : Outcome) → IsTaken o → IsTaken (renumbered_acts f o)
taken_renumbered_at f (Moved actions next) is = tt
taken_renumbered_at f (Refused fault) is = is

pub taken_renumbered : PeersGoByNoNumber → (f : ℕ → ℕ) → IsOneToOne f → (p : Peer) (xs : List Chapter) →
    AreTaken p xs → AreTaken (renumbered_peer f p) (renumbered_story f xs)
taken_renumbered law f one p [] is = tt
taken_renumbered law f one p (TakesEvent e ∷ xs) is = (
  subst IsTaken (sym (law f p e one)) (taken_renumbered_at f (acts p e) is.0),
  subst (λ (q : Peer). AreTaken q (renumbered_story f xs))
      (sym (ap (peer_left (renumbered_peer f p)) (law f p e one) ∙ left_renumbered f p (acts p e)))
      (taken_renumbered law f one (peer_left p (acts p e)) xs is.1),
)
taken_renumbered law f one p (IsSetBack ∷ xs) is = taken_renumbered law f one (set_back p) xs is
