-- How far a link of a clean run has come, and what a step of a peer in it comes to.
use Rattle.std.proofs.Common.{◌≡◌, ℕ, true, IsTrue, Option, Some, None, List, [], ◌∷◌, ◌++◌, refl, ap, subst, ◌∙◌}
use Rattle.std.specs.Prelude.{option_map}
use Rattle.dm_machine.specs.Moves.{NodeOutcome, NodeMoved}
use Rattle.dm_two_peers.specs.Machine.{conn, Node, Input, Command, machine_outcome, tie_of, is_tie_held}
use Rattle.dm_two_peers.specs.Links.{Side, LinkPhase, LinkPending, LinkUp, End, Fresh, Open, Shut, Mark, NoMark, Coming, Direction}
use Rattle.dm_two_peers.specs.Links.{View, by_side}
use Rattle.dm_two_peers.specs.Peers.{Event, Action, ActsBy, Peers, concern_by}
use Rattle.dm_two_peers.specs.Steps.{entered}
use Rattle.dm_two_peers.specs.Worlds.{World, peer_on, Put, enter, puts_of, puts_at_entry, tell}
use Rattle.dm_machine.specs.Awaiting.{awaits_cea, holds_cer, number_after, waiting_after}
use Rattle.dm_two_peers.specs.Electing.{Talks, IsPeerOf, IsReadAs, has_send_cer, IsSaid, AreSaid, RepliesBy, RepliesAs}
use Rattle.dm_two_peers.specs.Electing.{IsElecting}
use Rattle.dm_two_peers.proofs.Columns.{stepped}
use Rattle.dm_two_peers.proofs.Stepped.{IsStart, entered_at}
use Rattle.dm_two_peers.proofs.Pairs.{IsPair, own_by, other_by, Stands, AreAt, puts_by, names, puts_of_two}
use Rattle.dm_two_peers.proofs.Told.{Goes, IsCalm, told_at}

-- not made; its connect is pending; its CER is under way; it is accepted, or done; its CEA is under way. After a won
-- election: its CER and its disconnect are under way, the disconnect alone is, both ends are shut
pub data Stage : Type 0 where
  Unmade : Stage
  Dialled : Stage
  Asked : Stage
  Accepted : Stage
  Answered : Stage
  Dropped : Stage
  Halved : Stage
  Parted : Mark → Mark → Stage

abbrev pub direction_of : {M : Type 0} → List M → ℕ → Mark → Direction M
direction_of ms n mark = record { messages = ms; taken = n; mark = mark }

abbrev pub seen : {M : Type 0} → LinkPhase → End → End → Direction M → Direction M → View M
seen p own other i o = record { phase = p; own = own; other = other; incoming = i; outgoing = o }

-- acts its opener sees it, with its CER, its CEA, and the octets delivered of what is under way
abbrev pub stage_view : {M : Type 0} → Stage → M → M → ℕ → ℕ → Option (View M)
stage_view Unmade a b j k = None
stage_view Dialled a b j k = Some (seen LinkPending Shut Shut (direction_of [] j NoMark) (direction_of [] k NoMark))
stage_view Asked a b j k = Some (seen LinkUp Open Fresh (direction_of [] j NoMark) (direction_of (a ∷ []) k NoMark))
stage_view Accepted a b j k = Some (seen LinkUp Open Open (direction_of [] j NoMark) (direction_of [] k NoMark))
stage_view Answered a b j k = Some (seen LinkUp Open Open (direction_of (b ∷ []) j NoMark) (direction_of [] k NoMark))
stage_view Dropped a b j k = Some (seen LinkUp Shut Fresh (direction_of [] j NoMark) (direction_of (a ∷ []) k Coming))
stage_view Halved a b j k = Some (seen LinkUp Shut Open (direction_of [] j NoMark) (direction_of [] k Coming))
stage_view (Parted i o) a b j k = Some (seen LinkUp Shut Shut (direction_of [] j i) (direction_of [] k o))

-- what commands make a peer do
module _ {P M C H : Type 0} (m : Peers P M) (t : Talks P M C H) where
  pub none_said : (s : Side) (p : P) (heard : Option H) (acts : List (Action M)) → AreSaid t s p heard [] acts →
      acts ≡ []
  none_said s p heard [] h = refl
  none_said s p heard (a ∷ acts) h = absurd h

  pub one_said : (s : Side) (p : P) (heard : Option H) (c : Command) (x : Action M) (acts : List (Action M)) →
      ((a : Action M) → IsSaid t s p heard c a → a ≡ x) → AreSaid t s p heard (c ∷ []) acts → acts ≡ x ∷ []
  one_said s p heard c x [] f h = absurd h
  one_said s p heard c x (a ∷ acts) f h = ap (λ (b : Action M). b ∷ acts) (f a h.0)
      ∙ ap (λ (bs : List (Action M)). x ∷ bs) (none_said s p heard acts h.1)

  pub two_said : (s : Side) (p : P) (heard : Option H) (c d : Command) (x y : Action M) (acts : List (Action M)) →
      ((a : Action M) → IsSaid t s p heard c a → a ≡ x) → ((a : Action M) → IsSaid t s p heard d a → a ≡ y) →
      AreSaid t s p heard (c ∷ d ∷ []) acts → acts ≡ x ∷ y ∷ []
  two_said s p heard c d x y [] f g h = absurd h
  two_said s p heard c d x y (a ∷ acts) f g h = ap (λ (b : Action M). b ∷ acts) (f a h.0)
      ∙ ap (λ (bs : List (Action M)). x ∷ bs) (one_said s p heard d y acts g h.1)

  pub three_said : (s : Side) (p : P) (heard : Option H) (c d e : Command) (x y z : Action M)
      (acts : List (Action M)) → ((a : Action M) → IsSaid t s p heard c a → a ≡ x) →
      ((a : Action M) → IsSaid t s p heard d a → a ≡ y) →
      ((a : Action M) → IsSaid t s p heard e a → a ≡ z) → AreSaid t s p heard (c ∷ d ∷ e ∷ []) acts →
      acts ≡ x ∷ y ∷ z ∷ []
  three_said s p heard c d e x y z [] f g k h = absurd h
  three_said s p heard c d e x y z (a ∷ acts) f g k h =
      ap (λ (b : Action M). b ∷ acts) (f a h.0)
      ∙ ap (λ (bs : List (Action M)). x ∷ bs) (two_said s p heard d e y z acts g k h.1)

  pub replied : IsElecting m t → (s : Side) (p : P) (e : Event M) (i : Input) (heard : Option H) → IsPeerOf t s p →
      IsReadAs m t s p e i heard → (n : Node) → m.node_of p ≡ n → (commands : List Command) (next : Node) →
      machine_outcome n i (t.wins s) ≡ NodeMoved commands next → RepliesBy m t s p heard commands next (m.reply p e)
  replied el s p e i heard is reads n node commands next out =
      subst (λ (o : NodeOutcome). RepliesAs m t s p heard o (m.reply p e))
      (ap (λ (k : Node). machine_outcome k i (t.wins s)) node ∙ out) (el.replies s p e i heard is reads)

  -- a reply's peer stands
  pub stands_by : (s : Side) (p : P) (e : Event M) (heard : Option H) (commands : List Command) (n next : Node)
      (h h' : ℕ) → m.node_of p ≡ n → (r : RepliesBy m t s p heard commands next (m.reply p e)) →
      (awaits_cea next.state ≡ true →
      number_after (awaits_cea next.state) (has_send_cer commands) (t.next_of p) (t.awaited_of p) ≡ Some h) →
      (holds_cer next.state ≡ true →
      waiting_after n.state heard next.state (t.waiting_of p) ≡ Some (t.cer_header h')) →
      IsTrue (t.is_number h) → Stands m t s r.peer next h h'
  stands_by s p e heard commands n next h h' node r f g number =
      record {
        peer = r.same;
        node = r.node;
        awaits = λ b. r.awaited ∙ f b;
        waits = λ b. r.waiting
            ∙ (ap (λ (k : Node). waiting_after k.state heard next.state (t.waiting_of p)) node ∙ g b);
        number = number;
      }

  -- one step: what is asked of it, piece by piece
  pub turn : IsElecting m t → (s o : Side) → IsPair s o →
      (w : World P M) (x y : ℕ) (u v u1 v1 : Option (View M)) (n n' n1 : Node) (h h' h1 : ℕ) (e : Event M)
      (i : Input) (heard : Option H) (commands : List Command)
      (actions : List (Action M)) (ps : List (Put M)) → AreAt m t s o w x y u v n n' h h' →
      (IsStart e → ⊥) → IsReadAs m t s (peer_on s w) e i heard → machine_outcome n i (t.wins s) ≡ NodeMoved commands n1 →
      ((acts : List (Action M)) → AreSaid t s (peer_on s w) heard commands acts → acts ≡ actions) →
      (awaits_cea n1.state ≡ true →
      number_after (awaits_cea n1.state) (has_send_cer commands) (t.next_of (peer_on s w))
      (t.awaited_of (peer_on s w)) ≡ Some h1) →
      (holds_cer n1.state ≡ true →
      waiting_after n.state heard n1.state (t.waiting_of (peer_on s w)) ≡ Some (t.cer_header h')) →
      IsTrue (t.is_number h1) → (holds_cer n'.state ≡ true → h1 ≡ h) →
      option_map (stepped (concern_by e (conn x)) (is_tie_held (tie_of n1 x)) x actions) u ≡ u1 →
      option_map (stepped (concern_by e (conn y)) (is_tie_held (tie_of n1 y)) y actions) v ≡ v1 →
      IsCalm e actions x y → names x y actions ≡ true → puts_at_entry s e w.links ≡ [] →
      puts_by o x y actions (option_map (entered (concern_by e (conn x))) u)
      (option_map (entered (concern_by e (conn y))) v) ≡ ps → Goes m t s o x y u1 v1 n1 n' h1 h' (tell m s e w) ps
  turn el s o pair w x y u v u1 v1 n n' n1 h h' h1 e i heard commands actions ps a no_start reads
      out said f g number still to_u to_v calm named at_entry puts =
      let p = peer_on s w in
      let r = replied el s p e i heard a.own.peer reads n a.own.node commands n1 out in
      let links = enter s e w.links in
      let at_x = entered_at s e x w.links no_start
      ∙ (ap (option_map (by_side s (entered (concern_by e (conn x))))) a.at_x
      ∙ own_by s o pair (entered (concern_by e (conn x))) u) in
      let at_y = entered_at s e y w.links no_start
      ∙ (ap (option_map (by_side s (entered (concern_by e (conn y))))) a.at_y
      ∙ other_by s o pair (entered (concern_by e (conn y))) v) in
      let all : puts_at_entry s e w.links ++ puts_of s actions links ≡ ps =
      ap (λ (qs : List (Put M)). qs ++ puts_of s actions links) at_entry
      ∙ (puts_of_two s o pair actions links x y (option_map (entered (concern_by e (conn x))) u)
      (option_map (entered (concern_by e (conn y))) v) at_x at_y named ∙ puts) in
      told_at m t s o pair w x y u v u1 v1 n n' n1 h h' h1 e actions r.peer ps a no_start
      (r.replies ∙ ap (λ (acts : List (Action M)). ActsBy acts r.peer) (said r.actions r.said))
      (stands_by s p e heard commands n n1 h1 h' a.own.node r f g number) still to_u to_v calm all
