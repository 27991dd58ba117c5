-- Starts, and disconnects that come to a shut end, in a clean run.
use Rattle.std.proofs.Common.{◌≡◌, ℕ, zero, suc, ◌==◌, true, false, Option, Some, None, List, [], ◌∷◌, ◌++◌, length}
use Rattle.std.proofs.Common.{slice_get, refl, sym, ap, subst, ◌∙◌, arith, inl, inr}
use Rattle.std.specs.Prelude.{option_map}
use Rattle.std.proofs.lemmas.Bool.{ne_eqb}
use Rattle.std.proofs.lemmas.Option.{slice_get_within}
use Rattle.dm_machine.specs.declared.inputs.Input.TheVariants as input
use Rattle.dm_machine.specs.declared.outputs.Command.TheVariants as command
use Rattle.dm_machine.specs.declared.outputs.Refusal.TheVariants.{NotClosed}
use Rattle.dm_machine.specs.Moves.{NodeOutcome, NodeRefused}
use Rattle.dm_two_peers.specs.Machine.{conn, Node, machine_outcome, closed_node}
use Rattle.dm_two_peers.specs.Links.{Side, A, B, Coming, Delivered, Link, View, link_of, by_side, new_link}
use Rattle.dm_two_peers.specs.Peers.{Event, StartEvent, GoneEvent, Action, Connect, ActsBy, Declines, Peers, concern_by}
use Rattle.dm_two_peers.specs.Steps.{entered}
use Rattle.dm_two_peers.specs.Worlds.{World, peer_on, with_peer, with_links, enter, Ignored, after_reply, tell, after_drop}
use Rattle.dm_two_peers.specs.Quiet.{is_quiet_link}
use Rattle.dm_two_peers.specs.Electing.{Talks, reads_start, RepliesAs, IsElecting}
use Rattle.dm_two_peers.proofs.Stepped.{IsStart, entered_at}
use Rattle.dm_two_peers.proofs.Lists.{mapped_some}
use Rattle.dm_two_peers.proofs.StartKeeps.{appended_at}
use Rattle.dm_two_peers.proofs.Pairs.{IsPair, mirror, own_by, other_by, here_after, there_after, links_after, Stands, AreAt}
use Rattle.dm_two_peers.proofs.Pairs.{not_same}
use Rattle.dm_two_peers.proofs.Told.{Goes, calm_link}
use Rattle.dm_two_peers.proofs.CleanSteps.{wait_conn_ack, out_start}
use Rattle.dm_two_peers.proofs.Stages.{Dialled, Parted, one_said, replied, stands_by}
use Rattle.dm_two_peers.proofs.Acting.{unnamed, itself, own_at}

appended_last : {X : Type 0} (xs : List X) (z : X) → slice_get (xs ++ z ∷ []) (length xs) ≡ Some z
appended_last [] z = refl
appended_last (x ∷ xs) z = appended_last xs z

appended_past : {X : Type 0} (xs : List X) (z : X) → slice_get (xs ++ z ∷ []) (suc (length xs)) ≡ None
appended_past [] z = refl
appended_past (x ∷ xs) z = appended_past xs z

appended_before : {X : Type 0} (xs : List X) (z : X) (c : ℕ) (o : X) → slice_get xs c ≡ Some o →
    slice_get (xs ++ z ∷ []) c ≡ Some o
appended_before [] z c o h = cc
appended_before (x ∷ xs) z zero o h = h
appended_before (x ∷ xs) z (suc c) o h = appended_before xs z c o h

pub same_peers : {P M : Type 0} (s : Side) (links : List (Link M)) (w : World P M) →
    peer_on s w ≡ peer_on s (with_links links w)
same_peers A links w = refl
same_peers B links w = refl

module _ {P M C H : Type 0} (m : Peers P M) (t : Talks P M C H) where
  -- what comes to a shut end
  pub dropped_at : (s o : Side) → IsPair s o →
      (w : World P M) (x y : ℕ) (u v u1 v1 : Option (View M)) (n n' : Node) (h h' : ℕ) (e : Event M) →
      AreAt m t s o w x y u v n n' h h' → (IsStart e → ⊥) →
      option_map (entered (concern_by e (conn x))) u ≡ u1 → option_map (entered (concern_by e (conn y))) v ≡ v1 →
      ((d : ℕ) (z : View M) → (x == d) ≡ false → (y == d) ≡ false → entered (concern_by e (conn d)) z ≡ z) →
      Goes m t s o x y u1 v1 n n' h h' (after_drop s e w) []
  dropped_at s o pair w x y u v u1 v1 n n' h h' e a no_start to_u to_v calm =
      let links = enter s e w.links in
      record {
        world = with_links links w;
        put = [];
        is = refl;
        at = record {
          own = subst (λ q. Stands m t s q n h h') (same_peers s links w) a.own;
          other = subst (λ q. Stands m t o q n' h' h) (same_peers o links w) a.other;
          at_x = entered_at s e x w.links no_start
              ∙ (ap (option_map (by_side s (entered (concern_by e (conn x))))) a.at_x
              ∙ (own_by s o pair (entered (concern_by e (conn x))) u ∙ ap (option_map (link_of true s)) to_u));
          at_y = entered_at s e y w.links no_start
              ∙ (ap (option_map (by_side s (entered (concern_by e (conn y))))) a.at_y
              ∙ (other_by s o pair (entered (concern_by e (conn y))) v ∙ ap (option_map (link_of false o)) to_v));
          apart = a.apart;
          others = λ d l at hx hy.
              let f = entered (concern_by e (conn d)) in
              let old = mapped_some (by_side s f) (slice_get w.links d) l
              (sym (entered_at s e d w.links no_start) ∙ at) in
              subst (λ k. is_quiet_link k ≡ true) (sym (old.2 ∙ calm_link s f old.0 (calm d _ hx hy)))
              (a.others d old.0 old.1 hx hy);
        };
        is_put = refl;
      }

  pub shut_own : (s o : Side) → IsPair s o →
      (w : World P M) (x y j k : ℕ) (v : Option (View M)) (n n' : Node) (h h' : ℕ) (mark : _) →
      AreAt m t s o w x y (own_at m t s o (Parted Coming mark) h j k) v n n' h h' →
      Goes m t s o x y (own_at m t s o (Parted Delivered mark) h j k) v n n' h h'
      (after_drop s (GoneEvent (conn x)) w) []
  shut_own s o pair w x y j k v n n' h h' mark a =
      let xx = itself x in
      let xy = a.apart in
      dropped_at s o pair w x y (own_at m t s o (Parted Coming mark) h j k) v
      (own_at m t s o (Parted Delivered mark) h j k) v n n' h h' (GoneEvent (conn x)) a (λ q. elim q [ ])
      (simp (xx)) (unnamed _ v (λ z. simp (xy))) (λ d z hx hy. simp (hx))

  pub shut_other : (s o : Side) → IsPair s o →
      (w : World P M) (x y j k : ℕ) (u : Option (View M)) (n n' : Node) (h h' : ℕ) (mark : _) →
      AreAt m t s o w x y u (option_map mirror (own_at m t o s (Parted mark Coming) h' j k)) n n' h h' →
      Goes m t s o x y u (option_map mirror (own_at m t o s (Parted mark Delivered) h' j k)) n n' h h'
      (after_drop s (GoneEvent (conn y)) w) []
  shut_other s o pair w x y j k u n n' h h' mark a =
      let yy = itself y in
      let yx = not_same x y a.apart in
      dropped_at s o pair w x y u (option_map mirror (own_at m t o s (Parted mark Coming) h' j k)) u
      (option_map mirror (own_at m t o s (Parted mark Delivered) h' j k)) n n' h h' (GoneEvent (conn y)) a
      (λ q. elim q [ ]) (unnamed _ u (λ z. simp (yx))) (simp (yy)) (λ d z hx hy. simp (hy))

  -- a Start of a closed peer
  start_of : IsElecting m t → (s o : Side) → IsPair s o →
      (w : World P M) (y : ℕ) (v : Option (View M)) (n' : Node) (h h' : ℕ) →
      Stands m t s (peer_on s w) closed_node h h' → Stands m t o (peer_on o w) n' h' h →
      slice_get (w.links ++ new_link s ∷ []) y ≡ option_map (link_of false o) v → (length w.links == y) ≡ false →
      ((d : ℕ) (l : Link M) → slice_get w.links d ≡ Some l → (y == d) ≡ false → is_quiet_link l ≡ true) →
      Goes m t s o (length w.links) y (own_at m t s o Dialled h 0 0) v (wait_conn_ack (length w.links)) n' h h'
      (tell m s (StartEvent (conn (length w.links))) w) []
  start_of el s o pair w y v n' h h' own other at_y apart others =
      let x = length w.links in
      let p = peer_on s w in
      let e : Event M = StartEvent (conn x) in
      let r = replied m t el s p e (input.Start (conn x)) None own.peer (reads_start (conn x)) closed_node own.node
      (command.Connect (conn x) ∷ []) (wait_conn_ack x) (out_start x (t.wins s)) in
      let act : Action M = Connect (conn x) in
      let said = one_said m t s p None (command.Connect (conn x)) act r.actions (λ b q. q) r.said in
      let links = w.links ++ new_link s ∷ [] in
      let w1 = with_peer s r.peer links w in
      let reply : m.reply p e ≡ ActsBy (act ∷ []) r.peer = r.replies
      ∙ ap (λ (acts : List (Action M)). ActsBy acts r.peer) said in
      let stands = stands_by m t s p e None (command.Connect (conn x) ∷ []) closed_node
      (wait_conn_ack x) h h' own.node r (λ b. cc) (λ b. cc) own.number in
      record {
        world = w1;
        put = [];
        is = ap (λ q. after_reply m s e w q) reply;
        at = record {
          own = subst (λ q. Stands m t s q (wait_conn_ack x) h h')
              (sym (here_after s o pair r.peer links w)) stands;
          other = subst (λ q. Stands m t o q n' h' h) (there_after s o pair r.peer links w) other;
          at_x = ap (λ (ls : List (Link M)). slice_get ls x) (sym (links_after s r.peer links w))
              ∙ appended_last w.links (new_link s);
          at_y = ap (λ (ls : List (Link M)). slice_get ls y) (sym (links_after s r.peer links w)) ∙ at_y;
          apart = apart;
          others = λ d l at hx hy.
              elim (appended_at w.links (new_link s) d l
              (ap (λ (ls : List (Link M)). slice_get ls d) (links_after s r.peer links w) ∙ at)) [
                | inl there ↦ others d l there hy
                | inr q ↦ absurd (cc (ap (λ k. x == k) q.0 ∙ itself x, hx))
              ];
        };
        is_put = refl;
      }

  none_there : {X : Type 0} (xs : List X) (c d : ℕ) (z : X) → slice_get xs c ≡ None → slice_get xs d ≡ Some z →
      (c == d) ≡ false
  none_there xs c d z h g = ne_eqb c d (λ e. cc (h, subst (λ k. slice_get xs k ≡ Some z) (sym e) g))

  pub start_first : IsElecting m t → (s o : Side) → IsPair s o → (w : World P M) (x y : ℕ) (n' : Node) (h h' : ℕ) →
      AreAt m t s o w x y None None closed_node n' h h' →
      Goes m t s o (length w.links) (suc (length w.links)) (own_at m t s o Dialled h 0 0) None
      (wait_conn_ack (length w.links)) n' h h' (tell m s (StartEvent (conn (length w.links))) w) []
  start_first el s o pair w x y n' h h' a =
      start_of el s o pair w (suc (length w.links)) None n' h h' a.own a.other (appended_past w.links (new_link s))
      (ne_eqb _ _ (λ e. absurd (omega (arith, e))))
      (λ d l at hy. a.others d l at (none_there w.links x d l a.at_x at) (none_there w.links y d l a.at_y at))

  pub start_second : IsElecting m t → (s o : Side) → IsPair s o →
      (w : World P M) (x y : ℕ) (z : View M) (n' : Node) (h h' : ℕ) →
      AreAt m t s o w x y None (Some z) closed_node n' h h' →
      Goes m t s o (length w.links) y (own_at m t s o Dialled h 0 0) (Some z)
      (wait_conn_ack (length w.links)) n' h h' (tell m s (StartEvent (conn (length w.links))) w) []
  start_second el s o pair w x y z n' h h' a =
      let within = slice_get_within w.links y (link_of false o z) a.at_y in
      start_of el s o pair w y (Some z) n' h h' a.own a.other
      (appended_before w.links (new_link s) y (link_of false o z) a.at_y)
      (ne_eqb _ _ (λ e. absurd (omega (arith, e, within))))
      (λ d l at hy. a.others d l at (none_there w.links x d l a.at_x at) hy)

  -- a Start of any other peer is declined
  pub start_declined : IsElecting m t → (s : Side) (w : World P M) (n : Node) (h h' : ℕ) →
      Stands m t s (peer_on s w) n h h' →
      machine_outcome n (input.Start (conn (length w.links))) (t.wins s) ≡ NodeRefused NotClosed →
      tell m s (StartEvent (conn (length w.links))) w ≡ Ignored
  start_declined el s w n h h' own out =
      let p = peer_on s w in
      let e : Event M = StartEvent (conn (length w.links)) in
      let declined : m.reply p e ≡ Declines =
      subst (λ (o : NodeOutcome). RepliesAs m t s p None o (m.reply p e))
      (ap (λ (k : Node). machine_outcome k (input.Start (conn (length w.links))) (t.wins s)) own.node ∙ out)
      (el.replies s p e (input.Start (conn (length w.links))) None own.peer (reads_start (conn (length w.links)))) in
      ap (λ q. after_reply m s e w q) declined
