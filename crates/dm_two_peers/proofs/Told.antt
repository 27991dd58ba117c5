-- What a side's reply makes of a world of a clean run.
use Rattle.std.proofs.Common.{◌≡◌, ℕ, ◌==◌, Bool, true, false, Option, Some, List, ◌++◌, slice_get, sym, ap, subst, ◌∙◌}
use Rattle.std.specs.Prelude.{option_map}
use Rattle.dm_two_peers.specs.Machine.{conn, Node, tie_of, is_tie_held}
use Rattle.dm_two_peers.specs.Links.{Side, opens, Link, View, view_of, link_of, by_side}
use Rattle.dm_two_peers.specs.Peers.{Event, Action, ActsBy, Peers, concern_by}
use Rattle.dm_two_peers.specs.Worlds.{World, peer_on, with_peer, Put, enter, perform, settle, puts_of, puts_at_entry, After}
use Rattle.dm_two_peers.specs.Worlds.{DoneWith, after_reply, tell}
use Rattle.dm_two_peers.specs.Quiet.{is_quiet_link}
use Rattle.dm_machine.specs.Awaiting.{holds_cer}
use Rattle.dm_two_peers.specs.Electing.{Talks}
use Rattle.dm_two_peers.proofs.Columns.{stepped}
use Rattle.dm_two_peers.proofs.Stepped.{IsStart, stepped_at}
use Rattle.dm_two_peers.proofs.Lists.{mapped_some, by_side-same}
use Rattle.dm_two_peers.proofs.Pairs.{IsPair, own_by, other_by, here_after, there_after, links_after, Stands, AreAt}

-- a happening that is done, what it leaves, and what it puts in
pub record Goes {P M C H : Type 0} (m : Peers P M) (t : Talks P M C H) (s o : Side) (x y : ℕ)
    (u v : Option (View M)) (n n' : Node) (h h' : ℕ) (after : After P M) (puts : List (Put M)) : Type 0 where
  pub world : World P M
  pub put : List (Put M)
  pub is : after ≡ DoneWith world put
  pub at : AreAt m t s o world x y u v n n' h h'
  pub is_put : put ≡ puts

-- what actions don't name stays
abbrev pub IsCalm : {M : Type 0} → Event M → List (Action M) → ℕ → ℕ → Type 0
IsCalm {M} e actions x y = (d : ℕ) (b : Bool) (v : View M) → (x == d) ≡ false → (y == d) ≡ false →
    stepped (concern_by e (conn d)) b d actions v ≡ v

pub calm_link : {M : Type 0} (s : Side) (f : View M → View M) (l : Link M) →
    f (view_of (opens s l.opener) l) ≡ view_of (opens s l.opener) l → by_side s f l ≡ l
calm_link s f l h = ap (λ v. link_of (opens s l.opener) l.opener v) h ∙ by_side-same s l

other_stays : {P M C H : Type 0} (m : Peers P M) (t : Talks P M C H) (o : Side) (p q : P) (n : Node)
    (h h' h1 : ℕ) → p ≡ q → (holds_cer n.state ≡ true → h1 ≡ h') → Stands m t o p n h h' → Stands m t o q n h h1
other_stays m t o p q n h h' h1 e w a =
    let a' : Stands m t o p n h h1 =
    record {
      peer = a.peer;
      node = a.node;
      awaits = a.awaits;
      waits = λ b. a.waits b
          ∙ ap (λ k. Some (t.cer_header k)) (sym (w b));
      number = a.number;
    } in
    subst (λ r. Stands m t o r n h h1) e a'

module _ {P M C H : Type 0} (m : Peers P M) (t : Talks P M C H) where
  pub told_at : (s o : Side) → IsPair s o →
      (w : World P M) (x y : ℕ) (u v u1 v1 : Option (View M)) (n n' n1 : Node) (h h' h1 : ℕ) (e : Event M)
      (actions : List (Action M)) (p : P) (puts : List (Put M)) →
      AreAt m t s o w x y u v n n' h h' → (IsStart e → ⊥) → m.reply (peer_on s w) e ≡ ActsBy actions p →
      Stands m t s p n1 h1 h' → (holds_cer n'.state ≡ true → h1 ≡ h) →
      option_map (stepped (concern_by e (conn x)) (is_tie_held (tie_of n1 x)) x actions) u ≡ u1 →
      option_map (stepped (concern_by e (conn y)) (is_tie_held (tie_of n1 y)) y actions) v ≡ v1 →
      IsCalm e actions x y →
      puts_at_entry s e w.links ++ puts_of s actions (enter s e w.links) ≡ puts →
      Goes m t s o x y u1 v1 n1 n' h1 h' (tell m s e w) puts
  told_at s o pair w x y u v u1 v1 n n' n1 h h' h1 e actions p puts a no_start reply stands still to_u
      to_v calm is_put =
      let links = settle s e (m.node_of p) (perform s actions (enter s e w.links)) in
      let w1 = with_peer s p links w in
      let at_d : (d : ℕ) →
      slice_get w1.links d ≡ option_map
      (by_side s (stepped (concern_by e (conn d)) (is_tie_held (tie_of n1 d)) d actions)) (slice_get w.links d) =
      λ d. ap (λ (ls : List (Link M)). slice_get ls d) (sym (links_after s p links w))
      ∙ (stepped_at s e actions (m.node_of p) d w.links no_start
      ∙ ap (λ (k : Node). option_map (by_side s (stepped (concern_by e (conn d)) (is_tie_held (tie_of k d)) d actions))
      (slice_get w.links d)) stands.node) in
      record {
        world = w1;
        put = puts_at_entry s e w.links ++ puts_of s actions (enter s e w.links);
        is = ap (λ r. after_reply m s e w r) reply;
        at = record {
          own = subst (λ q. Stands m t s q n1 h1 h') (sym (here_after s o pair p links w)) stands;
          other = other_stays m t o (peer_on o w) (peer_on o w1) n' h' h h1
              (there_after s o pair p links w) still a.other;
          at_x = at_d x ∙ (ap (option_map
              (by_side s (stepped (concern_by e (conn x)) (is_tie_held (tie_of n1 x)) x actions))) a.at_x
              ∙ (own_by s o pair (stepped (concern_by e (conn x)) (is_tie_held (tie_of n1 x)) x actions) u
              ∙ ap (option_map (link_of true s)) to_u));
          at_y = at_d y ∙ (ap (option_map
              (by_side s (stepped (concern_by e (conn y)) (is_tie_held (tie_of n1 y)) y actions))) a.at_y
              ∙ (other_by s o pair (stepped (concern_by e (conn y)) (is_tie_held (tie_of n1 y)) y actions) v
              ∙ ap (option_map (link_of false o)) to_v));
          apart = a.apart;
          others = λ d l at hx hy.
              let f = stepped (concern_by e (conn d)) (is_tie_held (tie_of n1 d)) d actions in
              let old = mapped_some (by_side s f) (slice_get w.links d) l (sym (at_d d) ∙ at) in
              let same = old.2 ∙ calm_link s f old.0
              (calm d (is_tie_held (tie_of n1 d)) (view_of (opens s old.0.opener) old.0) hx hy) in
              subst (λ k. is_quiet_link k ≡ true) (sym same) (a.others d old.0 old.1 hx hy);
        };
        is_put = is_put;
      }
