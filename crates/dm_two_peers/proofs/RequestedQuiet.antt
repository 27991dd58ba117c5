-- Where nothing is under way, two peers that match their answers are both Closed, or both open on one link.
use Rattle.std.proofs.Common.{IsTrue, ◌≡◌, ◌⊎◌, inl, inr, ℕ, ◌==◌, Bool, true, false, not, ◌&&◌, if◌then◌else◌, Option}
use Rattle.std.proofs.Common.{Some, None, IfSome, List, [], ◌∷◌, slice_get, refl, sym, ap, subst, ◌∙◌, arith}
use Rattle.std.specs.List.{list_any}
use Rattle.std.proofs.lemmas.Bool.{and_parts}
use Rattle.std.proofs.lemmas.Bool.Decides.{nat_tests}
use Rattle.std.proofs.lemmas.Option.{IfSome_then}
use Rattle.dm_machine.specs.declared.state_name.State.{State}
use Rattle.dm_machine.specs.declared.state_name.State.TheVariants as state
use Rattle.dm_machine.specs.Connection.{Hold, NotHeld, Made, Taken, hold_as, hold_in, hold_of}
use Rattle.dm_two_peers.specs.Machine.{conn, Role, Initiated, Accepted, Node, held_as, is_same_role, is_open, tie_of, tie_as, is_tie_held}
use Rattle.dm_two_peers.specs.Links.{Side, A, B, opens, Mark, NoMark, Coming, Delivered, End, Link, view_of}
use Rattle.dm_two_peers.specs.Peers.{Peers}
use Rattle.dm_two_peers.specs.Worlds.{World, peer_on, After, DoneWith, Ignored, NoLink}
use Rattle.dm_two_peers.specs.Happens.{Happening, own_view, happens, world_after, RunEnd, ran_on, run_from, run}
use Rattle.dm_two_peers.specs.Follows.{IsMachine}
use Rattle.dm_two_peers.specs.Facts.{Standing, turned_over, is_empty, is_sound_standing, is_up, is_open_end, is_coming}
use Rattle.dm_two_peers.specs.Facts.{is_delivered, IsSoundWorld}
use Rattle.dm_two_peers.specs.Agreement.{IsOpenOn}
use Rattle.dm_two_peers.specs.Laws.{world_of}
use Rattle.dm_two_peers.specs.Quiet.{is_still, is_quiet_link, is_quiet}
use Rattle.dm_two_peers.specs.Delivery.{is_closing_hold}
use Rattle.dm_two_peers.specs.Joining.{can_rest_in, StandsOn, AreJoined, is_returning}
use Rattle.dm_two_peers.specs.Joining as joining
use Rattle.dm_two_peers.specs.Requests.{Requests, AnswersMatch}
use Rattle.dm_two_peers.specs.ClosedOrOpen.{AreClosedOrOpen, both_closed, both_open}
use Rattle.dm_two_peers.proofs.Ties.{MachineLaws}
use Rattle.dm_two_peers.proofs.Every.{all_true, every_bool, every_tie, every_phase, every_end, every_mark, every_standing}
use Rattle.dm_two_peers.proofs.Every.{at_standing}
use Rattle.dm_two_peers.proofs.StandingSteps.{when, is_when}
use Rattle.dm_two_peers.proofs.Checks.{conclusion}
use Rattle.dm_two_peers.proofs.Events.{side_sound}
use Rattle.dm_two_peers.proofs.Comings.{standing_at}
use Rattle.dm_two_peers.proofs.OpenNodes.{held_there}
use Rattle.dm_two_peers.proofs.Depths.{all_at}
use Rattle.dm_two_peers.proofs.Sharing.{still_at, not_pending, seen_both}
use Rattle.dm_two_peers.proofs.Happenings.{happens_sound}
use Rattle.dm_two_peers.proofs.BothPeers.{happening_both}
use Rattle.dm_two_peers.proofs.Joining.{quiet_is_joined_proof}
use Rattle.dm_two_peers.proofs.Carried.{IsCarrying, carrier, same_left, up_is}
use Rattle.dm_two_peers.proofs.Requested.{Awaits, asked, kept, given, Asks}
use Rattle.dm_two_peers.proofs.RequestedViews.{IsUnmarked}
use Rattle.dm_two_peers.proofs.RequestedHappenings.{Asked, happening_asks}

-- to an end that is open no disconnect was delivered
abbrev open_marks : Standing → Bool
open_marks s =
    when (is_sound_standing s) (when (is_up s.phase)
    (when (is_open_end s.own) (not (is_delivered s.in_mark)) && when (is_open_end s.other) (not (is_delivered
    s.out_mark))))

marks_checked : every_standing open_marks ≡ true
unfolding all_true every_bool every_tie every_phase every_end every_mark
marks_checked = refl

record AreUndelivered (s : Standing) : Type 0 where
  pub own : is_open_end s.own ≡ true → not (is_delivered s.in_mark) ≡ true
  pub other : is_open_end s.other ≡ true → not (is_delivered s.out_mark) ≡ true

undelivered : (s : Standing) → is_sound_standing s ≡ true → is_up s.phase ≡ true → AreUndelivered s
undelivered s good up =
    let both = and_parts (when (is_open_end s.own) (not (is_delivered s.in_mark)))
    (when (is_open_end s.other) (not (is_delivered s.out_mark)))
    (is_when (is_up s.phase) _ (is_when (is_sound_standing s) _ (at_standing open_marks marks_checked s) good) up) in
    record {
      own = λ e. is_when (is_open_end s.own) _ both.0 e;
      other = λ e. is_when (is_open_end s.other) _ both.1 e;
    }

undelivered_at : (mine : Bool) (s : Standing) → is_sound_standing (turned_over mine s) ≡ true →
    is_up s.phase ≡ true → AreUndelivered s
undelivered_at true s good up = undelivered s good up
undelivered_at false s good up =
    let t = undelivered (turned_over false s) good up in record { own = t.other; other = t.own }

no_mark : (k : Mark) → not (is_coming k) ≡ true → not (is_delivered k) ≡ true → k ≡ NoMark
no_mark NoMark h g = refl
no_mark Coming h g = cc
no_mark Delivered h g = cc

empty_is : {M : Type 0} (ms : List M) → is_empty ms ≡ true → ms ≡ []
empty_is [] e = refl
empty_is (x ∷ xs) e = cc

-- what a node is to the connection on which it stands
stands_hold : (n : Node) (role : Role) (c : ℕ) → StandsOn n role c → hold_of n (conn c) ≡ hold_as n.state role
stands_hold n role c st =
    ap (λ hs. hold_in n.state hs (conn c)) st.held
    ∙ ap (λ b. if b then hold_as n.state role else NotHeld) (self c)
  where
    self : (c : ℕ) → (c == c) ≡ true
    self c = grind (arith, nat_tests)

stands_held : (n : Node) (role : Role) (c : ℕ) → StandsOn n role c → is_tie_held (tie_of n c) ≡ true
stands_held n role c st =
    ap (λ h. is_tie_held (tie_as h)) (stands_hold n role c st) ∙ by_state role n.state st.state
  where
    by_state : (role : Role) (s : State) → can_rest_in role s ≡ true → is_tie_held (tie_as (hold_as s role)) ≡ true
    by_state Initiated state.WaitICea e = refl
    by_state Initiated state.IOpen e = refl
    by_state Initiated state.Closing e = refl
    by_state Accepted state.ROpen e = refl
    by_state Accepted state.Closing e = refl
    by_state _ _ e = cc

rests_untaken : (role : Role) (s : State) → can_rest_in role s ≡ true → hold_as s role ≡ Taken → ⊥
rests_untaken Initiated state.WaitICea e h = cc
rests_untaken Initiated state.IOpen e h = cc
rests_untaken Initiated state.Closing e h = cc
rests_untaken Accepted state.ROpen e h = cc
rests_untaken Accepted state.Closing e h = cc
rests_untaken _ _ e h = cc

rests_open : (role : Role) (s : State) → can_rest_in role s ≡ true → (hold_as s role ≡ Made → ⊥) →
    (is_closing_hold (hold_as s role) ≡ true → ⊥) → is_open s ≡ true
rests_open Initiated state.WaitICea e f g = absurd (f refl)
rests_open Initiated state.IOpen e f g = refl
rests_open Initiated state.Closing e f g = absurd (g refl)
rests_open Accepted state.ROpen e f g = refl
rests_open Accepted state.Closing e f g = absurd (g refl)
rests_open _ _ e f g = cc

held_role : (role : Role) (c : ℕ) → held_as role ((role, conn c) ∷ []) ≡ Some (conn c)
held_role Initiated c = refl
held_role Accepted c = refl

module _ {P M : Type 0} (r : Requests P M) where
  -- nothing is under way for a CEA or a DPA that is awaited
  no_cea : (p p' : P) (h h' : Hold) (far : End) → Asks r p p' h h' far [] [] → (h' ≡ Taken → ⊥) → h ≡ Made → ⊥
  no_cea p p' h h' far asks untaken made = by_way (asks.made made).1.1
    where
      by_way : {n : ℕ} → Awaits r p' h' far [] [] n → ⊥
      by_way (asked f u x o c i) = cc
      by_way (kept t c i) = untaken t
      by_way (given x xs i c) = cc

  none_there : (n : ℕ) → (list_any (r.is_dpr n) [] ≡ true) ⊎ (list_any (r.is_dpa n) [] ≡ true) → ⊥
  none_there n (inl e) = cc
  none_there n (inr e) = cc

  no_dpa : (p p' : P) (h h' : Hold) (far far' : End) → Asks r p p' h h' far [] [] → Asks r p' p h' h far' [] [] →
      is_closing_hold h ≡ true → ⊥
  no_dpa p p' h h' far far' asks back closing = by_number (r.dpa_of p) refl
    where
      by_number : (o : Option ℕ) → r.dpa_of p ≡ o → ⊥
      by_number (Some n) is = none_there n (asks.ends closing n is)
      by_number None is =
          let e = asks.ended closing is in none_there e.number (back.ends e.closing e.number e.awaited)

  opens_on : (p p' : P) (n : Node) (role : Role) (c : ℕ) (h' : Hold) (far far' : End) → StandsOn n role c →
      Asks r p p' (hold_of n (conn c)) h' far [] [] → Asks r p' p h' (hold_of n (conn c)) far' [] [] →
      (h' ≡ Taken → ⊥) → IsOpenOn n role c
  opens_on p p' n role c h' far far' st asks back untaken =
      let is = stands_hold n role c st in
      record {
        is_open = rests_open role n.state st.state
            (λ e. no_cea p p' (hold_of n (conn c)) h' far asks untaken (is ∙ e))
            (λ e. no_dpa p p' (hold_of n (conn c)) h' far far' asks back
            (ap (λ h. is_closing_hold h) is ∙ e));
        holds = ap (λ hs. held_as role hs) st.held ∙ held_role role c;
      }

module _ {P M : Type 0} (m : Peers P M) (laws : MachineLaws) (is : IsMachine m) (r : Requests P M)
    (stands : P → Bool) (match : AnswersMatch m r stands) where
  record Runs (w : World P M) : Type 0 where
    pub carrying : IsCarrying m stands w
    pub asks : Asked m r stands match w

  -- the other side's end is open where it holds the link
  other_opens : (w : World P M) (c : ℕ) (l : Link M) → IsSoundWorld m w → slice_get w.links c ≡ Some l →
      is_up l.phase ≡ true → is_tie_held (tie_of (m.node_of w.b) c) ≡ true → is_open_end (own_view A l).other ≡ true
  other_opens w c l good at up held =
      let sides = side_sound m B w good in
      let s = standing_at m B w c l in
      subst (λ e. is_open_end e ≡ true) (same_end l.opener l)
      (same_left (is_open_end s.own) (is_tie_held s.own_tie)
      (is_when (is_up s.phase) _ (conclusion 0 (opens B l.opener) s (sides.each c l at)) up) held)
    where
      same_end : (o : Side) (l : Link M) → (view_of (opens B o) l).own ≡ (view_of (opens A o) l).other
      same_end A l = refl
      same_end B l = refl

  -- a link that both hold, where nothing is under way
  record IsIdle (w : World P M) (c : ℕ) (l : Link M) : Type 0 where
    pub there : slice_get w.links c ≡ Some l
    pub unmarked : IsUnmarked (own_view A l)
    pub incoming : (own_view A l).incoming.messages ≡ []
    pub outgoing : (own_view A l).outgoing.messages ≡ []

  idle_at : (w : World P M) (c : ℕ) → IsSoundWorld m w → is_quiet w ≡ true →
      is_tie_held (tie_of (m.node_of w.a) c) ≡ true → is_tie_held (tie_of (m.node_of w.b) c) ≡ true →
      (l : Link M) × IsIdle w c l
  idle_at w c good quiet held held' =
      let at = held_there A (m.node_of w.a) (m.node_of w.b) w.links c good held in
      let l = at.0 in
      let mine = opens A l.opener in
      let s = standing_at m A w c l in
      let sound = good.each c l at.1 in
      let calm = not_pending l.phase (is_still l.to_opener && is_still l.to_other) mine
      (all_at (λ z. is_quiet_link z) w.links c l quiet at.1)
      (is_when (is_tie_held s.own_tie) _ (conclusion 1 mine s sound) held) in
      let ways = and_parts (is_still l.to_opener) (is_still l.to_other) calm.1 in
      let seen = seen_both mine l ways.0 ways.1 in
      let i = still_at (own_view A l).incoming seen.0 in
      let o = still_at (own_view A l).outgoing seen.1 in
      let un = undelivered_at mine s sound calm.0 in
      let own_open = same_left (is_open_end s.own) (is_tie_held s.own_tie)
      (is_when (is_up s.phase) _ (conclusion 0 mine s sound) calm.0) held in
      let other_open = other_opens w c l good at.1 calm.0 held' in (
        l,
        record {
          there = at.1;
          unmarked = record {
            up = up_is l.phase calm.0;
            coming = no_mark s.in_mark i.1 (un.own own_open);
            going = no_mark s.out_mark o.1 (un.other other_open);
          };
          incoming = empty_is (own_view A l).incoming.messages i.0;
          outgoing = empty_is (own_view A l).outgoing.messages o.0;
        },
      )

  settles : (w : World P M) → Runs w → is_quiet w ≡ true → (s : Side) →
      is_returning (m.node_of (peer_on s w)).state ≡ false → AreClosedOrOpen (m.node_of w.a) (m.node_of w.b)
  settles w now quiet s away = by_joined (quiet_is_joined_proof m w now.carrying.sound quiet s away)
    where
      by_link : (role role' : Role) (c : ℕ) → is_same_role role role' ≡ false → StandsOn (m.node_of w.a) role c →
          StandsOn (m.node_of w.b) role' c → (l : Link M) → IsIdle w c l →
          AreClosedOrOpen (m.node_of w.a) (m.node_of w.b)
      by_link role role' c apart st st' l idle =
          let v = own_view A l in
          let h = hold_of (m.node_of w.a) (conn c) in
          let h' = hold_of (m.node_of w.b) (conn c) in
          let each = now.asks A c l idle.there idle.unmarked in
          let own : Asks r w.a w.b h h' v.other [] [] =
          subst (λ ms. Asks r w.a w.b h h' v.other ms []) idle.outgoing
          (subst (λ ms. Asks r w.a w.b h h' v.other v.outgoing.messages ms) idle.incoming each.own) in
          let other : Asks r w.b w.a h' h v.own [] [] =
          subst (λ ms. Asks r w.b w.a h' h v.own ms []) idle.incoming
          (subst (λ ms. Asks r w.b w.a h' h v.own v.incoming.messages ms) idle.outgoing each.other) in
          both_open role role' c apart
          (opens_on r w.a w.b (m.node_of w.a) role c h' v.other v.own st own other
          (λ e. rests_untaken role' (m.node_of w.b).state st'.state (sym (stands_hold (m.node_of w.b) role' c st') ∙ e)))
          (opens_on r w.b w.a (m.node_of w.b) role' c h v.own v.other st' other own
          (λ e. rests_untaken role (m.node_of w.a).state st.state (sym (stands_hold (m.node_of w.a) role c st) ∙ e)))

      by_joined : AreJoined (m.node_of w.a) (m.node_of w.b) → AreClosedOrOpen (m.node_of w.a) (m.node_of w.b)
      by_joined (joining.both_closed e e') = both_closed e e'
      by_joined (joining.on_one role role' c apart st st') =
          let idle = idle_at w c now.carrying.sound quiet (stands_held (m.node_of w.a) role c st)
          (stands_held (m.node_of w.b) role' c st') in
          by_link role role' c apart st st' idle.0 idle.1

  -- a run
  happening_runs : (w : World P M) (h : Happening M) → Runs w → Runs (world_after w (happens m w h))
  happening_runs w h now =
      record {
        carrying = record {
          sound = happens_sound m laws is w h now.carrying.sound;
          fits = happening_both m (λ p. IsTrue (stands p)) w now.carrying.fits
              (λ s e actions next replies. match.keeps (peer_on s w) next e actions
              (carrier m stands s w now.carrying) replies)
              (λ s. match.resets (peer_on s w) (carrier m stands s w now.carrying)) h;
        };
        asks = happening_asks m r stands match w h now.carrying now.asks;
      }

  ran : (z : RunEnd P M) (after : After P M) → Runs (world_after z.world after) →
      IfSome (ran_on z after) (λ y. Runs y.world)
  ran z (DoneWith w put) now = now
  ran z Ignored now = now
  ran z NoLink now = tt

  runs : (o : Option (RunEnd P M)) (hs : List (Happening M)) → IfSome o (λ z. Runs z.world) →
      IfSome (run_from m o hs) (λ z. Runs z.world)
  runs None hs now = tt
  runs (Some z) [] now = now
  runs (Some z) (h ∷ hs) now =
      runs (ran_on z (happens m z.world h)) hs
      (ran z (happens m z.world h) (happening_runs z.world h now))

  pub run_settles : (a b : P) → IsSoundWorld m (world_of a b) → IsTrue (stands a) → IsTrue (stands b) →
      (hs : List (Happening M)) →
      IfSome (run m (world_of a b) hs) (λ z. is_quiet z.world ≡ true → (s : Side) →
      is_returning (m.node_of (peer_on s z.world)).state ≡ false →
      AreClosedOrOpen (m.node_of z.world.a) (m.node_of z.world.b))
  run_settles a b sound left right hs =
      IfSome_then (run m (world_of a b) hs)
      (runs (Some (record { world = world_of a b; put = [] })) hs
      (record {
        carrying = record { sound = sound; fits = λ s. both s };
        asks = λ s c l at. none_at s c l at;
      }))
      (λ z now quiet s away. settles z.world now quiet s away)
    where
      both : (s : Side) → IsTrue (stands (peer_on s (world_of {M = M} a b)))
      both A = left
      both B = right

      no_links : {M : Type 0} → List (Link M)
      no_links = []

      none_at : (s : Side) (c : ℕ) (l : Link M) → slice_get (no_links {M = M}) c ≡ Some l → {X : Type 0} → X
      none_at s c l at = cc
