-- A Start keeps it.
use Rattle.std.proofs.Common.{◌≡◌, ℕ, zero, suc, Bool, true, false, Option, Some, List, [], ◌∷◌, ◌++◌, length}
use Rattle.std.proofs.Common.{slice_get, refl, sym, ap, subst, ◌∙◌, append-nil, inl, inr}
use Rattle.dm_machine.specs.Connection.{hold_of}
use Rattle.dm_two_peers.specs.Machine.{conn, Elsewhere, is_tie_held}
use Rattle.dm_two_peers.specs.Links.{Side, A, B, flip, opens, Link, View, by_side, new_link}
use Rattle.dm_two_peers.specs.Peers.{Event, StartEvent, SubmitEvent, Action, Reply, ActsBy, Declines, Peers}
use Rattle.dm_two_peers.specs.Worlds.{World, peer_on, perform, after_reply}
use Rattle.dm_two_peers.specs.Happens.{own_view}
use Rattle.dm_two_peers.specs.Facts.{is_up, is_open_end}
use Rattle.dm_two_peers.specs.Turns.{turn_by}
use Rattle.dm_two_peers.specs.Delivery.{ups_of, apps}
use Rattle.dm_two_peers.proofs.Columns.{acted, words_at, is_closed_at}
use Rattle.dm_two_peers.proofs.StandingSteps.{is_when}
use Rattle.dm_two_peers.proofs.Checks.{conclusion}
use Rattle.dm_two_peers.proofs.Closing.{CarriesOn}
use Rattle.dm_two_peers.proofs.Views.{acted_summed}
use Rattle.dm_two_peers.proofs.Stepped.{performed_at}
use Rattle.dm_two_peers.proofs.StartKeeps.{appended_at}
use Rattle.dm_two_peers.proofs.Pairs.{mirror}
use Rattle.dm_two_peers.proofs.Events.{side_sound}
use Rattle.dm_two_peers.proofs.Comings.{standing_at}
use Rattle.dm_two_peers.proofs.WaysOther.{says_none, other_acts}
use Rattle.dm_two_peers.proofs.WaysOwn.{own_calm}
use Rattle.dm_two_peers.proofs.Mirrors.{view_other, view_own}
use Rattle.dm_two_peers.proofs.Carried.{Carried, IsCarrying, WayOnLink, WayOnView, carrier, held_over, over_of, plain_words}
use Rattle.dm_two_peers.proofs.Carried.{same_right}
use Rattle.dm_two_peers.proofs.CarriedViews.{on_mapped, padded}
use Rattle.dm_two_peers.proofs.CarriedTold.{Keeps}

module _ {P M : Type 0} (m : Peers P M) (is_app : M → Bool) (stands : P → Bool) (carries : CarriesOn m is_app stands)
    (lost : Bool) where
  -- a Start
  new_view : (t s : Side) (over : Bool) → WayOnView is_app lost over (own_view t (new_link s)) [] []
  new_view A A over = record {
    rest = [];
    whole = refl;
    under = λ h. record { tail = []; is = refl; unmarked = λ e. refl; sure = λ e. refl };
    marks = λ l h. refl;
  }
  new_view A B over = record {
    rest = [];
    whole = refl;
    under = λ h. record { tail = []; is = refl; unmarked = λ e. refl; sure = λ e. refl };
    marks = λ l h. refl;
  }
  new_view B A over = record {
    rest = [];
    whole = refl;
    under = λ h. record { tail = []; is = refl; unmarked = λ e. refl; sure = λ e. refl };
    marks = λ l h. refl;
  }
  new_view B B over = record {
    rest = [];
    whole = refl;
    under = λ h. record { tail = []; is = refl; unmarked = λ e. refl; sure = λ e. refl };
    marks = λ l h. refl;
  }

  appends : (t s : Side) (over : Bool) (links : List (Link M)) (c : ℕ) (said up : List M) →
      WayOnLink is_app lost over t (slice_get links c) said up →
      WayOnLink is_app lost over t (slice_get (links ++ new_link s ∷ []) c) said up
  appends t s over [] zero said up h =
      subst (λ (xs : List M). WayOnView is_app lost over (own_view t (new_link s)) xs up) (sym h.0)
      (subst (λ (ys : List M). WayOnView is_app lost over (own_view t (new_link s)) [] ys) (sym h.1)
      (new_view t s over))
  appends t s over [] (suc c) said up h = h
  appends t s over (l ∷ links) zero said up h = h
  appends t s over (l ∷ links) (suc c) said up h = appends t s over links c said up h

  start_stays : (t : Side) (w : World P M) (c : ℕ) (e : Event M) (p : P) (actions : List (Action M)) (l : Link M) →
      IsCarrying m stands w → slice_get (w.links ++ new_link t ∷ []) c ≡ Some l →
      m.reply (peer_on t w) e ≡ ActsBy actions p →
      is_up l.phase ≡ true → is_open_end (own_view t l).own ≡ true → over_of (m.node_of (peer_on t w)) c ≡ true →
      over_of (m.node_of p) c ≡ true
  start_stays t w c e p actions l good at replies is_now opened over =
      elim (appended_at w.links (new_link t) c l at) [
        | inl there ↦
            let n = m.node_of (peer_on t w) in
            let st = standing_at m t w c l in
            let sides = side_sound m t w good.sound in
            let held = same_right (is_open_end st.own) (is_tie_held st.own_tie)
            (is_when (is_up st.phase) _ (conclusion 0 (opens t l.opener) st (sides.each c l there)) is_now) opened in
            carries.closes (peer_on t w) p e actions c sides.own_shaped replies
            (held_over (hold_of n (conn c)) held over)
        | inr q ↦ let none_up = subst (λ z. is_up z.phase ≡ true) q.1 is_now in cc
      ]

  start_own : (t : Side) (w : World P M) (c : ℕ) (p : P) (e : Event M) (actions : List (Action M)) (said up : List M) →
      IsCarrying m stands w → m.reply (peer_on t w) e ≡ ActsBy actions p → Carried m is_app lost w t c said up →
      WayOnLink is_app lost (over_of (m.node_of p) c) t
      (slice_get (perform t actions (w.links ++ new_link t ∷ [])) c) said up
  start_own t w c p e actions said up good replies h =
      let over = over_of (m.node_of (peer_on t w)) c in
      let over' = over_of (m.node_of p) c in
      let links = w.links ++ new_link t ∷ [] in
      subst (λ (o : Option (Link M)). WayOnLink is_app lost over' t o said up) (sym (performed_at t actions c links))
      (on_mapped m is_app stands carries lost t (by_side t (acted c actions)) over over' said up said up
      (slice_get links c)
      (λ l at way.
      let v = own_view t l in
      subst (λ (u : View M). WayOnView is_app lost over' u said up)
      (sym (view_own t (acted c actions) l ∙ acted_summed c actions v))
      (own_calm is_app lost Elsewhere (is_closed_at c actions) false over over' v.phase v.own v.other
      v.incoming.messages
      v.incoming.mark said up refl
      (record {
        acks = λ a. cc;
        blank = λ a. cc;
        ends = λ a. cc;
        stays = λ u o b. start_stays t w c e p actions l good
            at replies u o b;
      }) way))
      (λ at e g. (e, g)) (appends t t over w.links c said up h))

  start_other : (t : Side) (w : World P M) (c : ℕ) (p : P) (e : Event M) (actions : List (Action M))
      (said up : List M) → apps is_app (words_at c actions) ≡ [] → Carried m is_app lost w t c said up →
      WayOnLink is_app lost (over_of (m.node_of (peer_on t w)) c) t
      (slice_get (perform (flip t) actions (w.links ++ new_link (flip t) ∷ [])) c) said up
  start_other t w c p e actions said up words h =
      let over = over_of (m.node_of (peer_on t w)) c in
      let links = w.links ++ new_link (flip t) ∷ [] in
      subst (λ (o : Option (Link M)). WayOnLink is_app lost over t o said up)
      (sym (performed_at (flip t) actions c links))
      (on_mapped m is_app stands carries lost t (by_side (flip t) (acted c actions)) over over said up said up
      (slice_get links c)
      (λ l at way.
      let v = own_view t l in
      subst (λ (xs : List M). WayOnView is_app lost over (own_view t (by_side (flip t) (acted c actions) l)) xs up)
      (append-nil said)
      (subst (λ (u : View M). WayOnView is_app lost over u (said ++ []) up)
      (sym (view_other t (acted c actions) l ∙ ap (λ (u : View M). mirror u) (acted_summed c actions (mirror v))))
      (other_acts is_app lost Elsewhere (is_closed_at c actions) false over v.phase v.own v.other v.incoming.messages
      (words_at c actions) [] v.incoming.mark said up words (says_none refl) (λ a. cc) (λ a. cc) way)))
      (λ at e g. (e, g)) (appends t (flip t) over w.links c said up h))

  abbrev pub start_event : World P M → Event M
  start_event w = StartEvent (conn (length w.links))

  abbrev StartKeeps : Side → Side → ℕ → World P M → Reply P M → Type 0
  StartKeeps t s c w r = Keeps m is_app stands carries lost w t c (after_reply m s (start_event w) w r)
      (turn_by s (start_event w) r)

  not_submit : (w : World P M) (x : M) → start_event w ≡ SubmitEvent x → ⊥
  not_submit w x h = cc

  plain_start : (s : Side) (w : World P M) (c : ℕ) (p : P) (actions : List (Action M)) → IsCarrying m stands w →
      m.reply (peer_on s w) (start_event w) ≡ ActsBy actions p → apps is_app (words_at c actions) ≡ []
  plain_start s w c p actions good replies =
      plain_words is_app c actions (carries.does.others (peer_on s w) p (start_event w) actions
      (carrier m stands s w good) (not_submit w) replies)

  started_silent : (s : Side) (w : World P M) (p : P) (actions : List (Action M)) → IsCarrying m stands w →
      m.reply (peer_on s w) (start_event w) ≡ ActsBy actions p → ups_of actions ++ [] ≡ []
  started_silent s w p actions good replies =
      append-nil (ups_of actions)
      ∙ carries.does.silent (peer_on s w) p (start_event w) actions (carrier m stands s w good) (λ d x q. cc) replies

  pub start_keeps : (t s : Side) (c : ℕ) (w : World P M) (r : Reply P M) → IsCarrying m stands w →
      m.reply (peer_on s w) (start_event w) ≡ r → StartKeeps t s c w r
  start_keeps t s c w Declines good replies said up h = padded m is_app stands carries lost _ t _ said up [] [] refl
      refl h
  start_keeps A A c w (ActsBy actions p) good replies said up h =
      padded m is_app stands carries lost _ A _ said up [] _ refl (started_silent A w p actions good replies)
      (start_own A w c p (start_event w) actions said up good replies h)
  start_keeps B B c w (ActsBy actions p) good replies said up h =
      padded m is_app stands carries lost _ B _ said up [] _ refl (started_silent B w p actions good replies)
      (start_own B w c p (start_event w) actions said up good replies h)
  start_keeps A B c w (ActsBy actions p) good replies said up h =
      padded m is_app stands carries lost _ A _ said up [] [] refl refl
      (start_other A w c p (start_event w) actions said up
      (plain_start B w c p actions good replies) h)
  start_keeps B A c w (ActsBy actions p) good replies said up h =
      padded m is_app stands carries lost _ B _ said up [] [] refl refl
      (start_other B w c p (start_event w) actions said up
      (plain_start A w c p actions good replies) h)
