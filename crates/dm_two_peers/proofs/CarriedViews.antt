-- What a turn of either side makes of what a direction to a side carries.
use Rattle.std.proofs.Common.{◌≡◌, ℕ, Bool, true, false, not, ◌&&◌, Option, Some, None, List, [], ◌∷◌, ◌++◌, slice_get}
use Rattle.std.proofs.Common.{refl, sym, ap, subst, ◌∙◌, append-nil}
use Rattle.std.specs.Prelude.{option_map}
use Rattle.std.proofs.lemmas.Bool.{and_parts}
use Rattle.dm_machine.specs.Connection.{hold_of}
use Rattle.dm_two_peers.specs.Machine.{conn, LinkConcern, HeardOnLink, tie_of, is_tie_held}
use Rattle.dm_two_peers.specs.Links.{Side, flip, opens, LinkPhase, LinkUp, End, Link, View, by_side}
use Rattle.dm_two_peers.specs.Peers.{Event, ArrivedEvent, Action, ActsBy, Peers, concern_by}
use Rattle.dm_two_peers.specs.Steps.{own_settled, settled_view}
use Rattle.dm_two_peers.specs.Worlds.{World, peer_on, with_peer, enter, perform, settle}
use Rattle.dm_two_peers.specs.Happens.{own_view}
use Rattle.dm_two_peers.specs.Facts.{Standing, is_up, is_open_end, is_shut, is_none}
use Rattle.dm_two_peers.specs.Delivery.{ups_of, apps}
use Rattle.dm_machine.specs.Upward.{is_open_hold}
use Rattle.dm_two_peers.proofs.Columns.{phase_at, own_at, messages_at, phase_after, own_after, words_at, is_closed_at}
use Rattle.dm_two_peers.proofs.Columns.{stepped}
use Rattle.dm_two_peers.proofs.Checks.{step_at, conclusion}
use Rattle.dm_two_peers.proofs.StandingSteps.{is_when, is_handed}
use Rattle.dm_two_peers.proofs.StandingOthers.{is_open_tie}
use Rattle.dm_two_peers.proofs.Closing.{CarriesOn}
use Rattle.dm_two_peers.proofs.Views.{acted_entered}
use Rattle.dm_two_peers.proofs.Stepped.{IsStart, stepped_at}
use Rattle.dm_two_peers.proofs.Pairs.{mirror, links_after}
use Rattle.dm_two_peers.proofs.Events.{side_sound}
use Rattle.dm_two_peers.proofs.Comings.{standing_at}
use Rattle.dm_two_peers.proofs.Hearing.{is_word}
use Rattle.dm_two_peers.proofs.Ways.{Way}
use Rattle.dm_two_peers.proofs.WaysOwn.{Fits, own_calm}
use Rattle.dm_two_peers.proofs.WaysOther.{IsNew, other_acts}
use Rattle.dm_two_peers.proofs.WaysHeard.{own_heard}
use Rattle.dm_two_peers.proofs.Mirrors.{mirrored, view_other, view_own}
use Rattle.dm_two_peers.proofs.Carried.{Carried, IsCarrying, WayOnLink, WayOnView, blank_in, blank_out, carrier, handed_ack}
use Rattle.dm_two_peers.proofs.Carried.{handed_end, held_over, made_is, not_is, open_held, open_tied, open_unshut, over_of}
use Rattle.dm_two_peers.proofs.Carried.{same_left, same_right, up_is}

module _ {P M : Type 0} (m : Peers P M) (is_app : M → Bool) (stands : P → Bool) (carries : CarriesOn m is_app stands)
    (lost : Bool) where
  abbrev pub stepped_by : ℕ → Event M → List (Action M) → P → View M → View M
  stepped_by c e actions p = stepped (concern_by e (conn c)) (is_tie_held (tie_of (m.node_of p) c)) c actions

  -- the own side takes an event that is no message on the link
  pub own_fits : (t : Side) (w : World P M) (c : ℕ) (e : Event M) (p : P) (actions : List (Action M)) (l : Link M) →
      IsCarrying m stands w → slice_get w.links c ≡ Some l → m.reply (peer_on t w) e ≡ ActsBy actions p →
      is_handed (opens t l.opener) (concern_by e (conn c)) (standing_at m t w c l) ≡ true →
      Fits (concern_by e (conn c)) l.phase (own_view t l).own (own_view t l).incoming.mark
      (over_of (m.node_of (peer_on t w)) c) (over_of (m.node_of p) c)
  own_fits t w c e p actions l good at replies handed =
      let k = concern_by e (conn c) in
      let mine = opens t l.opener in
      let st = standing_at m t w c l in
      let n = m.node_of (peer_on t w) in
      let sides = side_sound m t w good.sound in
      let sound = sides.each c l at in
      record {
        acks = λ a. handed_ack mine k st handed a;
        blank = λ a. blank_in mine st sound (handed_ack mine k st handed a);
        ends = λ a. handed_end mine k st handed a;
        stays = λ up opened over.
            let held = same_right (is_open_end st.own) (is_tie_held st.own_tie)
            (is_when (is_up st.phase) _ (conclusion 0 mine st sound) up) opened in
            carries.closes (peer_on t w) p e actions c sides.own_shaped replies
            (held_over (hold_of n (conn c)) held over);
      }

  pub own_view_calm : (t : Side) (w : World P M) (c : ℕ) (e : Event M) (p : P) (actions : List (Action M)) (l : Link M)
      (said up : List M) →
      IsCarrying m stands w → slice_get w.links c ≡ Some l → m.reply (peer_on t w) e ≡ ActsBy actions p →
      is_handed (opens t l.opener) (concern_by e (conn c)) (standing_at m t w c l) ≡ true →
      is_word (concern_by e (conn c)) ≡ false →
      WayOnView is_app lost (over_of (m.node_of (peer_on t w)) c) (own_view t l) said up →
      WayOnView is_app lost (over_of (m.node_of p) c) (own_view t (by_side t (stepped_by c e actions p) l)) said up
  own_view_calm t w c e p actions l said up good at replies handed calm way =
      let k = concern_by e (conn c) in
      let v = own_view t l in
      let holds = is_tie_held (tie_of (m.node_of p) c) in
      let over' = over_of (m.node_of p) c in
      subst (λ (x : View M). WayOnView is_app lost over' x said up)
      (sym (view_own t (stepped_by c e actions p) l
      ∙ ap (λ (x : View M). settled_view k holds x) (acted_entered c actions k v)))
      (own_calm is_app lost k (is_closed_at c actions) holds (over_of (m.node_of (peer_on t w)) c) over' v.phase v.own
      v.other v.incoming.messages v.incoming.mark said up calm
      (own_fits t w c e p actions l good at replies handed) way)

  -- it takes a message on the link
  handed_word : (mine : Bool) (st : Standing) → is_handed mine HeardOnLink st ≡ true →
      (st.phase ≡ LinkUp) × (is_shut st.own ≡ false)
  handed_word mine st h =
      let parts = and_parts (is_up st.phase && not (is_shut st.own)) (not st.in_empty) h in
      let more = and_parts (is_up st.phase) (not (is_shut st.own)) parts.0 in
      (up_is st.phase more.0, not_is (is_shut st.own) more.1)

  pub own_view_heard : (t : Side) (w : World P M) (c : ℕ) (x : M) (xs : List M) (p : P) (actions : List (Action M))
      (l : Link M) (k : LinkConcern) (said up : List M) → k ≡ HeardOnLink →
      IsCarrying m stands w → slice_get w.links c ≡ Some l →
      m.reply (peer_on t w) (ArrivedEvent (conn c) x) ≡ ActsBy actions p →
      is_handed (opens t l.opener) k (standing_at m t w c l) ≡ true →
      (own_view t l).incoming.messages ≡ x ∷ xs →
      Fits k l.phase (own_view t l).own (own_view t l).incoming.mark
      (over_of (m.node_of (peer_on t w)) c) (over_of (m.node_of p) c) →
      WayOnView is_app lost (over_of (m.node_of (peer_on t w)) c) (own_view t l) said up →
      WayOnView is_app lost (over_of (m.node_of p) c)
      (own_view t (by_side t (stepped k (is_tie_held (tie_of (m.node_of p) c)) c actions) l)) said (up ++ ups_of actions)
  own_view_heard t w c x xs p actions l k said up is good at replies handed front fits way =
      let v = own_view t l in
      let n = m.node_of (peer_on t w) in
      let n' = m.node_of p in
      let holds = is_tie_held (tie_of n' c) in
      let over' = over_of n' c in
      let ready = handed_word (opens t l.opener) (standing_at m t w c l)
      (subst (λ j. is_handed (opens t l.opener) j (standing_at m t w c l) ≡ true) is handed) in
      let sides = side_sound m t w good.sound in
      let here : Way is_app lost LinkUp v.own v.other (x ∷ xs) v.incoming.mark (over_of n c) said up =
      subst (λ ms. Way is_app lost LinkUp v.own v.other ms v.incoming.mark (over_of n c) said up) front
      (subst (λ q. Way is_app lost q v.own v.other v.incoming.messages v.incoming.mark (over_of n c) said up) ready.0
      way) in
      let after = own_heard is_app lost (is_closed_at c actions) holds v.own v.other (hold_of n (conn c))
      (hold_of n' (conn c)) x xs (ups_of actions) v.incoming.mark said up ready.1
      (made_is (hold_of n (conn c)) (step_at (opens t l.opener) HeardOnLink (standing_at m t w c l) (sides.each c l at)
      (subst (λ j. is_handed (opens t l.opener) j (standing_at m t w c l) ≡ true) is handed)).ready)
      (λ u o. fits.stays (ap (λ q. is_up q) ready.0) o)
      (carries.does.hears (peer_on t w) p c x actions (carrier m stands t w good) replies) here in
      let closed = is_closed_at c actions in
      let W : LinkPhase → List M → Type 0 = λ q ms. Way is_app lost (is_after closed q)
      (settled_own holds closed q v.own) v.other (tail_of ms) v.incoming.mark over' said (up ++ ups_of actions) in
      subst (λ j. WayOnView is_app lost over' (own_view t (by_side t (stepped j holds c actions) l)) said
      (up ++ ups_of actions)) (sym is)
      (subst (λ (y : View M). WayOnView is_app lost over' y said (up ++ ups_of actions))
      (sym (view_own t (stepped HeardOnLink holds c actions) l
      ∙ ap (λ (y : View M). settled_view HeardOnLink holds y) (acted_entered c actions HeardOnLink v)))
      (subst (λ q. W q v.incoming.messages) (sym ready.0) (subst (λ ms. W LinkUp ms) (sym front) after)))
    where
      is_after : Bool → LinkPhase → LinkPhase
      is_after closed q = phase_after closed (phase_at HeardOnLink q)

      settled_own : Bool → Bool → LinkPhase → End → End
      settled_own holds closed q own = own_settled HeardOnLink holds
          (own_after closed (phase_at HeardOnLink q) (own_at HeardOnLink own))

      tail_of : List M → List M
      tail_of ms = messages_at HeardOnLink ms

  -- the side across takes an event
  pub other_fits : (t : Side) (w : World P M) (c : ℕ) (e : Event M) (p : P) (actions : List (Action M)) (l : Link M)
      (new : List M) (said up : List M) →
      IsCarrying m stands w → slice_get w.links c ≡ Some l →
      is_handed (opens (flip t) l.opener) (concern_by e (conn c)) (standing_at m (flip t) w c l) ≡ true →
      apps is_app (words_at c actions) ≡ new →
      IsNew is_app lost (concern_by e (conn c)) l.phase (own_view t l).other new →
      WayOnView is_app lost (over_of (m.node_of (peer_on t w)) c) (own_view t l) said up →
      WayOnView is_app lost (over_of (m.node_of (peer_on t w)) c)
      (own_view t (by_side (flip t) (stepped_by c e actions p) l)) (said ++ new) up
  other_fits t w c e p actions l new said up good at handed words this way =
      let k = concern_by e (conn c) in
      let v = own_view t l in
      let mine = opens (flip t) l.opener in
      let st = standing_at m (flip t) w c l in
      let holds = is_tie_held (tie_of (m.node_of p) c) in
      let over = over_of (m.node_of (peer_on t w)) c in
      let sides = side_sound m (flip t) w good.sound in
      let sound = sides.each c l at in
      let same : own_view (flip t) l ≡ mirror v = mirrored t l.opener l in
      subst (λ (x : View M). WayOnView is_app lost over x (said ++ new) up)
      (sym (view_other t (stepped_by c e actions p) l
      ∙ ap (λ (x : View M). mirror (settled_view k holds x)) (acted_entered c actions k (mirror v))))
      (other_acts is_app lost k (is_closed_at c actions) holds over v.phase v.own v.other v.incoming.messages
      (words_at c actions) new v.incoming.mark said up words this
      (λ a. handed_ack mine k st handed a)
      (λ a. subst (λ (x : View M). is_none x.outgoing.mark ≡ true) same
      (blank_out mine st sound (handed_ack mine k st handed a))) way)

  -- a link, or none
  pub on_mapped : (t : Side) (f : Link M → Link M) (over over' : Bool) (said up said' up' : List M)
      (o : Option (Link M)) →
      ((l : Link M) → o ≡ Some l → WayOnView is_app lost over (own_view t l) said up →
      WayOnView is_app lost over' (own_view t (f l)) said' up') →
      (o ≡ None → said ≡ [] → up ≡ [] → (said' ≡ []) × (up' ≡ [])) →
      WayOnLink is_app lost over t o said up → WayOnLink is_app lost over' t (option_map f o) said' up'
  on_mapped t f over over' said up said' up' None each nothing h = nothing refl h.0 h.1
  on_mapped t f over over' said up said' up' (Some l) each nothing h = each l refl h

  pub padded : (over : Bool) (t : Side) (o : Option (Link M)) (said up new more : List M) → new ≡ [] → more ≡ [] →
      WayOnLink is_app lost over t o said up → WayOnLink is_app lost over t o (said ++ new) (up ++ more)
  padded over t o said up new more e g h =
      subst (λ (xs : List M). WayOnLink is_app lost over t o xs (up ++ more))
      (sym (ap (λ xs. said ++ xs) e ∙ append-nil said))
      (subst (λ (ys : List M). WayOnLink is_app lost over t o said ys) (sym (ap (λ ys. up ++ ys) g ∙ append-nil up)) h)

  pub into_world : (s : Side) (e : Event M) (w : World P M) (c : ℕ) (p : P) (actions : List (Action M)) (t : Side)
      (over : Bool) (said up : List M) → (IsStart e → ⊥) →
      over ≡ over_of (m.node_of (peer_on t (with_peer s p
      (settle s e (m.node_of p) (perform s actions (enter s e w.links))) w))) c →
      WayOnLink is_app lost over t (option_map (by_side s (stepped_by c e actions p)) (slice_get w.links c)) said up →
      Carried m is_app lost (with_peer s p (settle s e (m.node_of p) (perform s actions (enter s e w.links))) w) t c
      said
      up
  into_world s e w c p actions t over said up no_start same h =
      let links = settle s e (m.node_of p) (perform s actions (enter s e w.links)) in
      subst (λ (ls : List (Link M)). WayOnLink is_app lost (over_of (m.node_of (peer_on t (with_peer s p links w))) c) t
      (slice_get ls c) said up) (links_after s p links w)
      (subst (λ (b : Bool). WayOnLink is_app lost b t (slice_get links c) said up) same
      (subst (λ (o : Option (Link M)). WayOnLink is_app lost over t o said up)
      (sym (stepped_at s e actions (m.node_of p) c w.links no_start)) h))

  pub tie_open : (s : Side) (w : World P M) (c : ℕ) (l : Link M) → IsCarrying m stands w →
      slice_get w.links c ≡ Some l →
      is_open_hold (hold_of (m.node_of (peer_on s w)) (conn c)) ≡ true →
      (l.phase ≡ LinkUp) × (is_shut (own_view s l).own ≡ false)
  tie_open s w c l good at opened =
      let st = standing_at m s w c l in
      let mine = opens s l.opener in
      let sound = (side_sound m s w good.sound).each c l at in
      let tied = open_tied (hold_of (m.node_of (peer_on s w)) (conn c)) opened in
      let is = (and_parts (is_up st.phase) _ (is_when (is_open_tie st.own_tie) _ (conclusion 2 mine st sound) tied)).0
      in
      let ends = same_left (is_open_end st.own) (is_tie_held st.own_tie)
      (is_when (is_up st.phase) _ (conclusion 0 mine st sound) is) (open_held st.own_tie tied) in
      (up_is st.phase is, open_unshut st.own ends)

  pub flip_view : (t : Side) (l : Link M) → (own_view (flip t) l).own ≡ (own_view t l).other
  flip_view t l = ap (λ (v : View M). v.own) (mirrored t l.opener l)
