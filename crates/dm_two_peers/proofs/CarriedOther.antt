-- What the side across is told keeps what the directions to a side carry: what it submits comes behind all else.
use Rattle.std.proofs.Common.{◌≡◌, ℕ, ◌==◌, Bool, true, false, ◌&&◌, ◌||◌, if◌then◌else◌, Some, None, List, [], ◌∷◌}
use Rattle.std.proofs.Common.{◌++◌, map, slice_get, refl, sym, ap, subst, ◌∙◌, append-nil}
use Rattle.std.specs.Prelude.{option_map}
use Rattle.std.proofs.lemmas.Bool.{eqb-true}
use Rattle.dm_machine.specs.Connection.{hold_of}
use Rattle.dm_two_peers.specs.Machine.{conn, Node, Tie, tie_of}
use Rattle.dm_two_peers.specs.Links.{Side, A, B, flip, opens, Link, by_side}
use Rattle.dm_two_peers.specs.Peers.{Event, StartEvent, StopEvent, TimeoutEvent, TickEvent, AckEvent, NackEvent, GoneEvent, SubmitEvent, ArrivedEvent, Action, ActsBy}
use Rattle.dm_two_peers.specs.Peers.{Peers, concern_by, deed_in, sends_at}
use Rattle.dm_two_peers.specs.Worlds.{World, peer_on}
use Rattle.dm_two_peers.specs.Happens.{own_view}
use Rattle.dm_two_peers.specs.Facts.{is_shut}
use Rattle.dm_two_peers.specs.Delivery.{submitted_by, handed_up_by, ups_of, apps, SendsSubmitted}
use Rattle.dm_machine.specs.Upward.{is_open_hold}
use Rattle.dm_two_peers.proofs.Columns.{words_at}
use Rattle.dm_two_peers.proofs.StandingOthers.{is_open_tie}
use Rattle.dm_two_peers.proofs.Closing.{CarriesOn}
use Rattle.dm_two_peers.proofs.Keeps.{Hands}
use Rattle.dm_two_peers.proofs.Events.{side_sound}
use Rattle.dm_two_peers.proofs.OpenNodes.{held_there}
use Rattle.dm_two_peers.proofs.WaysOther.{IsNew, says_none, says_one}
use Rattle.dm_two_peers.proofs.Carried.{Carried, IsCarrying, WayOnLink, carrier, no_other_raise, no_other_up, open_held}
use Rattle.dm_two_peers.proofs.Carried.{open_tied, over_of, plain_words, turn_with}
use Rattle.dm_two_peers.proofs.CarriedViews.{flip_view, on_mapped, other_fits, stepped_by, tie_open}

module _ {P M : Type 0} (m : Peers P M) (is_app : M → Bool) (stands : P → Bool) (carries : CarriesOn m is_app stands)
    (lost : Bool) where
  other_raises : (t : Side) (c : ℕ) (e : Event M) (actions : List (Action M)) →
      handed_up_by t c (turn_with (flip t) e actions) ≡ []
  other_raises t c (ArrivedEvent d x) actions = no_other_raise t (d.0 == c) (ups_of actions)
  other_raises t c (SubmitEvent x) actions = no_other_up t (ups_of actions)
  other_raises t c (StartEvent d) actions = no_other_up t (ups_of actions)
  other_raises t c (StopEvent cause) actions = no_other_up t (ups_of actions)
  other_raises t c TimeoutEvent actions = no_other_up t (ups_of actions)
  other_raises t c TickEvent actions = no_other_up t (ups_of actions)
  other_raises t c (AckEvent d) actions = no_other_up t (ups_of actions)
  other_raises t c (NackEvent d) actions = no_other_up t (ups_of actions)
  other_raises t c (GoneEvent d) actions = no_other_up t (ups_of actions)

  abbrev After_other : (t : Side) (w : World P M) (c : ℕ) (e : Event M) (p : P) (actions : List (Action M)) →
      List M → List M → Type 0
  After_other t w c e p actions said up =
      WayOnLink is_app lost (over_of (m.node_of (peer_on t w)) c) t
      (option_map (by_side (flip t) (stepped_by m is_app stands carries lost c e actions p)) (slice_get w.links c))
      said up

  other_by : (t : Side) (w : World P M) (c : ℕ) (e : Event M) (p : P) (actions : List (Action M))
      (said up new more : List M) → IsCarrying m stands w →
      Hands (flip t) (m.node_of (peer_on (flip t) w)) (m.node_of (peer_on (flip (flip t)) w)) e w.links →
      apps is_app (words_at c actions) ≡ new →
      ((l : Link M) → slice_get w.links c ≡ Some l → IsNew is_app lost (concern_by e (conn c)) l.phase
      (own_view t l).other new) →
      (slice_get w.links c ≡ None → new ≡ []) → more ≡ [] →
      Carried m is_app lost w t c said up → After_other t w c e p actions (said ++ new) (up ++ more)
  other_by t w c e p actions said up new more good hands words this nothing none_more h =
      subst (λ (ys : List M). After_other t w c e p actions (said ++ new) ys)
      (sym (ap (λ ys. up ++ ys) none_more ∙ append-nil up))
      (on_mapped m is_app stands carries lost t
      (by_side (flip t) (stepped_by m is_app stands carries lost c e actions p)) (over_of (m.node_of (peer_on t w)) c)
      (over_of (m.node_of (peer_on t w)) c) said up (said ++ new) up (slice_get w.links c)
      (λ l at way. other_fits m is_app stands carries lost t w c e p actions l new said up good at
      (hands.handed c l at) words (this l at) way)
      (λ at e g. (ap (λ xs. xs ++ new) e ∙ nothing at, g)) h)

  -- what the other side submits
  not_open : (t : Tie) (b : Bool) → is_open_tie t ≡ b → is_open_tie t ≡ true → b ≡ true
  not_open t b e h = sym e ∙ h

  flips : (t : Side) (b : Bool) (xs : List M) →
      (if opens (flip t) (flip t) && b then xs else []) ≡ (if b then xs else [])
  flips A b xs = refl
  flips B b xs = refl

  or_false : (b : Bool) → (b || false) ≡ b
  or_false true = refl
  or_false false = refl

  abbrev new_of : Side → ℕ → M → List (Action M) → List M
  new_of t c x acts = if opens (flip t) (flip t) && sends_at c (map deed_in acts) then x ∷ [] else []

  other_submits : (t : Side) (w : World P M) (c : ℕ) (x : M) (p : P) (actions : List (Action M)) (said up : List M) →
      IsCarrying m stands w →
      Hands (flip t) (m.node_of (peer_on (flip t) w)) (m.node_of (peer_on (flip (flip t)) w)) (SubmitEvent x) w.links →
      m.reply (peer_on (flip t) w) (SubmitEvent x) ≡ ActsBy actions p → Carried m is_app lost w t c said up →
      After_other t w c (SubmitEvent x) p actions (said ++ submitted_by t c (turn_with (flip t) (SubmitEvent x) actions))
      (up ++ handed_up_by t c (turn_with (flip t) (SubmitEvent x) actions))
  other_submits t w c x p actions said up good hands replies h =
      let sides = side_sound m (flip t) w good.sound in
      let sub = carries.does.submits (peer_on (flip t) w) p x actions (carrier m stands (flip t) w good) replies in
      by_test sub (sub.link == c) refl
    where
      n : Node
      n = m.node_of (peer_on (flip t) w)

      new_is : (sub : SendsSubmitted is_app n x actions) (b : Bool) → (sub.link == c) ≡ b →
          new_of t c x actions ≡ (if b then x ∷ [] else [])
      new_is sub b named = ap (λ acts. new_of t c x acts) sub.sends
          ∙ (flips t ((sub.link == c) || false) (x ∷ [])
          ∙ (ap (λ q. if q then x ∷ [] else []) (or_false (sub.link == c))
          ∙ ap (λ q. if q then x ∷ [] else []) named))

      words_are : (sub : SendsSubmitted is_app n x actions) (b : Bool) → (sub.link == c) ≡ b →
          apps is_app (words_at c actions) ≡ (if b then x ∷ [] else [])
      words_are sub true named = ap (λ acts. apps is_app (words_at c acts)) sub.sends
          ∙ (ap (λ q. apps is_app (if q then x ∷ [] else [])) named ∙ ap (λ q. if q then x ∷ [] else []) sub.app)
      words_are sub false named = ap (λ acts. apps is_app (words_at c acts)) sub.sends
          ∙ ap (λ q. apps is_app (if q then x ∷ [] else [])) named

      opened : (sub : SendsSubmitted is_app n x actions) → (sub.link == c) ≡ true →
          is_open_hold (hold_of n (conn c)) ≡ true
      opened sub named = subst (λ d. is_open_hold (hold_of n (conn d)) ≡ true) (eqb-true sub.link c named) sub.opened

      by_test : (sub : SendsSubmitted is_app n x actions) (b : Bool) → (sub.link == c) ≡ b →
          After_other t w c (SubmitEvent x) p actions (said ++ submitted_by t c (turn_with (flip t) (SubmitEvent x) actions))
          (up ++ handed_up_by t c (turn_with (flip t) (SubmitEvent x) actions))
      by_test sub true named =
          other_by t w c (SubmitEvent x) p actions said up (new_of t c x actions) _ good hands
          (words_are sub true named ∙ sym (new_is sub true named))
          (λ l at. let is = tie_open m is_app stands carries lost (flip t) w c l good at (opened sub named) in
          says_one refl is.0 (ap (λ e. is_shut e) (sym (flip_view m is_app stands carries lost t l)) ∙ is.1))
          (λ at. absurd (no_link sub named at)) (other_raises t c (SubmitEvent x) actions) h
        where
          no_link : (sub : SendsSubmitted is_app n x actions) → (sub.link == c) ≡ true → slice_get w.links c ≡ None → ⊥
          no_link sub named at =
              let there = held_there (flip t) n (m.node_of (peer_on (flip (flip t)) w)) w.links c
              (side_sound m (flip t) w good.sound)
              (open_held (tie_of n c) (open_tied (hold_of n (conn c)) (opened sub named))) in
              let is = there.1 in cc
      by_test sub false named =
          other_by t w c (SubmitEvent x) p actions said up (new_of t c x actions) _ good hands
          (words_are sub false named ∙ sym (new_is sub false named))
          (λ l at. says_none (new_is sub false named)) (λ at. new_is sub false named)
          (other_raises t c (SubmitEvent x) actions) h

  other_calm : (t : Side) (w : World P M) (c : ℕ) (e : Event M) (p : P) (actions : List (Action M)) (said up : List M)
      (new : List M) → IsCarrying m stands w →
      Hands (flip t) (m.node_of (peer_on (flip t) w)) (m.node_of (peer_on (flip (flip t)) w)) e w.links →
      m.reply (peer_on (flip t) w) e ≡ ActsBy actions p → ((x : M) → e ≡ SubmitEvent x → ⊥) → new ≡ [] →
      Carried m is_app lost w t c said up →
      After_other t w c e p actions (said ++ new) (up ++ handed_up_by t c (turn_with (flip t) e actions))
  other_calm t w c e p actions said up new good hands replies other is h =
      let sides = side_sound m (flip t) w good.sound in
      other_by t w c e p actions said up new (handed_up_by t c (turn_with (flip t) e actions)) good hands
      (plain_words is_app c actions (carries.does.others (peer_on (flip t) w) p e actions
      (carrier m stands (flip t) w good) other replies)
      ∙ sym is)
      (λ l at. says_none is) (λ at. is) (other_raises t c e actions) h

  abbrev OtherStep : (t : Side) (w : World P M) (c : ℕ) (e : Event M) (p : P) (actions : List (Action M)) → Type 0
  OtherStep t w c e p actions =
      (said up : List M) → IsCarrying m stands w →
      Hands (flip t) (m.node_of (peer_on (flip t) w)) (m.node_of (peer_on (flip (flip t)) w)) e w.links →
      m.reply (peer_on (flip t) w) e ≡ ActsBy actions p → Carried m is_app lost w t c said up →
      After_other t w c e p actions (said ++ submitted_by t c (turn_with (flip t) e actions))
      (up ++ handed_up_by t c (turn_with (flip t) e actions))

  pub other_step : (t : Side) (w : World P M) (c : ℕ) (e : Event M) (p : P) (actions : List (Action M)) →
      OtherStep t w c e p actions
  other_step t w c (SubmitEvent x) p actions said up good hands replies h =
      other_submits t w c x p actions said up good hands replies h
  other_step t w c (StartEvent d) p actions said up good hands replies h =
      other_calm t w c (StartEvent d) p actions said up [] good hands replies (λ x q. cc) refl h
  other_step t w c (StopEvent cause) p actions said up good hands replies h =
      other_calm t w c (StopEvent cause) p actions said up [] good hands replies (λ x q. cc) refl h
  other_step t w c TimeoutEvent p actions said up good hands replies h =
      other_calm t w c TimeoutEvent p actions said up [] good hands replies (λ x q. cc) refl h
  other_step t w c TickEvent p actions said up good hands replies h =
      other_calm t w c TickEvent p actions said up [] good hands replies (λ x q. cc) refl h
  other_step t w c (AckEvent d) p actions said up good hands replies h =
      other_calm t w c (AckEvent d) p actions said up [] good hands replies (λ x q. cc) refl h
  other_step t w c (NackEvent d) p actions said up good hands replies h =
      other_calm t w c (NackEvent d) p actions said up [] good hands replies (λ x q. cc) refl h
  other_step t w c (GoneEvent d) p actions said up good hands replies h =
      other_calm t w c (GoneEvent d) p actions said up [] good hands replies (λ x q. cc) refl h
  other_step t w c (ArrivedEvent d x) p actions said up good hands replies h =
      other_calm t w c (ArrivedEvent d x) p actions said up [] good hands replies (λ y q. cc) refl h
