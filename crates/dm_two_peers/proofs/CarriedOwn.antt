-- What a side is told keeps what the directions to it carry.
use Rattle.std.proofs.Common.{◌≡◌, ℕ, ◌==◌, Bool, true, false, if◌then◌else◌, Some, List, [], ◌∷◌, ◌++◌, map, slice_get}
use Rattle.std.proofs.Common.{refl, sym, ap, subst, ◌∙◌, append-nil}
use Rattle.std.specs.Prelude.{option_map}
use Rattle.std.proofs.lemmas.Bool.{eqb-true}
use Rattle.dm_two_peers.specs.Machine.{Conn, conn, LinkConcern, Elsewhere, MakesLink, FailsLink, EndsLink, HeardOnLink}
use Rattle.dm_two_peers.specs.Links.{Side, flip, opens, by_side}
use Rattle.dm_two_peers.specs.Peers.{Event, StartEvent, StopEvent, TimeoutEvent, TickEvent, AckEvent, NackEvent, GoneEvent, SubmitEvent, ArrivedEvent, Action, ActsBy}
use Rattle.dm_two_peers.specs.Peers.{Peers, concern_by, deed_in, sends_at}
use Rattle.dm_two_peers.specs.Worlds.{World, peer_on}
use Rattle.dm_two_peers.specs.Happens.{own_view}
use Rattle.dm_two_peers.specs.Delivery.{submitted_by, handed_up_by, ups_of}
use Rattle.dm_two_peers.proofs.Closing.{CarriesOn}
use Rattle.dm_two_peers.proofs.Stepped.{IsStart, at_start}
use Rattle.dm_two_peers.proofs.Keeps.{Hands}
use Rattle.dm_two_peers.proofs.Hearing.{is_word}
use Rattle.dm_two_peers.proofs.Carried.{Carried, Front, IsCarrying, WayOnLink, carrier, no_own_submit, no_own_up, over_of}
use Rattle.dm_two_peers.proofs.Carried.{own_opens, turn_with}
use Rattle.dm_two_peers.proofs.CarriedViews.{on_mapped, own_fits, own_view_calm, own_view_heard, padded, stepped_by}

module _ {P M : Type 0} (m : Peers P M) (is_app : M → Bool) (stands : P → Bool) (carries : CarriesOn m is_app stands)
    (lost : Bool) where
  abbrev After_own : (t : Side) (w : World P M) (c : ℕ) (e : Event M) (p : P) (actions : List (Action M)) →
      List M → List M → Type 0
  After_own t w c e p actions said up =
      WayOnLink is_app lost (over_of (m.node_of p) c) t
      (option_map (by_side t (stepped_by m is_app stands carries lost c e actions p)) (slice_get w.links c)) said up

  own_calm_step : (t : Side) (w : World P M) (c : ℕ) (e : Event M) (p : P) (actions : List (Action M))
      (said up new more : List M) → IsCarrying m stands w →
      Hands t (m.node_of (peer_on t w)) (m.node_of (peer_on (flip t) w)) e w.links →
      m.reply (peer_on t w) e ≡ ActsBy actions p → is_word (concern_by e (conn c)) ≡ false → new ≡ [] → more ≡ [] →
      Carried m is_app lost w t c said up → After_own t w c e p actions (said ++ new) (up ++ more)
  own_calm_step t w c e p actions said up new more good hands replies calm none_new none_more h =
      padded m is_app stands carries lost (over_of (m.node_of p) c) t _ said up new more none_new none_more
      (on_mapped m is_app stands carries lost t (by_side t (stepped_by m is_app stands carries lost c e actions p))
      (over_of (m.node_of (peer_on t w)) c)
      (over_of (m.node_of p) c) said up said up (slice_get w.links c)
      (λ l at way. own_view_calm m is_app stands carries lost t w c e p actions l said up good at replies
      (hands.handed c l at) calm way)
      (λ at e g. (e, g)) h)

  conn_is : (d : Conn) (c : ℕ) → (d.0 == c) ≡ true → d ≡ conn c
  conn_is d c h = ap conn (eqb-true d.0 c h)

  own_word_step : (t : Side) (w : World P M) (c : ℕ) (d : Conn) (x : M) (p : P) (actions : List (Action M))
      (said up new more : List M) → IsCarrying m stands w →
      Hands t (m.node_of (peer_on t w)) (m.node_of (peer_on (flip t) w)) (ArrivedEvent d x) w.links →
      Front w t (ArrivedEvent d x) → m.reply (peer_on t w) (ArrivedEvent d x) ≡ ActsBy actions p → (d.0 == c) ≡ true → new ≡ [] →
      more ≡ ups_of actions → Carried m is_app lost w t c said up →
      After_own t w c (ArrivedEvent d x) p actions (said ++ new) (up ++ more)
  own_word_step t w c d x p actions said up new more good hands front replies named none_new is_more h =
      let k = concern_by (ArrivedEvent d x) (conn c) in
      let is_k : k ≡ HeardOnLink = ap (λ b. if b then HeardOnLink else Elsewhere) named in
      let there : slice_get w.links c ≡ Some front.0 =
      subst (λ n. slice_get w.links n ≡ Some front.0) (eqb-true d.0 c named) front.1.1.0 in
      let replies' : m.reply (peer_on t w) (ArrivedEvent (conn c) x) ≡ ActsBy actions p =
      subst (λ n. m.reply (peer_on t w) (ArrivedEvent n x) ≡ ActsBy actions p) (conn_is d c named) replies in
      let over' = over_of (m.node_of p) c in
      subst (λ (xs : List M). After_own t w c (ArrivedEvent d x) p actions xs (up ++ more))
      (sym (ap (λ xs. said ++ xs) none_new ∙ append-nil said))
      (subst (λ (ys : List M). After_own t w c (ArrivedEvent d x) p actions said (up ++ ys)) (sym is_more)
      (on_mapped m is_app stands carries lost t
      (by_side t (stepped_by m is_app stands carries lost c (ArrivedEvent d x) actions p))
      (over_of (m.node_of (peer_on t w)) c) over' said up
      said (up ++ ups_of actions) (slice_get w.links c)
      (λ l at way.
      let same : front.0 ≡ l = cc (at, there) in
      let ms = subst (λ z. (own_view t z).incoming.messages ≡ x ∷ front.1.0) same front.1.1.1 in
      own_view_heard m is_app stands carries lost t w c x front.1.0 p actions l k said up is_k good at replies'
      (hands.handed c l at) ms
      (own_fits m is_app stands carries lost t w c (ArrivedEvent d x) p actions l good at replies (hands.handed c l at)) way)
      (λ at e g. cc (at, there)) h))

  own_submits : (t : Side) (c : ℕ) (e : Event M) (actions : List (Action M)) →
      submitted_by t c (turn_with t e actions) ≡ []
  own_submits t c (SubmitEvent x) actions = no_own_submit t (sends_at c (map deed_in actions)) (x ∷ [])
  own_submits t c (StartEvent d) actions = refl
  own_submits t c (StopEvent cause) actions = refl
  own_submits t c TimeoutEvent actions = refl
  own_submits t c TickEvent actions = refl
  own_submits t c (AckEvent d) actions = refl
  own_submits t c (NackEvent d) actions = refl
  own_submits t c (GoneEvent d) actions = refl
  own_submits t c (ArrivedEvent d x) actions = refl

  abbrev OwnStep : (t : Side) (w : World P M) (c : ℕ) (e : Event M) (p : P) (actions : List (Action M)) → Type 0
  OwnStep t w c e p actions =
      (said up : List M) → IsCarrying m stands w →
      Hands t (m.node_of (peer_on t w)) (m.node_of (peer_on (flip t) w)) e w.links → Front w t e →
      m.reply (peer_on t w) e ≡ ActsBy actions p → Carried m is_app lost w t c said up →
      After_own t w c e p actions (said ++ submitted_by t c (turn_with t e actions))
      (up ++ handed_up_by t c (turn_with t e actions))

  calm_if : (b : Bool) (k : LinkConcern) → is_word k ≡ false → is_word (if b then k else Elsewhere) ≡ false
  calm_if true k h = h
  calm_if false k h = refl

  -- what brings no message on the link
  own_silent : (t : Side) (w : World P M) (c : ℕ) (e : Event M) (p : P) (actions : List (Action M)) (said up : List M) →
      IsCarrying m stands w → Hands t (m.node_of (peer_on t w)) (m.node_of (peer_on (flip t) w)) e w.links →
      m.reply (peer_on t w) e ≡ ActsBy actions p → is_word (concern_by e (conn c)) ≡ false →
      ((d : Conn) (x : M) → e ≡ ArrivedEvent d x → ⊥) →
      handed_up_by t c (turn_with t e actions) ≡ (if opens t t then ups_of actions else []) →
      Carried m is_app lost w t c said up →
      After_own t w c e p actions (said ++ submitted_by t c (turn_with t e actions))
      (up ++ handed_up_by t c (turn_with t e actions))
  own_silent t w c e p actions said up good hands replies calm other is h =
      own_calm_step t w c e p actions said up _ _ good hands replies calm (own_submits t c e actions)
      (is ∙ no_own_up t (ups_of actions)
      (carries.does.silent (peer_on t w) p e actions (carrier m stands t w good) other replies)) h

  pub own_step : (t : Side) (w : World P M) (c : ℕ) (e : Event M) (p : P) (actions : List (Action M)) →
      (IsStart e → ⊥) → OwnStep t w c e p actions
  own_step t w c (ArrivedEvent d x) p actions no_start said up good hands front replies h =
      by_test (d.0 == c) refl said up good hands front replies h
    where
      raises_if : (b : Bool) → (d.0 == c) ≡ b →
          handed_up_by t c (turn_with t (ArrivedEvent d x) actions) ≡ (if b then ups_of actions else [])
      raises_if b h = own_opens t (d.0 == c) (ups_of actions) ∙ ap (λ q. if q then ups_of actions else []) h

      by_test : (b : Bool) → (d.0 == c) ≡ b → OwnStep t w c (ArrivedEvent d x) p actions
      by_test true named said up good hands front replies h =
          own_word_step t w c d x p actions said up _ _ good hands front replies named
          (own_submits t c (ArrivedEvent d x) actions) (raises_if true named) h
      by_test false named said up good hands front replies h =
          own_calm_step t w c (ArrivedEvent d x) p actions said up _ _ good hands replies
          (ap (λ b. is_word (if b then HeardOnLink else Elsewhere)) named) (own_submits t c (ArrivedEvent d x) actions)
          (raises_if false named) h
  own_step t w c (StartEvent d) p actions no_start said up good hands front replies h = absurd (no_start (started d))
    where
      started : (d : Conn) → IsStart {M = M} (StartEvent d)
      started d = at_start d
  own_step t w c (StopEvent cause) p actions no_start said up good hands front replies h =
      own_silent t w c (StopEvent cause) p actions said up good hands replies refl (λ d x q. cc) refl h
  own_step t w c TimeoutEvent p actions no_start said up good hands front replies h =
      own_silent t w c TimeoutEvent p actions said up good hands replies refl (λ d x q. cc) refl h
  own_step t w c TickEvent p actions no_start said up good hands front replies h =
      own_silent t w c TickEvent p actions said up good hands replies refl (λ d x q. cc) refl h
  own_step t w c (AckEvent d) p actions no_start said up good hands front replies h =
      own_silent t w c (AckEvent d) p actions said up good hands replies (calm_if (d.0 == c) MakesLink refl) (λ d x q. cc) refl
      h
  own_step t w c (NackEvent d) p actions no_start said up good hands front replies h =
      own_silent t w c (NackEvent d) p actions said up good hands replies (calm_if (d.0 == c) FailsLink refl) (λ d x q. cc)
      refl h
  own_step t w c (GoneEvent d) p actions no_start said up good hands front replies h =
      own_silent t w c (GoneEvent d) p actions said up good hands replies (calm_if (d.0 == c) EndsLink refl) (λ d x q. cc)
      refl h
  own_step t w c (SubmitEvent x) p actions no_start said up good hands front replies h =
      own_silent t w c (SubmitEvent x) p actions said up good hands replies refl (λ d x q. cc) refl h
