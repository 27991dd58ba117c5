-- Every happening keeps what is under way of the exchanges on each link.
use Rattle.std.proofs.Common.{◌≡◌, inl, inr, ℕ, ◌+◌, ◌==◌, Bool, true, false, if◌then◌else◌, nat_lt}
use Rattle.std.proofs.Common.{Option, Some, None, List, [], ◌∷◌, ◌++◌, length, slice_get, refl, sym, ap, subst, ◌∙◌, arith}
use Rattle.std.proofs.lemmas.Bool.Decides.{nat_tests}
use Rattle.std.proofs.lemmas.Option.{slice_get_within}
use Rattle.dm_machine.specs.Connection.{hold_of}
use Rattle.dm_two_peers.specs.Machine.{conn, Elsewhere, StartsLink, MakesLink, FailsLink, EndsLink, HeardOnLink}
use Rattle.dm_two_peers.specs.Links.{Side, A, B, flip, opens, LinkPhase, LinkPending, LinkUp, LinkCancelled, End, Fresh, Open, Shut}
use Rattle.dm_two_peers.specs.Links.{Coming, Link, by_side, new_link}
use Rattle.dm_two_peers.specs.Peers.{Event, StartEvent, StopEvent, TimeoutEvent, TickEvent, AckEvent, NackEvent, GoneEvent, SubmitEvent, ArrivedEvent, Action, Reply}
use Rattle.dm_two_peers.specs.Peers.{ActsBy, Declines, Peers, concern_by}
use Rattle.dm_two_peers.specs.Worlds.{World, Disconnect, put_if, peer_on, perform, After, Ignored, after_reply, tell}
use Rattle.dm_two_peers.specs.Happens.{Happening, Starts, Stops, TimesOut, Ticks, Restarts, Acks, Nacks, Delivers, Pieces}
use Rattle.dm_two_peers.specs.Happens.{Loses, Submits, Next, NextMessage, NextDisconnect, NextNothing, next_in, comes}
use Rattle.dm_two_peers.specs.Happens.{deliver_next, deliver_part, are_shut, restart_puts}
use Rattle.dm_two_peers.specs.Happens.{if_up, if_pending, at_link, own_view, happens}
use Rattle.dm_two_peers.specs.Facts.{is_empty, is_shut}
use Rattle.dm_two_peers.specs.Requests.{Requests, AnswersMatch, MatchesOn}
use Rattle.dm_two_peers.proofs.Columns.{acted, words_at, is_closed_at, summed, phase_after}
use Rattle.dm_two_peers.proofs.StandingSteps.{is_handed}
use Rattle.dm_two_peers.proofs.Views.{acted_summed}
use Rattle.dm_two_peers.proofs.Stepped.{performed_at}
use Rattle.dm_two_peers.proofs.Lists.{mapped_some}
use Rattle.dm_two_peers.proofs.StartKeeps.{appended_at}
use Rattle.dm_two_peers.proofs.Keeps.{Hands}
use Rattle.dm_two_peers.proofs.Events.{hands_at}
use Rattle.dm_two_peers.proofs.Comings.{standing_at, handed_heard, handed_ended, next_is_message}
use Rattle.dm_two_peers.proofs.Comings.{next_is_disconnect, opens_self}
use Rattle.dm_two_peers.proofs.Comings as comings
use Rattle.dm_two_peers.proofs.Mirrors.{view_own}
use Rattle.dm_two_peers.proofs.Carried.{IsCarrying}
use Rattle.dm_two_peers.proofs.RequestedViews.{passes, step_asks}
use Rattle.dm_two_peers.proofs.RequestedTold.{from_side, turn_of_step, told_asks}
use Rattle.dm_two_peers.proofs.RequestedChanges.{All, At, KeepsAll, part_asks, loss_asks, word_drops, end_drops}
use Rattle.dm_two_peers.proofs.RequestedChanges.{restart_asks}

module _ {P M : Type 0} (m : Peers P M) (r : Requests P M) (stands : P → Bool) (match : AnswersMatch m r stands) where
  abbrev Stays : World P M → After P M → Type 0
  Stays w after = KeepsAll m r stands match w after

  abbrev pub Asked : World P M → Type 0
  Asked w = All m r stands match w

  -- a Start
  abbrev start_event : World P M → Event M
  start_event w = StartEvent (conn (length w.links))

  elsewhere : (n c : ℕ) (b : Bool) → (n == c) ≡ b → (c ≡ n → ⊥) → b ≡ false
  elsewhere n c false e apart = refl
  elsewhere n c true e apart = absurd (apart (same n c e))
    where
      same : (n c : ℕ) → (n == c) ≡ true → c ≡ n
      same n c e = grind (arith, nat_tests)

  new_pends : (s t : Side) (closed : Bool) → phase_after closed (own_view {M = M} s (new_link t)).phase ≡ LinkUp → ⊥
  new_pends A A true e = cc
  new_pends A A false e = cc
  new_pends A B true e = cc
  new_pends A B false e = cc
  new_pends B A true e = cc
  new_pends B A false e = cc
  new_pends B B true e = cc
  new_pends B B false e = cc

  acted_asks : (s : Side) (w : World P M) (p : P) (actions : List (Action M)) (c : ℕ) (l : Link M) →
      IsCarrying m stands w → slice_get w.links c ≡ Some l → m.reply (peer_on s w) (start_event w) ≡ ActsBy actions p →
      At m r stands match (peer_on s w) (peer_on (flip s) w) c (own_view s l) →
      At m r stands match p (peer_on (flip s) w) c (summed (is_closed_at c actions) (words_at c actions) (own_view s l))
  acted_asks s w p actions c l good at replies both =
      let lt = slice_get_within w.links c l at in
      let away : (length w.links == c) ≡ false =
      elsewhere (length w.links) c (length w.links == c) refl (λ (q : c ≡ length w.links). absurd (omega (
        arith,
        lt,
        q,
      ))) in
      let turn : is_closed_at c actions ≡ false → MatchesOn r (peer_on s w) p
      (hold_of (m.node_of (peer_on s w)) (conn c)) (hold_of (m.node_of p) (conn c)) Elsewhere None (words_at c actions)
      = λ still. subst (λ (b : Bool). MatchesOn r (peer_on s w) p (hold_of (m.node_of (peer_on s w)) (conn c))
      (hold_of (m.node_of p) (conn c)) (if b then StartsLink else Elsewhere) None (words_at c actions)) away
      (turn_of_step m r stands match s w p (start_event w) actions c good replies still) in
      step_asks r (peer_on s w) p (peer_on (flip s) w) (hold_of (m.node_of (peer_on s w)) (conn c))
      (hold_of (m.node_of p) (conn c)) (hold_of (m.node_of (peer_on (flip s) w)) (conn c)) Elsewhere None
      (is_closed_at c actions) false (words_at c actions) (own_view s l) passes turn both

  started_asks : (s : Side) (w : World P M) (o : Reply P M) → IsCarrying m stands w →
      m.reply (peer_on s w) (start_event w) ≡ o → Stays w (after_reply m s (start_event w) w o)
  started_asks s w Declines good replies all = all
  started_asks s w (ActsBy actions p) good replies all =
      from_side m r stands s p (perform s actions (w.links ++ new_link s ∷ [])) w (λ c l at.
      let f = by_side s (acted c actions) in
      let old = mapped_some f (slice_get (w.links ++ new_link s ∷ []) c) l
      (sym (performed_at s actions c (w.links ++ new_link s ∷ [])) ∙ at) in
      let now : own_view s l ≡ summed (is_closed_at c actions) (words_at c actions) (own_view s old.0) =
      ap (λ z. own_view s z) old.2
      ∙ (view_own s (acted c actions) old.0 ∙ acted_summed c actions (own_view s old.0)) in
      subst (λ v. At m r stands match p (peer_on (flip s) w) c v) (sym now)
      (elim (appended_at w.links (new_link s) c old.0 old.1) [
        | inl there ↦ acted_asks s w p actions c old.0 good there replies (all s c old.0 there)
        | inr q ↦ λ u. absurd (new_pends s s (is_closed_at c actions)
            (subst (λ z. phase_after (is_closed_at c actions) (own_view s z).phase ≡ LinkUp) q.1 u.up))
      ]))

  -- what comes to an end
  heard_told : (s : Side) (w : World P M) (d : ℕ) (l : Link M) (end : End) (x : M) (xs : List M) →
      IsCarrying m stands w → slice_get w.links d ≡ Some l → l.phase ≡ LinkUp → (own_view s l).own ≡ end →
      is_shut end ≡ false → (own_view s l).incoming.messages ≡ x ∷ xs → Stays w (tell m s (ArrivedEvent (conn d) x) w)
  heard_told s w d l end x xs good at up ends unshut front =
      told_asks m r stands match s w (ArrivedEvent (conn d) x) (λ q. elim q [ ]) good
      (hands_at s (m.node_of (peer_on s w)) (m.node_of (peer_on (flip s) w)) (ArrivedEvent (conn d) x) HeardOnLink w.links d l
      at (λ n. refl) (handed_heard (opens s l.opener) (standing_at m s w d l) end unshut up ends
      (ap (λ ms. is_empty ms) front)))
      (l, (xs, (at, front)))

  heard_stays : (s : Side) (w : World P M) (d : ℕ) (l : Link M) (end : End) (x : M) (xs : List M) →
      IsCarrying m stands w → slice_get w.links d ≡ Some l → l.phase ≡ LinkUp → (own_view s l).own ≡ end →
      (own_view s l).incoming.messages ≡ x ∷ xs → Stays w (comes m s (ArrivedEvent (conn d) x) end w)
  heard_stays s w d l Shut x xs good at up ends front = word_drops m r stands match s w d l x good at up ends
  heard_stays s w d l Open x xs good at up ends front = heard_told s w d l Open x xs good at up ends refl front
  heard_stays s w d l Fresh x xs good at up ends front = heard_told s w d l Fresh x xs good at up ends refl front

  ended_told : (s : Side) (w : World P M) (d : ℕ) (l : Link M) (end : End) → IsCarrying m stands w →
      slice_get w.links d ≡ Some l → l.phase ≡ LinkUp → (own_view s l).own ≡ end → is_shut end ≡ false →
      (own_view s l).incoming.messages ≡ [] → (own_view s l).incoming.mark ≡ Coming →
      Stays w (tell m s (GoneEvent (conn d)) w)
  ended_told s w d l end good at up ends unshut front coming =
      told_asks m r stands match s w (GoneEvent (conn d)) (λ q. elim q [ ]) good
      (hands_at s (m.node_of (peer_on s w)) (m.node_of (peer_on (flip s) w)) (GoneEvent (conn d)) EndsLink w.links d l at
      (λ n. refl) (handed_ended (opens s l.opener) (standing_at m s w d l) end unshut up ends
      (ap (λ ms. is_empty ms) front) coming)) tt

  ended_stays : (s : Side) (w : World P M) (d : ℕ) (l : Link M) (end : End) → IsCarrying m stands w →
      slice_get w.links d ≡ Some l → l.phase ≡ LinkUp → (own_view s l).own ≡ end →
      (own_view s l).incoming.messages ≡ [] → (own_view s l).incoming.mark ≡ Coming →
      Stays w (comes m s (GoneEvent (conn d)) end w)
  ended_stays s w d l Shut good at up ends front coming = end_drops m r stands match s w d
  ended_stays s w d l Open good at up ends front coming = ended_told s w d l Open good at up ends refl front coming
  ended_stays s w d l Fresh good at up ends front coming = ended_told s w d l Fresh good at up ends refl front coming

  delivered_stays : (s : Side) (w : World P M) (d : ℕ) (l : Link M) (nx : Next M) → IsCarrying m stands w →
      slice_get w.links d ≡ Some l → l.phase ≡ LinkUp →
      next_in (own_view s l).incoming.messages (own_view s l).incoming.mark ≡ nx →
      Stays w (deliver_next m d s (own_view s l).own nx w)
  delivered_stays s w d l NextNothing good at up nx = λ all. all
  delivered_stays s w d l (NextMessage x) good at up nx =
      let ms = next_is_message (own_view s l).incoming.messages (own_view s l).incoming.mark x nx in
      heard_stays s w d l (own_view s l).own x ms.0 good at up refl ms.1
  delivered_stays s w d l NextDisconnect good at up nx =
      let ms = next_is_disconnect (own_view s l).incoming.messages (own_view s l).incoming.mark nx in
      ended_stays s w d l (own_view s l).own good at up refl ms.0 ms.1

  if_stays : (w : World P M) (b : Bool) (x y : After P M) → Stays w x → Stays w y → Stays w (if b then x else y)
  if_stays w true x y f g = f
  if_stays w false x y f g = g

  pieced_stays : (s : Side) (w : World P M) (d k taken : ℕ) (l : Link M) (nx : Next M) → IsCarrying m stands w →
      slice_get w.links d ≡ Some l → l.phase ≡ LinkUp →
      next_in (own_view s l).incoming.messages (own_view s l).incoming.mark ≡ nx →
      Stays w (deliver_part m d s k (own_view s l).own taken nx w)
  pieced_stays s w d k taken l NextNothing good at up nx = λ all. all
  pieced_stays s w d k taken l NextDisconnect good at up nx = λ all. all
  pieced_stays s w d k taken l (NextMessage x) good at up nx =
      let ms = next_is_message (own_view s l).incoming.messages (own_view s l).incoming.mark x nx in
      if_stays w (nat_lt (taken + k) (m.size x)) _ _ (part_asks m r stands match s w d k)
      (heard_stays s w d l (own_view s l).own x ms.0 good at up refl ms.1)

  up_stays : (w : World P M) (p : LinkPhase) (x : After P M) → (p ≡ LinkUp → Stays w x) → Stays w (if_up p x Ignored)
  up_stays w LinkUp x f = f refl
  up_stays w LinkPending x f = λ all. all
  up_stays w LinkCancelled x f = λ all. all

  pending_stays : (w : World P M) (p : LinkPhase) (x : After P M) → (p ≡ LinkPending → Stays w x) →
      Stays w (if_pending p x Ignored)
  pending_stays w LinkPending x f = f refl
  pending_stays w LinkUp x f = λ all. all
  pending_stays w LinkCancelled x f = λ all. all

  there_stays : (w : World P M) (d : ℕ) (o : Option (Link M)) (f : Link M → After P M) → slice_get w.links d ≡ o →
      ((l : Link M) → slice_get w.links d ≡ Some l → Stays w (f l)) → Stays w (at_link o f)
  there_stays w d None f e h = λ all. all
  there_stays w d (Some l) f e h = h l e

  calm_hands : (s : Side) (w : World P M) (e : Event M) → ((c : ℕ) → concern_by e (conn c) ≡ Elsewhere) →
      Hands s (m.node_of (peer_on s w)) (m.node_of (peer_on (flip s) w)) e w.links
  calm_hands s w e calm =
      record {
        handed = λ d l at. subst
            (λ k. is_handed (opens s l.opener) k (standing_at m s w d l) ≡ true) (sym (calm d)) refl;
      }

  pub happening_asks : (w : World P M) (h : Happening M) → IsCarrying m stands w → Stays w (happens m w h)
  happening_asks w (Starts s) good = started_asks s w (m.reply (peer_on s w) (start_event w)) good refl
  happening_asks w (Stops s cause) good =
      told_asks m r stands match s w (StopEvent cause) (λ q. elim q [ ]) good (calm_hands s w (StopEvent cause) (λ d. refl)) tt
  happening_asks w (TimesOut s) good =
      told_asks m r stands match s w TimeoutEvent (λ q. elim q [ ]) good (calm_hands s w TimeoutEvent (λ d. refl)) tt
  happening_asks w (Ticks s) good =
      told_asks m r stands match s w TickEvent (λ q. elim q [ ]) good (calm_hands s w TickEvent (λ d. refl)) tt
  happening_asks w (Submits s x) good =
      told_asks m r stands match s w (SubmitEvent x) (λ q. elim q [ ]) good (calm_hands s w (SubmitEvent x) (λ d. refl)) tt
  happening_asks w (Restarts s) good = restart_asks m r stands match s w (restart_puts s 0 w.links)
  happening_asks w (Acks d) good =
      there_stays w d (slice_get w.links d) _ refl (λ l at. pending_stays w l.phase _ (λ p.
      told_asks m r stands match l.opener w (AckEvent (conn d)) (λ q. elim q [ ]) good
      (hands_at l.opener (m.node_of (peer_on l.opener w)) (m.node_of (peer_on (flip l.opener) w)) (AckEvent (conn d)) MakesLink
      w.links d l at (λ n. refl)
      (comings.handed_ack (opens l.opener l.opener) (standing_at m l.opener w d l) (opens_self l.opener) p)) tt))
  happening_asks w (Nacks d) good =
      there_stays w d (slice_get w.links d) _ refl (λ l at. pending_stays w l.phase _ (λ p.
      told_asks m r stands match l.opener w (NackEvent (conn d)) (λ q. elim q [ ]) good
      (hands_at l.opener (m.node_of (peer_on l.opener w)) (m.node_of (peer_on (flip l.opener) w)) (NackEvent (conn d))
      FailsLink w.links d l at (λ n. refl)
      (comings.handed_nack (opens l.opener l.opener) (standing_at m l.opener w d l) (opens_self l.opener) p)) tt))
  happening_asks w (Delivers d s) good =
      there_stays w d (slice_get w.links d) _ refl (λ l at. up_stays w l.phase _ (λ p.
      delivered_stays s w d l (next_in (own_view s l).incoming.messages (own_view s l).incoming.mark) good at p refl))
  happening_asks w (Pieces d s k) good =
      there_stays w d (slice_get w.links d) _ refl (λ l at. up_stays w l.phase _ (λ p.
      if_stays w (k == 0) Ignored _ (λ all. all)
      (pieced_stays s w d k (own_view s l).incoming.taken l
      (next_in (own_view s l).incoming.messages (own_view s l).incoming.mark) good at p refl)))
  happening_asks w (Loses d a b) good =
      there_stays w d (slice_get w.links d) _ refl (λ l at. up_stays w l.phase _ (λ p.
      if_stays w (are_shut l.opener_end l.other_end) Ignored _ (λ all. all)
      (loss_asks m r stands match w d a b
      (put_if B (Disconnect d A) (Some l) ++ put_if A (Disconnect d B) (Some l)))))
