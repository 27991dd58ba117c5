-- Every happening keeps what each direction of each link carries.
use Rattle.std.proofs.Common.{◌≡◌, ℕ, ◌+◌, ◌==◌, Bool, true, false, if◌then◌else◌, nat_lt, Option, Some, None, List, []}
use Rattle.std.proofs.Common.{◌∷◌, ◌++◌, slice_get, refl, sym, ap, subst}
use Rattle.dm_two_peers.specs.Machine.{conn, Elsewhere, MakesLink, FailsLink, EndsLink, HeardOnLink}
use Rattle.dm_two_peers.specs.Links.{Side, A, B, flip, opens, LinkPhase, LinkPending, LinkUp, LinkCancelled, End, Fresh, Open, Shut}
use Rattle.dm_two_peers.specs.Links.{Coming, Link}
use Rattle.dm_two_peers.specs.Peers.{Event, StopEvent, TimeoutEvent, TickEvent, AckEvent, NackEvent, GoneEvent, SubmitEvent, ArrivedEvent, Peers, concern_by}
use Rattle.dm_two_peers.specs.Worlds.{World, Put, Disconnect, put_if, peer_on, with_links, change_at, After, DoneWith, Ignored}
use Rattle.dm_two_peers.specs.Worlds.{NoLink, tell}
use Rattle.dm_two_peers.specs.Happens.{Happening, Starts, Stops, TimesOut, Ticks, Restarts, Acks, Nacks, Delivers, Pieces}
use Rattle.dm_two_peers.specs.Happens.{Loses, Submits, Next, NextMessage, NextDisconnect, NextNothing, next_in, comes}
use Rattle.dm_two_peers.specs.Happens.{deliver_next, deliver_part, lost_link, are_shut, if_up, if_pending, at_link}
use Rattle.dm_two_peers.specs.Happens.{own_view, happens}
use Rattle.dm_two_peers.specs.Follows.{IsMachine}
use Rattle.dm_two_peers.specs.Facts.{is_empty, is_shut}
use Rattle.dm_two_peers.specs.Turns.{WorldTurn, turn_of, turn_at, turn_delivered, turn_pieced, turns_on, turns}
use Rattle.dm_two_peers.proofs.StandingSteps.{is_handed}
use Rattle.dm_two_peers.proofs.Closing.{CarriesOn}
use Rattle.dm_two_peers.proofs.Keeps.{Hands}
use Rattle.dm_two_peers.proofs.Events.{hands_at}
use Rattle.dm_two_peers.proofs.Comings.{standing_at, handed_heard, handed_ended, next_is_message}
use Rattle.dm_two_peers.proofs.Comings.{next_is_disconnect, opens_self}
use Rattle.dm_two_peers.proofs.Comings as comings
use Rattle.dm_two_peers.proofs.Carried.{IsCarrying, names_loss}
use Rattle.dm_two_peers.proofs.CarriedViews.{padded}
use Rattle.dm_two_peers.proofs.CarriedTold.{Keeps, told_keeps}
use Rattle.dm_two_peers.proofs.CarriedLosses.{loss_keeps, part_keeps}
use Rattle.dm_two_peers.proofs.CarriedDrops.{end_drop, word_drops}
use Rattle.dm_two_peers.proofs.CarriedRestarts.{restart_keeps}
use Rattle.dm_two_peers.proofs.CarriedStarts.{start_event, start_keeps}

module _ {P M : Type 0} (m : Peers P M) (is_app : M → Bool) (stands : P → Bool) (carries : CarriesOn m is_app stands)
    (lost : Bool) where
  -- what is delivered
  none_keeps : (t : Side) (c : ℕ) (w : World P M) → Keeps m is_app stands carries lost w t c Ignored []
  none_keeps t c w said up h = padded m is_app stands carries lost _ t _ said up [] [] refl refl h

  none_there : (t : Side) (c : ℕ) (w : World P M) → Keeps m is_app stands carries lost w t c NoLink []
  none_there t c w said up h = padded m is_app stands carries lost _ t _ said up [] [] refl refl h

  heard_told : (t s : Side) (c : ℕ) (w : World P M) (d : ℕ) (l : Link M) (end : End) (x : M) (xs : List M) →
      IsCarrying m stands w → slice_get w.links d ≡ Some l → l.phase ≡ LinkUp → (own_view s l).own ≡ end →
      is_shut end ≡ false →
      (own_view s l).incoming.messages ≡ x ∷ xs →
      Keeps m is_app stands carries lost w t c (tell m s (ArrivedEvent (conn d) x) w) (turn_of m s (ArrivedEvent (conn d) x) w)
  heard_told t s c w d l end x xs good at up_now ends unshut front =
      told_keeps m is_app stands carries lost t s w c (ArrivedEvent (conn d) x) (λ q. elim q [ ]) good
      (hands_at s (m.node_of (peer_on s w)) (m.node_of (peer_on (flip s) w)) (ArrivedEvent (conn d) x) HeardOnLink w.links d l
      at
      (λ n. refl) (handed_heard (opens s l.opener) (standing_at m s w d l) end unshut up_now ends
      (ap (λ ms. is_empty ms) front)))
      (l, (xs, (at, front)))

  heard_keeps : (t s : Side) (c : ℕ) (w : World P M) (d : ℕ) (l : Link M) (end : End) (x : M) (xs : List M) →
      IsCarrying m stands w → slice_get w.links d ≡ Some l → l.phase ≡ LinkUp → (own_view s l).own ≡ end →
      (own_view s l).incoming.messages ≡ x ∷ xs →
      Keeps m is_app stands carries lost w t c (comes m s (ArrivedEvent (conn d) x) end w)
      (turn_at m s (ArrivedEvent (conn d) x) end w)
  heard_keeps t s c w d l Shut x xs good at up_now ends front = word_drops m is_app stands carries lost t s c w d l x
      xs at up_now ends front
  heard_keeps t s c w d l Open x xs good at up_now ends front =
      heard_told t s c w d l Open x xs good at up_now ends refl front
  heard_keeps t s c w d l Fresh x xs good at up_now ends front =
      heard_told t s c w d l Fresh x xs good at up_now ends refl front

  ended_told : (t s : Side) (c : ℕ) (w : World P M) (d : ℕ) (l : Link M) (end : End) →
      IsCarrying m stands w → slice_get w.links d ≡ Some l → l.phase ≡ LinkUp → (own_view s l).own ≡ end →
      is_shut end ≡ false →
      (own_view s l).incoming.messages ≡ [] → (own_view s l).incoming.mark ≡ Coming →
      Keeps m is_app stands carries lost w t c (tell m s (GoneEvent (conn d)) w) (turn_of m s (GoneEvent (conn d)) w)
  ended_told t s c w d l end good at up_now ends unshut front coming =
      told_keeps m is_app stands carries lost t s w c (GoneEvent (conn d)) (λ q. elim q [ ]) good
      (hands_at s (m.node_of (peer_on s w)) (m.node_of (peer_on (flip s) w)) (GoneEvent (conn d)) EndsLink w.links d l at
      (λ n. refl) (handed_ended (opens s l.opener) (standing_at m s w d l) end unshut up_now ends
      (ap (λ ms. is_empty ms) front) coming)) tt

  ended_keeps : (t s : Side) (c : ℕ) (w : World P M) (d : ℕ) (l : Link M) (end : End) →
      IsCarrying m stands w → slice_get w.links d ≡ Some l → l.phase ≡ LinkUp → (own_view s l).own ≡ end →
      (own_view s l).incoming.messages ≡ [] → (own_view s l).incoming.mark ≡ Coming →
      Keeps m is_app stands carries lost w t c (comes m s (GoneEvent (conn d)) end w) (turn_at m s (GoneEvent (conn d)) end w)
  ended_keeps t s c w d l Shut good at up_now ends front coming = end_drop m is_app stands carries lost t s c w d l at
      up_now ends coming
  ended_keeps t s c w d l Open good at up_now ends front coming =
      ended_told t s c w d l Open good at up_now ends refl front coming
  ended_keeps t s c w d l Fresh good at up_now ends front coming =
      ended_told t s c w d l Fresh good at up_now ends refl front coming

  delivered_keeps : (t s : Side) (c : ℕ) (w : World P M) (d : ℕ) (l : Link M) (nx : Next M) →
      IsCarrying m stands w → slice_get w.links d ≡ Some l → l.phase ≡ LinkUp →
      next_in (own_view s l).incoming.messages (own_view s l).incoming.mark ≡ nx →
      Keeps m is_app stands carries lost w t c (deliver_next m d s (own_view s l).own nx w)
      (turn_delivered m d s (own_view s l).own nx w)
  delivered_keeps t s c w d l NextNothing good at up_now nx = none_keeps t c w
  delivered_keeps t s c w d l (NextMessage x) good at up_now nx =
      let ms = next_is_message (own_view s l).incoming.messages (own_view s l).incoming.mark x nx in
      heard_keeps t s c w d l (own_view s l).own x ms.0 good at up_now refl ms.1
  delivered_keeps t s c w d l NextDisconnect good at up_now nx =
      let ms = next_is_disconnect (own_view s l).incoming.messages (own_view s l).incoming.mark nx in
      ended_keeps t s c w d l (own_view s l).own good at up_now refl ms.0 ms.1

  if_keeps : (t : Side) (c : ℕ) (w : World P M) (b : Bool) (x y : After P M) (us vs : List (WorldTurn M)) →
      Keeps m is_app stands carries lost w t c x us → Keeps m is_app stands carries lost w t c y vs →
      Keeps m is_app stands carries lost w t c (if b then x else y) (if b then us else vs)
  if_keeps t c w true x y us vs f g = f
  if_keeps t c w false x y us vs f g = g

  pieced_keeps : (t s : Side) (c : ℕ) (w : World P M) (d k taken : ℕ) (l : Link M) (nx : Next M) →
      IsCarrying m stands w → slice_get w.links d ≡ Some l → l.phase ≡ LinkUp →
      next_in (own_view s l).incoming.messages (own_view s l).incoming.mark ≡ nx →
      Keeps m is_app stands carries lost w t c (deliver_part m d s k (own_view s l).own taken nx w)
      (turn_pieced m d s k (own_view s l).own taken nx w)
  pieced_keeps t s c w d k taken l NextNothing good at up_now nx = none_keeps t c w
  pieced_keeps t s c w d k taken l NextDisconnect good at up_now nx = none_keeps t c w
  pieced_keeps t s c w d k taken l (NextMessage x) good at up_now nx =
      let ms = next_is_message (own_view s l).incoming.messages (own_view s l).incoming.mark x nx in
      if_keeps t c w (nat_lt (taken + k) (m.size x)) _ _ [] _ (part_keeps m is_app stands carries lost t s c w d k)
      (heard_keeps t s c w d l (own_view s l).own x ms.0 good at up_now refl ms.1)

  up_keeps : (t : Side) (c : ℕ) (w : World P M) (p : LinkPhase) (x : After P M) (us : List (WorldTurn M)) →
      (p ≡ LinkUp → Keeps m is_app stands carries lost w t c x us) →
      Keeps m is_app stands carries lost w t c (if_up p x Ignored) (if_up p us [])
  up_keeps t c w LinkUp x us f = f refl
  up_keeps t c w LinkPending x us f = none_keeps t c w
  up_keeps t c w LinkCancelled x us f = none_keeps t c w

  pending_keeps : (t : Side) (c : ℕ) (w : World P M) (p : LinkPhase) (x : After P M) (us : List (WorldTurn M)) →
      (p ≡ LinkPending → Keeps m is_app stands carries lost w t c x us) →
      Keeps m is_app stands carries lost w t c (if_pending p x Ignored) (if_pending p us [])
  pending_keeps t c w LinkPending x us f = f refl
  pending_keeps t c w LinkUp x us f = none_keeps t c w
  pending_keeps t c w LinkCancelled x us f = none_keeps t c w

  there_keeps : (t : Side) (c : ℕ) (w : World P M) (d : ℕ) (o : Option (Link M)) (f : Link M → After P M)
      (g : Link M → List (WorldTurn M)) → slice_get w.links d ≡ o →
      ((l : Link M) → slice_get w.links d ≡ Some l → Keeps m is_app stands carries lost w t c (f l) (g l)) →
      Keeps m is_app stands carries lost w t c (at_link o f) (turns_on o g)
  there_keeps t c w d None f g e h = none_there t c w
  there_keeps t c w d (Some l) f g e h = h l e

  calm_hands : (s : Side) (w : World P M) (e : Event M) → ((c : ℕ) → concern_by e (conn c) ≡ Elsewhere) →
      Hands s (m.node_of (peer_on s w)) (m.node_of (peer_on (flip s) w)) e w.links
  calm_hands s w e calm =
      record {
        handed = λ d l at. subst
            (λ k. is_handed (opens s l.opener) k (standing_at m s w d l) ≡ true) (sym (calm d)) refl;
      }

  pub happening_keeps : IsMachine m → (t : Side) (c : ℕ) (w : World P M) (h : Happening M) → IsCarrying m stands w →
      (names_loss c h ≡ true → lost ≡ true) → Keeps m is_app stands carries lost w t c (happens m w h) (turns m w h)
  happening_keeps is t c w (Starts s) good loss = start_keeps m is_app stands carries lost t s c w
      (m.reply (peer_on s w) (start_event m is_app stands carries lost w)) good refl
  happening_keeps is t c w (Stops s cause) good loss =
      told_keeps m is_app stands carries lost t s w c (StopEvent cause) (λ q. elim q [ ]) good
      (calm_hands s w (StopEvent cause) (λ d. refl)) tt
  happening_keeps is t c w (TimesOut s) good loss =
      told_keeps m is_app stands carries lost t s w c TimeoutEvent (λ q. elim q [ ]) good
      (calm_hands s w TimeoutEvent (λ d. refl)) tt
  happening_keeps is t c w (Ticks s) good loss =
      told_keeps m is_app stands carries lost t s w c TickEvent (λ q. elim q [ ]) good (calm_hands s w TickEvent (λ d. refl)) tt
  happening_keeps is t c w (Submits s x) good loss =
      told_keeps m is_app stands carries lost t s w c (SubmitEvent x) (λ q. elim q [ ]) good
      (calm_hands s w (SubmitEvent x) (λ d. refl)) tt
  happening_keeps is t c w (Restarts s) good loss = restart_keeps m is_app stands carries lost is t s c w
  happening_keeps is t c w (Acks d) good loss =
      there_keeps t c w d (slice_get w.links d) _ _ refl (λ l at. pending_keeps t c w l.phase _ _ (λ p.
      told_keeps m is_app stands carries lost t l.opener w c (AckEvent (conn d)) (λ q. elim q [ ]) good
      (hands_at l.opener (m.node_of (peer_on l.opener w)) (m.node_of (peer_on (flip l.opener) w)) (AckEvent (conn d)) MakesLink
      w.links d l at (λ n. refl)
      (comings.handed_ack (opens l.opener l.opener) (standing_at m l.opener w d l) (opens_self l.opener) p)) tt))
  happening_keeps is t c w (Nacks d) good loss =
      there_keeps t c w d (slice_get w.links d) _ _ refl (λ l at. pending_keeps t c w l.phase _ _ (λ p.
      told_keeps m is_app stands carries lost t l.opener w c (NackEvent (conn d)) (λ q. elim q [ ]) good
      (hands_at l.opener (m.node_of (peer_on l.opener w)) (m.node_of (peer_on (flip l.opener) w)) (NackEvent (conn d))
      FailsLink
      w.links d l at (λ n. refl)
      (comings.handed_nack (opens l.opener l.opener) (standing_at m l.opener w d l) (opens_self l.opener) p)) tt))
  happening_keeps is t c w (Delivers d s) good loss =
      there_keeps t c w d (slice_get w.links d) _ _ refl (λ l at. up_keeps t c w l.phase _ _ (λ p.
      delivered_keeps t s c w d l (next_in (own_view s l).incoming.messages (own_view s l).incoming.mark) good at p
      refl))
  happening_keeps is t c w (Pieces d s k) good loss =
      there_keeps t c w d (slice_get w.links d) _ _ refl (λ l at. up_keeps t c w l.phase _ _ (λ p.
      if_keeps t c w (k == 0) Ignored _ [] _ (none_keeps t c w)
      (pieced_keeps t s c w d k (own_view s l).incoming.taken l
      (next_in (own_view s l).incoming.messages (own_view s l).incoming.mark) good at p refl)))
  happening_keeps is t c w (Loses d a b) good loss =
      loses_keep (slice_get w.links d) (λ l. are_shut l.opener_end l.other_end)
      (λ l. put_if B (Disconnect d A) (Some l) ++ put_if A (Disconnect d B) (Some l))
    where
      by_shut : (b0 : Bool) (ps : List (Put M)) → Keeps m is_app stands carries lost w t c (if b0 then Ignored else DoneWith
          (with_links (change_at d (lost_link m.size a b) w.links) w) ps) []
      by_shut true ps = none_keeps t c w
      by_shut false ps = loss_keeps m is_app stands carries lost t c w d a b loss

      by_phase : (p : LinkPhase) (b0 : Bool) (ps : List (Put M)) →
          Keeps m is_app stands carries lost w t c (if_up p (if b0 then Ignored else DoneWith
          (with_links (change_at d (lost_link m.size a b) w.links) w) ps) Ignored) []
      by_phase LinkUp b0 ps = by_shut b0 ps
      by_phase LinkPending b0 ps = none_keeps t c w
      by_phase LinkCancelled b0 ps = none_keeps t c w

      loses_keep : (o : Option (Link M)) (shuts : Link M → Bool) (puts : Link M → List (Put M)) →
          Keeps m is_app stands carries lost w t c (at_link o (λ l. if_up l.phase (if shuts l then Ignored else DoneWith
          (with_links (change_at d (lost_link m.size a b) w.links) w) (puts l)) Ignored)) []
      loses_keep None shuts puts = none_there t c w
      loses_keep (Some l) shuts puts = by_phase l.phase (shuts l) (puts l)
