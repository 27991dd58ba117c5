-- What comes to an end keeps a world sound.
use Rattle.std.proofs.Common.{◌≡◌, ℕ, ◌+◌, Bool, true, false, not, ◌&&◌, nat_lt, if◌then◌else◌, Option, Some}
use Rattle.std.proofs.Common.{None, List, [], ◌∷◌, slice_get, refl, ap, subst}
use Rattle.dm_two_peers.specs.Machine.{conn, LinkConcern, MakesLink, FailsLink, EndsLink, HeardOnLink}
use Rattle.dm_two_peers.specs.Machine.{Tie, tie_of}
use Rattle.dm_two_peers.specs.Links.{Side, A, B, flip, opens, LinkPhase, LinkPending, LinkUp, LinkCancelled, End, Fresh, Open, Shut}
use Rattle.dm_two_peers.specs.Links.{Mark, NoMark, Coming, Delivered, Link, View, view_of, by_side}
use Rattle.dm_two_peers.specs.Peers.{GoneEvent, ArrivedEvent, Peers}
use Rattle.dm_two_peers.specs.Steps.{entered}
use Rattle.dm_two_peers.specs.Worlds.{World, peer_on, with_links, change_at, After, DoneWith, Ignored}
use Rattle.dm_two_peers.specs.Happens.{Next, NextMessage, NextDisconnect, NextNothing, next_in, comes, deliver_next}
use Rattle.dm_two_peers.specs.Happens.{take_part, deliver_part, if_up, if_pending, at_link, own_view, world_after}
use Rattle.dm_two_peers.specs.Follows.{IsMachine}
use Rattle.dm_two_peers.specs.Facts.{Standing, turned_over, is_empty, is_sound_standing, is_up, is_shut, is_coming}
use Rattle.dm_two_peers.specs.Facts.{standing_of, IsSoundView, IsSoundWorld}
use Rattle.dm_two_peers.proofs.Columns.{messages_at}
use Rattle.dm_two_peers.proofs.Every.{at_bool}
use Rattle.dm_two_peers.proofs.StandingSteps.{is_when, is_handed}
use Rattle.dm_two_peers.proofs.StandingOthers.{standing_entered}
use Rattle.dm_two_peers.proofs.Checks.{spent_of}
use Rattle.dm_two_peers.proofs.Ties.{MachineLaws}
use Rattle.dm_two_peers.proofs.Events.{side_sound, same_link, one_sound, side_changed}

-- what comes to a shut end
handed_shut : (k : LinkConcern) (s : Standing) → s.phase ≡ LinkUp → s.own ≡ Shut → (is_up s.phase && is_shut s.own) ≡ true
handed_shut k s p q = rw (p, q) refl

shut_heard : {M : Type 0} (mine : Bool) (t u : Tie) (v : View M) (x : M) (xs : List M) → v.phase ≡ LinkUp →
    v.own ≡ Shut → v.incoming.messages ≡ x ∷ xs → IsSoundView mine t u v →
    IsSoundView mine t u (entered HeardOnLink v)
shut_heard mine t u v x xs p q ms good =
    let s = standing_of t u v in
    let here = is_when (is_up s.phase && is_shut s.own) _ (spent_of mine HeardOnLink s good)
    (handed_shut HeardOnLink s p q) in
    let waits : not s.in_empty ≡ true = ap (λ ys. not (is_empty ys)) ms in
    at_bool (λ ie. is_sound_standing (turned_over mine (standing_entered HeardOnLink ie s)))
    (is_when (not s.in_empty) _ here waits) (is_empty (messages_at HeardOnLink v.incoming.messages))

empty_coming : (s : Standing) → s.in_empty ≡ true → s.in_mark ≡ Coming → (s.in_empty && is_coming s.in_mark) ≡ true
empty_coming s p q = rw (p, q) refl

shut_ended : {M : Type 0} (mine : Bool) (t u : Tie) (v : View M) → v.phase ≡ LinkUp → v.own ≡ Shut →
    v.incoming.messages ≡ [] → v.incoming.mark ≡ Coming → IsSoundView mine t u v →
    IsSoundView mine t u (entered EndsLink v)
shut_ended mine t u v p q ms mk good =
    let s = standing_of t u v in
    let here = is_when (is_up s.phase && is_shut s.own) _ (spent_of mine EndsLink s good)
    (handed_shut EndsLink s p q) in
    is_when (s.in_empty && is_coming s.in_mark) _ here (empty_coming s (ap (λ ys. is_empty ys) ms) mk)

-- a message or a disconnect comes to an end
pub handed_heard : (mine : Bool) (s : Standing) (e : End) → is_shut e ≡ false → s.phase ≡ LinkUp → s.own ≡ e →
    s.in_empty ≡ false → is_handed mine HeardOnLink s ≡ true
handed_heard mine s Open n p q i = rw (p, q, i) refl
handed_heard mine s Fresh n p q i = rw (p, q, i) refl
handed_heard mine s Shut n p q i = cc

pub handed_ended : (mine : Bool) (s : Standing) (e : End) → is_shut e ≡ false → s.phase ≡ LinkUp → s.own ≡ e →
    s.in_empty ≡ true → s.in_mark ≡ Coming → is_handed mine EndsLink s ≡ true
handed_ended mine s Open n p q i mk = rw (p, q, i, mk) refl
handed_ended mine s Fresh n p q i mk = rw (p, q, i, mk) refl
handed_ended mine s Shut n p q i mk = cc

-- the link that is meant
pub record Meant {P M : Type 0} (m : Peers P M) (s : Side) (w : World P M) (c : ℕ) (l : Link M)
    (end : End) : Type 0 where
  pub there : slice_get w.links c ≡ Some l
  pub up : l.phase ≡ LinkUp
  pub ends : (own_view s l).own ≡ end

-- a link's standing at a side
abbrev pub standing_at : {P M : Type 0} → Peers P M → Side → World P M → ℕ → Link M → Standing
standing_at m s w c l = standing_of (tie_of (m.node_of (peer_on s w)) c) (tie_of (m.node_of (peer_on (flip s) w)) c)
    (own_view s l)

heard_sound : {P M : Type 0} (m : Peers P M) → MachineLaws → IsMachine m →
    (s : Side) (w : World P M) (c : ℕ) (l : Link M) (end : End) (x : M) (xs : List M) → IsSoundWorld m w →
    Meant m s w c l end → (own_view s l).incoming.messages ≡ x ∷ xs →
    IsSoundWorld m (world_after w (comes m s (ArrivedEvent (conn c) x) end w))
heard_sound m laws is s w c l Shut x xs good meant ms =
    side_changed m s w c (entered HeardOnLink) good (λ k at.
    let same = same_link w.links c l k meant.there at in
    subst (λ y. IsSoundView (opens s y.opener) (tie_of (m.node_of (peer_on s w)) c)
    (tie_of (m.node_of (peer_on (flip s) w)) c) (entered HeardOnLink (view_of (opens s y.opener) y))) same
    (shut_heard (opens s l.opener) (tie_of (m.node_of (peer_on s w)) c) (tie_of (m.node_of (peer_on (flip s) w)) c)
    (own_view s l) x xs meant.up meant.ends ms ((side_sound m s w good).each c l meant.there)))
heard_sound m laws is s w c l Open x xs good meant ms =
    one_sound m laws is s (ArrivedEvent (conn c) x) HeardOnLink w c l good meant.there (λ d. refl) (λ h. elim h [ ])
    (handed_heard (opens s l.opener) (standing_at m s w c l) Open refl meant.up meant.ends
    (ap (λ ys. is_empty ys) ms))
heard_sound m laws is s w c l Fresh x xs good meant ms =
    one_sound m laws is s (ArrivedEvent (conn c) x) HeardOnLink w c l good meant.there (λ d. refl) (λ h. elim h [ ])
    (handed_heard (opens s l.opener) (standing_at m s w c l) Fresh refl meant.up meant.ends
    (ap (λ ys. is_empty ys) ms))

ended_sound : {P M : Type 0} (m : Peers P M) → MachineLaws → IsMachine m →
    (s : Side) (w : World P M) (c : ℕ) (l : Link M) (end : End) → IsSoundWorld m w → Meant m s w c l end →
    (own_view s l).incoming.messages ≡ [] → (own_view s l).incoming.mark ≡ Coming →
    IsSoundWorld m (world_after w (comes m s (GoneEvent (conn c)) end w))
ended_sound m laws is s w c l Shut good meant ms mk =
    side_changed m s w c (entered EndsLink) good (λ k at.
    let same = same_link w.links c l k meant.there at in
    subst (λ y. IsSoundView (opens s y.opener) (tie_of (m.node_of (peer_on s w)) c)
    (tie_of (m.node_of (peer_on (flip s) w)) c) (entered EndsLink (view_of (opens s y.opener) y))) same
    (shut_ended (opens s l.opener) (tie_of (m.node_of (peer_on s w)) c) (tie_of (m.node_of (peer_on (flip s) w)) c)
    (own_view s l) meant.up meant.ends ms mk ((side_sound m s w good).each c l meant.there)))
ended_sound m laws is s w c l Open good meant ms mk =
    one_sound m laws is s (GoneEvent (conn c)) EndsLink w c l good meant.there (λ d. refl) (λ h. elim h [ ])
    (handed_ended (opens s l.opener) (standing_at m s w c l) Open refl meant.up meant.ends
    (ap (λ ys. is_empty ys) ms) mk)
ended_sound m laws is s w c l Fresh good meant ms mk =
    one_sound m laws is s (GoneEvent (conn c)) EndsLink w c l good meant.there (λ d. refl) (λ h. elim h [ ])
    (handed_ended (opens s l.opener) (standing_at m s w c l) Fresh refl meant.up meant.ends
    (ap (λ ys. is_empty ys) ms) mk)

pub next_is_message : {M : Type 0} (ms : List M) (mark : Mark) (x : M) → next_in ms mark ≡ NextMessage x →
    (xs : List M) × (ms ≡ x ∷ xs)
next_is_message (y ∷ ys) mark x h = (ys, cc)
next_is_message [] NoMark x h = cc
next_is_message [] Coming x h = cc
next_is_message [] Delivered x h = cc

pub next_is_disconnect : {M : Type 0} (ms : List M) (mark : Mark) → next_in ms mark ≡ NextDisconnect →
    (ms ≡ []) × (mark ≡ Coming)
next_is_disconnect (y ∷ ys) mark h = cc
next_is_disconnect [] NoMark h = cc
next_is_disconnect [] Coming h = (refl, refl)
next_is_disconnect [] Delivered h = cc

pub delivered_sound : {P M : Type 0} (m : Peers P M) → MachineLaws → IsMachine m →
    (s : Side) (w : World P M) (c : ℕ) (l : Link M) (next : Next M) → IsSoundWorld m w →
    Meant m s w c l (own_view s l).own →
    next_in (own_view s l).incoming.messages (own_view s l).incoming.mark ≡ next →
    IsSoundWorld m (world_after w (deliver_next m c s (own_view s l).own next w))
delivered_sound m laws is s w c l NextNothing good meant n = good
delivered_sound m laws is s w c l (NextMessage x) good meant n =
    let ms = next_is_message (own_view s l).incoming.messages (own_view s l).incoming.mark x n in
    heard_sound m laws is s w c l (own_view s l).own x ms.0 good meant ms.1
delivered_sound m laws is s w c l NextDisconnect good meant n =
    let ms = next_is_disconnect (own_view s l).incoming.messages (own_view s l).incoming.mark n in
    ended_sound m laws is s w c l (own_view s l).own good meant ms.0 ms.1

pub if_sound : {P M : Type 0} (m : Peers P M) (w : World P M) (b : Bool) (x y : After P M) →
    IsSoundWorld m (world_after w x) → IsSoundWorld m (world_after w y) →
    IsSoundWorld m (world_after w (if b then x else y))
if_sound m w true x y g h = g
if_sound m w false x y g h = h

taken_sound : {P M : Type 0} (m : Peers P M) (s : Side) (w : World P M) (c k : ℕ) → IsSoundWorld m w →
    IsSoundWorld m (with_links (change_at c (by_side s (take_part k)) w.links) w)
taken_sound m s w c k good = side_changed m s w c (take_part k) good (λ l at. (side_sound m s w good).each c l at)

pub pieced_sound : {P M : Type 0} (m : Peers P M) → MachineLaws → IsMachine m →
    (s : Side) (w : World P M) (c k taken : ℕ) (l : Link M) (next : Next M) → IsSoundWorld m w →
    Meant m s w c l (own_view s l).own →
    next_in (own_view s l).incoming.messages (own_view s l).incoming.mark ≡ next →
    IsSoundWorld m (world_after w (deliver_part m c s k (own_view s l).own taken next w))
pieced_sound m laws is s w c k taken l NextNothing good meant n = good
pieced_sound m laws is s w c k taken l NextDisconnect good meant n = good
pieced_sound m laws is s w c k taken l (NextMessage x) good meant n =
    let ms = next_is_message (own_view s l).incoming.messages (own_view s l).incoming.mark x n in
    if_sound m w (nat_lt (taken + k) (m.size x))
    (DoneWith (with_links (change_at c (by_side s (take_part k)) w.links) w) [])
    (comes m s (ArrivedEvent (conn c) x) (own_view s l).own w)
    (taken_sound m s w c k good) (heard_sound m laws is s w c l (own_view s l).own x ms.0 good meant ms.1)

-- only where the link is up, or pending
pub up_sound : {P M : Type 0} (m : Peers P M) (w : World P M) (p : LinkPhase) (x : After P M) →
    (p ≡ LinkUp → IsSoundWorld m (world_after w x)) → IsSoundWorld m w → IsSoundWorld m (world_after w (if_up p x Ignored))
up_sound m w LinkUp x h good = h refl
up_sound m w LinkPending x h good = good
up_sound m w LinkCancelled x h good = good

pub pending_sound : {P M : Type 0} (m : Peers P M) (w : World P M) (p : LinkPhase) (x : After P M) →
    (p ≡ LinkPending → IsSoundWorld m (world_after w x)) → IsSoundWorld m w →
    IsSoundWorld m (world_after w (if_pending p x Ignored))
pending_sound m w LinkPending x h good = h refl
pending_sound m w LinkUp x h good = good
pending_sound m w LinkCancelled x h good = good

pub there_sound : {P M : Type 0} (m : Peers P M) (w : World P M) (o : Option (Link M)) (f : Link M → After P M) →
    ((l : Link M) → o ≡ Some l → IsSoundWorld m (world_after w (f l))) → IsSoundWorld m w →
    IsSoundWorld m (world_after w (at_link o f))
there_sound m w None f h good = good
there_sound m w (Some l) f h good = h l refl

pub opens_self : (s : Side) → opens s s ≡ true
opens_self A = refl
opens_self B = refl

pub handed_ack : (mine : Bool) (s : Standing) → mine ≡ true → s.phase ≡ LinkPending → is_handed mine MakesLink s ≡ true
handed_ack mine s h p = rw (h, p) refl

pub handed_nack : (mine : Bool) (s : Standing) → mine ≡ true → s.phase ≡ LinkPending → is_handed mine FailsLink s ≡ true
handed_nack mine s h p = rw (h, p) refl
