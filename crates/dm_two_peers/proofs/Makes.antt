-- What is told, and what comes, makes no end fresh but at an Ack.
use Rattle.std.proofs.Common.{◌≡◌, ℕ, zero, suc, ◌+◌, ◌==◌, Bool, true, false, if◌then◌else◌, nat_lt}
use Rattle.std.proofs.Common.{Option, Some, None, List, [], ◌∷◌, ◌++◌, length, slice_get, refl, sym, ap, ◌∙◌}
use Rattle.std.proofs.Common.{inl, inr}
use Rattle.std.specs.Prelude.{option_map}
use Rattle.dm_two_peers.specs.Machine.{conn, Node, LinkConcern, Elsewhere, EndsLink, HeardOnLink, tie_of, is_tie_held}
use Rattle.dm_two_peers.specs.Links.{Side, A, B, opens, LinkPhase, LinkPending, LinkUp, LinkCancelled, End, Shut, Fresh, Open}
use Rattle.dm_two_peers.specs.Links.{Link, by_side, new_link}
use Rattle.dm_two_peers.specs.Peers.{Event, StartEvent, GoneEvent, ArrivedEvent, Action, Reply}
use Rattle.dm_two_peers.specs.Peers.{ActsBy, Declines, Peers, concern_by}
use Rattle.dm_two_peers.specs.Steps.{entered}
use Rattle.dm_two_peers.specs.Worlds.{World, peer_on, with_links, Put, change_at, enter, perform, settle, After, DoneWith}
use Rattle.dm_two_peers.specs.Worlds.{Ignored, after_reply, tell, after_drop}
use Rattle.dm_two_peers.specs.Happens.{Next, NextMessage, NextDisconnect, NextNothing, comes}
use Rattle.dm_two_peers.specs.Happens.{deliver_next, take_part, deliver_part}
use Rattle.dm_two_peers.specs.Happens.{if_up, if_pending, at_link, own_view, world_after}
use Rattle.dm_two_peers.specs.Making.{has_fresh_end, is_fresh_on}
use Rattle.dm_two_peers.proofs.Columns.{acted}
use Rattle.dm_two_peers.proofs.Columns.{stepped}
use Rattle.dm_two_peers.proofs.Stepped.{IsStart, performed_at, entered_at, stepped_at}
use Rattle.dm_two_peers.proofs.Lists.{change_at-tested}
use Rattle.dm_two_peers.proofs.FreshViews.{is_ack, step_makes, entry_makes, fresh_by, fresh_seen, WasOrMade, link_makes}
use Rattle.dm_two_peers.proofs.FreshViews.{mapped_makes}

-- what a side is told
links_make : {M : Type 0} (s t : Side) (e : Event M) (actions : List (Action M)) (n : Node) (d : ℕ)
    (links : List (Link M)) → (IsStart e → ⊥) →
    is_fresh_on s (slice_get (settle t e n (perform t actions (enter t e links))) d) ≡ true →
    WasOrMade (is_fresh_on s (slice_get links d)) (is_ack (concern_by e (conn d))) (opens s t)
links_make s t e actions n d links other h =
    let k = concern_by e (conn d) in
    let holds = is_tie_held (tie_of n d) in
    mapped_makes s (by_side t (stepped k holds d actions)) (slice_get links d)
    (λ l. link_makes s t k (stepped k holds d actions) l (step_makes (opens s t) k holds d actions (own_view t l)))
    (ap (λ o. is_fresh_on s o) (sym (stepped_at t e actions n d links other)) ∙ h)

pub answer_makes : {P M : Type 0} (m : Peers P M) (s t : Side) (e : Event M) (w : World P M) (r : Reply P M) (d : ℕ) →
    (IsStart e → ⊥) → is_fresh_on s (slice_get (world_after w (after_reply m t e w r)).links d) ≡ true →
    WasOrMade (is_fresh_on s (slice_get w.links d)) (is_ack (concern_by e (conn d))) (opens s t)
answer_makes m s t e w Declines d other h = inl h
answer_makes m s A e w (ActsBy actions p) d other h = links_make s A e actions (m.node_of p) d w.links other h
answer_makes m s B e w (ActsBy actions p) d other h = links_make s B e actions (m.node_of p) d w.links other h

-- nothing that happens makes an end fresh
abbrev MakesNone : {P M : Type 0} → World P M → Side → ℕ → After P M → Type 0
MakesNone w s d after =
    is_fresh_on s (slice_get (world_after w after).links d) ≡ true → is_fresh_on s (slice_get w.links d) ≡ true

unacked : (was acks mine : Bool) → acks ≡ false → WasOrMade was acks mine → was ≡ true
unacked was acks mine none (inl h) = h
unacked was acks mine none (inr p) = let e = p.0 in cc

pub told_makes : {P M : Type 0} (m : Peers P M) (s t : Side) (e : Event M) (w : World P M) (d : ℕ) → (IsStart e → ⊥) →
    is_ack (concern_by e (conn d)) ≡ false → MakesNone w s d (tell m t e w)
told_makes m s t e w d other calm h =
    unacked (is_fresh_on s (slice_get w.links d)) (is_ack (concern_by e (conn d))) (opens s t) calm
    (answer_makes m s t e w (m.reply (peer_on t w) e) d other h)

dropped_makes : {P M : Type 0} (s t : Side) (e : Event M) (w : World P M) (d : ℕ) → (IsStart e → ⊥) →
    is_ack (concern_by e (conn d)) ≡ false → MakesNone w s d (after_drop t e w)
dropped_makes s t e w d other calm h =
    let k = concern_by e (conn d) in
    unacked (is_fresh_on s (slice_get w.links d)) (is_ack k) (opens s t) calm
    (mapped_makes s (by_side t (entered k)) (slice_get w.links d)
    (λ l. link_makes s t k (entered k) l (entry_makes (opens s t) k (own_view t l)))
    (ap (λ o. is_fresh_on s o) (sym (entered_at t e d w.links other)) ∙ h))

comes_makes : {P M : Type 0} (m : Peers P M) (s t : Side) (e : Event M) (end : End) (w : World P M) (d : ℕ) →
    (IsStart e → ⊥) → is_ack (concern_by e (conn d)) ≡ false → MakesNone w s d (comes m t e end w)
comes_makes m s t e Shut w d other calm = dropped_makes s t e w d other calm
comes_makes m s t e Open w d other calm = told_makes m s t e w d other calm
comes_makes m s t e Fresh w d other calm = told_makes m s t e w d other calm

pub named_calm : (b : Bool) (k : LinkConcern) → is_ack k ≡ false → is_ack (if b then k else Elsewhere) ≡ false
named_calm true k h = h
named_calm false k h = refl

-- a Start
appended_makes : {M : Type 0} (s t : Side) (links : List (Link M)) (d : ℕ) →
    is_fresh_on s (slice_get (links ++ new_link t ∷ []) d) ≡ true → is_fresh_on s (slice_get links d) ≡ true
appended_makes s t [] zero h = h
appended_makes s t [] (suc d) h = h
appended_makes s t (l ∷ links) zero h = h
appended_makes s t (l ∷ links) (suc d) h = appended_makes s t links d h

performed_makes : {M : Type 0} (s t : Side) (actions : List (Action M)) (d : ℕ) (links : List (Link M)) →
    is_fresh_on s (slice_get (perform t actions links) d) ≡ true → is_fresh_on s (slice_get links d) ≡ true
performed_makes s t actions d links h =
    unacked (is_fresh_on s (slice_get links d)) false (opens s t) refl
    (mapped_makes s (by_side t (acted d actions)) (slice_get links d)
    (λ l. link_makes s t Elsewhere (acted d actions) l
    (step_makes (opens s t) Elsewhere false d actions (own_view t l)))
    (ap (λ o. is_fresh_on s o) (sym (performed_at t actions d links)) ∙ h))

pub started_makes : {P M : Type 0} (m : Peers P M) (s t : Side) (w : World P M) (r : Reply P M) (d : ℕ) →
    MakesNone w s d (after_reply m t (StartEvent (conn (length w.links))) w r)
started_makes m s t w Declines d h = h
started_makes m s A w (ActsBy actions p) d h =
    appended_makes s A w.links d (performed_makes s A actions d (w.links ++ new_link A ∷ []) h)
started_makes m s B w (ActsBy actions p) d h =
    appended_makes s B w.links d (performed_makes s B actions d (w.links ++ new_link B ∷ []) h)

-- one link is changed
kept_if : {M : Type 0} (s : Side) (b : Bool) (f : Link M → Link M) (l : Link M) →
    (has_fresh_end s (f l) ≡ true → has_fresh_end s l ≡ true) →
    has_fresh_end s (if b then f l else l) ≡ true → has_fresh_end s l ≡ true
kept_if s true f l g h = g h
kept_if s false f l g h = h

pub mapped_none : {M : Type 0} (s : Side) (f : Link M → Link M) (o : Option (Link M)) →
    ((l : Link M) → has_fresh_end s (f l) ≡ true → has_fresh_end s l ≡ true) →
    is_fresh_on s (option_map f o) ≡ true → is_fresh_on s o ≡ true
mapped_none s f None g h = h
mapped_none s f (Some l) g h = g l h

pub changed_makes : {P M : Type 0} (w : World P M) (s : Side) (d c : ℕ) (f : Link M → Link M) (put : List (Put M)) →
    ((l : Link M) → has_fresh_end s (f l) ≡ true → has_fresh_end s l ≡ true) →
    MakesNone w s d (DoneWith (with_links (change_at c f w.links) w) put)
changed_makes w s d c f put g h =
    mapped_none s (λ l. if c == d then f l else l) (slice_get w.links d) (λ l. kept_if s (c == d) f l (g l))
    (ap (λ o. is_fresh_on s o) (sym (change_at-tested c d (c == d) f w.links refl)) ∙ h)

taken_makes : {M : Type 0} (s t : Side) (k : ℕ) (l : Link M) →
    has_fresh_end s (by_side t (take_part k) l) ≡ true → has_fresh_end s l ≡ true
taken_makes s t k l h = fresh_seen s t l ∙ (sym (fresh_by s t (take_part k) l) ∙ h)

-- what is delivered
pub if_makes : {P M : Type 0} (w : World P M) (s : Side) (d : ℕ) (b : Bool) (x y : After P M) → MakesNone w s d x →
    MakesNone w s d y → MakesNone w s d (if b then x else y)
if_makes w s d true x y f g = f
if_makes w s d false x y f g = g

pub up_makes : {P M : Type 0} (w : World P M) (s : Side) (d : ℕ) (p : LinkPhase) (x : After P M) → MakesNone w s d x →
    MakesNone w s d (if_up p x Ignored)
up_makes w s d LinkUp x f = f
up_makes w s d LinkPending x f = λ h. h
up_makes w s d LinkCancelled x f = λ h. h

pub pending_makes : {P M : Type 0} (w : World P M) (s : Side) (d : ℕ) (p : LinkPhase) (x : After P M) →
    MakesNone w s d x → MakesNone w s d (if_pending p x Ignored)
pending_makes w s d LinkPending x f = f
pending_makes w s d LinkUp x f = λ h. h
pending_makes w s d LinkCancelled x f = λ h. h

pub there_makes : {P M : Type 0} (w : World P M) (s : Side) (d : ℕ) (o : Option (Link M)) (f : Link M → After P M) →
    ((l : Link M) → MakesNone w s d (f l)) → MakesNone w s d (at_link o f)
there_makes w s d None f g = λ h. h
there_makes w s d (Some l) f g = g l

pub delivered_makes : {P M : Type 0} (m : Peers P M) (s t : Side) (w : World P M) (d c : ℕ) (end : End) (next : Next M)
    →
    MakesNone w s d (deliver_next m c t end next w)
delivered_makes m s t w d c end NextNothing = λ h. h
delivered_makes m s t w d c end (NextMessage x) =
    comes_makes m s t (ArrivedEvent (conn c) x) end w d (λ i. elim i [ ]) (named_calm (c == d) HeardOnLink refl)
delivered_makes m s t w d c end NextDisconnect =
    comes_makes m s t (GoneEvent (conn c)) end w d (λ i. elim i [ ]) (named_calm (c == d) EndsLink refl)

pub pieced_makes : {P M : Type 0} (m : Peers P M) (s t : Side) (w : World P M) (d c k taken : ℕ) (end : End)
    (next : Next M) → MakesNone w s d (deliver_part m c t k end taken next w)
pieced_makes m s t w d c k taken end NextNothing = λ h. h
pieced_makes m s t w d c k taken end NextDisconnect = λ h. h
pieced_makes m s t w d c k taken end (NextMessage x) =
    if_makes w s d (nat_lt (taken + k) (m.size x)) _ _
    (changed_makes w s d c (by_side t (take_part k)) [] (taken_makes s t k))
    (comes_makes m s t (ArrivedEvent (conn c) x) end w d (λ i. elim i [ ]) (named_calm (c == d) HeardOnLink refl))
