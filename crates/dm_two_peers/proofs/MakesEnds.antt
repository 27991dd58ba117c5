-- No happening makes an end fresh but the Ack of its link.
use Rattle.std.proofs.Common.{◌≡◌, ℕ, ◌==◌, Bool, true, false, if◌then◌else◌}
use Rattle.std.proofs.Common.{Option, Some, None, List, [], length, slice_get, refl, sym, ap, subst, ◌∙◌}
use Rattle.std.proofs.Common.{◌⊎◌, inl, inr, arith}
use Rattle.std.proofs.lemmas.Option.{slice_get-map}
use Rattle.std.proofs.lemmas.Bool.Decides.{nat_tests}
use Rattle.dm_two_peers.specs.Machine.{conn, Elsewhere, MakesLink, FailsLink}
use Rattle.dm_two_peers.specs.Links.{Side, A, B, flip, opens, LinkPhase, LinkPending, LinkUp, LinkCancelled, End}
use Rattle.dm_two_peers.specs.Links.{Direction, Link, by_side}
use Rattle.dm_two_peers.specs.Peers.{StartEvent, StopEvent, TimeoutEvent, TickEvent, AckEvent, NackEvent, SubmitEvent}
use Rattle.dm_two_peers.specs.Peers.{Peers}
use Rattle.dm_two_peers.specs.Worlds.{World, peer_on}
use Rattle.dm_two_peers.specs.Worlds.{Ignored, tell}
use Rattle.dm_two_peers.specs.Happens.{Happening, Starts, Stops, TimesOut, Ticks, Restarts, Acks, Nacks, Delivers, Pieces}
use Rattle.dm_two_peers.specs.Happens.{Loses, Submits, next_in}
use Rattle.dm_two_peers.specs.Happens.{lost_link, are_shut, restarted, restart_links}
use Rattle.dm_two_peers.specs.Happens.{if_pending, at_link, own_view, happens, world_after}
use Rattle.dm_two_peers.specs.Making.{has_fresh_end, is_fresh_on, MakesEnd}
use Rattle.dm_two_peers.proofs.FreshViews.{fresh_of, fresh_in, is_ack, fresh_by, fresh_seen}
use Rattle.dm_two_peers.proofs.Makes.{answer_makes, told_makes, named_calm, started_makes, mapped_none, changed_makes}
use Rattle.dm_two_peers.proofs.Makes.{if_makes, up_makes, pending_makes, there_makes, delivered_makes, pieced_makes}

-- a restart
viewed_makes : {M : Type 0} (b mine : Bool) (p : LinkPhase) (own other : End) (i o : Direction M) →
    fresh_in b
    (restarted mine (record { phase = p; own = own; other = other; incoming = i; outgoing = o })) ≡ true →
    fresh_of b p own other ≡ true
viewed_makes b true LinkPending own other i o h = h
viewed_makes b false LinkPending own other i o h = h
viewed_makes b mine LinkCancelled own other i o h = h
viewed_makes true mine LinkUp own other i o h = cc
viewed_makes false mine LinkUp own other i o h = h

restarted_makes : {M : Type 0} (s t : Side) (l : Link M) →
    has_fresh_end s (by_side t (restarted (opens t l.opener)) l) ≡ true → has_fresh_end s l ≡ true
restarted_makes s t l h =
    let v = own_view t l in
    fresh_seen s t l
    ∙ viewed_makes (opens s t) (opens t l.opener) v.phase v.own v.other v.incoming v.outgoing
    (sym (fresh_by s t (restarted (opens t l.opener)) l) ∙ h)

restarts_make : {M : Type 0} (s t : Side) (d : ℕ) (links : List (Link M)) →
    is_fresh_on s (slice_get (restart_links t links) d) ≡ true → is_fresh_on s (slice_get links d) ≡ true
restarts_make s t d links h =
    let f : Link _ → Link _ = λ l. by_side t (restarted (opens t l.opener)) l in
    mapped_none s f (slice_get links d) (restarted_makes s t)
    (ap (λ o. is_fresh_on s o) (sym (slice_get-map f links d)) ∙ h)

-- an Ack
acked_same : (c d : ℕ) (b : Bool) → (c == d) ≡ b → is_ack (if b then MakesLink else Elsewhere) ≡ true → c ≡ d
acked_same c d true e h = grind (arith, nat_tests)
acked_same c d false e h = cc

other_side : (s t : Side) → opens s t ≡ false → t ≡ flip s
other_side A A h = cc
other_side A B h = refl
other_side B A h = refl
other_side B B h = cc

ack_makes : {P M : Type 0} (m : Peers P M) (s : Side) (w : World P M) (c d : ℕ) (l : Link M) (p : LinkPhase) →
    slice_get w.links c ≡ Some l →
    is_fresh_on s
    (slice_get (world_after w (if_pending p (tell m l.opener (AckEvent (conn c)) w) Ignored)).links d) ≡ true →
    (is_fresh_on s (slice_get w.links d) ≡ true) ⊎ MakesEnd w (Acks c) s d
ack_makes m s w c d l LinkUp at h = inl h
ack_makes m s w c d l LinkCancelled at h = inl h
ack_makes {P} {M} m s w c d l LinkPending at h =
    elim (answer_makes m s l.opener (AckEvent (conn c)) w (m.reply (peer_on l.opener w) (AckEvent (conn c))) d
    (λ i. elim i [ ]) h) [
      | inl was ↦ inl was
      | inr made ↦
          let same = acked_same c d (c == d) refl made.0 in
          inr (record {
            link = l;
            there = subst (λ n. slice_get w.links n ≡ Some l) same at;
            opened = other_side s l.opener made.1;
            acks = ap (λ n. Acks n) same;
          })
    ]

acks_make : {P M : Type 0} (m : Peers P M) (s : Side) (w : World P M) (c d : ℕ) (o : Option (Link M)) →
    slice_get w.links c ≡ o →
    is_fresh_on s (slice_get (world_after w
    (at_link o (λ l. if_pending l.phase (tell m l.opener (AckEvent (conn c)) w) Ignored))).links d) ≡ true →
    (is_fresh_on s (slice_get w.links d) ≡ true) ⊎ MakesEnd w (Acks c) s d
acks_make m s w c d None at h = inl h
acks_make m s w c d (Some l) at h = ack_makes m s w c d l l.phase at h

-- all happenings
pub makes_ends : {P M : Type 0} (m : Peers P M) (w : World P M) (h : Happening M) (s : Side) (d : ℕ) →
    is_fresh_on s (slice_get (world_after w (happens m w h)).links d) ≡ true →
    (is_fresh_on s (slice_get w.links d) ≡ true) ⊎ MakesEnd w h s d
makes_ends m w (Starts t) s d f = inl (started_makes m s t w (m.reply (peer_on t w) (StartEvent (conn
    (length w.links)))) d f)
makes_ends m w (Stops t cause) s d f = inl (told_makes m s t (StopEvent cause) w d (λ i. elim i [ ]) refl f)
makes_ends m w (TimesOut t) s d f = inl (told_makes m s t TimeoutEvent w d (λ i. elim i [ ]) refl f)
makes_ends m w (Ticks t) s d f = inl (told_makes m s t TickEvent w d (λ i. elim i [ ]) refl f)
makes_ends m w (Submits t x) s d f = inl (told_makes m s t (SubmitEvent x) w d (λ i. elim i [ ]) refl f)
makes_ends m w (Restarts A) s d f = inl (restarts_make s A d w.links f)
makes_ends m w (Restarts B) s d f = inl (restarts_make s B d w.links f)
makes_ends m w (Acks c) s d f = acks_make m s w c d (slice_get w.links c) refl f
makes_ends m w (Nacks c) s d f =
    inl (there_makes w s d (slice_get w.links c) _ (λ l. pending_makes w s d l.phase _
    (told_makes m s l.opener (NackEvent (conn c)) w d (λ i. elim i [ ]) (named_calm (c == d) FailsLink refl))) f)
makes_ends m w (Delivers c t) s d f =
    inl (there_makes w s d (slice_get w.links c) _ (λ l. up_makes w s d l.phase _
    (delivered_makes m s t w d c (own_view t l).own
    (next_in (own_view t l).incoming.messages (own_view t l).incoming.mark))) f)
makes_ends m w (Pieces c t k) s d f =
    inl (there_makes w s d (slice_get w.links c) _ (λ l. up_makes w s d l.phase _
    (if_makes w s d (k == 0) Ignored _ (λ h. h)
    (pieced_makes m s t w d c k (own_view t l).incoming.taken (own_view t l).own
    (next_in (own_view t l).incoming.messages (own_view t l).incoming.mark)))) f)
makes_ends m w (Loses c a b) s d f =
    inl (there_makes w s d (slice_get w.links c) _ (λ l. up_makes w s d l.phase _
    (if_makes w s d (are_shut l.opener_end l.other_end) Ignored _ (λ h. h)
    (changed_makes w s d c (lost_link m.size a b) [] (λ l h. h)))) f)
