-- Losses, restarts, and all happenings together.
use Rattle.std.proofs.Common.{◌≡◌, ℕ, suc, ◌+◌, ◌-◌, ◌≤◌, ◌==◌, Bool, true, false, nat_le, if◌then◌else◌, Some, List}
use Rattle.std.proofs.Common.{[], ◌∷◌, length, slice_get, refl, sym, ap, subst, ◌∙◌, arith, ◌⊎◌, inl, inr}
use Rattle.std.proofs.lemmas.Option.{slice_get-map}
use Rattle.dm_two_peers.specs.Machine.{conn, Elsewhere, MakesLink, FailsLink, Tie, Unheld, tie_of, closed_node}
use Rattle.dm_two_peers.specs.Links.{Side, A, flip, opens, LinkPhase, LinkPending, LinkUp, LinkCancelled, End, Mark, NoMark, Coming}
use Rattle.dm_two_peers.specs.Links.{Delivered, Direction, Link, View, view_of, by_side}
use Rattle.dm_two_peers.specs.Peers.{StartEvent, StopEvent, TimeoutEvent, TickEvent, AckEvent, NackEvent, SubmitEvent, Peers}
use Rattle.dm_two_peers.specs.Worlds.{World, peer_on, with_peer, with_links, change_at, Ignored}
use Rattle.dm_two_peers.specs.Happens.{Happening, Starts, Stops, TimesOut, Ticks, Restarts, Acks, Nacks, Delivers, Pieces}
use Rattle.dm_two_peers.specs.Happens.{Loses, Submits, next_in, whole_in, lost_messages, kept_at, lost_link, are_shut}
use Rattle.dm_two_peers.specs.Happens.{restarted, restart_links, own_view, happens, world_after}
use Rattle.dm_two_peers.specs.Follows.{IsMachine}
use Rattle.dm_two_peers.specs.Facts.{turned_over, is_empty, is_sound_standing, is_up, standing_of, IsSoundView, IsSoundLink}
use Rattle.dm_two_peers.specs.Facts.{AreSound, IsSoundWorld}
use Rattle.dm_two_peers.proofs.Columns.{summed}
use Rattle.dm_two_peers.proofs.StandingSteps.{standing_after}
use Rattle.dm_two_peers.proofs.StandingOthers.{closes_own}
use Rattle.dm_two_peers.proofs.Checks.{restart_of, lost_of}
use Rattle.dm_two_peers.proofs.Ties.{MachineLaws}
use Rattle.dm_two_peers.proofs.Views.{nothing_summed, shut_is_summed}
use Rattle.dm_two_peers.proofs.Lists.{view_link, mapped_some}
use Rattle.dm_two_peers.proofs.Keeps.{put_in}
use Rattle.dm_two_peers.proofs.Events.{side_sound, sound_back, started_sound, calm_sound, one_sound, change_sound}
use Rattle.dm_two_peers.proofs.Comings.{delivered_sound, pieced_sound, if_sound, up_sound, pending_sound}
use Rattle.dm_two_peers.proofs.Events.{same_link}
use Rattle.dm_two_peers.proofs.Comings.{there_sound, opens_self, handed_ack, handed_nack, standing_at}

-- a loss
whole_empty : {M : Type 0} (b : Bool) (x : M) (kept rest : List M) →
    (is_empty (if b then x ∷ kept else []) ≡ true) ⊎ (is_empty (if b then x ∷ kept else []) ≡ is_empty (x ∷ rest))
whole_empty true x kept rest = inr refl
whole_empty false x kept rest = inl refl

kept_empty : {M : Type 0} (size : M → ℕ) (k : ℕ) (old : List M) →
    (is_empty (whole_in size k old) ≡ true) ⊎ (is_empty (whole_in size k old) ≡ is_empty old)
kept_empty size k [] = inl refl
kept_empty size k (x ∷ xs) = whole_empty (nat_le (size x) k) x (whole_in size (k - size x) xs) xs

lost_empty : {M : Type 0} (size : M → ℕ) (k : ℕ) (mark : Mark) (old : List M) →
    (is_empty (lost_messages mark (whole_in size k old) old) ≡ true) ⊎
    (is_empty (lost_messages mark (whole_in size k old) old) ≡ is_empty old)
lost_empty size k NoMark old = kept_empty size k old
lost_empty size k Coming old = kept_empty size k old
lost_empty size k Delivered old = inr refl

up_is : (p : LinkPhase) → p ≡ LinkUp → is_up p ≡ true
up_is p h = rw h refl

lost_view : {M : Type 0} (size : M → ℕ) (a b : ℕ) (mine : Bool) (t u : Tie) (l : Link M) → l.phase ≡ LinkUp →
    IsSoundView mine t u (view_of mine l) → IsSoundView mine t u (view_of mine (lost_link size a b l))
lost_view size a b true t u l p good =
    lost_of (standing_of t u (view_of true l)) _ _ good (up_is l.phase p)
    (lost_empty size (kept_at l.opener a b + l.to_opener.taken) l.to_opener.mark l.to_opener.messages)
    (lost_empty size (kept_at (flip l.opener) a b + l.to_other.taken) l.to_other.mark l.to_other.messages)
lost_view size a b false t u l p good =
    lost_of (turned_over false (standing_of t u (view_of false l))) _ _ good (up_is l.phase p)
    (lost_empty size (kept_at l.opener a b + l.to_opener.taken) l.to_opener.mark l.to_opener.messages)
    (lost_empty size (kept_at (flip l.opener) a b + l.to_other.taken) l.to_other.mark l.to_other.messages)

lost_sound : {P M : Type 0} (m : Peers P M) (w : World P M) (c a b : ℕ) (l : Link M) → IsSoundWorld m w →
    slice_get w.links c ≡ Some l → l.phase ≡ LinkUp →
    IsSoundWorld m (with_links (change_at c (lost_link m.size a b) w.links) w)
lost_sound {P} {M} m w c a b l good at p =
    change_sound m w c (lost_link m.size a b) good (λ k there.
    let same = same_link w.links c l k at there in
    let S : Link M → Type 0 = λ y. IsSoundLink A (m.node_of w.a) (m.node_of w.b) c (lost_link m.size a b y) in
    subst S same (lost_view m.size a b (opens A l.opener) (tie_of (m.node_of w.a) c) (tie_of (m.node_of w.b) c) l p
    (good.each c l at)))

-- a restart
summed_sound : {M : Type 0} (mine closed : Bool) (t u : Tie) (v : View M) →
    is_sound_standing (turned_over mine
    (standing_after Elsewhere Unheld closed (is_empty v.incoming.messages) (is_empty v.outgoing.messages)
    (standing_of t u v))) ≡ true → IsSoundView mine Unheld u (summed closed [] v)
summed_sound mine closed t u v h =
    put_in false closed v.phase v.outgoing.mark
    (λ oe. is_sound_standing (turned_over mine
    (standing_after Elsewhere Unheld closed (is_empty v.incoming.messages) oe (standing_of t u v))))
    [] v.outgoing.messages h (λ e. refl) (λ a b. cc)

pub restarted_at : {M : Type 0} (mine : Bool) (p : LinkPhase) (own other : End) (i o : Direction M) →
    restarted mine (record { phase = p; own = own; other = other; incoming = i; outgoing = o }) ≡ summed
    (closes_own mine p) [] (record { phase = p; own = own; other = other; incoming = i; outgoing = o })
restarted_at true LinkPending own other i o = shut_is_summed
    (record { phase = LinkPending; own = own; other = other; incoming = i; outgoing = o })
restarted_at false LinkPending own other i o = nothing_summed
    (record { phase = LinkPending; own = own; other = other; incoming = i; outgoing = o })
restarted_at true LinkUp own other i o = shut_is_summed
    (record { phase = LinkUp; own = own; other = other; incoming = i; outgoing = o })
restarted_at false LinkUp own other i o = shut_is_summed
    (record { phase = LinkUp; own = own; other = other; incoming = i; outgoing = o })
restarted_at true LinkCancelled own other i o = shut_is_summed
    (record { phase = LinkCancelled; own = own; other = other; incoming = i; outgoing = o })
restarted_at false LinkCancelled own other i o = shut_is_summed
    (record { phase = LinkCancelled; own = own; other = other; incoming = i; outgoing = o })

restart_view : {M : Type 0} (mine : Bool) (t u : Tie) (v : View M) → IsSoundView mine t u v →
    IsSoundView mine Unheld u (restarted mine v)
restart_view mine t u v good =
    subst (λ x. IsSoundView mine Unheld u x) (sym (restarted_at mine v.phase v.own v.other v.incoming v.outgoing))
    (summed_sound mine (closes_own mine v.phase) t u v (restart_of mine (standing_of t u v) good))

length-restart : {M : Type 0} (s : Side) (links : List (Link M)) → length (restart_links s links) ≡ length links
length-restart s [] = refl
length-restart s (l ∷ links) = ap (λ n. suc n) (length-restart s links)

restart_sound : {P M : Type 0} (m : Peers P M) → IsMachine m → (s : Side) (w : World P M) → IsSoundWorld m w →
    IsSoundWorld m (with_peer s (m.reset (peer_on s w)) (restart_links s w.links) w)
restart_sound {P} {M} m is s w good =
    let g = side_sound m s w good in
    let own = m.node_of (peer_on s w) in
    let other = m.node_of (peer_on (flip s) w) in
    let f : Link M → Link M = λ l. by_side s (restarted (opens s l.opener)) l in
    let len = length-restart s w.links in
    let closed : AreSound s closed_node other (restart_links s w.links) =
    record {
      own_shaped = refl;
      other_shaped = g.other_shaped;
      each = λ c l at.
          let old = mapped_some f (slice_get w.links c) l (sym (slice_get-map f w.links c) ∙ at) in
          let mine = opens s old.0.opener in
          let v = view_of mine old.0 in
          let after = restart_view mine (tie_of own c) (tie_of other c) v (g.each c old.0 old.1) in
          subst (λ x. IsSoundLink s closed_node other c x) (sym old.2)
          (subst (λ x. IsSoundView mine Unheld (tie_of other c) x)
          (sym (view_link mine old.0.opener (restarted mine v))) after);
      own_later = λ c h. refl;
      other_later = λ c h. let h' : length w.links ≤ c = omega (arith, len, h) in g.other_later c h';
    } in
    sound_back m s w (m.reset (peer_on s w)) (restart_links s w.links)
    (subst (λ n. AreSound s n other (restart_links s w.links)) (sym (is.resets (peer_on s w))) closed)

-- one happening, and all
pub happens_sound : {P M : Type 0} (m : Peers P M) → MachineLaws → IsMachine m →
    (w : World P M) (h : Happening M) → IsSoundWorld m w → IsSoundWorld m (world_after w (happens m w h))
happens_sound m laws is w (Starts s) good = started_sound m laws is s w
    (m.reply (peer_on s w) (StartEvent (conn (length w.links)))) refl good
happens_sound m laws is w (Stops s cause) good = calm_sound m laws is s (StopEvent cause) w good (λ h. elim h [ ])
    (λ c. refl)
happens_sound m laws is w (TimesOut s) good = calm_sound m laws is s TimeoutEvent w good (λ h. elim h [ ]) (λ c. refl)
happens_sound m laws is w (Ticks s) good = calm_sound m laws is s TickEvent w good (λ h. elim h [ ]) (λ c. refl)
happens_sound m laws is w (Submits s x) good = calm_sound m laws is s (SubmitEvent x) w good (λ h. elim h [ ])
    (λ c. refl)
happens_sound m laws is w (Restarts s) good = restart_sound m is s w good
happens_sound m laws is w (Acks c) good =
    there_sound m w (slice_get w.links c) _ (λ l at.
    pending_sound m w l.phase _
    (λ p. one_sound m laws is l.opener (AckEvent (conn c)) MakesLink w c l good at (λ d. refl) (λ h. elim h [ ])
    (handed_ack (opens l.opener l.opener) (standing_at m l.opener w c l) (opens_self l.opener) p)) good) good
happens_sound m laws is w (Nacks c) good =
    there_sound m w (slice_get w.links c) _ (λ l at.
    pending_sound m w l.phase _
    (λ p. one_sound m laws is l.opener (NackEvent (conn c)) FailsLink w c l good at (λ d. refl) (λ h. elim h [ ])
    (handed_nack (opens l.opener l.opener) (standing_at m l.opener w c l) (opens_self l.opener) p)) good) good
happens_sound m laws is w (Delivers c s) good =
    there_sound m w (slice_get w.links c) _ (λ l at.
    up_sound m w l.phase _
    (λ p. delivered_sound m laws is s w c l
    (next_in (own_view s l).incoming.messages (own_view s l).incoming.mark) good
    (record { there = at; up = p; ends = refl }) refl) good) good
happens_sound m laws is w (Pieces c s k) good =
    there_sound m w (slice_get w.links c) _ (λ l at.
    up_sound m w l.phase _ (λ p.
    if_sound m w (k == 0) Ignored _ good
    (pieced_sound m laws is s w c k (own_view s l).incoming.taken l
    (next_in (own_view s l).incoming.messages (own_view s l).incoming.mark) good
    (record { there = at; up = p; ends = refl }) refl)) good) good
happens_sound m laws is w (Loses c a b) good =
    there_sound m w (slice_get w.links c) _ (λ l at.
    up_sound m w l.phase _
    (λ p. if_sound m w (are_shut l.opener_end l.other_end) Ignored _ good (lost_sound m w c a b l good at p)) good) good
