-- Losses, restarts, pieces, and what comes to a shut end keep what is under way of the exchanges on each link.
use Rattle.std.proofs.Common.{◌≡◌, ℕ, ◌==◌, Bool, true, false, not, ◌&&◌, if◌then◌else◌}
use Rattle.std.proofs.Common.{Some, List, [], slice_get, refl, sym, ap, subst, ◌∙◌}
use Rattle.std.proofs.lemmas.Bool.{and_parts, eqb-true}
use Rattle.std.proofs.lemmas.Option.{slice_get-map}
use Rattle.dm_two_peers.specs.Machine.{conn, LinkConcern, Elsewhere, EndsLink, HeardOnLink}
use Rattle.dm_two_peers.specs.Links.{Side, A, flip, opens, LinkPhase, LinkPending, LinkUp, LinkCancelled, Shut}
use Rattle.dm_two_peers.specs.Links.{Mark, NoMark, Coming, Delivered, Link, View, view_of, by_side}
use Rattle.dm_two_peers.specs.Peers.{Event, GoneEvent, ArrivedEvent, Peers, concern_by}
use Rattle.dm_two_peers.specs.Steps.{marked, entered}
use Rattle.dm_two_peers.specs.Worlds.{World, Put, peer_on, with_peer, with_links, change_at, enter}
use Rattle.dm_two_peers.specs.Worlds.{After, DoneWith, after_drop}
use Rattle.dm_two_peers.specs.Happens.{take_part, lost_link, restarted, restart_links, own_view, world_after}
use Rattle.dm_two_peers.specs.Facts.{Standing, turned_over, is_sound_standing, is_up, is_shut, is_none}
use Rattle.dm_two_peers.specs.Requests.{Requests, AnswersMatch}
use Rattle.dm_two_peers.proofs.Columns.{phase_after, mark_after}
use Rattle.dm_two_peers.proofs.Every.{all_true, every_bool, every_tie, every_phase, every_end, every_mark, every_standing}
use Rattle.dm_two_peers.proofs.Every.{at_standing}
use Rattle.dm_two_peers.proofs.StandingSteps.{when, is_when}
use Rattle.dm_two_peers.proofs.StandingOthers.{closes_own}
use Rattle.dm_two_peers.proofs.Stepped.{IsStart, entered_at}
use Rattle.dm_two_peers.proofs.Lists.{mapped_some, change_at-tested}
use Rattle.dm_two_peers.proofs.Happenings.{restarted_at}
use Rattle.dm_two_peers.proofs.Events.{side_sound}
use Rattle.dm_two_peers.proofs.Comings.{standing_at}
use Rattle.dm_two_peers.proofs.Mirrors.{view_own}
use Rattle.dm_two_peers.proofs.Carried.{IsCarrying}
use Rattle.dm_two_peers.proofs.RequestedViews.{IsUnmarked, never_closed}
use Rattle.dm_two_peers.proofs.RequestedTold.{AskAt, AllAsk, from_side, from_links}

-- where an end is shut, a disconnect is in the direction from it
abbrev shut_marks : Standing → Bool
shut_marks s =
    when (is_sound_standing s) (when (is_up s.phase)
    (when (is_shut s.own) (not (is_none s.out_mark)) && when (is_shut s.other) (not (is_none s.in_mark))))

marks_checked : every_standing shut_marks ≡ true
unfolding all_true every_bool every_tie every_phase every_end every_mark
marks_checked = refl

shut_marked : (mine : Bool) (s : Standing) → is_sound_standing (turned_over mine s) ≡ true → is_up s.phase ≡ true →
    is_shut s.own ≡ true → not (is_none s.out_mark) ≡ true
shut_marked true s good up shut =
    is_when (is_shut s.own) _ (and_parts _ (when (is_shut s.other) (not (is_none s.in_mark))) (is_when (is_up s.phase) _
    (is_when (is_sound_standing s) _ (at_standing shut_marks marks_checked s) good) up)).0 shut
shut_marked false s good up shut =
    let t = turned_over false s in
    is_when (is_shut t.other) _ (and_parts (when (is_shut t.own) (not (is_none t.out_mark))) _ (is_when (is_up t.phase) _
    (is_when (is_sound_standing t) _ (at_standing shut_marks marks_checked t) good) up)).1 shut

not_none : (k : Mark) → not (is_none k) ≡ true → k ≡ NoMark → ⊥
not_none NoMark h e = cc
not_none Coming h e = cc
not_none Delivered h e = cc

not_unmarked : (k : Mark) → marked k ≡ NoMark → ⊥
not_unmarked NoMark h = cc
not_unmarked Coming h = cc
not_unmarked Delivered h = cc

-- a restart closes what is up
restart_marks : {M : Type 0} (mine : Bool) (v : View M) → IsUnmarked (restarted mine v) → ⊥
restart_marks mine v u =
    by_phase mine v.phase
    (subst (λ (z : View _). IsUnmarked z) (restarted_at mine v.phase v.own v.other v.incoming v.outgoing) u).up
    (subst (λ (z : View _). IsUnmarked z) (restarted_at mine v.phase v.own v.other v.incoming v.outgoing) u).going
  where
    by_phase : (mine : Bool) (p : LinkPhase) → phase_after (closes_own mine p) p ≡ LinkUp →
        mark_after (closes_own mine p) p v.outgoing.mark ≡ NoMark → ⊥
    by_phase true LinkPending e f = cc
    by_phase false LinkPending e f = cc
    by_phase mine LinkUp e f = never_closed LinkUp v.outgoing.mark e f
    by_phase mine LinkCancelled e f = cc

loss_marks : {M : Type 0} (size : M → ℕ) (a b : ℕ) (mine : Bool) (l : Link M) →
    IsUnmarked (view_of mine (lost_link size a b l)) → ⊥
loss_marks size a b true l u = not_unmarked l.to_opener.mark u.coming
loss_marks size a b false l u = not_unmarked l.to_other.mark u.coming

module _ {P M : Type 0} (m : Peers P M) (r : Requests P M) (stands : P → Bool) (match : AnswersMatch m r stands) where
  abbrev pub All : World P M → Type 0
  All w = AllAsk m r stands w

  abbrev pub At : P → P → ℕ → View M → Type 0
  At p p' c v = AskAt m r stands p p' c v

  abbrev pub KeepsAll : World P M → After P M → Type 0
  KeepsAll w after = All w → All (world_after w after)

  -- links alone are changed
  mapped_asks : (s : Side) (w : World P M) (links : List (Link M)) (f : ℕ → Link M → Link M) →
      ((c : ℕ) (l : Link M) → slice_get links c ≡ Some l → (z : Link M) × (slice_get w.links c ≡ Some z) × (l ≡ f c z)) →
      ((c : ℕ) (z : Link M) → slice_get w.links c ≡ Some z →
      At (peer_on s w) (peer_on (flip s) w) c (own_view s z) →
      At (peer_on s w) (peer_on (flip s) w) c (own_view s (f c z))) → All w → All (with_links links w)
  mapped_asks s w links f back each all =
      from_links m r stands s links w (λ c l at.
      let old = back c l at in
      subst (λ z. At (peer_on s w) (peer_on (flip s) w) c (own_view s z)) (sym old.2)
      (each c old.0 old.1 (all s c old.0 old.1)))

  -- a part of a message
  pub part_asks : (s : Side) (w : World P M) (d k : ℕ) →
      KeepsAll w (DoneWith (with_links (change_at d (by_side s (take_part k)) w.links) w) [])
  part_asks s w d k all =
      mapped_asks s w (change_at d (by_side s (take_part k)) w.links)
      (λ c l. if d == c then by_side s (take_part k) l else l)
      (λ c l at. mapped_some _ (slice_get w.links c) l
      (sym (change_at-tested d c (d == c) (by_side s (take_part k)) w.links refl) ∙ at))
      (λ c z at h. by_test (d == c) c z h) all
    where
      by_test : (b : Bool) (c : ℕ) (z : Link M) → At (peer_on s w) (peer_on (flip s) w) c (own_view s z) →
          At (peer_on s w) (peer_on (flip s) w) c (own_view s (if b then by_side s (take_part k) z else z))
      by_test false c z h = h
      by_test true c z h =
          subst (λ v. At (peer_on s w) (peer_on (flip s) w) c v) (sym (view_own s (take_part k) z)) (λ u.
          let each = h (record { up = u.up; coming = u.coming; going = u.going }) in
          record { own = each.own; other = each.other })

  -- a loss
  pub loss_asks : (w : World P M) (d a b : ℕ) (put : List (Put M)) →
      KeepsAll w (DoneWith (with_links (change_at d (lost_link m.size a b) w.links) w) put)
  loss_asks w d a b put all =
      mapped_asks A w (change_at d (lost_link m.size a b) w.links)
      (λ c l. if d == c then lost_link m.size a b l else l)
      (λ c l at. mapped_some _ (slice_get w.links c) l
      (sym (change_at-tested d c (d == c) (lost_link m.size a b) w.links refl) ∙ at))
      (λ c z at h. by_test (d == c) c z h) all
    where
      by_test : (b0 : Bool) (c : ℕ) (z : Link M) → At w.a w.b c (own_view A z) →
          At w.a w.b c (own_view A (if b0 then lost_link m.size a b z else z))
      by_test false c z h = h
      by_test true c z h = λ u. absurd (loss_marks m.size a b (opens A z.opener) z u)

  -- what comes to a shut end
  drop_asks : (s : Side) (w : World P M) (e : Event M) → (IsStart e → ⊥) →
      ((c : ℕ) (z : Link M) → slice_get w.links c ≡ Some z →
      At (peer_on s w) (peer_on (flip s) w) c (own_view s z) →
      At (peer_on s w) (peer_on (flip s) w) c (entered (concern_by e (conn c)) (own_view s z))) →
      KeepsAll w (after_drop s e w)
  drop_asks s w e no_start each all =
      mapped_asks s w (enter s e w.links) (λ c l. by_side s (entered (concern_by e (conn c))) l)
      (λ c l at. mapped_some _ (slice_get w.links c) l (sym (entered_at s e c w.links no_start) ∙ at))
      (λ c z at h. subst (λ v. At (peer_on s w) (peer_on (flip s) w) c v)
      (sym (view_own s (entered (concern_by e (conn c))) z)) (each c z at h)) all

  -- a shut end has its disconnect
  shut_never : (s : Side) (w : World P M) (d : ℕ) (l : Link M) → IsCarrying m stands w →
      slice_get w.links d ≡ Some l → l.phase ≡ LinkUp → (own_view s l).own ≡ Shut →
      (own_view s l).outgoing.mark ≡ NoMark → ⊥
  shut_never s w d l good at up shut none =
      not_none (own_view s l).outgoing.mark
      (shut_marked (opens s l.opener) (standing_at m s w d l) ((side_sound m s w good.sound).each d l at)
      (ap (λ p. is_up p) up) (ap (λ e. is_shut e) shut)) none

  abbrev DropsAt : Side → World P M → ℕ → ℕ → LinkConcern → Bool → Type 0
  DropsAt s w d c k b =
      (z : Link M) → (d == c) ≡ b → slice_get w.links c ≡ Some z →
      At (peer_on s w) (peer_on (flip s) w) c (own_view s z) →
      At (peer_on s w) (peer_on (flip s) w) c (entered (if b then k else Elsewhere) (own_view s z))

  word_at : (s : Side) (w : World P M) (d c : ℕ) (l : Link M) → IsCarrying m stands w →
      slice_get w.links d ≡ Some l → l.phase ≡ LinkUp → (own_view s l).own ≡ Shut → (b : Bool) →
      DropsAt s w d c HeardOnLink b
  word_at s w d c l good at up shut false z named there h = h
  word_at s w d c l good at up shut true z named there h =
      λ u. absurd
      (let here : slice_get w.links c ≡ Some l = subst (λ n. slice_get w.links n ≡ Some l) (eqb-true d c named) at in
      let same : l ≡ z = cc (here, there) in
      shut_never s w c z good there (subst (λ y. y.phase ≡ LinkUp) same up)
      (subst (λ y. (own_view s y).own ≡ Shut) same shut) u.going)

  end_at : (s : Side) (w : World P M) (d c : ℕ) (b : Bool) → DropsAt s w d c EndsLink b
  end_at s w d c false z named there h = h
  end_at s w d c true z named there h = λ u. let none = u.coming in cc

  pub word_drops : (s : Side) (w : World P M) (d : ℕ) (l : Link M) (x : M) → IsCarrying m stands w →
      slice_get w.links d ≡ Some l → l.phase ≡ LinkUp → (own_view s l).own ≡ Shut →
      KeepsAll w (after_drop s (ArrivedEvent (conn d) x) w)
  word_drops s w d l x good at up shut all =
      drop_asks s w (ArrivedEvent (conn d) x) (λ q. elim q [ ])
      (λ c z there h. word_at s w d c l good at up shut (d == c) z refl there h) all

  pub end_drops : (s : Side) (w : World P M) (d : ℕ) → KeepsAll w (after_drop s (GoneEvent (conn d)) w)
  end_drops s w d all =
      drop_asks s w (GoneEvent (conn d)) (λ q. elim q [ ]) (λ c z there h. end_at s w d c (d == c) z refl there h) all

  -- a restart
  pub restart_asks : (s : Side) (w : World P M) (put : List (Put M)) →
      KeepsAll w (DoneWith (with_peer s (m.reset (peer_on s w)) (restart_links s w.links) w) put)
  restart_asks s w put all =
      from_side m r stands s (m.reset (peer_on s w)) (restart_links s w.links) w (λ c l at.
      let f : Link M → Link M = λ z. by_side s (restarted (opens s z.opener)) z in
      let old = mapped_some f (slice_get w.links c) l (sym (slice_get-map f w.links c) ∙ at) in
      λ u. absurd (restart_marks (opens s old.0.opener) (own_view s old.0)
      (subst (λ v. IsUnmarked v) (ap (λ z. own_view s z) old.2 ∙ view_own s (restarted (opens s old.0.opener)) old.0)
      u)))
