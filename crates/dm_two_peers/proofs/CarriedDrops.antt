-- What is dropped at a shut end keeps it.
use Rattle.std.proofs.Common.{◌≡◌, ℕ, ◌==◌, Bool, true, if◌then◌else◌, Some, List, [], ◌∷◌, slice_get, refl, sym, ap}
use Rattle.std.proofs.Common.{subst, ◌∙◌}
use Rattle.std.proofs.lemmas.Bool.{eqb-true}
use Rattle.dm_two_peers.specs.Machine.{conn, LinkConcern, EndsLink, HeardOnLink}
use Rattle.dm_two_peers.specs.Links.{Side, A, B, flip, LinkPhase, LinkUp, End, Shut, Mark, Coming, Delivered, Link, by_side}
use Rattle.dm_two_peers.specs.Peers.{GoneEvent, ArrivedEvent, Peers}
use Rattle.dm_two_peers.specs.Steps.{entered}
use Rattle.dm_two_peers.specs.Worlds.{World, peer_on, with_links, change_at, DoneWith, after_drop}
use Rattle.dm_two_peers.specs.Happens.{own_view}
use Rattle.dm_two_peers.proofs.Columns.{outgoing_mark_at, messages_at}
use Rattle.dm_two_peers.proofs.Closing.{CarriesOn}
use Rattle.dm_two_peers.proofs.Lists.{change_at-tested}
use Rattle.dm_two_peers.proofs.Hearing.{may_hear}
use Rattle.dm_two_peers.proofs.Ways.{Way, Under}
use Rattle.dm_two_peers.proofs.WaysHeard.{own_drops}
use Rattle.dm_two_peers.proofs.Mirrors.{view_other, view_own}
use Rattle.dm_two_peers.proofs.Carried.{WayOnView, over_of}
use Rattle.dm_two_peers.proofs.CarriedViews.{flip_view}
use Rattle.dm_two_peers.proofs.CarriedTold.{Keeps, kept_if, mapped_keeps}

module _ {P M : Type 0} (m : Peers P M) (is_app : M → Bool) (stands : P → Bool) (carries : CarriesOn m is_app stands)
    (lost : Bool) where
  -- what comes to a shut end
  end_drops : (p : LinkPhase) (other : End) (ms : List M) (mark : Mark) (over : Bool) (said up : List M) → p ≡ LinkUp →
      mark ≡ Coming → Way is_app lost p Shut other ms mark over said up →
      Way is_app lost p Shut other ms Delivered over said up
  end_drops p other ms mark over said up is coming way =
      record {
        rest = way.rest;
        whole = way.whole;
        under = λ h. let q = subst (λ z. may_hear z Shut over ≡ true) is h in cc;
        marks = λ l h. let n = way.marks l h in cc;
      }

  end_dropped : (p : LinkPhase) (own other : End) (ms : List M) (mark : Mark) (over : Bool) (said up : List M) →
      other ≡ Shut → Way is_app lost p own other ms mark over said up →
      Way is_app lost p own Shut ms (outgoing_mark_at EndsLink other mark) over said up
  end_dropped p own other ms mark over said up is way =
      record {
        rest = way.rest;
        whole = way.whole;
        under = λ h. subst (λ e. Under is_app lost ms (outgoing_mark_at EndsLink e mark) way.rest) (sym is) (way.under h);
        marks = λ l h. cc;
      }

  -- a message or a disconnect that comes to a shut end
  word_own : (t : Side) (l : Link M) (over : Bool) (x : M) (xs : List M) (said up : List M) → l.phase ≡ LinkUp →
      (own_view t l).own ≡ Shut → (own_view t l).incoming.messages ≡ x ∷ xs →
      WayOnView is_app lost over (own_view t l) said up →
      WayOnView is_app lost over (own_view t (by_side t (entered HeardOnLink) l)) said up
  word_own t l over x xs said up is_now shut_now front way =
      let v = own_view t l in
      subst (λ u. WayOnView is_app lost over u said up) (sym (view_own t (entered HeardOnLink) l))
      (subst (λ q. Way is_app lost q v.own v.other (messages_at HeardOnLink v.incoming.messages) v.incoming.mark over
      said up)
      (sym is_now)
      (subst (λ e. Way is_app lost LinkUp e v.other (messages_at HeardOnLink v.incoming.messages) v.incoming.mark over said
      up)
      (sym shut_now)
      (subst (λ ms. Way is_app lost LinkUp Shut v.other (messages_at HeardOnLink ms) v.incoming.mark over said up) (sym front)
      (own_drops is_app lost v.other x xs v.incoming.mark over said up
      (subst (λ ms. Way is_app lost LinkUp Shut v.other ms v.incoming.mark over said up) front
      (subst (λ e. Way is_app lost LinkUp e v.other v.incoming.messages v.incoming.mark over said up) shut_now
      (subst (λ q. Way is_app lost q v.own v.other v.incoming.messages v.incoming.mark over said up) is_now way)))))))

  word_other : (t : Side) (l : Link M) (over : Bool) (said up : List M) →
      WayOnView is_app lost over (own_view t l) said up →
      WayOnView is_app lost over (own_view t (by_side (flip t) (entered HeardOnLink) l)) said up
  word_other t l over said up way =
      subst (λ u. WayOnView is_app lost over u said up) (sym (view_other t (entered HeardOnLink) l)) way

  end_own : (t : Side) (l : Link M) (over : Bool) (said up : List M) → l.phase ≡ LinkUp → (own_view t l).own ≡ Shut →
      (own_view t l).incoming.mark ≡ Coming → WayOnView is_app lost over (own_view t l) said up →
      WayOnView is_app lost over (own_view t (by_side t (entered EndsLink) l)) said up
  end_own t l over said up is_now shut_now coming way =
      let v = own_view t l in
      subst (λ u. WayOnView is_app lost over u said up) (sym (view_own t (entered EndsLink) l))
      (end_drops l.phase v.other v.incoming.messages v.incoming.mark over said up is_now coming
      (subst (λ e. Way is_app lost l.phase e v.other v.incoming.messages v.incoming.mark over said up) shut_now way))

  end_other : (t : Side) (l : Link M) (over : Bool) (said up : List M) → (own_view (flip t) l).own ≡ Shut →
      WayOnView is_app lost over (own_view t l) said up →
      WayOnView is_app lost over (own_view t (by_side (flip t) (entered EndsLink) l)) said up
  end_other t l over said up shut_now way =
      let v = own_view t l in
      subst (λ u. WayOnView is_app lost over u said up) (sym (view_other t (entered EndsLink) l))
      (end_dropped l.phase v.own v.other v.incoming.messages v.incoming.mark over said up
      (sym (flip_view m is_app stands carries lost t l) ∙ shut_now) way)

  -- where the link that is meant keeps it, all do
  abbrev EntersAt : Side → Side → ℕ → World P M → LinkConcern → ℕ → Type 0
  EntersAt t s c w k d =
      (l : Link M) (said up : List M) → (d == c) ≡ true → slice_get w.links c ≡ Some l →
      WayOnView is_app lost (over_of (m.node_of (peer_on t w)) c) (own_view t l) said up →
      WayOnView is_app lost (over_of (m.node_of (peer_on t w)) c) (own_view t (by_side s (entered k) l)) said up

  enters_keep : (t s : Side) (c : ℕ) (w : World P M) (k : LinkConcern) (d : ℕ) → EntersAt t s c w k d →
      Keeps m is_app stands carries lost w t c (DoneWith (with_links (change_at d (by_side s (entered k)) w.links) w) []) []
  enters_keep t s c w k d each =
      mapped_keeps m is_app stands carries lost t c w (λ l. if d == c then by_side s (entered k) l else l)
      (change_at d (by_side s (entered k)) w.links)
      (change_at-tested d c (d == c) (by_side s (entered k)) w.links refl)
      (λ l said up at way. kept_if m is_app stands carries lost t (d == c) (by_side s (entered k)) l
      (over_of (m.node_of (peer_on t w)) c) said up
      (λ named. each l said up named at way) way)

  -- the link that is meant
  moved_to : (w : World P M) (d c : ℕ) (l z : Link M) → (d == c) ≡ true → slice_get w.links d ≡ Some l →
      slice_get w.links c ≡ Some z → l ≡ z
  moved_to w d c l z named at there =
      let here = subst (λ n. slice_get w.links n ≡ Some l) (eqb-true d c named) at in cc

  pub word_drops : (t s : Side) (c : ℕ) (w : World P M) (d : ℕ) (l : Link M) (x : M) (xs : List M) →
      slice_get w.links d ≡ Some l → l.phase ≡ LinkUp → (own_view s l).own ≡ Shut →
      (own_view s l).incoming.messages ≡ x ∷ xs → Keeps m is_app stands carries lost w t c
      (after_drop s (ArrivedEvent (conn d) x) w) []
  word_drops A A c w d l x xs at up_now shut_now front = enters_keep A A c w HeardOnLink d (λ z said up named there way.
      let same = moved_to w d c l z named at there in
      word_own A z _ x xs said up (ap (λ y. y.phase) (sym same) ∙ up_now)
      (ap (λ y. (own_view A y).own) (sym same) ∙ shut_now)
      (ap (λ y. (own_view A y).incoming.messages) (sym same) ∙ front) way)
  word_drops B B c w d l x xs at up_now shut_now front = enters_keep B B c w HeardOnLink d (λ z said up named there way.
      let same = moved_to w d c l z named at there in
      word_own B z _ x xs said up (ap (λ y. y.phase) (sym same) ∙ up_now)
      (ap (λ y. (own_view B y).own) (sym same) ∙ shut_now)
      (ap (λ y. (own_view B y).incoming.messages) (sym same) ∙ front) way)
  word_drops A B c w d l x xs at up_now shut_now front = enters_keep A B c w HeardOnLink d (λ z said up named there way.
      word_other A z _ said up way)
  word_drops B A c w d l x xs at up_now shut_now front = enters_keep B A c w HeardOnLink d (λ z said up named there way.
      word_other B z _ said up way)

  pub end_drop : (t s : Side) (c : ℕ) (w : World P M) (d : ℕ) (l : Link M) →
      slice_get w.links d ≡ Some l → l.phase ≡ LinkUp → (own_view s l).own ≡ Shut →
      (own_view s l).incoming.mark ≡ Coming → Keeps m is_app stands carries lost w t c (after_drop s (GoneEvent (conn d)) w)
      []
  end_drop A A c w d l at up_now shut_now coming = enters_keep A A c w EndsLink d (λ z said up named there way.
      let same = moved_to w d c l z named at there in
      end_own A z _ said up (ap (λ y. y.phase) (sym same) ∙ up_now)
      (ap (λ y. (own_view A y).own) (sym same) ∙ shut_now)
      (ap (λ y. (own_view A y).incoming.mark) (sym same) ∙ coming) way)
  end_drop B B c w d l at up_now shut_now coming = enters_keep B B c w EndsLink d (λ z said up named there way.
      let same = moved_to w d c l z named at there in
      end_own B z _ said up (ap (λ y. y.phase) (sym same) ∙ up_now)
      (ap (λ y. (own_view B y).own) (sym same) ∙ shut_now)
      (ap (λ y. (own_view B y).incoming.mark) (sym same) ∙ coming) way)
  end_drop A B c w d l at up_now shut_now coming = enters_keep A B c w EndsLink d (λ z said up named there way.
      let same = moved_to w d c l z named at there in
      end_other A z _ said up (ap (λ y. (own_view B y).own) (sym same) ∙ shut_now) way)
  end_drop B A c w d l at up_now shut_now coming = enters_keep B A c w EndsLink d (λ z said up named there way.
      let same = moved_to w d c l z named at there in
      end_other B z _ said up (ap (λ y. (own_view A y).own) (sym same) ∙ shut_now) way)
