-- What a direction to an end carries after the side across acts.
use Rattle.std.proofs.Common.{◌≡◌, Bool, true, false, not, List, [], ◌++◌, refl, sym, ap}
use Rattle.std.proofs.Common.{subst, ◌∙◌, append_assoc, append-nil, ◌⊎◌, inl, inr}
use Rattle.dm_two_peers.specs.Machine.{LinkConcern, Elsewhere, StartsLink, MakesLink, FailsLink, EndsLink, HeardOnLink}
use Rattle.dm_two_peers.specs.Links.{LinkPhase, LinkPending, LinkUp, LinkCancelled, End, Fresh, Open, Shut, Mark, NoMark, Coming}
use Rattle.dm_two_peers.specs.Links.{Delivered}
use Rattle.dm_two_peers.specs.Steps.{marked, queued, own_settled}
use Rattle.dm_two_peers.specs.Facts.{is_pending, is_shut, is_none}
use Rattle.dm_two_peers.specs.Delivery.{apps}
use Rattle.dm_two_peers.proofs.Columns.{phase_at, own_at, other_at, outgoing_mark_at}
use Rattle.dm_two_peers.proofs.Columns.{phase_after, own_after, mark_after}
use Rattle.dm_two_peers.proofs.Every.{at_bool, at_concern, at_phase, at_end, at_mark}
use Rattle.dm_two_peers.proofs.StandingSteps.{is_when}
use Rattle.dm_two_peers.proofs.Hearing.{both, hears_other_checked, imp, imp_is, is_ack}
use Rattle.dm_two_peers.proofs.Hearing.{is_imp, is_none_at, is_not, marks_other_checked}
use Rattle.dm_two_peers.proofs.Hearing.{may_hear, none_is, not_is}
use Rattle.dm_two_peers.proofs.Ways.{Under, Way, apps_append}

hears_by_other : (k : LinkConcern) (closed over : Bool) (p : LinkPhase) (own : End) →
    (is_ack k ≡ true → is_pending p ≡ true) →
    may_hear (phase_after closed (phase_at k p)) (other_at k own) over ≡ true → may_hear p own over ≡ true
hears_by_other k closed over p own acks h =
    imp_is _ (may_hear p own over)
    (is_when _ _ (at_end _ (at_phase _ (at_bool _ (at_bool _ (at_concern _ hears_other_checked k) closed) over) p)
    own)
    (is_imp (is_ack k) (is_pending p) acks)) h

marks_by_other : (k : LinkConcern) (closed holds : Bool) (p : LinkPhase) (other : End) (mark : Mark) →
    (is_ack k ≡ true → is_none mark ≡ true) → (is_shut other ≡ false → mark ≡ NoMark) →
    is_shut (own_settled k holds (own_after closed (phase_at k p) (own_at k other))) ≡ false →
    mark_after closed (phase_at k p) (outgoing_mark_at k other mark) ≡ NoMark
marks_by_other k closed holds p other mark blank was h =
    none_is _
    (imp_is (not (is_shut (own_settled k holds (own_after closed (phase_at k p) (own_at k other))))) _
    (is_when _ _ (at_mark _ (at_end _ (at_phase _ (at_bool _ (at_bool _ (at_concern _ marks_other_checked k) closed)
    holds) p) other) mark)
    (both (imp (is_ack k) (is_none mark)) (imp (not (is_shut other)) (is_none mark)) (is_imp _ _ blank)
    (is_imp (not (is_shut other)) (is_none mark) (λ g. is_none_at mark (was (not_is (is_shut other) g))))))
    (is_not _ h))

back_marked : (mark : Mark) → marked mark ≡ NoMark → mark ≡ NoMark
back_marked NoMark h = cc
back_marked Coming h = cc
back_marked Delivered h = cc

back_out : (k : LinkConcern) (own : End) (mark : Mark) → outgoing_mark_at k own mark ≡ NoMark → mark ≡ NoMark
back_out EndsLink Fresh mark h = back_marked mark h
back_out EndsLink Open mark h = h
back_out EndsLink Shut mark h = h
back_out MakesLink own mark h = h
back_out FailsLink own mark h = h
back_out StartsLink own mark h = h
back_out HeardOnLink own mark h = h
back_out Elsewhere own mark h = h

back_after : (closed : Bool) (p : LinkPhase) (mark : Mark) → mark_after closed p mark ≡ NoMark → mark ≡ NoMark
back_after true LinkUp mark h = back_marked mark h
back_after true LinkPending mark h = h
back_after true LinkCancelled mark h = h
back_after false p mark h = h

module _ {M : Type 0} (is_app : M → Bool) (lost : Bool) where
  -- nothing new, or a message of a link that is up, whose sender's end is open
  pub data IsNew (k : LinkConcern) (p : LinkPhase) (other : End) (new : List M) : Type 0 where
    says_none : new ≡ [] → IsNew k p other new
    says_one : k ≡ Elsewhere → p ≡ LinkUp → is_shut other ≡ false → IsNew k p other new

  full_under : (closed : Bool) (p : LinkPhase) (before mark : Mark) (new messages rest : List M) →
      (mark ≡ NoMark → before ≡ NoMark) → (mark_after closed p mark ≡ NoMark → new ≡ []) → (lost ≡ false → new ≡ []) →
      Under is_app lost messages before rest →
      Under is_app lost messages (mark_after closed p mark) (rest ++ new)
  full_under closed p before mark new messages rest back unmarked sure u =
      record {
        tail = u.tail ++ new;
        is = ap (λ ys. ys ++ new) u.is ∙ append_assoc (apps is_app messages) u.tail new;
        unmarked = λ h. none_left u.tail new (u.unmarked (back (back_after closed p mark h))) (unmarked h);
        sure = λ l. none_left u.tail new (u.sure l) (sure l);
      }
    where
      none_left : (xs ys : List M) → xs ≡ [] → ys ≡ [] → xs ++ ys ≡ []
      none_left xs ys e g = ap (λ zs. zs ++ ys) e ∙ g

  added_under : (closed : Bool) (p : LinkPhase) (before mark : Mark) (words new messages rest : List M) →
      apps is_app words ≡ new → (mark ≡ NoMark → before ≡ NoMark) →
      (new ≡ [] ⊎ ((p ≡ LinkUp) × (lost ≡ false → mark ≡ NoMark))) →
      Under is_app lost messages before rest →
      Under is_app lost (queued p mark words messages) (mark_after closed p mark) (rest ++ new)
  added_under closed LinkUp before NoMark words new messages rest say back this u =
      record {
        tail = [];
        is = ap (λ ys. ys ++ new) (u.is ∙ (ap (λ ys. apps is_app messages ++ ys) (u.unmarked (back refl))
            ∙ append-nil (apps is_app messages)))
            ∙ (ap (λ ys. apps is_app messages ++ ys) (sym say)
            ∙ (sym (apps_append is_app messages words)
            ∙ sym (append-nil (apps is_app (messages ++ words)))));
        unmarked = λ h. refl;
        sure = λ h. refl;
      }
  added_under closed LinkUp before Coming words new messages rest say back this u =
      full_under closed LinkUp before Coming new messages rest back (λ h. cc (back_after closed LinkUp Coming h))
      (λ l. elim this [ inl e ↦ e | inr q ↦ cc (q.1 l) ]) u
  added_under closed LinkUp before Delivered words new messages rest say back this u =
      full_under closed LinkUp before Delivered new messages rest back (λ h. cc (back_after closed LinkUp Delivered h))
      (λ l. elim this [ inl e ↦ e | inr q ↦ cc (q.1 l) ]) u
  added_under closed LinkPending before mark words new messages rest say back this u =
      full_under closed LinkPending before mark new messages rest back
      (λ h. elim this [ inl e ↦ e | inr q ↦ cc (q.0) ]) (λ l. elim this [ inl e ↦ e | inr q ↦ cc (q.0) ]) u
  added_under closed LinkCancelled before mark words new messages rest say back this u =
      full_under closed LinkCancelled before mark new messages rest back
      (λ h. elim this [ inl e ↦ e | inr q ↦ cc (q.0) ]) (λ l. elim this [ inl e ↦ e | inr q ↦ cc (q.0) ]) u

  new_or : (k : LinkConcern) (p : LinkPhase) (other : End) (mark : Mark) (new : List M) →
      (lost ≡ false → is_shut other ≡ false → mark ≡ NoMark) → IsNew k p other new →
      (new ≡ [] ⊎ ((phase_at k p ≡ LinkUp) × (lost ≡ false → outgoing_mark_at k other mark ≡ NoMark)))
  new_or k p other mark new marks (says_none e) = inl e
  new_or k p other mark new marks (says_one e up unshut) =
      inr (
        subst (λ j. phase_at j p ≡ LinkUp) (sym e) up,
        λ l. subst (λ j. outgoing_mark_at j other mark ≡ NoMark) (sym e) (marks l unshut),
      )

  pub other_acts : (k : LinkConcern) (closed holds over : Bool) (p : LinkPhase) (own other : End)
      (messages words new : List M)
      (mark : Mark) (said up : List M) → apps is_app words ≡ new → IsNew k p other new →
      (is_ack k ≡ true → is_pending p ≡ true) → (is_ack k ≡ true → is_none mark ≡ true) →
      Way is_app lost p own other messages mark over said up →
      Way is_app lost (phase_after closed (phase_at k p)) (other_at k own)
      (own_settled k holds (own_after closed (phase_at k p) (own_at k other)))
      (queued (phase_at k p) (outgoing_mark_at k other mark) words messages)
      (mark_after closed (phase_at k p) (outgoing_mark_at k other mark)) over (said ++ new) up
  other_acts k closed holds over p own other messages words new mark said up say this acks blank way =
      record {
        rest = way.rest ++ new;
        whole = ap (λ ys. ys ++ new) way.whole ∙ append_assoc up way.rest new;
        under = λ h. added_under closed (phase_at k p) mark (outgoing_mark_at k other mark) words new messages way.rest
            say (back_out k other mark) (new_or k p other mark new way.marks this)
            (way.under (hears_by_other k closed over p own acks h));
        marks = λ l h. marks_by_other k closed holds p other mark blank (way.marks l) h;
      }
