-- What a direction to an end carries after the end's own side acts, and no message comes on the link.
use Rattle.std.proofs.Common.{◌≡◌, Bool, true, false, not, ◌&&◌, List, ◌++◌, refl, sym, ap}
use Rattle.std.proofs.Common.{◌∙◌}
use Rattle.std.proofs.lemmas.Bool.{and_parts}
use Rattle.dm_two_peers.specs.Machine.{LinkConcern, Elsewhere, StartsLink, MakesLink, FailsLink, EndsLink, HeardOnLink}
use Rattle.dm_two_peers.specs.Links.{LinkPhase, End, Mark, NoMark}
use Rattle.dm_two_peers.specs.Steps.{own_settled}
use Rattle.dm_two_peers.specs.Facts.{is_up, is_pending, is_open_end, is_shut, is_none, is_coming}
use Rattle.dm_two_peers.specs.Delivery.{apps}
use Rattle.dm_two_peers.proofs.Columns.{phase_at, own_at, other_at, messages_at, incoming_mark_at}
use Rattle.dm_two_peers.proofs.Columns.{phase_after, own_after}
use Rattle.dm_two_peers.proofs.Every.{at_bool, at_concern, at_phase, at_end, at_mark}
use Rattle.dm_two_peers.proofs.StandingSteps.{is_when}
use Rattle.dm_two_peers.proofs.Hearing.{both, hears_own_checked, imp, imp_is, is_ack}
use Rattle.dm_two_peers.proofs.Hearing.{is_end, is_imp, is_none_at, is_not, is_word, marks_own_checked}
use Rattle.dm_two_peers.proofs.Hearing.{may_hear, none_is, not_is}
use Rattle.dm_two_peers.proofs.Ways.{Way}

back_unmarked : (k : LinkConcern) (mark : Mark) → incoming_mark_at k mark ≡ NoMark → mark ≡ NoMark
back_unmarked EndsLink mark h = cc
back_unmarked MakesLink mark h = h
back_unmarked FailsLink mark h = h
back_unmarked StartsLink mark h = h
back_unmarked HeardOnLink mark h = h
back_unmarked Elsewhere mark h = h

pub record Fits (k : LinkConcern) (p : LinkPhase) (own : End) (mark : Mark) (over over' : Bool) : Type 0 where
  pub acks : is_ack k ≡ true → is_pending p ≡ true
  pub blank : is_ack k ≡ true → is_none mark ≡ true
  pub ends : is_end k ≡ true → is_coming mark ≡ true
  pub stays : is_up p ≡ true → is_open_end own ≡ true → over ≡ true → over' ≡ true

marks_by_own : (k : LinkConcern) (other : End) (mark : Mark) → (is_ack k ≡ true → is_none mark ≡ true) →
    (is_end k ≡ true → is_coming mark ≡ true) → (is_shut other ≡ false → mark ≡ NoMark) →
    is_shut (other_at k other) ≡ false → incoming_mark_at k mark ≡ NoMark
marks_by_own k other mark blank ends was h =
    none_is (incoming_mark_at k mark)
    (imp_is (not (is_shut (other_at k other))) (is_none (incoming_mark_at k mark))
    (is_when _ _ (at_mark _ (at_end _ (at_concern _ marks_own_checked k) other) mark)
    (both (imp (is_ack k) (is_none mark) && imp (is_end k) (is_coming mark))
    (imp (not (is_shut other)) (is_none mark))
    (both (imp (is_ack k) (is_none mark)) (imp (is_end k) (is_coming mark)) (is_imp _ _ blank) (is_imp _ _ ends))
    (is_imp (not (is_shut other)) (is_none mark) (λ g. is_none_at mark (was (not_is (is_shut other) g))))))
    (is_not (is_shut (other_at k other)) h))

pub hears_by_own : (k : LinkConcern) (closed holds over over' : Bool) (p : LinkPhase) (own : End) →
    (is_ack k ≡ true → is_pending p ≡ true) →
    (is_up p ≡ true → is_open_end own ≡ true → over ≡ true → over' ≡ true) →
    may_hear (phase_after closed (phase_at k p))
    (own_settled k holds (own_after closed (phase_at k p) (own_at k own))) over' ≡ true →
    may_hear p own over ≡ true
hears_by_own k closed holds over over' p own acks stays h =
    imp_is _ (may_hear p own over)
    (is_when _ _ (at_end _ (at_phase _ (at_bool _ (at_bool _
    (at_bool _ (at_bool _ (at_concern _ hears_own_checked k) closed) holds) over) over') p) own)
    (both (imp (is_ack k) (is_pending p)) (imp (is_up p && is_open_end own && over) over')
    (is_imp (is_ack k) (is_pending p) acks)
    (is_imp (is_up p && is_open_end own && over) over' (λ g.
    let parts = and_parts (is_up p && is_open_end own) over g in
    let more = and_parts (is_up p) (is_open_end own) parts.0 in
    stays more.0 more.1 parts.1))))
    h

module _ {M : Type 0} (is_app : M → Bool) (lost : Bool) where
  pub own_calm : (k : LinkConcern) (closed holds over over' : Bool) (p : LinkPhase) (own other : End) (messages : List M)
      (mark : Mark) (said up : List M) → is_word k ≡ false → Fits k p own mark over over' →
      Way is_app lost p own other messages mark over said up →
      Way is_app lost (phase_after closed (phase_at k p))
      (own_settled k holds (own_after closed (phase_at k p) (own_at k own))) (other_at k other) (messages_at k messages)
      (incoming_mark_at k mark) over' said up
  own_calm k closed holds over over' p own other messages mark said up calm fits way =
      record {
        rest = way.rest;
        whole = way.whole;
        under = λ h.
            let u = way.under (hears_by_own k closed holds over over' p own fits.acks fits.stays h) in
            record {
              tail = u.tail;
              is = u.is ∙ ap (λ ms. apps is_app ms ++ u.tail) (sym (kept_at k messages calm));
              unmarked = λ g. u.unmarked (back_unmarked k mark g);
              sure = u.sure;
            };
        marks = λ l h. marks_by_own k other mark fits.blank fits.ends (way.marks l) h;
      }
    where
      kept_at : (k : LinkConcern) (ms : List M) → is_word k ≡ false → messages_at k ms ≡ ms
      kept_at HeardOnLink ms h = cc
      kept_at MakesLink ms h = refl
      kept_at FailsLink ms h = refl
      kept_at StartsLink ms h = refl
      kept_at EndsLink ms h = refl
      kept_at Elsewhere ms h = refl
