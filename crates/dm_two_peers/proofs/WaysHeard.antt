-- What a direction to an end carries after its front message came there.
use Rattle.std.proofs.Common.{◌≡◌, Bool, true, false, not, ◌&&◌, if◌then◌else◌, List, [], ◌∷◌, ◌++◌, refl, sym, ap}
use Rattle.std.proofs.Common.{subst, ◌∙◌, append_assoc, append-nil}
use Rattle.dm_machine.specs.Connection.{Hold}
use Rattle.dm_machine.specs.Connection as hold
use Rattle.dm_two_peers.specs.Machine.{HeardOnLink}
use Rattle.dm_two_peers.specs.Links.{LinkPhase, LinkUp, End, Fresh, Open, Shut, Mark}
use Rattle.dm_two_peers.specs.Steps.{own_settled}
use Rattle.dm_two_peers.specs.Facts.{is_up, is_open_end, is_shut}
use Rattle.dm_two_peers.specs.Delivery.{apps, is_done_hold, is_unmade, HandsUpHeard}
use Rattle.dm_machine.specs.Upward.{is_open_hold}
use Rattle.dm_two_peers.proofs.Columns.{phase_after, own_after}
use Rattle.dm_two_peers.proofs.Every.{at_bool, at_end}
use Rattle.dm_two_peers.proofs.Hearing.{ends_own_checked}
use Rattle.dm_two_peers.proofs.Hearing.{may_hear}
use Rattle.dm_two_peers.proofs.Ways.{Way}
use Rattle.dm_two_peers.proofs.WaysOwn.{hears_by_own}

module _ {M : Type 0} (is_app : M → Bool) (lost : Bool) where
  abbrev heard_up : Bool → Bool → M → List M
  heard_up app opened x = if app && opened then x ∷ [] else []

  pub hears_now : (p : LinkPhase) (own : End) (before : Hold) → p ≡ LinkUp → is_shut own ≡ false →
      is_open_hold before ≡ true →
      may_hear p own (is_done_hold before) ≡ true
  hears_now p own before up unshut opened =
      subst (λ q. may_hear q own (is_done_hold before) ≡ true) (sym up) (at_own own unshut before opened)
    where
      open_not_over : (h : Hold) → is_open_hold h ≡ true → not (is_done_hold h) ≡ true
      open_not_over h e = by_hold h e
        where
          by_hold : (h : Hold) → is_open_hold h ≡ true → not (is_done_hold h) ≡ true
          by_hold hold.OpenAsI e = refl
          by_hold hold.OpenAsR e = refl
          by_hold _ e = cc

      at_own : (own : End) → is_shut own ≡ false → (h : Hold) → is_open_hold h ≡ true →
          may_hear LinkUp own (is_done_hold h) ≡ true
      at_own Fresh u h e = refl
      at_own Open u h e = open_not_over h e
      at_own Shut u h e = cc

  own_hears : (b o : Bool) (closed holds : Bool) (own other : End) (before : Hold) (over' : Bool) (x : M) (xs : List M)
      (mark : Mark) (said up : List M) → is_app x ≡ b → is_open_hold before ≡ o → is_shut own ≡ false →
      (is_up LinkUp ≡ true → is_open_end own ≡ true → is_done_hold before ≡ true → over' ≡ true) →
      (b ≡ true → o ≡ false → over' ≡ true) →
      Way is_app lost LinkUp own other (x ∷ xs) mark (is_done_hold before) said up →
      Way is_app lost (phase_after closed LinkUp) (own_settled HeardOnLink holds (own_after closed LinkUp own)) other xs mark
      over' said (up ++ (heard_up b o x))
  own_hears true true closed holds own other before over' x xs mark said up app opened unshut stays ends way =
      let u = way.under (hears_now LinkUp own before refl unshut opened) in
      let left = apps is_app xs ++ u.tail in
      let is : way.rest ≡ x ∷ left =
      u.is ∙ ap (λ b. (if b then x ∷ apps is_app xs else apps is_app xs) ++ u.tail) app in
      record {
        rest = left;
        whole = way.whole ∙ (ap (λ ys. up ++ ys) is ∙ sym (append_assoc up (x ∷ []) left));
        under = λ h. record { tail = u.tail; is = refl; unmarked = u.unmarked; sure = u.sure };
        marks = way.marks;
      }
  own_hears true false closed holds own other before over' x xs mark said up app opened unshut stays ends way =
      record {
        rest = way.rest;
        whole = way.whole ∙ ap (λ ys. ys ++ way.rest) (sym (append-nil up));
        under = λ h. absurd (never closed holds own over' (ends refl refl) h);
        marks = way.marks;
      }
    where
      never : (closed holds : Bool) (own : End) (over' : Bool) → over' ≡ true →
          may_hear (phase_after closed LinkUp) (own_settled HeardOnLink holds (own_after closed LinkUp own)) over' ≡ true → ⊥
      never closed holds own over' e h =
          let no = at_end _ (at_bool _ (at_bool _ ends_own_checked closed) holds) own in
          let now = subst (λ o. may_hear (phase_after closed LinkUp)
          (own_settled HeardOnLink holds (own_after closed LinkUp own)) o ≡ true) e h in
          cc
  own_hears false o closed holds own other before over' x xs mark said up app opened unshut stays ends way =
      record {
        rest = way.rest;
        whole = way.whole ∙ ap (λ ys. ys ++ way.rest) (sym (append-nil up));
        under = λ h.
            let u = way.under (hears_by_own HeardOnLink closed holds (is_done_hold before) over' LinkUp own (λ e. cc) stays
            h) in
            record {
              tail = u.tail;
              is = u.is ∙ ap (λ b. (if b then x ∷ apps is_app xs else apps is_app xs) ++ u.tail) app;
              unmarked = u.unmarked;
              sure = u.sure;
            };
        marks = way.marks;
      }

  pub own_heard : (closed holds : Bool) (own other : End) (before after : Hold) (x : M) (xs ups : List M)
      (mark : Mark) (said up : List M) → is_shut own ≡ false → is_unmade before ≡ false →
      (is_up LinkUp ≡ true → is_open_end own ≡ true → is_done_hold before ≡ true → is_done_hold after ≡ true) →
      HandsUpHeard is_app before after x ups →
      Way is_app lost LinkUp own other (x ∷ xs) mark (is_done_hold before) said up →
      Way is_app lost (phase_after closed LinkUp) (own_settled HeardOnLink holds (own_after closed LinkUp own)) other xs mark
      (is_done_hold after) said (up ++ ups)
  own_heard closed holds own other before after x xs ups mark said up unshut made stays heard way =
      subst (λ ys. Way is_app lost (phase_after closed LinkUp) (own_settled HeardOnLink holds (own_after closed LinkUp own)) other
      xs mark (is_done_hold after) said (up ++ ys)) (sym heard.hands)
      (own_hears (is_app x) (is_open_hold before) closed holds own other before (is_done_hold after) x xs mark said up
      refl
      refl unshut stays (λ a o. heard.ends a o made) way)

  -- what comes to a shut end is dropped
  pub own_drops : (other : End) (x : M) (xs : List M) (mark : Mark) (over : Bool) (said up : List M) →
      Way is_app lost LinkUp Shut other (x ∷ xs) mark over said up → Way is_app lost LinkUp Shut other xs mark over said up
  own_drops other x xs mark over said up way =
      record { rest = way.rest; whole = way.whole; under = λ h. cc; marks = way.marks }
