-- What stands behind one more line.
use Rattle.std.proofs.Common.{◌≡◌, ◌⊎◌, inl, inr, ◌&&◌, Bool, true, false, Option, Some, None, is_some, List, [], ◌∷◌}
use Rattle.std.proofs.Common.{◌++◌, ℕ, codes, append_assoc, append-nil, ap, sym, ◌∙◌, refl, subst}
use Rattle.hex.specs.Hex.{encode_lower}
use Rattle.dm_wire.specs.declared.avp.Avp.{Avp}
use Rattle.dm_wire.specs.declared.message.Header.{Header}
use Rattle.dm_wire.specs.declared.message.Message.{Message}
use Rattle.dm_wire.specs.declared.fault.WireFault.{WireFault}
use Rattle.dm_wire.specs.declared.fault.WireFault.TheVariants.{TooLong}
use Rattle.dm_wire.specs.Spelling.{SpellsMessage}
use Rattle.dm_wire.specs.Canonical.{canonical_message}
use Rattle.dm_tool.specs.Text.{fault_text}
use Rattle.dm_tool.specs.Messages.{TellsHeader, TellsAvp, TellsAll}
use Rattle.dm_tool.specs.Build.{BuildsOctets, BuildsTooLong, BuildsMessages, but_last, IsOutOfPlace}
use Rattle.dm_tool.specs.Progress.{last_message, BuiltSoFar, GoesOnNowhere}
use mathlib.Core.Bool.{and_assoc, and-true}
use Rattle.dm_tool.proofs.Tellings.{tells-one, tells-append, tells-split, message-push}

-- the text of a message that has a spelling
pub built_octets : (m : Message) (text new octets view : List ℕ) → octets ≡ canonical_message m
    → SpellsMessage m octets → view ≡ octets → new ≡ text ++ (encode_lower view ++ 10 ∷ [])
    → (more : List ℕ) × (new ≡ text ++ more) × (BuildsOctets m more true ⊎ BuildsTooLong m more true)
built_octets m text new octets view is spelled same h =
    let Spells : List ℕ → Type 0 = λ s. SpellsMessage m s in (
      encode_lower (canonical_message m) ++ 10 ∷ [],
      h ∙ ap (λ v. text ++ (encode_lower v ++ 10 ∷ [])) (same ∙ is),
      inl (subst Spells is spelled, refl, refl),
    )

-- the text of a message that has none
pub built_fault : (m : Message) (f : WireFault) (text mid new : List ℕ) → f ≡ TooLong
    → ((s : List ℕ) → SpellsMessage m s → ⊥) → mid ≡ text ++ fault_text f → new ≡ mid ++ 10 ∷ []
    → (more : List ℕ) × (new ≡ text ++ more) × (BuildsOctets m more false ⊎ BuildsTooLong m more false)
unfolding fault_text
built_fault m f text mid new is unspelled h k = (
  codes "fault TooLong" ++ 10 ∷ [],
  k ∙ ap (λ v. v ++ 10 ∷ []) (h ∙ ap (λ v. text ++ fault_text v) is) ∙
      append_assoc text (codes "fault TooLong") (10 ∷ []),
  inr (unspelled, refl, refl),
)

builds-append : (l k : List Message) (t u : List ℕ) (g f : Bool) → BuildsMessages l t g → BuildsMessages k u f
    → BuildsMessages (l ++ k) (t ++ u) (g && f)
builds-append [] k t u g f h b =
    let Text : List ℕ → Type 0 = λ v. BuildsMessages k (v ++ u) (g && f) in
    let Good : Bool → Type 0 = λ v. BuildsMessages k u (v && f) in
    subst Text (sym h.0) (subst Good (sym h.1) b)
builds-append (m ∷ l) k t u g f h b =
    record {
      first = h.first;
      rest = h.rest ++ u;
      fine = h.fine;
      others = h.others && f;
      head = h.head;
      tail = builds-append l k h.rest u h.others f h.tail b;
      text_is = ap (λ v. v ++ u) h.text_is ∙ append_assoc h.first h.rest u;
      good_is = ap (λ v. v && f) h.good_is ∙ and_assoc h.fine h.others f;
    }

builds-more : (l k : List Message) (text more new : List ℕ) (good fine new_good : Bool) → BuildsMessages l text good
    → BuildsMessages k more fine → new ≡ text ++ more → new_good ≡ (good && fine) → BuildsMessages (l ++ k) new new_good
builds-more l k text more new good fine new_good h b is good_is =
    let Text : List ℕ → Type 0 = λ v. BuildsMessages (l ++ k) v new_good in
    let Good : Bool → Type 0 = λ v. BuildsMessages (l ++ k) (text ++ more) v in
    subst Text (sym is) (subst Good (sym good_is) (builds-append l k text more good fine h b))

pub builds-one : (m : Message) (text : List ℕ) (good : Bool) → BuildsOctets m text good ⊎ BuildsTooLong m text good
    → BuildsMessages (m ∷ []) text good
builds-one m text good h =
    record {
      first = text;
      rest = [];
      fine = good;
      others = true;
      head = h;
      tail = (refl, refl);
      text_is = sym (append-nil text);
      good_is = sym (and-true good);
    }

-- all messages are printed
pub stands-end : (lines : List (List ℕ)) (last : Option Header) (avps : List Avp) (text more new : List ℕ)
    (good fine new_good : Bool) → new ≡ text ++ more → new_good ≡ (good && fine)
    → BuildsMessages (last_message last avps) more fine → BuiltSoFar lines last avps text good
    → (l : List Message) × TellsAll l lines × BuildsMessages l new new_good
stands-end lines last avps text more new good fine new_good is good_is b s = (
  s.0 ++ last_message last avps,
  s.1,
  builds-more s.0 (last_message last avps) text more new good fine new_good s.2 b is good_is,
)

-- a message begins, and the last one is printed
pub stands-header : (lines : List (List ℕ)) (line : List ℕ) (h : Header) (last : Option Header) (avps none : List Avp)
    (text more new : List ℕ) (good fine new_good : Bool) → TellsHeader h line → none ≡ []
    → new ≡ text ++ more → new_good ≡ (good && fine) → BuildsMessages (last_message last avps) more fine
    → BuiltSoFar lines last avps text good → BuiltSoFar (lines ++ line ∷ []) (Some h) none new new_good
stands-header lines line h last avps none text more new good fine new_good told empty is good_is b s =
    let all = stands-end lines last avps text more new good fine new_good is good_is b s in
    let Avps : List Avp → Type 0 = λ l. BuiltSoFar (lines ++ line ∷ []) (Some h) l new new_good in
    subst Avps (sym empty) (
      all.0,
      tells-append all.0 (record { header = h; avps = [] } ∷ []) lines (line ∷ []) all.1
          (tells-one (record { header = h; avps = [] }) (line ∷ []) (told, tt)),
      all.2,
      λ e. cc,
    )

-- the last message goes on
pub stands-avp : (lines : List (List ℕ)) (line : List ℕ) (last : Option Header) (a : Avp) (avps new : List Avp)
    (text : List ℕ) (good : Bool) → is_some last ≡ true → TellsAvp a line → new ≡ avps ++ a ∷ []
    → BuiltSoFar lines last avps text good → BuiltSoFar (lines ++ line ∷ []) last new text good
stands-avp lines line None a avps new text good some told is s = absurd (cc)
stands-avp lines line (Some h) a avps new text good some told is s =
    let parts = tells-split s.0 (record { header = h; avps = avps } ∷ []) lines s.1 in
    let cut = parts.4 in
    let more = message-push h avps a cut.0 line cut.3 told in
    let all = tells-append s.0 (record { header = h; avps = avps ++ a ∷ [] } ∷ []) parts.0 (cut.0 ++ line ∷ []) parts.3
    (tells-one (record { header = h; avps = avps ++ a ∷ [] }) (cut.0 ++ line ∷ []) more) in
    let cut_is : parts.1 ≡ cut.0 = cut.2 ∙ ap (λ v. cut.0 ++ v) cut.4 ∙ append-nil cut.0 in
    let lines_is : parts.0 ++ (cut.0 ++ line ∷ []) ≡ lines ++ line ∷ [] = sym (append_assoc parts.0 cut.0 (line ∷ []))
    ∙ ap (λ v. v ++ line ∷ []) (sym (parts.2 ∙ ap (λ v. parts.0 ++ v) cut_is)) in
    let Lines : List (List ℕ) → Type 0 = λ v. TellsAll (s.0 ++ record { header = h; avps = avps ++ a ∷ [] } ∷ []) v in
    let Avps : List Avp → Type 0 = λ l. BuiltSoFar (lines ++ line ∷ []) (Some h) l text good in
    subst Avps (sym is) (s.0, subst Lines lines_is all, s.2, s.3)

-- the messages before the last one
but_last-push : (l : List Message) (m : Message) → but_last (l ++ m ∷ []) ≡ l
but_last-push [] m = refl
but_last-push (k ∷ []) m = refl
but_last-push (k ∷ j ∷ l) m = ap (λ v. k ∷ v) (but_last-push (j ∷ l) m)

pub before_last : (done : List Message) (last : Option Header) (avps : List Avp) → (last ≡ None → done ≡ [])
    → but_last (done ++ last_message last avps) ≡ done
before_last done None avps none = ap (λ l. but_last (l ++ [])) (none refl) ∙ sym (none refl)
before_last done (Some h) avps none = but_last-push done (record { header = h; avps = avps })

pub nowhere : (done : List Message) (last : Option Header) (avps : List Avp) (line : List ℕ)
    → (last ≡ None → done ≡ []) → GoesOnNowhere last line → IsOutOfPlace (done ++ last_message last avps) line
nowhere done last avps line none h =
    (h.0, λ some a. h.1 (λ is. some (ap (λ o. done ++ last_message o avps) is ∙ append-nil done ∙ none is)) a)

-- the last message is printed
pub built_last : (last : Option Header) (h : Header) (avps view : List Avp) (text : List ℕ) (good : Bool)
    → last ≡ Some h → view ≡ avps
    → BuildsOctets (record { header = h; avps = view }) text good ⊎
    BuildsTooLong (record { header = h; avps = view }) text good → BuildsMessages (last_message last avps) text good
built_last last h avps view text good is same b =
    let Last : Option Header → Type 0 = λ o. BuildsMessages (last_message o avps) text good in
    let Avps : List Avp → Type 0 = λ l. BuildsMessages (record { header = h; avps = l } ∷ []) text good in
    subst Last (sym is) (subst Avps same (builds-one (record { header = h; avps = view }) text good b))

pub built_none : (last : Option Header) (avps : List Avp) → last ≡ None
    → BuildsMessages (last_message last avps) [] true
built_none last avps is =
    let Last : Option Header → Type 0 = λ o. BuildsMessages (last_message o avps) [] true in subst Last (sym is)
    (refl, refl)
