-- Under build each input has a text.
use Rattle.std.proofs.Common.{◌≡◌, ◌⊎◌, inl, inr, ℕ, ◌+◌, Bool, true, false, ◌&&◌, List, [], ◌∷◌, ◌++◌, Option, Some}
use Rattle.std.proofs.Common.{None, length, is_some, codes, append_assoc, append-nil, ap, ◌∙◌, sym, refl, subst}
use Rattle.std.specs.Fmt.{decimal}
use Rattle.std.specs.Str.Lines.{lines}
use Rattle.std.proofs.lemmas.Bool.{iff_false, and_from}
use Rattle.hex.specs.Hex.{encode_lower}
use Rattle.dm_wire.specs.declared.avp.Avp.{Avp}
use Rattle.dm_wire.specs.declared.message.Header.{Header}
use Rattle.dm_wire.specs.declared.message.Message.{Message}
use Rattle.dm_wire.specs.declared.fault.WireFault.{WireFault}
use Rattle.dm_wire.specs.Spelling.{SpellsMessage}
use Rattle.dm_wire.specs.Refusal.{Refuses}
use Rattle.dm_wire.specs.Canonical.{canonical_message}
use Rattle.dm_wire.specs.AvpEquality.{message_eq, EqualMessages}
use Rattle.dm_wire.specs.OneAnswer.{NoMessageRefused, MessageOrFault}
use Rattle.dm_wire.specs.RoundTrip.{CanonicalSpells, ReadsBack}
use Rattle.dm_text.specs.Joined.{ContentIsJoined}
use Rattle.dm_text.specs.Lines.{trimmed, is_skipped, content}
use Rattle.dm_tool.specs.Messages.{TellsHeader, TellsAvp, TellsAll}
use Rattle.dm_tool.specs.Build.{BuildsOctets, BuildsTooLong, BuildsMessages, BuildsText}
use Rattle.dm_tool.specs.Progress.{last_message, BuiltSoFar, GoesOnNowhere}
use Rattle.dm_tool.proofs.Buildings.{builds-one, stands-end, stands-header, stands-avp, before_last, nowhere}
use Rattle.dm_tool.proofs.Contents.{content-one}
use Rattle.dm_tool.proofs.Decided.{are_octets, octets_at}
use Rattle.dm_tool.proofs.DecidedLines.{HeaderTold, header_told, AvpTold, avp_told}
use Rattle.dm_tool.proofs.CanonicalOctets.{hold_octets, append_both, message_octets}

-- what octets say, what messages are written as, and which lines stand for something
pub record WrittenLaws : Type 0 where
  pub message_or_fault : MessageOrFault
  pub canonical_spells : CanonicalSpells
  pub reads_back : ReadsBack
  pub equal_messages : EqualMessages
  pub no_message_refused : NoMessageRefused
  pub joined : ContentIsJoined

abbrev MessageBuilt : Message → Type 0
MessageBuilt m = (text : List ℕ) × (good : Bool) × (BuildsOctets m text good ⊎ BuildsTooLong m text good)

abbrev Built : List ℕ → Type 0
Built input = (text : List ℕ) × (good : Bool) × BuildsText input text good

module _ (laws : WrittenLaws) where
  too_long : (m : Message) → ((s : List ℕ) → SpellsMessage m s → ⊥) → MessageBuilt m
  too_long m none = (codes "fault TooLong" ++ 10 ∷ [], false, inr (none, refl, refl))

  -- where the canonical octets spell a message, it is this one, or this one has no spelling
  spelled : (m k : Message) → SpellsMessage k (canonical_message m) → MessageBuilt m
  spelled m k h = by (message_eq m k) refl where
    by : (v : Bool) → message_eq m k ≡ v → MessageBuilt m
    by true is =
        let Spells : Message → Type 0 = λ v. SpellsMessage v (canonical_message m) in (
          encode_lower (canonical_message m) ++ 10 ∷ [],
          true,
          inl (subst Spells (sym ((laws.equal_messages m k).0 is)) h, refl, refl),
        )
    by false is = too_long m (λ s told. iff_false (laws.equal_messages m k) is (sym (laws.reads_back m k s told h)))

  message_built : (m : Message) → hold_octets m.avps ≡ true → MessageBuilt m
  message_built m o =
      by (laws.message_or_fault (canonical_message m) (octets_at (canonical_message m) (message_octets m o))) where
        by : ((k : Message) × SpellsMessage k (canonical_message m)) ⊎
            ((f : WireFault) × Refuses (canonical_message m) f)
            → MessageBuilt m
        by (inl h) = spelled m h.0 h.1
        by (inr h) =
            too_long m
            (λ s told. laws.no_message_refused m (canonical_message m) h.0 (laws.canonical_spells m s told) h.1)

  last_built : (last : Option Header) (avps : List Avp) → hold_octets avps ≡ true
      → (text : List ℕ) × (good : Bool) × BuildsMessages (last_message last avps) text good
  last_built None avps o = ([], true, (refl, refl))
  last_built (Some h) avps o =
      let m : Message = record { header = h; avps = avps } in
      let built = message_built m o in (built.0, built.1, builds-one m built.0 built.1 built.2)

  -- no lines are left
  at_end : (input : List ℕ) (before : List (List ℕ)) (last : Option Header) (avps : List Avp) (text : List ℕ)
      (good : Bool) → lines input ≡ before ++ []
      → BuiltSoFar (content before) last avps text good → hold_octets avps ≡ true → Built input
  at_end input before last avps text good whole stands o =
      let b = last_built last avps o in
      let e = stands-end (content before) last avps text b.0 (text ++ b.0) good b.1
      (good && b.1) refl refl b.2 stands in
      let Lines : List (List ℕ) → Type 0 = λ v. TellsAll e.0 (content v) in
      (text ++ b.0, good && b.1, inl (e.0, subst Lines (sym (whole ∙ append-nil before)) e.1, e.2))

  -- what is built behind lines with whatever they made
  abbrev GoesOn : List ℕ → List (List ℕ) → Type 0
  GoesOn input before =
      (last : Option Header) (avps : List Avp) (text : List ℕ) (good : Bool)
      → BuiltSoFar (content before) last avps text good → hold_octets avps ≡ true → Built input

  module _ (input : List ℕ) (before after : List (List ℕ)) (line : List ℕ)
      (whole : lines input ≡ before ++ line ∷ after)
      (later : GoesOn input (before ++ line ∷ [])) where
    misplaced : (last : Option Header) (avps : List Avp) (text : List ℕ) (good : Bool)
        → BuiltSoFar (content before) last avps text good
        → is_skipped (trimmed line) ≡ false → GoesOnNowhere last (trimmed line) → Built input
    misplaced last avps text good stands counts none =
        let Text : List Message → Type 0 = λ l. BuildsMessages l text good in (
          text ++ codes "fault syntax " ++ decimal (length before + 1) ++ 10 ∷ [],
          false,
          inr (
            record {
              before = before;
              line = line;
              after = after;
              whole = whole;
              stands = counts;
              messages = stands.0 ++ last_message last avps;
              told = stands.1;
              misplaced = nowhere stands.0 last avps (trimmed line) stands.3 none;
              built = text;
              good = good;
              builds = subst Text (sym (before_last stands.0 last avps stands.3)) stands.2;
              text_is = refl;
            },
            refl,
          ),
        )

    -- the line stands behind those before it
    content_is : is_skipped (trimmed line) ≡ false → content before ++ trimmed line ∷ [] ≡ content (before ++ line ∷ [])
    content_is counts =
        sym (laws.joined before (line ∷ []) ∙ ap (λ v. content before ++ v) (content-one line false counts))

    of_header : (h : Header) → TellsHeader h (trimmed line) → is_skipped (trimmed line) ≡ false → GoesOn input before
    of_header h told counts last avps text good stands o =
        let b = last_built last avps o in
        let next = stands-header (content before) (trimmed line) h last avps [] text b.0 (text ++ b.0) good b.1
        (good && b.1) told refl refl refl b.2 stands in
        let Lines : List (List ℕ) → Type 0 = λ v. BuiltSoFar v (Some h) [] (text ++ b.0) (good && b.1) in
        later (Some h) [] (text ++ b.0) (good && b.1) (subst Lines (content_is counts) next) refl

    of_avp : (a : Avp) → TellsAvp a (trimmed line) → are_octets a.bytes ≡ true → is_skipped (trimmed line) ≡ false
        → (last : Option Header) (avps : List Avp) (text : List ℕ) (good : Bool) → is_some last ≡ true
        → BuiltSoFar (content before) last avps text good → hold_octets avps ≡ true → Built input
    of_avp a told octets counts last avps text good some stands o =
        let next = stands-avp (content before) (trimmed line) last a avps
        (avps ++ a ∷ []) text good some told refl stands in
        let Lines : List (List ℕ) → Type 0 = λ v. BuiltSoFar v last (avps ++ a ∷ []) text good in
        later last (avps ++ a ∷ []) text good (subst Lines (content_is counts) next)
        (append_both (λ v. are_octets v.bytes) avps (a ∷ []) o (and_from (are_octets a.bytes) true octets refl))

    no_header : ((h : Header) → TellsHeader h (trimmed line) → ⊥) → AvpTold (trimmed line)
        → is_skipped (trimmed line) ≡ false → GoesOn input before
    no_header none (inl a) counts None avps text good stands o =
        misplaced None avps text good stands counts (none, λ some. absurd (some refl))
    no_header none (inl a) counts (Some h) avps text good stands o =
        of_avp a.0 a.1 a.2 counts (Some h) avps text good refl stands o
    no_header none (inr other) counts last avps text good stands o =
        misplaced last avps text good stands counts (none, λ some. other)

    of_line : HeaderTold (trimmed line) → is_skipped (trimmed line) ≡ false → GoesOn input before
    of_line (inl h) counts = of_header h.0 h.1 counts
    of_line (inr none) counts = no_header none (avp_told (trimmed line)) counts

    skipped : is_skipped (trimmed line) ≡ true → GoesOn input before
    skipped is last avps text good stands o =
        let same = laws.joined before (line ∷ []) ∙ ap (λ v. content before ++ v) (content-one line true is)
        ∙ append-nil (content before) in
        let Lines : List (List ℕ) → Type 0 = λ v. BuiltSoFar v last avps text good in
        later last avps text good (subst Lines (sym same) stands) o

    next_line : GoesOn input before
    next_line = by (is_skipped (trimmed line)) refl where
      by : (v : Bool) → is_skipped (trimmed line) ≡ v → GoesOn input before
      by true is = skipped is
      by false is = of_line (header_told (trimmed line)) is

  from_line : (input : List ℕ) (after before : List (List ℕ)) → lines input ≡ before ++ after → GoesOn input before
  from_line input [] before whole last avps text good stands o = at_end input before last avps text good whole stands o
  from_line input (line ∷ after) before whole last avps text good stands o =
      let later = from_line input after (before ++ line ∷ []) (whole ∙ sym (append_assoc before (line ∷ []) after)) in
      next_line input before after line whole later last avps text good stands o

  pub some_built : (input : List ℕ) → Built input
  some_built input = from_line input (lines input) [] refl None [] [] true ([], refl, (refl, refl), λ none. refl) refl
