-- What is said of lines in turn is what is said of them all.
use Rattle.std.proofs.Common.{◌≡◌, inl, inr, ℕ, zero, suc, ◌+◌, Bool, true, false, Option, Some, None, List, [], ◌∷◌, ◌++◌, codes, flat_map}
use Rattle.std.proofs.Common.{append_assoc, append-nil, ap, sym, ◌∙◌, refl}
use Rattle.std.proofs.lemmas.List.Concat.{flat_map-append}
use Rattle.std.specs.Bool.{⊤}
use Rattle.std.specs.Str.Lines.{lines}
use Rattle.dm_wire.specs.declared.avp.Avp.{Avp}
use Rattle.dm_wire.specs.declared.message.Header.{Header}
use Rattle.dm_wire.specs.declared.message.Message.{Message}
use Rattle.dm_wire.specs.Members.{members}
use Rattle.dm_value.specs.declared.avp_type.AvpType.{AvpType}
use Rattle.dm_value.specs.declared.avp_type.AvpType.TheVariants as kinds
use Rattle.dm_tables.specs.declared.def.AvpDef.{AvpDef}
use Rattle.dm_tables.specs.declared.def.CommandDef.{CommandDef}
use Rattle.dm_tables.specs.Definitions.{Definitions}
use Rattle.dm_dict.specs.Located.{Located, located_faults}
use Rattle.dm_dict.specs.Rules.{definition}
use Rattle.dm_view.specs.Check.{check_view, fault_line, verdict_words, step_text, failed_view, failed_length, without_data}
use Rattle.dm_view.specs.Results.{result_text}
use Rattle.dm_view.specs.View.{message_view, header_view, command_name, flag_words, both_text, data_view, front_view, command_of, avps_view, avps_view_by, avp_view, behind_view, kind_view, group_view, members_view, groups_shown}
use Rattle.dm_view.specs.Words.{indented}
use Rattle.dm_wire.specs.Printed.{data_text}
use Rattle.std.specs.Fmt.{decimal}
use Rattle.std.specs.Option.{option_map}
use Rattle.dm_view_lines.specs.Reasons.{refusal_sentence}
use Rattle.dm_view_lines.specs.declared.message_reports.Task.{Task}
use Rattle.dm_view_lines.specs.declared.message_reports.Task.TheVariants.{Show, Check, ShowJson, CheckJson}
use Rattle.dm_view_lines.specs.declared.tally.Tally.{Tally}
use Rattle.dm_view_lines.specs.declared.line_speaker.LineSpeaker.{LineSpeaker}
use Rattle.dm_view_lines.specs.Colours.{styled, line_coloured}
use Rattle.dm_view_lines.specs.Counts.{no_lines, tally_of, tallied}
use Rattle.dm_view_lines.specs.Digits.{octets_of_line}
use Rattle.dm_view_lines.specs.Lines.{SaysLine, SaysLines}
use Rattle.dm_view_lines.specs.Fronts.{SaidFront, by_number}
use Rattle.dm_view_lines.specs.Said.{SaysFronted, SaysOctets, numbered, before_refusal, front_shown, front_checked}
use Rattle.dm_view_lines.specs.Speakers.{CountsOneLine}
use Rattle.dm_view_lines.specs.LineEnds.{HasLineEnds}
use Rattle.dm_view_lines.specs.Turns.{SaysInTurn}
use Rattle.dm_view_lines.proofs.Seams.{whole-joins, whole-append}
use Rattle.dm_view_lines.proofs.Steps.{added-assoc, added-none}

abbrev Ends : List ℕ → Type 0
Ends s = (front : List ℕ) × (s ≡ front ++ 10 ∷ [])

ends-back : (a b : List ℕ) → Ends b → Ends (a ++ b)
ends-back a b h = (a ++ h.0, ap (λ v. a ++ v) h.1 ∙ sym (append_assoc a h.0 (10 ∷ [])))

ends-front : (a w : List ℕ) → Ends a → HasLineEnds w → Ends (a ++ w)
ends-front a w h (inl none) = (h.0, ap (λ v. a ++ v) none ∙ append-nil a ∙ h.1)
ends-front a w h (inr k) = ends-back a w k

feed : Ends (10 ∷ [])
feed = ([], refl)

-- words, then others, and the end of the line
words-end : (a b : List ℕ) → Ends (a ++ (b ++ 10 ∷ []))
words-end a b = ends-back a (b ++ 10 ∷ []) (ends-back b (10 ∷ []) feed)

whole-all : {A : Type 0} (f : A → List ℕ) → ((x : A) → Ends (f x)) → (l : List A) → HasLineEnds (flat_map f l)
whole-all f each [] = inl refl
whole-all f each (x ∷ l) = inr (ends-front (f x) (flat_map f l) (each x) (whole-all f each l))

-- ---- a message

kind-ends : (groups : List ℕ → List ℕ) → ((s : List ℕ) → Ends (groups s)) → (kind : AvpType) (f : AvpDef) (s : List ℕ)
    → Ends (kind_view groups kind f s)
kind-ends groups each kinds.OctetString f s = ends-back (data_view f s) (10 ∷ []) feed
kind-ends groups each kinds.Integer32 f s = ends-back (data_view f s) (10 ∷ []) feed
kind-ends groups each kinds.Integer64 f s = ends-back (data_view f s) (10 ∷ []) feed
kind-ends groups each kinds.Unsigned32 f s = ends-back (data_view f s) (10 ∷ []) feed
kind-ends groups each kinds.Unsigned64 f s = ends-back (data_view f s) (10 ∷ []) feed
kind-ends groups each kinds.Address f s = ends-back (data_view f s) (10 ∷ []) feed
kind-ends groups each kinds.Time f s = ends-back (data_view f s) (10 ∷ []) feed
kind-ends groups each kinds.UTF8String f s = ends-back (data_view f s) (10 ∷ []) feed
kind-ends groups each kinds.DiameterIdentity f s = ends-back (data_view f s) (10 ∷ []) feed
kind-ends groups each kinds.DiameterURI f s = ends-back (data_view f s) (10 ∷ []) feed
kind-ends groups each kinds.Enumerated f s = ends-back (data_view f s) (10 ∷ []) feed
kind-ends groups each kinds.Grouped f s = each s

behind-ends : (groups : List ℕ → List ℕ) → ((s : List ℕ) → Ends (groups s)) → (f : Option AvpDef) (s : List ℕ)
    → Ends (behind_view groups f s)
behind-ends groups each None s = words-end (codes " ") (data_text s)
behind-ends groups each (Some f) s = kind-ends groups each f.kind f s

avps-whole : (groups : List ℕ → List ℕ) → ((s : List ℕ) → Ends (groups s)) → (level : ℕ) (avps : List AvpDef)
    (l : List Avp) → HasLineEnds (avps_view_by groups level avps l)
avps-whole groups each level avps l =
    whole-all (λ a. avp_view groups level (definition avps a) a)
    (λ a. let f = definition avps a in
    ends-back (indented level ++ front_view f a) (behind_view groups f a.bytes) (behind-ends groups each f a.bytes)) l

group-ends : (n level : ℕ) (avps : List AvpDef) (s : List ℕ) → Ends (group_view n level avps s)
group-ends zero level avps s = words-end (codes " too deep ") (data_text s)
group-ends (suc n) level avps s =
    by (members s) (λ l. avps-whole (group_view n (level + 1) avps) (group-ends n (level + 1) avps) level avps l) where
      by : (o : Option (List Avp)) → ((l : List Avp) → HasLineEnds (avps_view_by (group_view n (level + 1) avps) level avps l))
          → Ends (members_view (avps_view_by (group_view n (level + 1) avps) level avps) s o)
      by None each = words-end (codes " wrong length ") (data_text s)
      by (Some l) each =
          ends-front (10 ∷ []) (avps_view_by (group_view n (level + 1) avps) level avps l) feed (each l)

header-ends : (c : Option CommandDef) (h : Header) → Ends (header_view c h)
unfolding header_view
header-ends c h =
    ends-back
    (command_name c ++ codes " " ++ decimal h.command ++ flag_words h ++ codes ", application " ++ decimal h.application
    ++ codes ", hop-by-hop " ++ both_text h.hop_id ++ codes ", end-to-end " ++ both_text h.end_id)
    (10 ∷ []) feed

message-ends : (d : Definitions) (m : Message) → Ends (message_view d m)
unfolding message_view
message-ends d m =
    ends-front (header_view (command_of d m.header) m.header) (avps_view groups_shown 1 d.avps m.avps)
    (header-ends (command_of d m.header) m.header)
    (avps-whole (group_view groups_shown (1 + 1) d.avps) (group-ends groups_shown (1 + 1) d.avps) 1 d.avps m.avps)

fault-ends : (avps : List AvpDef) (f : Located) → Ends (fault_line avps f)
unfolding fault_line
fault-ends avps f =
    ends-back (codes "  ") _ (ends-back (result_text f.fault.code) _ (words-end (flat_map (step_text avps) f.path)
    (failed_view avps f.fault.code (failed_length f.fault.failed) (option_map without_data f.fault.failed))))

check-ends : (d : Definitions) (m : Message) → Ends (check_view d m)
unfolding check_view
check-ends d m =
    ends-back (verdict_words (located_faults d m)) _
    (ends-front (header_view (command_of d m.header) m.header) (flat_map (fault_line d.avps) (located_faults d m))
    (header-ends (command_of d m.header) m.header) (whole-all (fault_line d.avps) (fault-ends d.avps) (located_faults d m)))

-- ---- a line

abbrev pub AsLines : Task → List ℕ → Type 0
AsLines Show s = HasLineEnds s
AsLines Check s = HasLineEnds s
AsLines task s = ⊤

ended_as : (s t : List ℕ) → t ≡ s → Ends s → HasLineEnds t
ended_as s t is h = inr (h.0, is ∙ h.1)

numbered-end : (n : ℕ) (s t : List ℕ) → t ≡ numbered n s → Ends s → HasLineEnds t
numbered-end n s t is h =
    ended_as (numbered n s) t is (ends-back (decimal n ++ codes ": ") s h)

fronted-end : (words s t : List ℕ) → t ≡ words ++ s → Ends s → HasLineEnds t
fronted-end words s t is h = ended_as (words ++ s) t is (ends-back words s h)

fronted-whole : (task : Task) (d : Definitions) (front : SaidFront) (s text : List ℕ) (good : Bool)
    → SaysFronted task d front s text good → AsLines task text
fronted-whole Show d front s text good (inl h) =
    fronted-end front.words (message_view d h.0) text h.2 (message-ends d h.0)
fronted-whole Check d front s text good (inl h) =
    fronted-end front.words (check_view d h.0) text h.2 (check-ends d h.0)
fronted-whole Show d front s text good (inr h) =
    fronted-end front.words (before_refusal (front_shown d) s h.0 ++ refusal_sentence h.0 ++ 10 ∷ []) text h.2
    (ends-back (before_refusal (front_shown d) s h.0 ++ refusal_sentence h.0) (10 ∷ []) feed)
fronted-whole Check d front s text good (inr h) =
    fronted-end front.words (before_refusal (front_checked d) s h.0 ++ refusal_sentence h.0 ++ 10 ∷ []) text h.2
    (ends-back (before_refusal (front_checked d) s h.0 ++ refusal_sentence h.0) (10 ∷ []) feed)
fronted-whole ShowJson d front s text good h = tt
fronted-whole CheckJson d front s text good h = tt

octets-whole : (task : Task) (d : Definitions) (n : ℕ) (s text : List ℕ) (good : Bool)
    → SaysOctets task d n s text good → AsLines task text
octets-whole task d n s text good h = fronted-whole task d (by_number n) s text good h

bad-whole : (task : Task) (d : Definitions) (n : ℕ) (text : List ℕ) (verdict : Option Bool)
    → SaysLine task d n None text verdict → AsLines task text
bad-whole Show d n text verdict h =
    numbered-end n (codes "no hexadecimal" ++ 10 ∷ []) text h.0 (ends-back (codes "no hexadecimal") (10 ∷ []) feed)
bad-whole Check d n text verdict h =
    numbered-end n (codes "no hexadecimal" ++ 10 ∷ []) text h.0 (ends-back (codes "no hexadecimal") (10 ∷ []) feed)
bad-whole ShowJson d n text verdict h = tt
bad-whole CheckJson d n text verdict h = tt

pub none-whole : (task : Task) (text : List ℕ) → text ≡ [] → AsLines task text
none-whole Show text is = inl is
none-whole Check text is = inl is
none-whole ShowJson text is = tt
none-whole CheckJson text is = tt

pub line-whole : (task : Task) (d : Definitions) (n : ℕ) (octets : Option (List ℕ)) (text : List ℕ)
    (verdict : Option Bool) → SaysLine task d n octets text verdict → AsLines task text
line-whole task d n None text verdict h = bad-whole task d n text verdict h
line-whole task d n (Some []) text verdict h = none-whole task text h.0
line-whole task d n (Some (b ∷ s)) text verdict h = octets-whole task d n (b ∷ s) text h.0 h.1

pub lines-append : (task : Task) (a b : List ℕ) → AsLines task a → AsLines task b → AsLines task (a ++ b)
lines-append Show a b h k = whole-append a b h k
lines-append Check a b h k = whole-append a b h k
lines-append ShowJson a b h k = tt
lines-append CheckJson a b h k = tt

-- ---- colours

colour-join : (task : Task) (a b : List ℕ) → HasLineEnds a
    → flat_map (line_coloured task) (lines (a ++ b))
    ≡ flat_map (line_coloured task) (lines a) ++ flat_map (line_coloured task) (lines b)
colour-join task a b whole =
    ap (flat_map (line_coloured task)) (whole-joins a whole b) ∙ flat_map-append (line_coloured task) (lines a) (lines b)

pub styled-join : (coloured : Bool) (task : Task) (a b : List ℕ) → AsLines task a
    → styled coloured task (a ++ b) ≡ styled coloured task a ++ styled coloured task b
styled-join false task a b h = refl
styled-join true Show a b h = colour-join Show a b h
styled-join true Check a b h = colour-join Check a b h
styled-join true ShowJson a b h = refl
styled-join true CheckJson a b h = refl

pub styled-none : (coloured : Bool) (task : Task) → styled coloured task [] ≡ []
styled-none false task = refl
styled-none true Show = refl
styled-none true Check = refl
styled-none true ShowJson = refl
styled-none true CheckJson = refl

-- ---- lines in turn

-- behind so many lines what is said of these, and how many are good and bad
pub record SaidOf (coloured : Bool) (task : Task) (d : Definitions) (n : ℕ) (l : List (List ℕ)) (text : List ℕ)
    (before after : Tally) : Type 0 where
  pub plain : List ℕ
  pub told : Tally
  pub says : SaysLines task d (n + 1) l plain told
  pub whole : AsLines task plain
  pub text_is : text ≡ styled coloured task plain
  pub counted : after ≡ tallied before told

pub said_of : (coloured : Bool) (task : Task) (d : Definitions) (n : ℕ) (s t : LineSpeaker) (l : List (List ℕ))
    (text : List ℕ) → SaysInTurn (styled coloured task) (CountsOneLine d task) n s l t text
    → SaidOf coloured task d n l text s.tally t.tally
said_of coloured task d n s t [] text h = record {
  plain = [];
  told = no_lines;
  says = (refl, refl);
  whole = none-whole task [] refl;
  text_is = h.1 ∙ sym (styled-none coloured task);
  counted = ap (λ v. v.tally) h.0 ∙ sym (added-none s.tally);
}
said_of coloured task d n s t (line ∷ l) text h =
    let said = h.3 in
    let later = said_of coloured task d (n + 1) h.0 t l h.2 h.4 in
    let whole = line-whole task d (n + 1) (octets_of_line line) h.1 said.0 said.1 in
    record {
      plain = h.1 ++ later.plain;
      told = tallied (tally_of said.0) later.told;
      says = record {
        first = h.1;
        rest = later.plain;
        verdict = said.0;
        others = later.told;
        line = said.1;
        behind = later.says;
        text_is = refl;
        tally_is = refl;
      };
      whole = lines-append task h.1 later.plain whole later.whole;
      text_is = h.5 ∙ ap (λ v. styled coloured task h.1 ++ v) later.text_is
          ∙ sym (styled-join coloured task h.1 later.plain whole);
      counted = later.counted ∙ ap (λ v. tallied v later.told) said.2
          ∙ sym (added-assoc s.tally (tally_of said.0) later.told);
    }
