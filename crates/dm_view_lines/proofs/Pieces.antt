-- What is said of the frames of a stream, from what is said of those of its pieces.
use Rattle.std.proofs.Common.{◌≡◌, ◌+◌, ◌++◌, ◌∷◌, [], ℕ, suc, List, Bool, true, false, Option, Some, None, length, append_assoc, append-nil, arith, ap, sym, ◌∙◌, refl, subst, map}
use Rattle.std.specs.List.{AllByRecursion, concat}
use Rattle.std.proofs.lemmas.List.{map-append, length-map}
use Rattle.dm_framer.specs.declared.fault.FrameFault.{FrameFault}
use Rattle.dm_framer.specs.Frames.{HasFault, IsFrame, IsPartial}
use Rattle.dm_framer.specs.Laws.{Cuts, FrameOrFault}
use Rattle.dm_wire.specs.Codes.{max_message_len}
use Rattle.dm_tables.specs.Definitions.{Definitions}
use Rattle.dm_view_lines.specs.declared.message_reports.Task.{Task}
use Rattle.dm_view_lines.specs.declared.tally.Tally.{Tally}
use Rattle.dm_view_lines.specs.Counts.{no_lines, tally_of, tallied}
use Rattle.dm_view_lines.specs.Frames.{SaysFrames}
use Rattle.dm_view_lines.specs.Lines.{SaysLine, SaysEach}
use Rattle.dm_view_lines.specs.Said.{SaysOctets}
use Rattle.dm_view_lines.proofs.Steps.{added-assoc, added-none, none-added}

-- the number behind those that were counted
abbrev pub behind : Tally → ℕ
behind t = t.good + t.bad + 1

-- whatever is said of the frames of the octets that are held, behind what was said so far it is what is said of all
abbrev pub Continues : Task → Definitions → List ℕ → List ℕ → Tally → Tally → List ℕ → Tally → Type 0
Continues task d all held first tally so told =
    (rest : List ℕ) (fault : Option FrameFault) (more : List ℕ) (others : Tally)
    → SaysFrames task d (behind tally) held rest fault more others
    → SaysFrames task d (behind first) all rest fault (so ++ more) (tallied told others)

-- nothing was said so far
pub continues-none : (task : Task) (d : Definitions) (s : List ℕ) (tally : Tally) → Continues task d s s tally tally [] no_lines
continues-none task d s tally rest fault more others h =
    let Counted : Tally → Type 0 = λ v. SaysFrames task d (behind tally) s rest fault more v in
    subst Counted (sym (none-added others)) h

-- nothing is said of what is held
pub continues-end : (task : Task) (d : Definitions) (all held rest so : List ℕ) (fault : Option FrameFault)
    (first tally told : Tally) → Continues task d all held first tally so told
    → SaysFrames task d (behind tally) held rest fault [] no_lines
    → SaysFrames task d (behind first) all rest fault so told
continues-end task d all held rest so fault first tally told before h =
    let Text : List ℕ → Type 0 = λ v. SaysFrames task d (behind first) all rest fault v told in
    let Counted : Tally → Type 0 = λ v. SaysFrames task d (behind first) all rest fault (so ++ []) v in
    subst Text (append-nil so) (subst Counted (added-none told) (before rest fault [] no_lines h))

-- of a frame its line is said
said-frame : (task : Task) (d : Definitions) (n : ℕ) (s said : List ℕ) (good : Bool) → IsFrame max_message_len s
    → SaysOctets task d n s said good → SaysLine task d n (Some s) said (Some good)
said-frame task d n [] said good is h = absurd (let least = is.least in omega (arith, least))
said-frame task d n (b ∷ s) said good is h = (good, h, refl)

behind-next : (t : Tally) (good : Bool) → behind t + 1 ≡ behind (tallied t (tally_of (Some good)))
behind-next t true = omega arith
behind-next t false = omega arith

-- a frame more
frame-more : (task : Task) (d : Definitions) (s held message rest : List ℕ) (fault : Option FrameFault) (t : Tally)
    (said more : List ℕ) (good : Bool) (others : Tally) → s ≡ message ++ held → IsFrame max_message_len message
    → SaysOctets task d (behind t) message said good
    → SaysFrames task d (behind (tallied t (tally_of (Some good)))) held rest fault more others
    → SaysFrames task d (behind t) s rest fault (said ++ more) (tallied (tally_of (Some good)) others)
frame-more task d s held message rest fault t said more good others whole is h later =
    let Each : ℕ → Type 0 = λ n. SaysEach task d n (map Some later.frames) more others in
    record {
      frames = message ∷ later.frames;
      framed = record {
        whole = whole ∙ ap (λ v. message ++ v) later.framed.whole ∙ sym (append_assoc message (concat later.frames) rest);
        each = (is, later.framed.each);
        longest = later.framed.longest;
        fault_is = later.framed.fault_is;
      };
      each = record {
        first = said;
        rest = more;
        verdict = Some good;
        others = others;
        line = said-frame task d (behind t) message said good is h;
        behind = subst Each (sym (behind-next t good)) later.each;
        text_is = refl;
        tally_is = refl;
      };
    }

pub continues-next : (task : Task) (d : Definitions) (all s held message : List ℕ) (first t : Tally) (so said : List ℕ)
    (good : Bool) (told : Tally) → s ≡ message ++ held → IsFrame max_message_len message
    → SaysOctets task d (behind t) message said good → Continues task d all s first t so told
    → Continues task d all held first (tallied t (tally_of (Some good))) (so ++ said)
    (tallied told (tally_of (Some good)))
continues-next task d all s held message first t so said good told whole is h before rest fault more others later =
    let one = tally_of (Some good) in
    let done = before rest fault (said ++ more) (tallied one others)
    (frame-more task d s held message rest fault t said more good others whole is h later) in
    let Text : List ℕ → Type 0 = λ v. SaysFrames task d (behind first) all rest fault v (tallied (tallied told one) others) in
    let Counted : Tally → Type 0 = λ v. SaysFrames task d (behind first) all rest fault (so ++ (said ++ more)) v in
    subst Text (sym (append_assoc so said more)) (subst Counted (added-assoc told one others) done)

-- octets at whose front no message is whole yet have no frames
pub frames-part : (task : Task) (d : Definitions) (n : ℕ) (s : List ℕ) → IsPartial max_message_len s
    → SaysFrames task d n s s None [] no_lines
frames-part task d n s h = record {
  frames = [];
  framed = record { whole = refl; each = tt; longest = h.no_frame; fault_is = h.no_fault };
  each = (refl, refl);
}

-- nor have those at whose front a fault stands
pub frames-fault : FrameOrFault → (task : Task) (d : Definitions) (n : ℕ) (s : List ℕ) (fault : FrameFault)
    → HasFault max_message_len s fault → SaysFrames task d n s s (Some fault) [] no_lines
frames-fault either task d n s fault h = record {
  frames = [];
  framed = record {
    whole = refl;
    each = tt;
    longest = λ frame rest is at.
        let Has : List ℕ → Type 0 = λ v. HasFault max_message_len v fault in
        either max_message_len frame rest fault is (subst Has at h);
    fault_is = h;
  };
  each = (refl, refl);
}

-- each frame is counted once
pub frames-counted : (task : Task) (d : Definitions) (n : ℕ) (l : List (List ℕ)) (text : List ℕ) (tally : Tally)
    → AllByRecursion (IsFrame max_message_len) l → SaysEach task d n (map Some l) text tally
    → tally.good + tally.bad ≡ length l
frames-counted task d n [] text tally each h = rw h.1 refl
frames-counted task d n ([] ∷ l) text tally each h = absurd (let least = each.0.least in omega (arith, least))
frames-counted task d n ((b ∷ s) ∷ l) text tally each h =
    let later = frames-counted task d (n + 1) l h.rest h.others each.1 h.behind in
    let verdict = h.line.2 in
    one h.verdict h.line.0 verdict h.tally_is later where
      one : (v : Option Bool) (good : Bool) → v ≡ Some good → tally ≡ tallied (tally_of v) h.others
          → h.others.good + h.others.bad ≡ length l → tally.good + tally.bad ≡ suc (length l)
      one v true is total later = rw (total, is) (omega (arith, later))
      one v false is total later = rw (total, is) (omega (arith, later))

says-append : (task : Task) (d : Definitions) (n k : ℕ) (l m : List (Option (List ℕ))) (text more : List ℕ)
    (t u : Tally) → k ≡ n + length l → SaysEach task d n l text t → SaysEach task d k m more u
    → SaysEach task d n (l ++ m) (text ++ more) (tallied t u)
says-append task d n k [] m text more t u at h later =
    let Each : ℕ → List ℕ → Tally → Type 0 = λ j v w. SaysEach task d j m (v ++ more) w in
    let start : k ≡ n = omega (arith, at) in
    let total : u ≡ tallied t u = sym (none-added u) ∙ ap (λ v. tallied v u) (sym h.1) in
    rw h.0 (subst (Each n []) total (subst (λ j. Each j [] u) start later))
says-append task d n k (line ∷ l) m text more t u at h later =
    let rest = says-append task d (n + 1) k l m h.rest more h.others u (omega (arith, at)) h.behind later in
    record {
      first = h.first;
      rest = h.rest ++ more;
      verdict = h.verdict;
      others = tallied h.others u;
      line = h.line;
      behind = rest;
      text_is = ap (λ v. v ++ more) h.text_is ∙ append_assoc h.first h.rest more;
      tally_is = ap (λ v. tallied v u) h.tally_is ∙ sym (added-assoc (tally_of h.verdict) h.others u);
    }

-- the frames of octets that go on
pub frames-append : Cuts → (task : Task) (d : Definitions) (s piece held left : List ℕ) (fault : Option FrameFault)
    (so more : List ℕ) (t u : Tally) → SaysFrames task d 1 s held None so t
    → SaysFrames task d (behind t) (held ++ piece) left fault more u
    → SaysFrames task d 1 (s ++ piece) left fault (so ++ more) (tallied t u)
frames-append cuts task d s piece held left fault so more t u h k =
    let count = frames-counted task d 1 h.frames so t h.framed.each h.each in
    let Each : List (Option (List ℕ)) → Type 0 = λ l. SaysEach task d 1 l (so ++ more) (tallied t u) in
    record {
      frames = h.frames ++ k.frames;
      framed = cuts max_message_len s piece h.frames k.frames held left fault h.framed k.framed;
      each = subst Each (sym (map-append Some h.frames k.frames))
          (says-append task d 1 (behind t) (map Some h.frames) (map Some k.frames) so more t u
          (omega (arith, count, length-map h.frames Some)) h.each k.each);
    }
