-- What a run over a reader writes.
use Rattle.std.proofs.Common.{◌≡◌, ◌≤◌, inl, inr, ℕ, ◌+◌, Bool, true, Option, Some, None, IfSome, Result, Ok, Err, IfOk, IfErr, OnOk, All, List, [], ◌∷◌, ◌++◌, length, nat_eq}
use Rattle.std.proofs.Common.{arith, append_assoc, append-nil, ap, sym, ◌∙◌, subst}
use Rattle.std.specs.Io.KnownBytes.{Appends}
use Rattle.std.specs.Str.Lines.{lines}
use Rattle.std.proofs.KnownBytes.{Appends-trans, Appends-kept}
use Rattle.dm_tables.specs.Definitions.{Definitions}
use Rattle.dm_view_lines.specs.declared.line_speaker.LineSpeaker.{LineSpeaker}
use Rattle.dm_view_lines.specs.declared.put_fault.PutFault.{PutFault}
use Rattle.dm_view_lines.specs.declared.put_fault.PutFault.TheVariants as put
use Rattle.dm_view_lines.specs.declared.run_fault.RunFault.{RunFault}
use Rattle.dm_view_lines.specs.declared.run_fault.RunFault.TheVariants.{Memory, Read, TooLong, Write}
use Rattle.dm_view_lines.specs.declared.message_reports.Task.{Task}
use Rattle.dm_view_lines.specs.declared.tally.Tally.{Tally}
use Rattle.dm_view_lines.specs.declared.gathered_lines.TheConstants.{LINE_LIMIT as line_limit}
use Rattle.dm_view_lines.specs.Colours.{SaysStyled, styled}
use Rattle.dm_view_lines.specs.Counts.{no_lines, tallied}
use Rattle.dm_view_lines.specs.Ending.{IsTooLong, WritesUpTo, StopsBehind, WritesSome, EndsRun, EndsLines, SaysFront, FailsAtEnd}
use Rattle.dm_view_lines.specs.Faults.{run_fault}
use Rattle.dm_view_lines.specs.Lines.{counts_line}
use Rattle.dm_view_lines.specs.Reads.{StopsRun}
use Rattle.dm_view_lines.specs.Speakers.{CountsOneLine}
use Rattle.dm_view_lines.specs.LineEnds.{ended}
use Rattle.dm_view_lines.specs.Turns.{SaysInTurn, TellsLines, StopsInTurn, CountsLong, Leaves, WritesFront, FailsToWrite}
use Rattle.dm_view_lines.proofs.LinesSaid.{said_of, styled-join}
use Rattle.dm_view_lines.proofs.Steps.{none-added}
use Rattle.dm_view_lines.proofs.Turning.{turns-within}

-- what waited behind nothing isn't written
pub fails_end : (fault : PutFault) (c d : Option (List ℕ)) (waits text : List ℕ) → waits ≡ text
    → FailsToWrite fault c d waits → FailsAtEnd (run_fault fault) c d text
fails_end put.Memory c d waits text is h = absurd h
fails_end (put.TooLong k) c d waits text is h = absurd h
fails_end (put.Write e) c d waits text is h = (h.0, h.1, sym is ∙ h.2, h.3)

-- behind a text a front of what ends it is written
pub front_written : (Texts : List ℕ → Bool → Type 0) (text end : List ℕ) (good : Bool) (old mid new : Option (List ℕ))
    → Texts (text ++ end) good → Appends old mid text → WritesFront mid new end → WritesSome Texts old new
front_written Texts text end good old mid new says written h =
    let Text : List ℕ → Type 0 = λ v. Texts v good in (
      text ++ h.0,
      h.1,
      good,
      subst Text (ap (λ v. text ++ v) h.2 ∙ sym (append_assoc text h.0 h.1)) says,
      Appends-trans old mid new text h.0 written h.3,
    )

module _ {S : Type 0} (style : List ℕ → List ℕ) (Says : S → ℕ → List ℕ → S → List ℕ → Type 0)
    (Front : List (List ℕ) → List ℕ → Type 0) (Whole : List ℕ → List ℕ → Bool → Type 0) where
  -- what is said of lines in turn, from here on, is what is said of them
  abbrev pub Speaks : S → Type 0
  Speaks a = (l : List (List ℕ)) (t : List ℕ) (b : S) → SaysInTurn style Says 0 a l b t → Front l t

  too_long : (fault : PutFault) (n m : ℕ) (rest : List (List ℕ)) → n ≡ m → CountsLong fault n rest []
      → IsTooLong (run_fault fault) m rest
  too_long put.Memory n m rest is h = tt
  too_long (put.TooLong k) n m [] is h = absurd (let size = h.1.1 in omega (arith, size))
  too_long (put.TooLong k) n m (line ∷ rest) is h = (h.0 ∙ ap (λ i. i + 1) is, h.1)
  too_long (put.Write e) n m rest is h = tt

  up_to : (fault : PutFault) (old new : Option (List ℕ)) (t : List ℕ) → Leaves fault old [] new [] t
      → WritesUpTo (run_fault fault) old new t
  up_to put.Memory old new t h =
      let Text : List ℕ → Type 0 = λ v. Appends old new v in subst Text (sym (h.1 ∙ append-nil h.0)) h.2
  up_to (put.TooLong k) old new t h =
      let Text : List ℕ → Type 0 = λ v. Appends old new v in subst Text (sym (h.1 ∙ append-nil h.0)) h.2
  up_to (put.Write e) old new t h = h

  stops_behind : (a : S) (fault : PutFault) (all : List (List ℕ)) (old new : Option (List ℕ)) → Speaks a
      → StopsInTurn style Says 0 a all [] fault old [] new [] → StopsBehind Front (run_fault fault) all old new
  stops_behind a fault all old new speaks h = record {
    done = h.done;
    rest = h.rest;
    parts = h.parts;
    long = too_long fault (0 + length h.done) (length h.done) h.rest (omega arith) h.long;
    text = h.text;
    said = speaks h.done h.text h.said h.turns;
    written = up_to fault old new h.text h.leaves;
  }

  -- at one of the lines
  pub ends_at : (a : S) (fault : RunFault) (given left old new : Option (List ℕ)) → Speaks a
      → StopsRun style Says 0 a fault given left old new → EndsRun Front Whole fault given left old new
  ends_at a (Read e) given left old new speaks h = record {
    whole = h.whole;
    held = h.held;
    read = h.read;
    ends = h.ends;
    one_line = h.one_line;
    text = h.text;
    said = speaks (lines h.whole) h.text h.said h.turns;
    written = h.written;
  }
  ends_at a Memory None left old new speaks h = tt
  ends_at a Memory (Some octets) left old new speaks h =
      stops_behind a put.Memory (lines (ended octets)) old new speaks h
  ends_at a (TooLong k) None left old new speaks h = tt
  ends_at a (TooLong k) (Some octets) left old new speaks h =
      stops_behind a (put.TooLong k) (lines (ended octets)) old new speaks h
  ends_at a (Write e) None left old new speaks h = tt
  ends_at a (Write e) (Some octets) left old new speaks h =
      inl (stops_behind a (put.Write e) (lines (ended octets)) old new speaks h)

  -- behind them
  pub ends_behind : (a b : S) (m : ℕ) (going : Bool) (fault : RunFault) (given left old mid new : Option (List ℕ))
      (text : List ℕ) → Speaks a
      → IfSome given (λ octets. TellsLines style Says 0 a (lines (ended octets)) m b going old [] mid [])
      → IfSome given (λ octets. WritesFront mid new text → WritesSome (Whole (ended octets)) old new)
      → FailsAtEnd fault mid new text → EndsRun Front Whole fault given left old new
  ends_behind a b m going (Read e) given left old mid new text speaks h some fails = absurd fails
  ends_behind a b m going (TooLong k) given left old mid new text speaks h some fails = absurd fails
  ends_behind a b m going Memory None left old mid new text speaks h some fails = tt
  ends_behind a b m going Memory (Some octets) left old mid new text speaks h some fails =
      let Text : List ℕ → Type 0 = λ v. Appends old new v in
      record {
        done = h.done;
        rest = h.rest;
        parts = h.parts;
        long = tt;
        text = h.text;
        said = speaks h.done h.text b h.turns;
        written = subst Text (sym (h.gathered.1 ∙ append-nil h.gathered.0))
            (Appends-kept old mid new h.gathered.0 h.gathered.2 fails);
      }
  ends_behind a b m going (Write e) None left old mid new text speaks h some fails = tt
  ends_behind a b m going (Write e) (Some octets) left old mid new text speaks h some fails = inr (some fails)

-- none of the lines has too many octets
pub all_within : {S : Type 0} (style : List ℕ → List ℕ) (Says : S → ℕ → List ℕ → S → List ℕ → Type 0)
    (a b : S) (m : ℕ) (going : Bool) (given old mid : Option (List ℕ)) → going ≡ true
    → IfSome given (λ octets. TellsLines style Says 0 a (lines (ended octets)) m b going old [] mid [])
    → IfSome given (λ octets. All (λ line. length line ≤ line_limit) (lines (ended octets)))
all_within style Says a b m going None old mid goes h = tt
all_within style Says a b m going (Some octets) old mid goes h =
    let all : lines (ended octets) ≡ h.done = h.parts ∙ ap (λ v. h.done ++ v) (h.all goes) ∙ append-nil h.done in
    let Within : List (List ℕ) → Type 0 = λ l. All (λ line. length line ≤ line_limit) l in
    subst Within (sym all) (turns-within style Says 0 a b h.done h.text h.turns)

module _ (coloured : Bool) (task : Task) (d : Definitions) where
  -- what a run told of lines
  abbrev pub Told : LineSpeaker → ℕ → LineSpeaker → Bool → Option (List ℕ) → Option (List ℕ) → List ℕ → Type 0
  Told s m t going old new octets =
      TellsLines (styled coloured task) (CountsOneLine d task) 0 s (lines (ended octets)) m t going old [] new []

  -- what is said of lines in turn
  pub lines_front : (s : LineSpeaker) → Speaks (styled coloured task) (CountsOneLine d task) (SaysFront coloured task d)
      (SaysStyled coloured task d) s
  lines_front s l text t h = let said = said_of coloured task d 0 s t l text h in
      (said.plain, said.told, said.says, said.text_is)

  -- the text of all lines and of the counts
  pub record AllSaid (octets : List ℕ) (t : LineSpeaker) (old new : Option (List ℕ)) : Type 0 where
    pub text : List ℕ
    pub says : SaysStyled coloured task d (ended octets) (text ++ styled coloured task (counts_line task t.tally))
        (nat_eq t.tally.bad 0)
    pub written : Appends old new text

  all_said : (s t : LineSpeaker) (m : ℕ) (going : Bool) (octets : List ℕ) (old new : Option (List ℕ))
      → s.tally ≡ no_lines → going ≡ true → Told s m t going old new octets → AllSaid octets t old new
  all_said s t m going octets old new none goes h =
      let all : lines (ended octets) ≡ h.done = h.parts ∙ ap (λ v. h.done ++ v) (h.all goes) ∙ append-nil h.done in
      let Said : List (List ℕ) → Type 0 = λ l. SaysInTurn (styled coloured task) (CountsOneLine d task) 0 s l t h.text in
      let said = said_of coloured task d 0 s t (lines (ended octets)) h.text (subst Said (sym all) h.turns) in
      let counted : t.tally ≡ said.told =
      said.counted ∙ ap (λ v. tallied v said.told) none ∙ none-added said.told in
      let counts = counts_line task t.tally in
      let Text : List ℕ → Type 0 = λ v. Appends old new v in
      record {
        text = h.text;
        says = (
          said.plain ++ counts,
          (
            said.plain,
            said.told,
            said.says,
            ap (λ v. said.plain ++ counts_line task v) counted,
            ap (λ v. nat_eq v.bad 0) counted,
          ),
          ap (λ v. v ++ styled coloured task counts) said.text_is
              ∙ sym (styled-join coloured task said.plain counts said.whole),
        );
        written = subst Text (sym (h.gathered.1 ∙ append-nil h.gathered.0)) h.gathered.2;
      }

  pub run_told : (s t : LineSpeaker) (m : ℕ) (going good : Bool) (given old mid new : Option (List ℕ))
      → s.tally ≡ no_lines → going ≡ true → IfSome given (Told s m t going old mid)
      → Appends mid new (styled coloured task (counts_line task t.tally)) → good ≡ nat_eq t.tally.bad 0
      → IfSome given (λ octets. (text : List ℕ) × SaysStyled coloured task d (ended octets) text good
      × Appends old new text)
  run_told s t m going good None old mid new none goes h written is = tt
  run_told s t m going good (Some octets) old mid new none goes h written is =
      let all = all_said s t m going octets old mid none goes h in
      let counts = styled coloured task (counts_line task t.tally) in
      let Good : Bool → Type 0 = λ g. SaysStyled coloured task d (ended octets) (all.text ++ counts) g in
      (all.text ++ counts, subst Good (sym is) all.says, Appends-trans old mid new all.text counts all.written written)

  run_unwritten : (s t : LineSpeaker) (m : ℕ) (going : Bool) (given old mid new : Option (List ℕ))
      → s.tally ≡ no_lines → going ≡ true → IfSome given (Told s m t going old mid)
      → IfSome given (λ octets. WritesFront mid new (styled coloured task (counts_line task t.tally))
      → WritesSome (SaysStyled coloured task d (ended octets)) old new)
  run_unwritten s t m going None old mid new none goes h = tt
  run_unwritten s t m going (Some octets) old mid new none goes h =
      let all = all_said s t m going octets old mid none goes h in
      front_written (SaysStyled coloured task d (ended octets)) all.text
      (styled coloured task (counts_line task t.tally)) (nat_eq t.tally.bad 0) old mid new all.says all.written

  -- the same, of what came of the end
  pub end_told : (s t : LineSpeaker) (m : ℕ) (going : Bool) (counted : Tally) (r : Result Bool RunFault)
      (given old mid new : Option (List ℕ)) → s.tally ≡ no_lines → going ≡ true
      → IfSome given (Told s m t going old mid) → counted ≡ t.tally
      → OnOk r (Appends mid new (styled coloured task (counts_line task counted)))
      → IfOk r (λ good. good ≡ nat_eq counted.bad 0)
      → IfOk r (λ good. IfSome given (λ octets. (text : List ℕ)
      × SaysStyled coloured task d (ended octets) text good × Appends old new text))
  end_told s t m going counted (Err fault) given old mid new none goes h is written good = tt
  end_told s t m going counted (Ok fine) given old mid new none goes h is written good =
      let Counts : Tally → Type 0 = λ u. Appends mid new (styled coloured task (counts_line task u)) in
      run_told s t m going fine given old mid new none goes h (subst Counts is written)
      (good ∙ ap (λ u. nat_eq u.bad 0) is)

  pub end_within : (s t : LineSpeaker) (m : ℕ) (going : Bool) (r : Result Bool RunFault)
      (given old mid : Option (List ℕ)) → going ≡ true → IfSome given (Told s m t going old mid)
      → OnOk r (IfSome given (λ octets. All (λ line. length line ≤ line_limit) (lines (ended octets))))
  end_within s t m going (Err fault) given old mid goes h = tt
  end_within s t m going (Ok fine) given old mid goes h =
      all_within (styled coloured task) (CountsOneLine d task) s t m going given old mid goes h

  pub end_unwritten : (s t : LineSpeaker) (m : ℕ) (going : Bool) (counted : Tally) (r : Result Bool RunFault)
      (given left old mid new : Option (List ℕ)) → s.tally ≡ no_lines → going ≡ true
      → IfSome given (Told s m t going old mid) → counted ≡ t.tally
      → IfErr r (λ fault. FailsAtEnd fault mid new (styled coloured task (counts_line task counted)))
      → IfErr r (λ fault. EndsLines coloured task d fault given left old new)
  end_unwritten s t m going counted (Ok fine) given left old mid new none goes h is fails = tt
  end_unwritten s t m going counted (Err fault) given left old mid new none goes h is fails =
      let Fails : Tally → Type 0 = λ u. FailsAtEnd fault mid new (styled coloured task (counts_line task u)) in
      ends_behind (styled coloured task) (CountsOneLine d task) (SaysFront coloured task d) (SaysStyled coloured task d)
      s t m going fault given left old mid new (styled coloured task (counts_line task t.tally)) (lines_front s) h
      (run_unwritten s t m going given old mid new none goes h) (subst Fails is fails)
