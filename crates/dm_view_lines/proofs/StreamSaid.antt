-- What is said of a stream line by line is what is said of all of it.
use Rattle.std.proofs.Common.{◌≡◌, ◌⊎◌, inl, inr, ℕ, ◌+◌, Bool, true, false, Option, Some, None, IfSome, is_some, Result, Ok, Err, IfOk, IfErr, List, [], ◌∷◌, ◌++◌, length, map, nat_eq}
use Rattle.std.proofs.Common.{arith, append_assoc, append-nil, ap, sym, ◌∙◌, refl, subst}
use Rattle.std.specs.Io.KnownBytes.{Appends}
use Rattle.std.specs.Str.Lines.{lines}
use Rattle.std.proofs.KnownBytes.{Appends-trans}
use Rattle.dm_framer.specs.Laws.{Cuts, FaultStays, WholeFrames}
use Rattle.dm_tables.specs.Definitions.{Definitions}
use Rattle.dm_view_lines.specs.declared.run_fault.RunFault.{RunFault}
use Rattle.dm_view_lines.specs.declared.message_reports.Task.{Task}
use Rattle.dm_view_lines.specs.declared.stop.Stop.{Stop}
use Rattle.dm_view_lines.specs.declared.stream_speaker.StreamSpeaker.{StreamSpeaker}
use Rattle.dm_view_lines.specs.declared.tally.Tally.{Tally}
use Rattle.dm_view_lines.specs.Colours.{SaysStreamStyled, styled}
use Rattle.dm_view_lines.specs.Counts.{no_lines, tally_of, tallied}
use Rattle.dm_view_lines.specs.Digits.{octets_of_line}
use Rattle.dm_view_lines.specs.Ending.{EndsStream, FailsAtEnd, SaysStreamFront, WritesSome}
use Rattle.dm_view_lines.specs.Frames.{SaysFrames, stream_of, stop_of, stop_text, stop_verdict}
use Rattle.dm_view_lines.specs.Lines.{SaysEach, counts_line}
use Rattle.dm_view_lines.specs.Speakers.{ReadsLine, SaysPiece, StreamGoes}
use Rattle.dm_view_lines.specs.LineEnds.{ended}
use Rattle.dm_view_lines.specs.Turns.{SaysInTurn, TellsLines, WritesFront}
use Rattle.dm_view_lines.proofs.LinesSaid.{AsLines, line-whole, none-whole, lines-append, styled-join, styled-none}
use Rattle.dm_view_lines.proofs.Pieces.{frames-counted}
use Rattle.dm_view_lines.proofs.RunSaid.{Speaks, ends_behind, front_written}
use Rattle.dm_view_lines.proofs.Streamed.{SoFar, AtLine, Stopped, so-none, so-next, so-stop}

pub each-whole : (task : Task) (d : Definitions) (n : ℕ) (l : List (Option (List ℕ))) (text : List ℕ) (tally : Tally)
    → SaysEach task d n l text tally → AsLines task text
each-whole task d n [] text tally h = none-whole task text h.0
each-whole task d n (octets ∷ l) text tally h =
    let As : List ℕ → Type 0 = AsLines task in
    subst As (sym h.text_is)
    (lines-append task h.first h.rest (line-whole task d n octets h.first h.verdict h.line)
    (each-whole task d (n + 1) l h.rest h.others h.behind))

-- what is said at a line, behind a text
at_line : (task : Task) (d : Definitions) (n : ℕ) (octets : Option (List ℕ)) (s m : StreamSpeaker) (plain said : List ℕ)
    → SaysPiece task d n octets s.framer.octets m.framer.octets said s.reading.tally m.reading.tally m.reading.fault m.stop
    → AtLine task d n octets s.framer.octets m.framer.octets plain (plain ++ said) s.reading.tally m.reading.tally
    m.reading.fault m.stop
at_line task d n octets s m plain said h = record {
  bad = λ none. let r = h.bad none in
      (r.0, r.1, ap (λ v. plain ++ v) r.2 ∙ append-nil plain, r.3);
  said = λ piece is. let r = h.said piece is in (said, r.0, refl, r.1, r.2, r.3);
}

piece-whole : (task : Task) (d : Definitions) (n : ℕ) (octets : Option (List ℕ)) (s m : StreamSpeaker) (said : List ℕ)
    → SaysPiece task d n octets s.framer.octets m.framer.octets said s.reading.tally m.reading.tally m.reading.fault m.stop
    → AsLines task said
piece-whole task d n None s m said h = none-whole task said (h.bad refl).2
piece-whole task d n (Some piece) s m said h =
    let r = h.said piece refl in
    each-whole task d _ (map Some r.1.frames) said r.0 r.1.each

module _ (cuts : Cuts) (stays : FaultStays) (coloured : Bool) (task : Task) (d : Definitions) (input : List (List ℕ)) where
  -- what is said so far, in its style
  pub record Read (left : List (List ℕ)) (n : ℕ) (t : StreamSpeaker) (text : List ℕ) : Type 0 where
    pub plain : List ℕ
    pub whole : AsLines task plain
    pub text_is : text ≡ styled coloured task plain
    pub so : SoFar task d input left n t.framer.octets [] plain t.reading.tally

  -- and of a stream that is read no further
  pub record Ended (t : StreamSpeaker) (text : List ℕ) : Type 0 where
    pub plain : List ℕ
    pub whole : AsLines task plain
    pub text_is : text ≡ styled coloured task plain
    pub stopped : Stopped task d input [] plain t.reading.tally t.stop

  -- a stream that stopped isn't read on
  none_behind : (n : ℕ) (m t : StreamSpeaker) (l : List (List ℕ)) (others : List ℕ) → is_some m.stop ≡ true
      → SaysInTurn (styled coloured task) (ReadsLine d task) n m l t others → (t ≡ m) × (others ≡ [])
  none_behind n m t [] others stop h = h
  none_behind n m t (line ∷ l) others stop h = absurd (let going = h.3.0 in let is = sym (ap is_some going) ∙ stop in cc)

  -- what comes of reading on
  abbrev pub Onward : List (List ℕ) → ℕ → StreamSpeaker → List ℕ → Type 0
  Onward rest k t text =
      ((is_some t.stop ≡ false) × Read rest (k + 1) t text) ⊎ ((is_some t.stop ≡ true) × Ended t text)

  with-piece : (before plain first : List ℕ) → before ≡ styled coloured task plain → AsLines task plain
      → before ++ styled coloured task first ≡ styled coloured task (plain ++ first)
  with-piece before plain first is whole =
      ap (λ v. v ++ styled coloured task first) is ∙ sym (styled-join coloured task plain first whole)

  pub read_on : (n k : ℕ) (s t : StreamSpeaker) (l rest : List (List ℕ)) (text before : List ℕ) → k ≡ n + length l
      → is_some s.stop ≡ false → Read (l ++ rest) (n + 1) s before
      → SaysInTurn (styled coloured task) (ReadsLine d task) n s l t text → Onward rest k t (before ++ text)
  read_on n k s t [] rest text before is goes so h =
      let At : ℕ → Type 0 = λ i. Read rest (i + 1) s before in
      let number : n ≡ k = omega (arith, is) in
      let By : StreamSpeaker → Type 0 = λ v. Onward rest k v before in
      let Text : List ℕ → Type 0 = Onward rest k t in
      subst Text (sym (ap (λ v. before ++ v) h.1 ∙ append-nil before))
      (subst By (sym h.0) (inl (goes, subst At number so)))
  read_on n k s t (line ∷ l) rest text before is goes so h =
      by (is_some h.0.stop) refl
      (λ going r. read_on (n + 1) k h.0 t l rest h.2 (before ++ styled coloured task h.1) (omega (arith, is)) going r h.4) where
        at : AtLine task d (n + 1) (octets_of_line line) s.framer.octets h.0.framer.octets so.plain (so.plain ++ h.1)
            s.reading.tally h.0.reading.tally h.0.reading.fault h.0.stop
        at = at_line task d (n + 1) (octets_of_line line) s h.0 so.plain h.1 h.3.1

        whole : AsLines task (so.plain ++ h.1)
        whole = lines-append task so.plain h.1 so.whole
            (piece-whole task d (n + 1) (octets_of_line line) s h.0 h.1 h.3.1)

        by : (v : Bool) → is_some h.0.stop ≡ v
            → (is_some h.0.stop ≡ false → Read (l ++ rest) (n + 1 + 1) h.0 (before ++ styled coloured task h.1)
            → Onward rest k t ((before ++ styled coloured task h.1) ++ h.2))
            → Onward rest k t (before ++ text)
        by false going on =
            let Text : List ℕ → Type 0 = Onward rest k t in
            subst Text (append_assoc before (styled coloured task h.1) h.2 ∙ ap (λ v. before ++ v) (sym h.5))
            (on going (record {
              plain = so.plain ++ h.1;
              whole = whole;
              text_is = with-piece before so.plain h.1 so.text_is so.whole;
              so = so-next cuts task d input (line ∷ (l ++ rest)) (l ++ rest) line (n + 1) s.framer.octets
                  h.0.framer.octets [] so.plain (so.plain ++ h.1) s.reading.tally h.0.reading.tally h.0.reading.fault
                  h.0.stop refl so.so at going;
            }))
        by true stop on =
            let none = none_behind (n + 1) h.0 t l h.2 stop h.4 in
            let Text : List ℕ → Type 0 = Onward rest k t in
            let By : StreamSpeaker → Type 0 = λ v. Onward rest k v (before ++ styled coloured task h.1) in
            subst Text
            (ap (λ v. before ++ v) (sym (h.5 ∙ ap (λ v. styled coloured task h.1 ++ v) none.1
            ∙ append-nil (styled coloured task h.1))))
            (subst By (sym none.0) (inr (
              stop,
              record {
                plain = so.plain ++ h.1;
                whole = whole;
                text_is = with-piece before so.plain h.1 so.text_is so.whole;
                stopped = so-stop cuts stays task d input (line ∷ (l ++ rest)) (l ++ rest) line (n + 1) s.framer.octets
                    h.0.framer.octets [] so.plain (so.plain ++ h.1) s.reading.tally h.0.reading.tally h.0.reading.fault
                    h.0.stop refl so.so at stop;
              },
            )))

  -- all lines were read, and something may be left of the last message
  at_last : (n : ℕ) (t : StreamSpeaker) (text : List ℕ) (stop : Option Stop) → Read [] n t text
      → stop ≡ stop_of t.framer.octets None None
      → (plain : List ℕ) × AsLines task plain × (text ≡ styled coloured task plain)
      × Stopped task d input [] plain t.reading.tally stop
  at_last n t text stop so is =
      let Whole : List ℕ → Type 0 = λ v. SaysFrames task d 1 v t.framer.octets None so.so.so t.reading.tally in (
        so.plain,
        so.whole,
        so.text_is,
        (
          t.framer.octets,
          so.so.so,
          None,
          so.so.text_is,
          subst Whole (sym (so.so.joined ∙ append-nil so.so.octets)) so.so.told,
          is ∙ ap (stop_of t.framer.octets None) (sym so.so.bad),
        ),
      )

  -- the whole text of what was read
  pub ended_by : (k : ℕ) (t : StreamSpeaker) (going : Bool) (rest : List (List ℕ)) (text : List ℕ) (stop : Option Stop)
      → StreamGoes t going → (going ≡ true → rest ≡ []) → (is_some t.stop ≡ true → stop ≡ t.stop)
      → (t.stop ≡ None → (r : List ℕ) → t.reading.held ≡ length r → stop ≡ stop_of r None None)
      → Onward rest k t text
      → (plain : List ℕ) × AsLines task plain × (text ≡ styled coloured task plain)
      × Stopped task d input [] plain t.reading.tally stop
  ended_by k t true rest text stop goes all stopped held (inl h) =
      let Rest : List (List ℕ) → Type 0 = λ l. Read l (k + 1) t text in
      at_last (k + 1) t text stop (subst Rest (all refl) h.1) (held goes.stop t.framer.octets goes.held)
  ended_by k t true rest text stop goes all stopped held (inr h) =
      absurd (let is = sym (ap is_some goes.stop) ∙ h.0 in cc)
  ended_by k t false rest text stop goes all stopped held (inl h) = absurd (let is = sym h.0 ∙ goes in cc)
  ended_by k t false rest text stop goes all stopped held (inr h) =
      let Stop : Option Stop → Type 0 = λ v. Stopped task d input [] h.1.plain t.reading.tally v in
      (h.1.plain, h.1.whole, h.1.text_is, subst Stop (sym (stopped h.0)) h.1.stopped)

module _ (cuts : Cuts) (stays : FaultStays) (frames : WholeFrames) (coloured : Bool) (task : Task) (d : Definitions) where
  abbrev pub ReadOf : StreamSpeaker → ℕ → StreamSpeaker → Bool → Option (List ℕ) → Option (List ℕ) → List ℕ → Type 0
  ReadOf s m t going old new octets =
      TellsLines (styled coloured task) (ReadsLine d task) 0 s (lines (ended octets)) m t going old [] new []

  -- what is said of the lines that were read is what is said of the whole messages of their stream
  pub stream_front : (s : StreamSpeaker) → StreamGoes s true → s.framer.octets ≡ [] → s.reading.tally ≡ no_lines
      → Speaks (styled coloured task) (ReadsLine d task) (SaysStreamFront coloured task d)
      (SaysStreamStyled coloured task d) s
  stream_front s begins none nothing l text t h =
      by (read_on cuts stays coloured task d l 0 (length l) s t l [] text [] (omega arith) (ap is_some begins.stop) start h)
    where
      Start : Tally → Type 0
      Start v = SoFar task d l (l ++ []) 1 s.framer.octets [] [] v

      start : Read cuts stays coloured task d l (l ++ []) 1 s []
      start = record {
        plain = [];
        whole = none-whole task [] refl;
        text_is = sym (styled-none coloured task);
        so = subst Start (sym nothing)
            (so-none frames task d l (l ++ []) s.framer.octets [] (sym (append-nil l)) none);
      }

      by : Onward cuts stays coloured task d l [] (length l) t text → SaysStreamFront coloured task d l text
      by (inl h) =
          let so = h.1 in
          let Whole : List ℕ → Type 0 = λ v. SaysFrames task d 1 v t.framer.octets None so.so.so t.reading.tally in
          let Text : List ℕ → Type 0 = λ v. SaysFrames task d 1 (stream_of l) t.framer.octets None v t.reading.tally in (
            so.plain,
            t.framer.octets,
            None,
            t.reading.tally,
            subst Text (sym so.so.text_is)
                (subst Whole (sym (so.so.joined ∙ append-nil so.so.octets)) so.so.told),
            so.text_is,
          )
      by (inr h) =
          let end = h.1.stopped in
          let Text : List ℕ → Type 0 = λ v. SaysFrames task d 1 (stream_of l) end.0 end.2 v t.reading.tally in
          (h.1.plain, end.0, end.2, t.reading.tally, subst Text (sym end.3) end.4, h.1.text_is)

  -- the text that ends a stream
  abbrev pub end_text : Tally → Option Stop → Tally → List ℕ
  end_text tally stop counted = stop_text task (tally.good + tally.bad + 1) stop ++ counts_line task counted

  -- the text of all messages, and of why it is read no further
  pub record StreamSaid (octets : List ℕ) (tally counted : Tally) (stop : Option Stop) (old new : Option (List ℕ)) : Type 0 where
    pub text : List ℕ
    pub says : SaysStreamStyled coloured task d (ended octets)
        (text ++ styled coloured task (end_text tally stop counted)) (nat_eq counted.bad 0)
    pub written : Appends old new text

  -- what ends a run, and how
  pub record Stops (s t : StreamSpeaker) (going : Bool) (stop : Option Stop) (tally : Tally) : Type 0 where
    pub begins : StreamGoes s true
    pub none : s.framer.octets ≡ []
    pub nothing : s.reading.tally ≡ no_lines
    pub goes : StreamGoes t going
    pub stopped : is_some t.stop ≡ true → stop ≡ t.stop
    pub held : t.stop ≡ None → (r : List ℕ) → t.reading.held ≡ length r → stop ≡ stop_of r None None
    pub is : tally ≡ t.reading.tally

  stream_said : (s t : StreamSpeaker) (m : ℕ) (going : Bool) (stop : Option Stop) (tally counted : Tally)
      (octets : List ℕ) (old mid : Option (List ℕ)) → Stops s t going stop tally → ReadOf s m t going old mid octets
      → counted ≡ tallied tally (tally_of (stop_verdict stop)) → StreamSaid octets tally counted stop old mid
  stream_said s t m going stop tally counted octets old mid by h counts =
      let input = lines (ended octets) in
      let Start : Tally → Type 0 = λ v. SoFar task d input (h.done ++ h.rest) 1 s.framer.octets [] [] v in
      let start : Read cuts stays coloured task d input (h.done ++ h.rest) 1 s [] = record {
        plain = [];
        whole = none-whole task [] refl;
        text_is = sym (styled-none coloured task);
        so = subst Start (sym by.nothing)
            (so-none frames task d input (h.done ++ h.rest) s.framer.octets [] h.parts by.none);
      } in
      let onward = read_on cuts stays coloured task d input 0 (length h.done) s t h.done h.rest h.text [] (omega arith)
      (ap is_some by.begins.stop) start h.turns in
      let said = ended_by cuts stays coloured task d input (length h.done) t going h.rest h.text stop by.goes h.all
      by.stopped by.held onward in
      let stop_line = stop_text task (tally.good + tally.bad + 1) stop in
      let counts_are = counts_line task counted in
      let plain = said.0 in
      let end = said.3 in
      let count = frames-counted task d 1 end.4.frames end.1 t.reading.tally end.4.framed.each end.4.each in
      let number : tally.good + tally.bad + 1 ≡ length end.4.frames + 1 =
      ap (λ v. v.good + v.bad + 1) by.is ∙ ap (λ v. v + 1) count in
      let Text : List ℕ → Type 0 = λ v. Appends old mid v in
      record {
        text = h.text;
        says = (
          plain ++ (stop_line ++ counts_are),
          record {
            rest = end.0;
            fault = end.2;
            said = end.1;
            counted = t.reading.tally;
            told = end.4;
            stop = stop;
            stop_is = end.5;
            tally = counted;
            tally_is = counts ∙ ap (λ v. tallied v (tally_of (stop_verdict stop))) by.is;
            text_is = ap (λ v. v ++ (stop_line ++ counts_are)) end.3
                ∙ sym (append_assoc end.1 stop_line counts_are)
                ∙ ap (λ v. (end.1 ++ stop_text task v stop) ++ counts_are) number;
            good_is = refl;
          },
          ap (λ v. v ++ styled coloured task (stop_line ++ counts_are)) said.2
              ∙ sym (styled-join coloured task plain (stop_line ++ counts_are) said.1),
        );
        written = subst Text (sym (h.gathered.1 ∙ append-nil h.gathered.0)) h.gathered.2;
      }

  stream_told : (s t : StreamSpeaker) (m : ℕ) (going good : Bool) (stop : Option Stop) (tally counted : Tally)
      (given old mid new : Option (List ℕ)) → Stops s t going stop tally → IfSome given (ReadOf s m t going old mid)
      → counted ≡ tallied tally (tally_of (stop_verdict stop)) → good ≡ nat_eq counted.bad 0
      → Appends mid new (styled coloured task (end_text tally stop counted))
      → IfSome given (λ octets. (text : List ℕ) × SaysStreamStyled coloured task d (ended octets) text good
      × Appends old new text)
  stream_told s t m going good stop tally counted None old mid new by h counts fine written = tt
  stream_told s t m going good stop tally counted (Some octets) old mid new by h counts fine written =
      let all = stream_said s t m going stop tally counted octets old mid by h counts in
      let end = styled coloured task (end_text tally stop counted) in
      let Good : Bool → Type 0 = λ g. SaysStreamStyled coloured task d (ended octets) (all.text ++ end) g in
      (all.text ++ end, subst Good (sym fine) all.says, Appends-trans old mid new all.text end all.written written)

  stream_unwritten : (s t : StreamSpeaker) (m : ℕ) (going : Bool) (stop : Option Stop) (tally counted : Tally)
      (given old mid new : Option (List ℕ)) → Stops s t going stop tally → IfSome given (ReadOf s m t going old mid)
      → counted ≡ tallied tally (tally_of (stop_verdict stop))
      → IfSome given (λ octets. WritesFront mid new (styled coloured task (end_text tally stop counted))
      → WritesSome (SaysStreamStyled coloured task d (ended octets)) old new)
  stream_unwritten s t m going stop tally counted None old mid new by h counts = tt
  stream_unwritten s t m going stop tally counted (Some octets) old mid new by h counts =
      let all = stream_said s t m going stop tally counted octets old mid by h counts in
      front_written (SaysStreamStyled coloured task d (ended octets)) all.text
      (styled coloured task (end_text tally stop counted)) (nat_eq counted.bad 0) old mid new all.says all.written

  -- the same, of what came of the end
  pub stream_ended : (s t : StreamSpeaker) (m : ℕ) (going : Bool) (stop : Option Stop) (tally : Tally)
      (r : Result Bool RunFault) (given old mid new : Option (List ℕ)) → Stops s t going stop tally
      → IfSome given (ReadOf s m t going old mid)
      → IfOk r (λ good. (counted : Tally) × (counted ≡ tallied tally (tally_of (stop_verdict stop)))
      × (good ≡ nat_eq counted.bad 0) × Appends mid new (styled coloured task (end_text tally stop counted)))
      → IfOk r (λ good. IfSome given (λ octets. (text : List ℕ)
      × SaysStreamStyled coloured task d (ended octets) text good × Appends old new text))
  stream_ended s t m going stop tally (Err fault) given old mid new by h w = tt
  stream_ended s t m going stop tally (Ok good) given old mid new by h w =
      stream_told s t m going good stop tally w.0 given old mid new by h w.1 w.2 w.3

  pub stream_left : (s t : StreamSpeaker) (m : ℕ) (going : Bool) (stop : Option Stop) (tally : Tally)
      (r : Result Bool RunFault) (given left old mid new : Option (List ℕ)) → Stops s t going stop tally
      → IfSome given (ReadOf s m t going old mid)
      → IfErr r (λ fault. FailsAtEnd fault mid new (styled coloured task
      (end_text tally stop (tallied tally (tally_of (stop_verdict stop))))))
      → IfErr r (λ fault. EndsStream coloured task d fault given left old new)
  stream_left s t m going stop tally (Ok good) given left old mid new by h fails = tt
  stream_left s t m going stop tally (Err fault) given left old mid new by h fails =
      let counted = tallied tally (tally_of (stop_verdict stop)) in
      ends_behind (styled coloured task) (ReadsLine d task) (SaysStreamFront coloured task d)
      (SaysStreamStyled coloured task d) s t m going fault given left old mid new
      (styled coloured task (end_text tally stop counted)) (stream_front s by.begins by.none by.nothing) h
      (stream_unwritten s t m going stop tally counted given old mid new by h refl) fails
