-- Lines, each answered in turn.
use Rattle.std.proofs.Common.{◌≡◌, ◌⊎◌, inl, inr, ◌+◌, ℕ, Bool, true, false, Option, Some, None, IfSome, List, [], ◌∷◌, ◌++◌}
use Rattle.std.proofs.Common.{Result, Ok, Err, IfErr, IsErrAnd, length, arith, ap, ◌∙◌, sym, subst, refl, append_assoc, append-nil}
use Rattle.std.proofs.lemmas.Grind.{common_steps}
use Rattle.std.proofs.lemmas.List.{length-append}
use Rattle.std.specs.Str.Lines.{lines}
use Rattle.std.specs.Io.KnownBytes.{Appends}
use Rattle.std.proofs.KnownBytes.{Appends-nil, Appends-trans}
use Rattle.dm_live.specs.declared.fault.LiveFault.{LiveFault}
use Rattle.dm_live.specs.declared.fault.LiveFault.TheVariants.{Read, Write, Memory}
use Rattle.dm_live.specs.Input.{GivesLine}
use Rattle.dm_live.specs.Served.{Stage, Drafting, AnswersLine, AnswersLines, Serves, BeginsNext, StopsShort}
use Rattle.dm_live.specs.Settings.{no_settings}

-- one line more
lines_push : (before : ℕ) (done : List (List ℕ)) (line : List ℕ) (a m b : Stage) (text answer : List ℕ)
    → AnswersLines before done a m text → AnswersLine (before + length done + 1) line m b answer
    → AnswersLines before (done ++ line ∷ []) a b (text ++ answer)
lines_push before [] line a m b text answer (same, none) next =
    let At : ℕ → Stage → Type 0 = λ n v. AnswersLine n line v b answer in
    let number : before + length {A = List ℕ} [] + 1 ≡ before + 1 = omega arith in
    let one = subst (λ n. At n a) number (subst (At (before + length {A = List ℕ} [] + 1)) same next) in
    (b, answer, [], one, (refl, refl), grind (arith, common_steps, none))
lines_push before (first ∷ done) line a m b text answer (mid, one, more, is, rest, whole) next =
    let Nth : ℕ → Type 0 = λ v. AnswersLine v line m b answer in
    let number : before + length (first ∷ done) + 1 ≡ before + 1 + length done + 1 = omega arith in (
      mid,
      one,
      more ++ answer,
      is,
      lines_push (before + 1) done line mid m b more answer rest (subst Nth number next),
      ap (λ v. v ++ answer) whole ∙ append_assoc one more answer,
    )

-- So many lines of the octets are answered; these octets are left, and the run is at this stage.
pub record Served (octets : List ℕ) (rest : Option (List ℕ)) (before : ℕ) (stage : Stage)
    (old new : Option (List ℕ)) : Type 0 where
  pub left : List ℕ
  pub done : List (List ℕ)
  pub text : List ℕ
  pub rest_is : rest ≡ Some left
  pub whole : lines octets ≡ done ++ lines left
  pub count : length done ≡ before
  pub answers : AnswersLines 0 done (Drafting no_settings) stage text
  pub written : Appends old new text

abbrev pub ServedOf : Option (List ℕ) → Option (List ℕ) → ℕ → Stage → Option (List ℕ) → Option (List ℕ) → Type 0
ServedOf input rest before stage old new = IfSome input (λ octets. Served octets rest before stage old new)

-- before the first line
pub served_none : (input : Option (List ℕ)) (stage : Stage) (c : Option (List ℕ)) → stage ≡ Drafting no_settings
    → ServedOf input input 0 stage c c
served_none None stage c is = tt
served_none (Some octets) stage c is =
    record {
      left = octets;
      done = [];
      text = [];
      rest_is = refl;
      whole = refl;
      count = refl;
      answers = (is, refl);
      written = Appends-nil c;
    }

-- the next line of what is left, or its end
abbrev pub Given : Option (List ℕ) → Option (List ℕ) → Bool → List ℕ → Type 0
Given rest next more line = IfSome rest (λ left. GivesLine left next more line)

given_left : (rest next : Option (List ℕ)) (left line : List ℕ) (more : Bool) → rest ≡ Some left
    → Given rest next more line → more ≡ true → (after : List ℕ) × (next ≡ Some after) × (lines left ≡ line ∷ lines after)
given_left None next left line more is given so = absurd (cc)
given_left (Some all) None left line more is given so = absurd given
given_left (Some all) (Some after) left line true is given so = (after, refl, cc (ap (λ v. v) is))
given_left (Some all) (Some after) left line false is given so = absurd (cc)

-- behind one line more
pub served_more : (input rest next : Option (List ℕ)) (more : Bool) (before : ℕ) (m b : Stage)
    (old mid new : Option (List ℕ)) (line answer : List ℕ) → ServedOf input rest before m old mid
    → Given rest next more line → more ≡ true → AnswersLine (before + 1) line m b answer → Appends mid new answer
    → ServedOf input next (before + 1) b old new
served_more None rest next more before m b old mid new line answer so given is answers written = tt
served_more (Some octets) rest next more before m b old mid new line answer so given is answers written =
    let at = given_left rest next so.left line more so.rest_is given is in
    let size = length-append so.done (line ∷ []) in
    let Nth : ℕ → Type 0 = λ v. AnswersLine v line m b answer in
    let number : before + 1 ≡ 0 + length so.done + 1 = omega (arith, so.count) in
    record {
      left = at.0;
      done = so.done ++ line ∷ [];
      text = so.text ++ answer;
      rest_is = at.1;
      whole = so.whole ∙ ap (λ v. so.done ++ v) at.2 ∙ sym (append_assoc so.done (line ∷ []) (lines at.0));
      count = omega (arith, size, so.count);
      answers = lines_push 0 so.done line (Drafting no_settings) m b so.text answer so.answers (subst Nth number answers);
      written = Appends-trans old mid new so.text answer so.written written;
    }

-- behind the last one
pub served_all : (input rest next : Option (List ℕ)) (more : Bool) (before : ℕ) (stage : Stage)
    (old new : Option (List ℕ)) (line : List ℕ) → ServedOf input rest before stage old new
    → Given rest next more line → more ≡ false → IfSome input (λ octets. Serves octets old new)
served_all None rest next more before stage old new line so given is = tt
served_all (Some octets) rest next more before stage old new line so given is =
    let Answers : List (List ℕ) → Type 0 = λ v. AnswersLines 0 v (Drafting no_settings) stage so.text in
    let none = by rest next more so.rest_is given is in
    let whole : so.done ≡ lines octets = sym (so.whole ∙ ap (λ v. so.done ++ lines v) none ∙ append-nil so.done) in
    (stage, so.text, subst Answers whole so.answers, so.written) where
      by : {left : List ℕ} (rest next : Option (List ℕ)) (more : Bool) → rest ≡ Some left → Given rest next more line
          → more ≡ false → left ≡ []
      by None next more rest_is given is = absurd (cc)
      by (Some all) None more rest_is given is = absurd given
      by (Some all) (Some after) true rest_is given is = absurd (cc)
      by (Some all) (Some after) false rest_is given is = cc

-- where the run stops this is written of the next answer
stops : (octets : List ℕ) (rest : Option (List ℕ)) (before : ℕ) (stage : Stage) (old mid new : Option (List ℕ))
    (fault : LiveFault) (front : List ℕ) (so : Served octets rest before stage old mid)
    → BeginsNext fault (length so.done) (lines so.left) stage front → Appends mid new front
    → StopsShort fault octets old new
stops octets rest before stage old mid new fault front so begins written =
    record {
      done = so.done;
      rest = lines so.left;
      mid = stage;
      text = so.text;
      front = front;
      whole = so.whole;
      answers = so.answers;
      begins = begins;
      written = Appends-trans old mid new so.text front so.written written;
    }

-- nothing where memory or a read failed
pub stopped : (input rest : Option (List ℕ)) (before : ℕ) (stage : Stage) (old new : Option (List ℕ))
    (fault : LiveFault) → ServedOf input rest before stage old new → (fault ≡ Read) ⊎ (fault ≡ Memory)
    → IfSome input (λ octets. StopsShort fault octets old new)
stopped None rest before stage old new fault so is = tt
stopped (Some octets) rest before stage old new fault so is =
    stops octets rest before stage old new new fault [] so (by fault is) (Appends-nil new) where
      by : (fault : LiveFault) → (fault ≡ Read) ⊎ (fault ≡ Memory)
          → BeginsNext fault (length so.done) (lines so.left) stage []
      by Read is = refl
      by Memory is = refl
      by Write (inl is) = absurd (cc)
      by Write (inr is) = absurd (cc)

-- a front where a write failed
pub stopped_writing : (input rest next : Option (List ℕ)) (more : Bool) (before : ℕ) (m b : Stage)
    (old mid new : Option (List ℕ)) (line answer : List ℕ) → ServedOf input rest before m old mid
    → Given rest next more line → more ≡ true → AnswersLine (before + 1) line m b answer
    → (front back : List ℕ) × (answer ≡ front ++ back) × Appends mid new front
    → IfSome input (λ octets. StopsShort Write octets old new)
stopped_writing None rest next more before m b old mid new line answer so given is answers written = tt
stopped_writing (Some octets) rest next more before m b old mid new line answer so given is answers
    (front, back, whole, written) =
    let at = given_left rest next so.left line more so.rest_is given is in
    let Says : ℕ → List ℕ → Type 0 = λ v said. AnswersLine (v + 1) line m b said in
    let Begins : List (List ℕ) → Type 0 = λ v. BeginsNext Write (length so.done) v m front in
    stops octets rest before m old mid new Write front so
    (subst Begins (sym at.2) (b, back, subst (λ v. Says v (front ++ back)) (sym so.count) (subst (Says before) whole answers)))
    written

-- The loop's steps, as the calls of its body tell of them.

pub handed_on : {T : Type 0} (Q : LiveFault → Type 0) (r : Result T LiveFault) (fault : LiveFault)
    → IsErrAnd r (λ f. f ≡ fault) → Q fault → IfErr r Q
handed_on Q (Ok v) fault never so = absurd never
handed_on Q (Err f) fault is so = subst Q (sym is) so

-- the answer of a line, behind a text that was cleared
pub line_said : (n : ℕ) (line said : List ℕ) (a b : Stage) (cleared made octets : List ℕ) → said ≡ line
    → (answer : List ℕ) × AnswersLine n said a b answer × (made ≡ cleared ++ answer) → cleared ≡ [] → octets ≡ made
    → AnswersLine n line a b octets
line_said n line said a b cleared made octets is (answer, answers, ends) none whole =
    let text : octets ≡ answer = whole ∙ ends ∙ ap (λ v. v ++ answer) none in
    subst (λ v. AnswersLine n line a b v) (sym text) (subst (λ v. AnswersLine n v a b answer) is answers)
