-- What is said of lines in turn and gathered, one part behind the other.
use Rattle.std.proofs.Common.{◌≡◌, ◌≤◌, ℕ, zero, suc, ◌+◌, Bool, true, false, Option, Result, Ok, Err, IfErr, IsErrAnd, All, List, [], ◌∷◌, ◌++◌, length, length-append, append_assoc, append-nil, arith, ap, sym, ◌∙◌, refl, subst}
use Rattle.std.specs.Str.Lines.{lines}
use Rattle.std.proofs.KnownBytes.{Appends-nil, Appends-trans}
use Rattle.dm_view_lines.specs.declared.put_fault.PutFault.{PutFault}
use Rattle.dm_view_lines.specs.declared.put_fault.PutFault.TheVariants.{Memory, TooLong, Write}
use Rattle.dm_view_lines.specs.declared.gathered_lines.TheConstants.{LINE_LIMIT as line_limit}
use Rattle.dm_view_lines.specs.LineEnds.{ended}
use Rattle.dm_view_lines.specs.Turns.{SaysInTurn, Gathers, Leaves, WritesFront, FirstIsLong, CountsLong, IsOfOutput, text_left, TellsLines, StopsInTurn}
use Rattle.dm_view_lines.proofs.Seams.{held-long}

pub gathers-none : (c : Option (List ℕ)) (w : List ℕ) → Gathers c w c w []
gathers-none c w = ([], append-nil w, Appends-nil c)

-- what waits and a text more
joined : (w t u f v g : List ℕ) → w ++ t ≡ f ++ v → v ++ u ≡ g → w ++ (t ++ u) ≡ f ++ g
joined w t u f v g h k =
    sym (append_assoc w t u) ∙ ap (λ x. x ++ u) h ∙ append_assoc f v u ∙ ap (λ x. f ++ x) k

pub gathers-then : (a b c : Option (List ℕ)) (w v u t s : List ℕ) → Gathers a w b v t → Gathers b v c u s
    → Gathers a w c u (t ++ s)
gathers-then a b c w v u t s h k = (
  h.0 ++ k.0,
  joined w t s h.0 v (k.0 ++ u) h.1 k.1 ∙ sym (append_assoc h.0 k.0 u),
  Appends-trans a b c h.0 k.0 h.2 k.2,
)

front-then : (a b c : Option (List ℕ)) (w v t s : List ℕ) → Gathers a w b v t → WritesFront b c (v ++ s)
    → WritesFront a c (w ++ (t ++ s))
front-then a b c w v t s h k = (
  h.0 ++ k.0,
  k.1,
  joined w t s h.0 v (k.0 ++ k.1) h.1 k.2 ∙ sym (append_assoc h.0 k.0 k.1),
  Appends-trans a b c h.0 k.0 h.2 k.3,
)

pub leaves-none : (fault : PutFault) (c : Option (List ℕ)) (w : List ℕ) → Leaves fault c w c w []
leaves-none Memory c w = gathers-none c w
leaves-none (TooLong number) c w = gathers-none c w
leaves-none (Write error) c w = ([], w ++ [], refl, Appends-nil c)

pub leaves-then : (fault : PutFault) (a b c : Option (List ℕ)) (w v u t s : List ℕ) → Gathers a w b v t
    → Leaves fault b v c u s → Leaves fault a w c u (t ++ s)
leaves-then Memory a b c w v u t s h k = gathers-then a b c w v u t s h k
leaves-then (TooLong number) a b c w v u t s h k = gathers-then a b c w v u t s h k
leaves-then (Write error) a b c w v u t s h k = front-then a b c w v t s h k

-- ---- a line that has too many octets

first-held : (rest : List (List ℕ)) (held : List ℕ) → FirstIsLong rest [] → FirstIsLong rest held
first-held [] held h = absurd (let size = h.1 in omega (arith, size))
first-held (line ∷ rest) held h = h

first-more : (rest more : List (List ℕ)) → FirstIsLong rest [] → FirstIsLong (rest ++ more) []
first-more [] more h = absurd (let size = h.1 in omega (arith, size))
first-more (line ∷ rest) more h = h

first-ended : (rest : List (List ℕ)) (held more : List ℕ) → FirstIsLong rest held
    → FirstIsLong (rest ++ lines (ended (held ++ more))) []
first-ended [] held more h = held-long held more h
first-ended (line ∷ rest) held more h = h

counts-by : (fault : PutFault) (n : ℕ) (rest other : List (List ℕ)) (held kept : List ℕ)
    → (FirstIsLong rest held → FirstIsLong other kept) → CountsLong fault n rest held → CountsLong fault n other kept
counts-by Memory n rest other held kept by h = tt
counts-by (TooLong k) n rest other held kept by h = (h.0, by h.1)
counts-by (Write e) n rest other held kept by h = tt

module _ {S : Type 0} (style : List ℕ → List ℕ) (Says : S → ℕ → List ℕ → S → List ℕ → Type 0) where
  -- none of the lines that were said has too many octets
  pub turns-within : (n : ℕ) (a b : S) (l : List (List ℕ)) (t : List ℕ) → SaysInTurn style Says n a l b t
      → All (λ line. length line ≤ line_limit) l
  turns-within n a b [] t h k d below = absurd (omega (arith, below))
  turns-within n a b (line ∷ l) t h zero d below = h.6
  turns-within n a b (line ∷ l) t h (suc k) d below =
      turns-within (n + 1) h.0 b l h.2 h.4 k d (omega (arith, below))

  pub turns-then : (n k : ℕ) (a m b : S) (l more : List (List ℕ)) (t u : List ℕ) → SaysInTurn style Says n a l m t
      → k ≡ n + length l → SaysInTurn style Says k m more b u → SaysInTurn style Says n a (l ++ more) b (t ++ u)
  turns-then n k a m b [] more t u h at later =
      let Said : ℕ → S → List ℕ → Type 0 = λ i s v. SaysInTurn style Says i s more b v in
      let start : k ≡ n = omega (arith, at) in
      rw h.1 (subst (λ s. Said n s u) h.0 (subst (λ i. Said i m u) start later))
  turns-then n k a m b (line ∷ l) more t u h at later =
      let rest = turns-then (n + 1) k h.0 m b l more h.2 u h.4 (omega (arith, at)) later in (
        h.0,
        h.1,
        h.2 ++ u,
        h.3,
        rest,
        ap (λ v. v ++ u) h.5 ∙ append_assoc (style h.1) h.2 u,
        h.6,
      )

  pub tells-none : (n : ℕ) (a : S) (c : Option (List ℕ)) (w : List ℕ) → TellsLines style Says n a [] n a true c w c w
  tells-none n a c w = record {
    done = [];
    rest = [];
    parts = refl;
    all = λ _. refl;
    text = [];
    turns = (refl, refl);
    number = omega arith;
    gathered = gathers-none c w;
  }

  -- lines that are all said
  whole : (l done rest : List (List ℕ)) → l ≡ done ++ rest → rest ≡ [] → l ≡ done
  whole l done rest parts none = parts ∙ ap (λ v. done ++ v) none ∙ append-nil done

  pub tells-then : (n m k : ℕ) (a b e : S) (l more : List (List ℕ)) (going : Bool) (c d f : Option (List ℕ))
      (w v u : List ℕ) → TellsLines style Says n a l m b true c w d v → TellsLines style Says m b more k e going d v f u
      → TellsLines style Says n a (l ++ more) k e going c w f u
  tells-then n m k a b e l more going c d f w v u h later =
      let all = whole l h.done h.rest h.parts (h.all refl) in
      record {
        done = h.done ++ later.done;
        rest = later.rest;
        parts = ap (λ v. v ++ more) all ∙ ap (λ v. h.done ++ v) later.parts
            ∙ sym (append_assoc h.done later.done later.rest);
        all = later.all;
        text = h.text ++ later.text;
        turns = turns-then n m a b e h.done later.done h.text later.text h.turns h.number later.turns;
        number = later.number ∙ ap (λ v. v + length later.done) h.number ∙ counted n h.done later.done;
        gathered = gathers-then c d f w v u h.text later.text h.gathered later.gathered;
      }
    where
      counted : (n : ℕ) (s t : List (List ℕ)) → n + length s + length t ≡ n + length (s ++ t)
      counted n s t = let size = length-append s t in omega (arith, size)

  -- nothing more is said
  pub tells-stop : (n m : ℕ) (a b : S) (l more : List (List ℕ)) (c d : Option (List ℕ)) (w v : List ℕ)
      → TellsLines style Says n a l m b false c w d v → TellsLines style Says n a (l ++ more) m b false c w d v
  tells-stop n m a b l more c d w v h = record {
    done = h.done;
    rest = h.rest ++ more;
    parts = ap (λ x. x ++ more) h.parts ∙ append_assoc h.done h.rest more;
    all = λ is. absurd (cc);
    text = h.text;
    turns = h.turns;
    number = h.number;
    gathered = h.gathered;
  }

  pub breaks-then : (n m : ℕ) (a b : S) (l more : List (List ℕ)) (held : List ℕ) (fault : PutFault)
      (c d f : Option (List ℕ)) (w v u : List ℕ) → TellsLines style Says n a l m b true c w d v
      → StopsInTurn style Says m b more held fault d v f u → StopsInTurn style Says n a (l ++ more) held fault c w f u
  breaks-then n m a b l more held fault c d f w v u h later =
      let all = whole l h.done h.rest h.parts (h.all refl) in
      let Long : ℕ → Type 0 = λ k. CountsLong fault k later.rest held in
      record {
        done = h.done ++ later.done;
        rest = later.rest;
        parts = ap (λ v. v ++ more) all ∙ ap (λ v. h.done ++ v) later.parts
            ∙ sym (append_assoc h.done later.done later.rest);
        said = later.said;
        text = h.text ++ later.text;
        turns = turns-then n m a b later.said h.done later.done h.text later.text h.turns h.number later.turns;
        long = subst Long (ap (λ v. v + length later.done) h.number ∙ counted n h.done later.done) later.long;
        leaves = leaves-then fault c d f w v u h.text later.text h.gathered later.leaves;
      }
    where
      counted : (n : ℕ) (s t : List (List ℕ)) → n + length s + length t ≡ n + length (s ++ t)
      counted n s t = let size = length-append s t in omega (arith, size)

  -- the same of other lines behind those that are said
  breaks_by : (n : ℕ) (a : S) (l all rest : List (List ℕ)) (held kept : List ℕ) (fault : PutFault)
      (c d : Option (List ℕ)) (w v : List ℕ) → (h : StopsInTurn style Says n a l held fault c w d v) → all ≡ h.done ++ rest
      → (FirstIsLong h.rest held → FirstIsLong rest kept) → StopsInTurn style Says n a all kept fault c w d v
  breaks_by n a l all rest held kept fault c d w v h parts by = record {
    done = h.done;
    rest = rest;
    parts = parts;
    said = h.said;
    text = h.text;
    turns = h.turns;
    long = counts-by fault (n + length h.done) h.rest rest held kept by h.long;
    leaves = h.leaves;
  }

  -- whatever is held behind the lines
  pub breaks-held : (n : ℕ) (a : S) (l : List (List ℕ)) (held : List ℕ) (fault : PutFault) (c d : Option (List ℕ))
      (w v : List ℕ) → StopsInTurn style Says n a l [] fault c w d v → StopsInTurn style Says n a l held fault c w d v
  breaks-held n a l held fault c d w v h =
      breaks_by n a l l h.rest [] held fault c d w v h h.parts (first-held h.rest held)

  -- lines behind that aren't said
  pub breaks-more : (n : ℕ) (a : S) (l more : List (List ℕ)) (fault : PutFault) (c d : Option (List ℕ))
      (w v : List ℕ) → StopsInTurn style Says n a l [] fault c w d v → StopsInTurn style Says n a (l ++ more) [] fault c w d v
  breaks-more n a l more fault c d w v h =
      breaks_by n a l (l ++ more) (h.rest ++ more) [] [] fault c d w v h
      (ap (λ x. x ++ more) h.parts ∙ append_assoc h.done h.rest more) (first-more h.rest more)

  -- the lines that begin with what is held
  pub breaks-ended : (n : ℕ) (a : S) (l : List (List ℕ)) (held more : List ℕ) (fault : PutFault) (c d : Option (List ℕ))
      (w v : List ℕ) → StopsInTurn style Says n a l held fault c w d v
      → StopsInTurn style Says n a (l ++ lines (ended (held ++ more))) [] fault c w d v
  breaks-ended n a l held more fault c d w v h =
      let others = lines (ended (held ++ more)) in
      breaks_by n a l (l ++ others) (h.rest ++ others) held [] fault c d w v h
      (ap (λ x. x ++ others) h.parts ∙ append_assoc h.done h.rest others) (first-ended h.rest held more)

  -- none is said
  pub breaks-none : (n : ℕ) (a : S) (l : List (List ℕ)) (held : List ℕ) (fault : PutFault) (c : Option (List ℕ))
      (w : List ℕ) → CountsLong fault n l held → StopsInTurn style Says n a l held fault c w c w
  breaks-none n a l held fault c w long =
      let Long : ℕ → Type 0 = λ k. CountsLong fault k l held in
      let same : n ≡ n + 0 = omega arith in
      record {
        done = [];
        rest = l;
        parts = refl;
        said = a;
        text = [];
        turns = (refl, refl);
        long = subst Long same long;
        leaves = leaves-none fault c w;
      }

  -- a text that was said behind what was cleared
  abbrev pub Made : S → ℕ → List ℕ → S → List ℕ → List ℕ → Type 0
  Made a number line b cleared made = (more : List ℕ) × (made ≡ cleared ++ more) × Says a number line b more

  made_is : (a b : S) (number n : ℕ) (line cleared made octets : List ℕ) → Made a number line b cleared made
      → cleared ≡ [] → octets ≡ made → number ≡ n + 1 → Says a (n + 1) line b octets
  made_is a b number n line cleared made octets so none whole next =
      let Text : List ℕ → Type 0 = λ v. Says a (n + 1) line b v in
      let Number : ℕ → Type 0 = λ k. Says a k line b so.0 in
      subst Text (sym (whole ∙ so.1 ∙ ap (λ v. v ++ so.0) none)) (subst Number next so.2)

  -- one line is said
  pub line_told : (a b : S) (number n : ℕ) (line cleared made octets : List ℕ) (going : Bool)
      (c d : Option (List ℕ)) (w v : List ℕ) → Made a number line b cleared made → cleared ≡ [] → octets ≡ made
      → number ≡ n + 1 → length line ≤ line_limit → Gathers c w d v (style octets)
      → TellsLines style Says n a (line ∷ []) number b going c w d v
  line_told a b number n line cleared made octets going c d w v so none whole next within gathers =
      let Text : List ℕ → Type 0 = Gathers c w d v in
      record {
        done = line ∷ [];
        rest = [];
        parts = refl;
        all = λ _. refl;
        text = style octets ++ [];
        turns = (
          b,
          octets,
          [],
          made_is a b number n line cleared made octets so none whole next,
          (refl, refl),
          refl,
          within,
        );
        number = next;
        gathered = subst Text (sym (append-nil (style octets))) gathers;
      }

  -- it is said, but can't be gathered or written
  pub line_left : (a b : S) (number n : ℕ) (line cleared made octets : List ℕ) (fault : PutFault)
      (c d : Option (List ℕ)) (w v : List ℕ) → Made a number line b cleared made → cleared ≡ [] → octets ≡ made
      → number ≡ n + 1 → length line ≤ line_limit → IsOfOutput fault
      → Leaves fault c w d v (text_left fault (style octets)) → StopsInTurn style Says n a (line ∷ []) [] fault c w d v
  line_left a b number n line cleared made octets Memory c d w v so none whole next within is leaves = record {
    done = [];
    rest = line ∷ [];
    parts = refl;
    said = a;
    text = [];
    turns = (refl, refl);
    long = tt;
    leaves = leaves;
  }
  line_left a b number n line cleared made octets (TooLong k) c d w v so none whole next within is leaves = absurd is
  line_left a b number n line cleared made octets (Write e) c d w v so none whole next within is leaves =
      let Text : List ℕ → Type 0 = λ x. WritesFront c d (w ++ x) in
      record {
        done = line ∷ [];
        rest = [];
        parts = refl;
        said = b;
        text = style octets ++ [];
        turns = (
          b,
          octets,
          [],
          made_is a b number n line cleared made octets so none whole next,
          (refl, refl),
          refl,
          within,
        );
        long = tt;
        leaves = subst Text (sym (append-nil (style octets))) leaves;
      }

  behind_line : (all before rest rest' : List (List ℕ)) (line : List ℕ) → all ≡ before ++ rest → rest ≡ line ∷ rest'
      → all ≡ (before ++ line ∷ []) ++ rest'
  behind_line all before rest rest' line h k =
      h ∙ ap (λ v. before ++ v) k ∙ sym (append_assoc before (line ∷ []) rest')

  -- a line more of all
  pub tells_next : (n m k : ℕ) (a b e : S) (all before rest rest' : List (List ℕ)) (line : List ℕ) (going : Bool)
      (c d f : Option (List ℕ)) (w v u : List ℕ) → all ≡ before ++ rest → rest ≡ line ∷ rest'
      → TellsLines style Says n a before m b true c w d v → TellsLines style Says m b (line ∷ []) k e going d v f u → going ≡ true
      → (all ≡ (before ++ line ∷ []) ++ rest') × TellsLines style Says n a (before ++ line ∷ []) k e true c w f u
  tells_next n m k a b e all before rest rest' line going c d f w v u h at so one is =
      let Goes : Bool → Type 0 = λ g. TellsLines style Says m b (line ∷ []) k e g d v f u in (
        behind_line all before rest rest' line h at,
        tells-then n m k a b e before (line ∷ []) true c d f w v u so (subst Goes is one),
      )

  pub tells_end : (n m k : ℕ) (a b e : S) (all before rest rest' : List (List ℕ)) (line : List ℕ) (going : Bool)
      (c d f : Option (List ℕ)) (w v u : List ℕ) → all ≡ before ++ rest → rest ≡ line ∷ rest'
      → TellsLines style Says n a before m b true c w d v → TellsLines style Says m b (line ∷ []) k e going d v f u
      → going ≡ false → TellsLines style Says n a all k e false c w f u
  tells_end n m k a b e all before rest rest' line going c d f w v u h at so one is =
      let Goes : Bool → Type 0 = λ g. TellsLines style Says m b (line ∷ []) k e g d v f u in
      let All : List (List ℕ) → Type 0 = λ l. TellsLines style Says n a l k e false c w f u in
      subst All (sym (behind_line all before rest rest' line h at))
      (tells-stop n k a e (before ++ line ∷ []) rest' c f w u
      (tells-then n m k a b e before (line ∷ []) false c d f w v u so (subst Goes is one)))

  pub breaks_at : (n m : ℕ) (a b : S) (all before rest rest' : List (List ℕ)) (line : List ℕ) (fault : PutFault)
      (c d f : Option (List ℕ)) (w v u : List ℕ) → all ≡ before ++ rest → rest ≡ line ∷ rest'
      → TellsLines style Says n a before m b true c w d v → StopsInTurn style Says m b (line ∷ []) [] fault d v f u
      → StopsInTurn style Says n a all [] fault c w f u
  breaks_at n m a b all before rest rest' line fault c d f w v u h at so one =
      let All : List (List ℕ) → Type 0 = λ l. StopsInTurn style Says n a l [] fault c w f u in
      subst All (sym (behind_line all before rest rest' line h at))
      (breaks-more n a (before ++ line ∷ []) rest' fault c f w u
      (breaks-then n m a b before (line ∷ []) [] fault c d f w v u so one))

pub handed_on : {T : Type 0} (Q : PutFault → Type 0) (r : Result T PutFault) (fault : PutFault)
    → IsErrAnd r (λ f. f ≡ fault) → Q fault → IfErr r Q
handed_on Q (Ok v) fault never so = absurd never
handed_on Q (Err f) fault is so = subst Q (sym is) so
