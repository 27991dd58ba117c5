-- A run over a reader, read by read.
use Rattle.std.proofs.Common.{◌≡◌, ◌≤◌, ℕ, Bool, true, false, Option, Some, None, IfSome, OnSome, Result, Ok, Err, IfErr, IsErrAnd, All, List, [], ◌++◌}
use Rattle.std.proofs.Common.{length, drop, append_assoc, append-nil, arith, ap, sym, ◌∙◌, refl, subst, inl}
use Rattle.std.proofs.lemmas.List.{take_all, take-append-drop}
use Rattle.std.specs.Io.{StartsWith}
use Rattle.std.specs.Io.KnownBytes.{Appends, Consumes, IsAtEnd, Keeps}
use Rattle.std.specs.Io.BufRead.{DropsConsumable}
use Rattle.std.specs.Str.Lines.{lines}
use Rattle.std.proofs.KnownBytes.{Consumes-nil, Consumes-kept, Consumes-trans}
use Rattle.std.proofs.BufReadLemmas.{Consumes_shown}
use Rattle.dm_view_lines.specs.declared.put_fault.PutFault.{PutFault}
use Rattle.dm_view_lines.specs.declared.put_fault.PutFault.TheVariants as put
use Rattle.dm_view_lines.specs.declared.run_fault.RunFault.{RunFault}
use Rattle.dm_view_lines.specs.Faults.{run_fault}
use Rattle.dm_view_lines.specs.LineEnds.{HasLineEnds, ended}
use Rattle.dm_view_lines.specs.Reads.{TellsPiece, BreaksPiece, SaysRead, StopsRun}
use Rattle.dm_view_lines.specs.Turns.{SaysInTurn, TellsLines, StopsInTurn}
use Rattle.dm_view_lines.proofs.Seams.{NoLf, whole-joins, whole-append, lines-behind}
use Rattle.dm_view_lines.proofs.SeamSaid.{none_tells}
use Rattle.dm_view_lines.proofs.Turning.{tells-none, tells-then, tells-stop, breaks-then, breaks-ended}

pub kept_none : (old new : Option (List ℕ)) → Keeps old new → Consumes old new []
kept_none old new kept = Consumes-kept old old new [] (Consumes-nil old) kept

pub at_end : (old new : Option (List ℕ)) (n : ℕ) → Keeps old new → IfSome old (λ xs. n ≡ 0 → xs ≡ []) → n ≡ 0
    → OnSome old (IsAtEnd new)
at_end None new n kept out none = tt
at_end (Some xs) None n kept out none = absurd kept
at_end (Some xs) (Some ys) n kept out none = kept ∙ out none

-- what is known once the octets of a reader are, of a reader that gave some of them
pub on_given : (given mid : Option (List ℕ)) (octets : List ℕ) (P : Type 0) → Consumes given mid octets → OnSome mid P
    → OnSome given P
on_given None mid octets P read known = tt
on_given (Some xs) None octets P read known = absurd read
on_given (Some xs) (Some ys) octets P read known = known

-- what a reader had: what it gave, and more
rest_of : (xs octets : List ℕ) → StartsWith xs octets → (more : List ℕ) × (xs ≡ octets ++ more)
rest_of xs octets h =
    (drop (length octets) xs, sym (take-append-drop (length octets) xs) ∙ ap (λ v. v ++ drop (length octets) xs) h)

module _ {S : Type 0} (style : List ℕ → List ℕ) (Says : S → ℕ → List ℕ → S → List ℕ → Type 0) where
  -- octets were read, and their lines said
  abbrev pub Took : ℕ → S → List ℕ → ℕ → S → Bool → List ℕ → Option (List ℕ) → Option (List ℕ) → Option (List ℕ)
      → Option (List ℕ) → Type 0
  Took n a held m b going holds given left old new =
      (octets : List ℕ) × Consumes given left octets × TellsPiece style Says n a held octets m b going holds old [] new []

  pub took_none : (n : ℕ) (a : S) (held : List ℕ) (going : Bool) (given left c : Option (List ℕ)) → Keeps given left
      → going ≡ true → Took n a held n a going held given left c c
  took_none n a held going given left c kept is =
      let Goes : Bool → Type 0 = λ g. TellsPiece style Says n a held [] n a g held c [] c [] in (
        [],
        kept_none given left kept,
        subst Goes (sym is) (none_tells style Says n n a held [] held c [] refl (sym (append-nil held))),
      )

  pub took_some : (n m : ℕ) (a b : S) (held shown holds : List ℕ) (going more : Bool) (given mid left : Option (List ℕ))
      (limit : Option ℕ) (old new : Option (List ℕ)) (size : ℕ) → size ≡ length shown
      → IfSome given (λ xs. StartsWith xs shown) → IfSome given (λ xs. length shown ≡ 0 → xs ≡ []) → Keeps given mid
      → IfSome given (λ _. IfSome limit (λ k. length shown ≤ k)) → DropsConsumable mid left limit size → more ≡ going
      → TellsPiece style Says n a held shown m b going holds old [] new []
      → Took n a held m b more holds given left old new
  took_some n m a b held shown holds going more given mid left limit old new size whole front out kept fits drops is h =
      let within : size ≤ length shown = omega (arith, whole) in
      let moved = Consumes_shown given mid left limit shown size within front out kept fits drops in
      let Read : List ℕ → Type 0 = Consumes given left in
      let Goes : Bool → Type 0 = λ g. TellsPiece style Says n a held shown m b g holds old [] new [] in
      (shown, subst Read (take_all size shown (omega (arith, whole))) moved.0, subst Goes (sym is) h)

  -- the lines that were read whole are said, and what is held is of one line
  pub record SoRead (n : ℕ) (a : S) (held : List ℕ) (m : ℕ) (b : S) (given left : Option (List ℕ))
      (old new : Option (List ℕ)) : Type 0 where
    pub whole : List ℕ
    pub read : Consumes given left (whole ++ held)
    pub ends : HasLineEnds whole
    pub one_line : All NoLf held
    pub told : TellsLines style Says n a (lines whole) m b true old [] new []

  pub so_start : (n : ℕ) (a : S) (held : List ℕ) (given c : Option (List ℕ)) → held ≡ []
      → SoRead n a held n a given given c c
  so_start n a held given c none =
      let Read : List ℕ → Type 0 = Consumes given given in
      let One : List ℕ → Type 0 = All NoLf in
      record {
        whole = [];
        read = subst Read (sym none) (Consumes-nil given);
        ends = inl refl;
        one_line = subst One (sym none) none_in;
        told = tells-none style Says n a c [];
      }
    where
      none_in : All NoLf []
      none_in k d below = absurd (omega (arith, below))

  joined : (whole held octets front behind : List ℕ) → held ++ octets ≡ front ++ behind
      → (whole ++ held) ++ octets ≡ (whole ++ front) ++ behind
  joined whole held octets front behind is =
      append_assoc whole held octets ∙ ap (λ v. whole ++ v) is ∙ sym (append_assoc whole front behind)

  -- what was said of a piece, behind what was said before
  more_told : (n m k : ℕ) (a b e : S) (whole front : List ℕ) (going : Bool) (c d f : Option (List ℕ)) → HasLineEnds whole
      → TellsLines style Says n a (lines whole) m b true c [] d [] → TellsLines style Says m b (lines front) k e going d [] f []
      → TellsLines style Says n a (lines (whole ++ front)) k e going c [] f []
  more_told n m k a b e whole front going c d f ends h later =
      let Lines : List (List ℕ) → Type 0 = λ l. TellsLines style Says n a l k e going c [] f [] in
      subst Lines (sym (whole-joins whole ends front))
      (tells-then style Says n m k a b e (lines whole) (lines front) going c d f [] [] [] h later)

  pub so_more : (n m k : ℕ) (a b e : S) (held holds : List ℕ) (going : Bool)
      (given mid left : Option (List ℕ)) (c d f : Option (List ℕ)) → SoRead n a held m b given mid c d
      → Took m b held k e going holds mid left d f → (All NoLf held → going ≡ true → All NoLf holds) → going ≡ true
      → SoRead n a holds k e given left c f
  so_more n m k a b e held holds going given mid left c d f so took one is =
      let piece = took.2 in
      let Goes : Bool → Type 0 = λ g. TellsLines style Says m b (lines piece.whole) k e g d [] f [] in
      let Read : List ℕ → Type 0 = Consumes given left in
      record {
        whole = so.whole ++ piece.whole;
        read = subst Read
            (joined so.whole held took.0 piece.whole piece.behind piece.parts
            ∙ ap (λ v. (so.whole ++ piece.whole) ++ v) (piece.rest is))
            (Consumes-trans given mid left (so.whole ++ held) took.0 so.read took.1);
        ends = whole-append so.whole piece.whole so.ends piece.ends;
        one_line = one so.one_line is;
        told = more_told n m k a b e so.whole piece.whole true c d f so.ends so.told (subst Goes is piece.tells);
      }

  -- the reader's end
  pub so_end : (n m k : ℕ) (a b e : S) (held : List ℕ) (going : Bool) (given left : Option (List ℕ))
      (c d f : Option (List ℕ)) → SoRead n a held m b given left c d → OnSome given (IsAtEnd left)
      → TellsLines style Says m b (lines (ended held)) k e going d [] f []
      → IfSome given (λ octets. TellsLines style Says n a (lines (ended octets)) k e going c [] f [])
  so_end n m k a b e held going None left c d f so end last = tt
  so_end n m k a b e held going (Some xs) None c d f so end last = absurd so.read
  so_end n m k a b e held going (Some xs) (Some ys) c d f so end last =
      let all : xs ≡ so.whole ++ held =
      so.read ∙ ap (λ v. (so.whole ++ held) ++ v) end ∙ append-nil (so.whole ++ held) in
      let Lines : List (List ℕ) → Type 0 = λ l. TellsLines style Says n a l k e going c [] f [] in
      subst Lines (sym (ap (λ v. lines (ended v)) all ∙ lines-behind so.whole held so.ends))
      (tells-then style Says n m k a b e (lines so.whole) (lines (ended held)) going c d f [] [] [] so.told last)

  -- whatever stands behind lines that are whole
  behind_whole : (xs front behind more : List ℕ) → xs ≡ (front ++ behind) ++ more → HasLineEnds front
      → lines (ended xs) ≡ lines front ++ lines (ended (behind ++ more))
  behind_whole xs front behind more is ends =
      ap (λ v. lines (ended v)) (is ∙ append_assoc front behind more) ∙ lines-behind front (behind ++ more) ends

  pub so_enough : (n m k : ℕ) (a b e : S) (held holds : List ℕ) (going : Bool) (given mid left : Option (List ℕ))
      (c d f : Option (List ℕ)) → SoRead n a held m b given mid c d → Took m b held k e going holds mid left d f
      → going ≡ false → IfSome given (λ octets. TellsLines style Says n a (lines (ended octets)) k e false c [] f [])
  so_enough n m k a b e held holds going given mid left c d f so took stop =
      by given left (Consumes-trans given mid left (so.whole ++ held) took.0 so.read took.1) where
        by : (g l : Option (List ℕ)) → Consumes g l ((so.whole ++ held) ++ took.0)
            → IfSome g (λ octets. TellsLines style Says n a (lines (ended octets)) k e false c [] f [])
        by None l read = tt
        by (Some xs) None read = absurd read
        by (Some xs) (Some ys) read =
            let piece = took.2 in
            let Goes : Bool → Type 0 = λ g. TellsLines style Says m b (lines piece.whole) k e g d [] f [] in
            let Lines : List (List ℕ) → Type 0 = λ l. TellsLines style Says n a l k e false c [] f [] in
            let front = so.whole ++ piece.whole in
            subst Lines
            (sym (behind_whole xs front piece.behind ys
            (read ∙ ap (λ v. v ++ ys) (joined so.whole held took.0 piece.whole piece.behind piece.parts))
            (whole-append so.whole piece.whole so.ends piece.ends)))
            (tells-stop style Says n k a e (lines front) (lines (ended (piece.behind ++ ys))) c f [] []
            (more_told n m k a b e so.whole piece.whole false c d f so.ends so.told (subst Goes stop piece.tells)))

  -- by any fault of what was put
  stops : (n : ℕ) (a : S) (fault : PutFault) (given left old new : Option (List ℕ))
      → IfSome given (λ octets. StopsInTurn style Says n a (lines (ended octets)) [] fault old [] new [])
      → StopsRun style Says n a (run_fault fault) given left old new
  stops n a put.Memory given left old new h = h
  stops n a (put.TooLong number) given left old new h = h
  stops n a (put.Write error) given left old new h = h

  pub so_breaks : (n m : ℕ) (a b : S) (held : List ℕ) (fault : PutFault) (given mid left : Option (List ℕ))
      (c d f : Option (List ℕ)) → SoRead n a held m b given mid c d
      → (octets : List ℕ) × IfSome mid (λ xs. StartsWith xs octets)
      × BreaksPiece style Says m b held octets fault d [] f []
      → StopsRun style Says n a (run_fault fault) given left c f
  so_breaks n m a b held fault given mid left c d f so stop = stops n a fault given left c f (by given mid so.read stop.1) where
    by : (g l : Option (List ℕ)) → Consumes g l (so.whole ++ held) → IfSome l (λ xs. StartsWith xs stop.0)
        → IfSome g (λ octets. StopsInTurn style Says n a (lines (ended octets)) [] fault c [] f [])
    by None l read starts = tt
    by (Some xs) None read starts = absurd read
    by (Some xs) (Some ys) read starts =
        let piece = stop.2 in
        let more = rest_of ys stop.0 starts in
        let front = so.whole ++ piece.whole in
        let Lines : List (List ℕ) → Type 0 = λ l. StopsInTurn style Says n a l [] fault c [] f [] in
        let Front : List (List ℕ) → Type 0 = λ l. StopsInTurn style Says n a l piece.behind fault c [] f [] in
        let whole = whole-joins so.whole so.ends piece.whole in
        subst Lines
        (sym (behind_whole xs front piece.behind more.0
        (read ∙ ap (λ v. (so.whole ++ held) ++ v) more.1 ∙ sym (append_assoc (so.whole ++ held) stop.0 more.0)
        ∙ ap (λ v. v ++ more.0) (joined so.whole held stop.0 piece.whole piece.behind piece.parts))
        (whole-append so.whole piece.whole so.ends piece.ends)))
        (breaks-ended style Says n a (lines front) piece.behind more.0 fault c f [] []
        (subst Front (sym whole)
        (breaks-then style Says n m a b (lines so.whole) (lines piece.whole) piece.behind fault c d f [] [] [] so.told
        piece.breaks)))

  -- in the last line
  pub end_breaks : (n m : ℕ) (a b : S) (held : List ℕ) (fault : PutFault) (given left : Option (List ℕ))
      (c d f : Option (List ℕ)) → SoRead n a held m b given left c d → OnSome given (IsAtEnd left)
      → StopsInTurn style Says m b (lines (ended held)) [] fault d [] f []
      → StopsRun style Says n a (run_fault fault) given left c f
  end_breaks n m a b held fault given left c d f so end last = stops n a fault given left c f (by given left so.read end) where
    by : (g l : Option (List ℕ)) → Consumes g l (so.whole ++ held) → OnSome g (IsAtEnd l)
        → IfSome g (λ octets. StopsInTurn style Says n a (lines (ended octets)) [] fault c [] f [])
    by None l read end = tt
    by (Some xs) None read end = absurd read
    by (Some xs) (Some ys) read end =
        let all : xs ≡ so.whole ++ held =
        read ∙ ap (λ v. (so.whole ++ held) ++ v) end ∙ append-nil (so.whole ++ held) in
        let Lines : List (List ℕ) → Type 0 = λ l. StopsInTurn style Says n a l [] fault c [] f [] in
        subst Lines (sym (ap (λ v. lines (ended v)) all ∙ lines-behind so.whole held so.ends))
        (breaks-then style Says n m a b (lines so.whole) (lines (ended held)) [] fault c d f [] [] [] so.told last)

  whole_said : (l done rest : List (List ℕ)) → l ≡ done ++ rest → rest ≡ [] → l ≡ done
  whole_said l done rest parts none = parts ∙ ap (λ v. done ++ v) none ∙ append-nil done

  -- the reader fails
  pub so_failed : (n m : ℕ) (a b : S) (held : List ℕ) (given left : Option (List ℕ)) (c d : Option (List ℕ))
      → SoRead n a held m b given left c d → SaysRead style Says n a given left c d
  so_failed n m a b held given left c d so =
      let told = so.told in
      let all = whole_said (lines so.whole) told.done told.rest told.parts (told.all refl) in
      let Said : List (List ℕ) → Type 0 = λ l. SaysInTurn style Says n a l b told.text in
      let Text : List ℕ → Type 0 = λ t. Appends c d t in
      record {
        whole = so.whole;
        held = held;
        read = so.read;
        ends = so.ends;
        one_line = so.one_line;
        said = b;
        text = told.text;
        turns = subst Said (sym all) told.turns;
        written = subst Text (sym (told.gathered.1 ∙ append-nil told.gathered.0)) told.gathered.2;
      }

pub handed_to : {T : Type 0} (Q : RunFault → Type 0) (r : Result T RunFault) (fault : RunFault)
    → IsErrAnd r (λ f. f ≡ fault) → Q fault → IfErr r Q
handed_to Q (Ok v) fault never so = absurd never
handed_to Q (Err f) fault is so = subst Q (sym is) so
