-- What is said of the lines that octets end, piece by piece.
use Rattle.std.proofs.Common.{◌≡◌, ◌+◌, ℕ, Bool, true, false, Option, Result, Ok, Err, IfOk, IfErr, All, List, [], ◌++◌, inl}
use Rattle.std.proofs.Common.{length, take, drop, take-append-drop, append_assoc, ap, sym, ◌∙◌, refl, subst}
use Rattle.std.specs.Str.Lines.{lines}
use Rattle.std.proofs.lemmas.List.Elements.{All-append}
use Rattle.memchr.specs.Find.{NoneBefore, Passes, is_byte}
use Rattle.dm_view_lines.specs.declared.put_fault.PutFault.{PutFault}
use Rattle.dm_view_lines.specs.declared.put_fault.PutFault.TheVariants.{Memory, TooLong, Write}
use Rattle.dm_view_lines.specs.LineEnds.{HasLineEnds}
use Rattle.dm_view_lines.specs.Reads.{TellsPiece, BreaksPiece}
use Rattle.dm_view_lines.specs.Turns.{CountsLong, Gathers, Leaves, TellsLines, StopsInTurn}
use Rattle.dm_view_lines.proofs.Seams.{NoLf, whole-joins, whole-append, whole_to}
use Rattle.dm_view_lines.proofs.Turning.{tells-none, tells-then, breaks-none, breaks-held, breaks-then}

-- what is gathered is left so by any fault
gathers-leaves : (fault : PutFault) (c d : Option (List ℕ)) (w v t : List ℕ) → Gathers c w d v t → Leaves fault c w d v t
gathers-leaves Memory c d w v t h = h
gathers-leaves (TooLong k) c d w v t h = h
gathers-leaves (Write e) c d w v t h = (h.0, v, h.1, h.2)

-- a front and what is behind it are all
pub split_at : (held octets rest : List ℕ) (k : ℕ) → rest ≡ drop k octets
    → held ++ octets ≡ (held ++ take k octets) ++ rest
split_at held octets rest k is =
    ap (λ v. held ++ v) (sym (take-append-drop k octets)) ∙ sym (append_assoc held (take k octets) (drop k octets))
    ∙ ap (λ v. (held ++ take k octets) ++ v) (sym is)

pub held_one : (before piece holds : List ℕ) → holds ≡ before ++ piece → All NoLf before → All NoLf piece → All NoLf holds
held_one before piece holds is h k =
    let One : List ℕ → Type 0 = All NoLf in subst One (sym is) (All-append NoLf before piece h k)

pub rest_one : (octets before piece holds : List ℕ) (end : ℕ) → before ≡ [] → piece ≡ drop end octets
    → holds ≡ before ++ piece → All NoLf (drop end octets) → All NoLf holds
rest_one octets before piece holds end none at is h =
    let One : List ℕ → Type 0 = All NoLf in
    subst One (sym (is ∙ ap (λ v. v ++ piece) none ∙ at)) h

-- what begins a line that has too many octets, behind nothing that was held
pub rest_long : (octets before piece : List ℕ) (end n m : ℕ) (fault : PutFault) → before ≡ [] → piece ≡ drop end octets
    → All NoLf (drop end octets) → n ≡ m
    → (All NoLf (before ++ piece) → CountsLong fault n [] (before ++ piece)) → CountsLong fault m [] (drop end octets)
rest_long octets before piece end n m fault none at one same long =
    let all : before ++ piece ≡ drop end octets = ap (λ v. v ++ piece) none ∙ at in
    let One : List ℕ → Type 0 = All NoLf in
    let Long : List ℕ → Type 0 = λ v. CountsLong fault n [] v in
    let Number : ℕ → Type 0 = λ k. CountsLong fault k [] (drop end octets) in
    subst Number same (subst Long all (long (subst One (sym all) one)))

-- and behind what was
pub both_one : (held octets : List ℕ) → All NoLf held → All NoLf octets → All NoLf (held ++ octets)
both_one held octets h k = All-append NoLf held octets h k

module _ {S : Type 0} (style : List ℕ → List ℕ) (Says : S → ℕ → List ℕ → S → List ℕ → Type 0) where
  -- all lines are said, and the run stops
  pub tells-broken : (n m : ℕ) (a b : S) (l : List (List ℕ)) (held : List ℕ) (going : Bool) (fault : PutFault)
      (c d : Option (List ℕ)) (w v : List ℕ) → TellsLines style Says n a l m b going c w d v → going ≡ true
      → CountsLong fault m [] held → StopsInTurn style Says n a l held fault c w d v
  tells-broken n m a b l held going fault c d w v h goes long =
      let Long : ℕ → Type 0 = λ k. CountsLong fault k [] held in
      let Rest : List (List ℕ) → Type 0 = λ x. CountsLong fault (n + length h.done) x held in
      record {
        done = h.done;
        rest = h.rest;
        parts = h.parts;
        said = b;
        text = h.text;
        turns = h.turns;
        long = subst Rest (sym (h.all goes)) (subst Long h.number long);
        leaves = gathers-leaves fault c d w v h.text h.gathered;
      }

  pub rest_breaks : (n : ℕ) (a : S) (octets : List ℕ) (end : ℕ) (fault : PutFault) (c d : Option (List ℕ))
      (w v : List ℕ) → HasLineEnds (take end octets)
      → StopsInTurn style Says n a (lines (take end octets)) (drop end octets) fault c w d v
      → BreaksPiece style Says n a [] octets fault c w d v
  rest_breaks n a octets end fault c d w v whole h = record {
    whole = take end octets;
    behind = drop end octets;
    parts = sym (take-append-drop end octets);
    ends = whole;
    breaks = h;
  }

  pub rest_tells : (n m k : ℕ) (a b : S) (octets : List ℕ) (end : ℕ) (going : Bool) (before piece holds : List ℕ)
      (c d : Option (List ℕ)) (w v : List ℕ) → HasLineEnds (take end octets)
      → TellsLines style Says n a (lines (take end octets)) m b going c w d v → k ≡ m → before ≡ []
      → piece ≡ drop end octets → holds ≡ before ++ piece
      → TellsPiece style Says n a [] octets k b going holds c w d v
  rest_tells n m k a b octets end going before piece holds c d w v whole h same none at is =
      let Number : ℕ → Type 0 = λ i. TellsLines style Says n a (lines (take end octets)) i b going c w d v in
      record {
        whole = take end octets;
        behind = drop end octets;
        parts = sym (take-append-drop end octets);
        ends = whole;
        tells = subst Number (sym same) h;
        rest = λ _. sym (is ∙ ap (λ x. x ++ piece) none ∙ at);
      }

  pub rest_stops : (n m : ℕ) (a b : S) (octets : List ℕ) (end : ℕ) (going : Bool) (holds : List ℕ)
      (c d : Option (List ℕ)) (w v : List ℕ) → HasLineEnds (take end octets)
      → TellsLines style Says n a (lines (take end octets)) m b going c w d v → going ≡ false
      → TellsPiece style Says n a [] octets m b going holds c w d v
  rest_stops n m a b octets end going holds c d w v whole h stop = record {
    whole = take end octets;
    behind = drop end octets;
    parts = sym (take-append-drop end octets);
    ends = whole;
    tells = h;
    rest = λ is. absurd (let other = sym is ∙ stop in cc);
  }

  pub none_breaks : (n : ℕ) (a : S) (held octets : List ℕ) (fault : PutFault) (c : Option (List ℕ)) (w : List ℕ)
      → CountsLong fault n [] (held ++ octets) → BreaksPiece style Says n a held octets fault c w c w
  none_breaks n a held octets fault c w long = record {
    whole = [];
    behind = held ++ octets;
    parts = refl;
    ends = inl refl;
    breaks = breaks-none style Says n a [] (held ++ octets) fault c w long;
  }

  pub none_tells : (n k : ℕ) (a : S) (held octets holds : List ℕ) (c : Option (List ℕ)) (w : List ℕ) → k ≡ n
      → holds ≡ held ++ octets → TellsPiece style Says n a held octets k a true holds c w c w
  none_tells n k a held octets holds c w same is =
      let Number : ℕ → Type 0 = λ i. TellsLines style Says n a [] i a true c w c w in
      record {
        whole = [];
        behind = held ++ octets;
        parts = refl;
        ends = inl refl;
        tells = subst Number (sym same) (tells-none style Says n a c w);
        rest = λ _. sym is;
      }

  pub first_breaks : (n : ℕ) (a : S) (held octets : List ℕ) (at : ℕ) (fault : PutFault) (c d : Option (List ℕ))
      (w v : List ℕ) → NoneBefore (Passes (is_byte 10) octets) 0 (length octets) at × Passes (is_byte 10) octets at
      → StopsInTurn style Says n a (lines (held ++ take (at + 1) octets)) [] fault c w d v
      → BreaksPiece style Says n a held octets fault c w d v
  first_breaks n a held octets at fault c d w v found h = record {
    whole = held ++ take (at + 1) octets;
    behind = drop (at + 1) octets;
    parts = split_at held octets (drop (at + 1) octets) (at + 1) refl;
    ends = whole_to held octets at found.0 found.1;
    breaks = breaks-held style Says n a (lines (held ++ take (at + 1) octets)) (drop (at + 1) octets) fault c d w v h;
  }

  pub first_stops : (n m : ℕ) (a b : S) (held octets : List ℕ) (at : ℕ) (going : Bool) (holds : List ℕ)
      (c d : Option (List ℕ)) (w v : List ℕ)
      → NoneBefore (Passes (is_byte 10) octets) 0 (length octets) at × Passes (is_byte 10) octets at
      → TellsLines style Says n a (lines (held ++ take (at + 1) octets)) m b going c w d v → going ≡ false
      → TellsPiece style Says n a held octets m b false holds c w d v
  first_stops n m a b held octets at going holds c d w v found h stop =
      let Goes : Bool → Type 0 = λ x. TellsLines style Says n a (lines (held ++ take (at + 1) octets)) m b x c w d v in
      record {
        whole = held ++ take (at + 1) octets;
        behind = drop (at + 1) octets;
        parts = split_at held octets (drop (at + 1) octets) (at + 1) refl;
        ends = whole_to held octets at found.0 found.1;
        tells = subst Goes stop h;
        rest = λ is. absurd (cc);
      }

  both_parts : (held octets rest whole behind : List ℕ) (k : ℕ) → rest ≡ drop k octets → [] ++ rest ≡ whole ++ behind
      → held ++ octets ≡ ((held ++ take k octets) ++ whole) ++ behind
  both_parts held octets rest whole behind k at is =
      split_at held octets rest k at ∙ ap (λ v. (held ++ take k octets) ++ v) is
      ∙ sym (append_assoc (held ++ take k octets) whole behind)

  -- the line that was held, and those behind it
  pub first_then : (n m k : ℕ) (a b e : S) (held octets rest : List ℕ) (at : ℕ) (going : Bool)
      (r : Result Bool PutFault) (holds : List ℕ) (c d f : Option (List ℕ)) (w v u : List ℕ)
      → NoneBefore (Passes (is_byte 10) octets) 0 (length octets) at × Passes (is_byte 10) octets at
      → rest ≡ drop (at + 1) octets
      → TellsLines style Says n a (lines (held ++ take (at + 1) octets)) m b going c w d v → going ≡ true
      → IfOk r (λ more. TellsPiece style Says m b [] rest k e more holds d v f u)
      → IfOk r (λ more. TellsPiece style Says n a held octets k e more holds c w f u)
  first_then n m k a b e held octets rest at going (Err fault) holds c d f w v u found behind h is later = tt
  first_then n m k a b e held octets rest at going (Ok more) holds c d f w v u found behind h is later =
      let front = held ++ take (at + 1) octets in
      let whole = whole_to held octets at found.0 found.1 in
      let Goes : Bool → Type 0 = λ x. TellsLines style Says n a (lines front) m b x c w d v in
      let All : List (List ℕ) → Type 0 = λ l. TellsLines style Says n a l k e more c w f u in
      record {
        whole = front ++ later.whole;
        behind = later.behind;
        parts = both_parts held octets rest later.whole later.behind (at + 1) behind later.parts;
        ends = whole-append front later.whole whole later.ends;
        tells = subst All (sym (whole-joins front whole later.whole))
            (tells-then style Says n m k a b e (lines front) (lines later.whole) more c d f w v u (subst Goes is h)
            later.tells);
        rest = later.rest;
      }

  pub first_then_breaks : (n m : ℕ) (a b : S) (held octets rest : List ℕ) (at : ℕ) (going : Bool)
      (r : Result Bool PutFault) (c d f : Option (List ℕ)) (w v u : List ℕ)
      → NoneBefore (Passes (is_byte 10) octets) 0 (length octets) at × Passes (is_byte 10) octets at
      → rest ≡ drop (at + 1) octets
      → TellsLines style Says n a (lines (held ++ take (at + 1) octets)) m b going c w d v → going ≡ true
      → IfErr r (λ fault. BreaksPiece style Says m b [] rest fault d v f u)
      → IfErr r (λ fault. BreaksPiece style Says n a held octets fault c w f u)
  first_then_breaks n m a b held octets rest at going (Ok more) c d f w v u found behind h is later = tt
  first_then_breaks n m a b held octets rest at going (Err fault) c d f w v u found behind h is later =
      let front = held ++ take (at + 1) octets in
      let whole = whole_to held octets at found.0 found.1 in
      let Goes : Bool → Type 0 = λ x. TellsLines style Says n a (lines front) m b x c w d v in
      let All : List (List ℕ) → Type 0 = λ l. StopsInTurn style Says n a l later.behind fault c w f u in
      record {
        whole = front ++ later.whole;
        behind = later.behind;
        parts = both_parts held octets rest later.whole later.behind (at + 1) behind later.parts;
        ends = whole-append front later.whole whole later.ends;
        breaks = subst All (sym (whole-joins front whole later.whole))
            (breaks-then style Says n m a b (lines front) (lines later.whole) later.behind fault c d f w v u
            (subst Goes is h) later.breaks);
      }
