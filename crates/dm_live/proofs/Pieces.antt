-- A line, piece by piece.
use Rattle.std.proofs.Common.{◌≡◌, ◌≢◌, ◌≤◌, ◌<◌, ◌-◌, ◌+◌, ℕ, Bool, true, false, Option, IfSome, List, [], ◌++◌}
use Rattle.std.proofs.Common.{All, length, take, append-nil, arith, ◌∙◌, sym, subst, zero-le}
use Rattle.std.proofs.Transfers.{StopsAt-take}
use Rattle.std.proofs.lemmas.Grind.{common_steps}
use Rattle.std.proofs.lemmas.List.{length-take-le}
use Rattle.std.specs.Io.{StartsWith, StopsAt, IsEmptyOrEndsWith}
use Rattle.std.specs.Io.KnownBytes.{Consumes, Keeps}
use Rattle.std.specs.Io.BufRead.{take_through, DropsConsumable, DropsThrough}
use Rattle.std.proofs.KnownBytes.{Consumes-nil, Consumes-kept, Consumes-trans}
use Rattle.std.proofs.BufReadLemmas.{Consumes_shown, Consumes_through, zero_unless_positive}
use Rattle.std.proofs.lemmas.List.Elements.{All-append}
use Rattle.memchr.specs.Find.{Nowhere, NoneBefore, Passes, is_byte}
use Rattle.dm_live.specs.Input.{TakesPiece}

abbrev NoLf : ℕ → Type 0
NoLf = λ b. b ≢ 10

none_in : All NoLf []
none_in = grind arith

none_before : (octets : List ℕ) (n : ℕ) → n ≤ length octets → Nowhere (Passes (is_byte 10) octets) 0 n
    → All NoLf (take n octets)
none_before octets n within none k d below is =
    absurd (none k zero-le (grind (arith, common_steps)) (grind (arith, common_steps)))

-- what ends with the first LF
pub stops_at_first : (octets : List ℕ) (n : ℕ) → NoneBefore (Passes (is_byte 10) octets) 0 (length octets) n
    → StopsAt (take (n + 1) octets) 10
stops_at_first octets n first =
    let high = first.high in
    let back : n ≡ n + 1 - 1 = omega arith in
    let None : ℕ → Type 0 = λ k. All NoLf (take k octets) in
    StopsAt-take _ _ _ (omega (arith, high)) (subst None back (none_before octets n (omega (arith, high)) first.before))

-- an interrupted read took nothing
pub took_none : (old new : Option (List ℕ)) (line : List ℕ) → Keeps old new → TakesPiece old new line line false
took_none old new line kept =
    record {
      piece = [];
      whole = sym (append-nil line);
      given = Consumes-kept old old new [] (Consumes-nil old) kept;
      more = λ _. none_in;
      stops = none_in;
      ends = λ is. absurd (cc);
      out = λ is. absurd (cc);
    }

pub took : (old mid new : Option (List ℕ)) (limit : Option ℕ) (shown before after : List ℕ) (n : ℕ) (done : Bool)
    → n ≤ length shown → (0 < length shown → 0 < n) → StopsAt (take n shown) 10
    → (done ≡ false → All NoLf (take n shown)) → (done ≡ true → IsEmptyOrEndsWith (take n shown) 10)
    → IfSome old (λ xs. StartsWith xs shown) → IfSome old (λ xs. length shown ≡ 0 → xs ≡ [])
    → Keeps old mid → IfSome old (λ _. IfSome limit (λ k. length shown ≤ k)) → DropsConsumable mid new limit n
    → after ≡ before ++ take n shown → TakesPiece old new before after done
took old mid new limit shown before after n done within some stops more ends front out kept fits drops whole =
    let moved = Consumes_shown old mid new limit shown n within front out kept fits drops in
    record {
      piece = take n shown;
      whole = whole;
      given = moved.0;
      more = more;
      stops = stops;
      ends = ends;
      out = λ _ none.
          moved.1 (zero_unless_positive (length shown) n some (sym (length-take-le n shown within) ∙ none));
    }

-- octets without an LF were read of a line
pub record Reading (old new : Option (List ℕ)) (line : List ℕ) : Type 0 where
  pub given : Consumes old new line
  pub none : All NoLf line

pub reading_none : (old : Option (List ℕ)) (line : List ℕ) → line ≡ [] → Reading old old line
reading_none old line is =
    let Holds : List ℕ → Type 0 = λ v. Consumes old old v in
    let None : List ℕ → Type 0 = All NoLf in
    record { given = subst Holds (sym is) (Consumes-nil old); none = subst None (sym is) none_in }

pub reading_more : (old mid new : Option (List ℕ)) (before after : List ℕ) (done : Bool) → Reading old mid before
    → TakesPiece mid new before after done → done ≡ false → Reading old new after
reading_more old mid new before after done so takes more =
    let Holds : List ℕ → Type 0 = λ v. Consumes old new v in
    let None : List ℕ → Type 0 = All NoLf in
    record {
      given = subst Holds (sym takes.whole) (Consumes-trans old mid new before takes.piece so.given takes.given);
      none = subst None (sym takes.whole) (All-append NoLf before takes.piece so.none (takes.more more));
    }

-- up to the first LF or the end
abbrev pub ReadThrough : Option (List ℕ) → Option (List ℕ) → List ℕ → Type 0
ReadThrough old new chunk = IfSome old (λ xs. chunk ≡ take_through 10 xs) × DropsThrough old new 10

pub read_through : (old mid new : Option (List ℕ)) (before after : List ℕ) (done : Bool) → Reading old mid before
    → TakesPiece mid new before after done → done ≡ true → ReadThrough old new after
read_through old mid new before after done so takes is =
    let Holds : List ℕ → Type 0 = λ v. IfSome old (λ xs. v ≡ take_through 10 xs) in
    let read = Consumes_through 10 old mid new before takes.piece so.given so.none takes.given takes.stops (takes.ends is)
    (takes.out is) in
    (subst Holds (sym takes.whole) read.0, read.1)
