-- What is said and put, and then written.
use Rattle.std.proofs.Common.{◌≡◌, ℕ, Bool, Option, Result, Ok, Err, IfOk, IfErr, List, [], ◌++◌, inl, inr}
use Rattle.std.specs.Str.Lines.{lines}
use Rattle.std.proofs.Common.{◌+◌, length, append_assoc, append-nil, ap, sym, ◌∙◌, subst}
use Rattle.std.specs.Io.KnownBytes.{Appends, Keeps}
use Rattle.std.proofs.KnownBytes.{Appends-trans, Appends-kept}
use Rattle.dm_view_lines.specs.declared.put_fault.PutFault.{PutFault}
use Rattle.dm_view_lines.specs.declared.put_fault.PutFault.TheVariants.{Memory, TooLong, Write}
use Rattle.dm_view_lines.specs.Reads.{TellsPiece, BreaksPiece}
use Rattle.dm_view_lines.specs.Turns.{CountsLong, Gathers, Leaves, WritesFront, FailsToWrite, Settles, TellsLines, StopsInTurn}

-- what waits is written
pub gathers_all : (a b c : Option (List ℕ)) (w v t : List ℕ) → Gathers a w b v t → Appends b c v → Gathers a w c [] t
gathers_all a b c w v t h k = (h.0 ++ v, h.1 ∙ sym (append-nil (h.0 ++ v)), Appends-trans a b c h.0 v h.2 k)

-- a front of it is
pub gathers_front : (a b c : Option (List ℕ)) (w v t : List ℕ) → Gathers a w b v t → WritesFront b c v → WritesFront a c (w ++ t)
gathers_front a b c w v t h k = (
  h.0 ++ k.0,
  k.1,
  h.1 ∙ ap (λ x. h.0 ++ x) k.2 ∙ sym (append_assoc h.0 k.0 k.1),
  Appends-trans a b c h.0 k.0 h.2 k.3,
)

front_kept : (a b c : Option (List ℕ)) (t : List ℕ) → WritesFront a b t → Keeps b c → WritesFront a c t
front_kept a b c t h k = (h.0, h.1, h.2, Appends-kept a b c h.0 h.3 k)

-- whatever is known of what was put
pub put_known : (P : Bool → Type 0) (put r : Result Bool PutFault) (c d : Option (List ℕ)) (v : List ℕ) → IfOk put P
    → Settles put r c d v → IfOk r P
put_known P (Ok going) (Ok more) c d v h k = subst P (sym k.0) h
put_known P (Ok going) (Err f) c d v h k = tt
put_known P (Err Memory) (Ok more) c d v h k = absurd k
put_known P (Err (TooLong n)) (Ok more) c d v h k = absurd k
put_known P (Err (Write e)) (Ok more) c d v h k = absurd k
put_known P (Err f) (Err g) c d v h k = tt

module _ {S : Type 0} (style : List ℕ → List ℕ) (Says : S → ℕ → List ℕ → S → List ℕ → Type 0) where
  settle_tells : (n m : ℕ) (a b : S) (l : List (List ℕ)) (going : Bool) (c d e : Option (List ℕ)) (w v : List ℕ)
      → TellsLines style Says n a l m b going c w d v → Appends d e v → TellsLines style Says n a l m b going c w e []
  settle_tells n m a b l going c d e w v h k = record {
    done = h.done;
    rest = h.rest;
    parts = h.parts;
    all = h.all;
    text = h.text;
    turns = h.turns;
    number = h.number;
    gathered = gathers_all c d e w v h.text h.gathered k;
  }

  settle_fails : (n m : ℕ) (a b : S) (l : List (List ℕ)) (held : List ℕ) (going : Bool) (fault : PutFault)
      (c d e : Option (List ℕ)) (w v : List ℕ) → TellsLines style Says n a l m b going c w d v → FailsToWrite fault d e v
      → StopsInTurn style Says n a l held fault c w e []
  settle_fails n m a b l held going Memory c d e w v h k = absurd k
  settle_fails n m a b l held going (TooLong i) c d e w v h k = absurd k
  settle_fails n m a b l held going (Write error) c d e w v h k = record {
    done = h.done;
    rest = h.rest;
    parts = h.parts;
    said = b;
    text = h.text;
    turns = h.turns;
    long = tt;
    leaves = gathers_front c d e w v h.text h.gathered k;
  }

  -- the run stops by this fault in place of that one
  breaks_by : (n : ℕ) (a : S) (l : List (List ℕ)) (held : List ℕ) (fault other : PutFault) (c d e : Option (List ℕ))
      (w v u : List ℕ) → (h : StopsInTurn style Says n a l held fault c w d v)
      → CountsLong other (n + length h.done) h.rest held → Leaves other c w e u h.text
      → StopsInTurn style Says n a l held other c w e u
  breaks_by n a l held fault other c d e w v u h long leaves = record {
    done = h.done;
    rest = h.rest;
    parts = h.parts;
    said = h.said;
    text = h.text;
    turns = h.turns;
    long = long;
    leaves = leaves;
  }

  settle_breaks : (n : ℕ) (a : S) (l : List (List ℕ)) (held : List ℕ) (fault other : PutFault)
      (c d e : Option (List ℕ)) (w v : List ℕ) → StopsInTurn style Says n a l held fault c w d v
      → Settles (Err fault) (Err other) d e v → StopsInTurn style Says n a l held other c w e []
  settle_breaks n a l held (Write error) other c d e w v h k =
      let Stops : PutFault → Type 0 = λ f. StopsInTurn style Says n a l held f c w e [] in
      subst Stops (sym k.0)
      (breaks_by n a l held (Write error) (Write error) c d e w v [] h tt (front_kept c d e (w ++ h.text) h.leaves k.1))
  settle_breaks n a l held Memory other c d e w v h (inl k) =
      let Stops : PutFault → Type 0 = λ f. StopsInTurn style Says n a l held f c w e [] in
      subst Stops (sym k.0)
      (breaks_by n a l held Memory Memory c d e w v [] h tt (gathers_all c d e w v h.text h.leaves k.1))
  settle_breaks n a l held Memory Memory c d e w v h (inr k) = absurd k
  settle_breaks n a l held Memory (TooLong i) c d e w v h (inr k) = absurd k
  settle_breaks n a l held Memory (Write error) c d e w v h (inr k) =
      breaks_by n a l held Memory (Write error) c d e w v [] h tt (gathers_front c d e w v h.text h.leaves k)
  settle_breaks n a l held (TooLong j) other c d e w v h (inl k) =
      let Stops : PutFault → Type 0 = λ f. StopsInTurn style Says n a l held f c w e [] in
      subst Stops (sym k.0)
      (breaks_by n a l held (TooLong j) (TooLong j) c d e w v [] h h.long (gathers_all c d e w v h.text h.leaves k.1))
  settle_breaks n a l held (TooLong j) Memory c d e w v h (inr k) = absurd k
  settle_breaks n a l held (TooLong j) (TooLong i) c d e w v h (inr k) = absurd k
  settle_breaks n a l held (TooLong j) (Write error) c d e w v h (inr k) =
      breaks_by n a l held (TooLong j) (Write error) c d e w v [] h tt (gathers_front c d e w v h.text h.leaves k)

  pub lines_settled : (n m : ℕ) (a b : S) (l : List (List ℕ)) (put r : Result Bool PutFault) (c d e : Option (List ℕ))
      (w v : List ℕ) → w ≡ [] → IfOk put (λ going. TellsLines style Says n a l m b going c w d v) → Settles put r d e v
      → IfOk r (λ going. TellsLines style Says n a l m b going c [] e [])
  lines_settled n m a b l (Ok going) (Ok more) c d e w v none h k =
      let Waits : List ℕ → Type 0 = λ x. TellsLines style Says n a l m b more c x e [] in
      let Goes : Bool → Type 0 = λ g. TellsLines style Says n a l m b g c w e [] in
      subst Waits none (subst Goes (sym k.0) (settle_tells n m a b l going c d e w v h k.1))
  lines_settled n m a b l (Ok going) (Err f) c d e w v none h k = tt
  lines_settled n m a b l (Err Memory) (Ok more) c d e w v none h k = absurd k
  lines_settled n m a b l (Err (TooLong i)) (Ok more) c d e w v none h k = absurd k
  lines_settled n m a b l (Err (Write error)) (Ok more) c d e w v none h k = absurd k
  lines_settled n m a b l (Err f) (Err g) c d e w v none h k = tt

  pub lines_broken : (n m : ℕ) (a b : S) (l : List (List ℕ)) (put r : Result Bool PutFault) (c d e : Option (List ℕ))
      (w v : List ℕ) → w ≡ [] → IfOk put (λ going. TellsLines style Says n a l m b going c w d v)
      → IfErr put (λ fault. StopsInTurn style Says n a l [] fault c w d v) → Settles put r d e v
      → IfErr r (λ fault. StopsInTurn style Says n a l [] fault c [] e [])
  lines_broken n m a b l put (Ok more) c d e w v none h stop k = tt
  lines_broken n m a b l (Ok going) (Err f) c d e w v none h stop k =
      let Waits : List ℕ → Type 0 = λ x. StopsInTurn style Says n a l [] f c x e [] in
      subst Waits none (settle_fails n m a b l [] going f c d e w v h k)
  lines_broken n m a b l (Err g) (Err f) c d e w v none h stop k =
      let Waits : List ℕ → Type 0 = λ x. StopsInTurn style Says n a l [] f c x e [] in
      subst Waits none (settle_breaks n a l [] g f c d e w v stop k)

  piece_by : (n m : ℕ) (a b : S) (held octets : List ℕ) (going : Bool) (holds : List ℕ) (c d e : Option (List ℕ))
      (w v u x : List ℕ) → (h : TellsPiece style Says n a held octets m b going holds c w d v)
      → TellsLines style Says n a (lines h.whole) m b going c u e x
      → TellsPiece style Says n a held octets m b going holds c u e x
  piece_by n m a b held octets going holds c d e w v u x h k = record {
    whole = h.whole;
    behind = h.behind;
    parts = h.parts;
    ends = h.ends;
    tells = k;
    rest = h.rest;
  }

  pub piece_settled : (n m : ℕ) (a b : S) (held octets : List ℕ) (put r : Result Bool PutFault) (holds : List ℕ)
      (c d e : Option (List ℕ)) (w v : List ℕ) → w ≡ []
      → IfOk put (λ going. TellsPiece style Says n a held octets m b going holds c w d v) → Settles put r d e v
      → IfOk r (λ going. TellsPiece style Says n a held octets m b going holds c [] e [])
  piece_settled n m a b held octets (Ok going) (Ok more) holds c d e w v none h k =
      let Waits : List ℕ → Type 0 = λ x. TellsPiece style Says n a held octets m b more holds c x e [] in
      let Goes : Bool → Type 0 = λ g. TellsPiece style Says n a held octets m b g holds c w e [] in
      subst Waits none (subst Goes (sym k.0)
      (piece_by n m a b held octets going holds c d e w v w [] h (settle_tells n m a b _ going c d e w v h.tells k.1)))
  piece_settled n m a b held octets (Ok going) (Err f) holds c d e w v none h k = tt
  piece_settled n m a b held octets (Err Memory) (Ok more) holds c d e w v none h k = absurd k
  piece_settled n m a b held octets (Err (TooLong i)) (Ok more) holds c d e w v none h k = absurd k
  piece_settled n m a b held octets (Err (Write error)) (Ok more) holds c d e w v none h k = absurd k
  piece_settled n m a b held octets (Err f) (Err g) holds c d e w v none h k = tt

  pub piece_broken : (n m : ℕ) (a b : S) (held octets : List ℕ) (put r : Result Bool PutFault) (holds : List ℕ)
      (c d e : Option (List ℕ)) (w v : List ℕ) → w ≡ []
      → IfOk put (λ going. TellsPiece style Says n a held octets m b going holds c w d v)
      → IfErr put (λ fault. BreaksPiece style Says n a held octets fault c w d v) → Settles put r d e v
      → IfErr r (λ fault. BreaksPiece style Says n a held octets fault c [] e [])
  piece_broken n m a b held octets put (Ok more) holds c d e w v none h stop k = tt
  piece_broken n m a b held octets (Ok going) (Err f) holds c d e w v none h stop k =
      let Waits : List ℕ → Type 0 = λ x. BreaksPiece style Says n a held octets f c x e [] in
      subst Waits none (record {
        whole = h.whole;
        behind = h.behind;
        parts = h.parts;
        ends = h.ends;
        breaks = settle_fails n m a b _ h.behind going f c d e w v h.tells k;
      })
  piece_broken n m a b held octets (Err g) (Err f) holds c d e w v none h stop k =
      let Waits : List ℕ → Type 0 = λ x. BreaksPiece style Says n a held octets f c x e [] in
      subst Waits none (record {
        whole = stop.whole;
        behind = stop.behind;
        parts = stop.parts;
        ends = stop.ends;
        breaks = settle_breaks n a _ stop.behind g f c d e w v stop.breaks k;
      })
