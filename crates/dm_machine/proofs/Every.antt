-- A test at every element of a list, by computing it at each; and at every mark, count, place, word and input.
use Rattle.std.proofs.Common.{◌≡◌, ℕ, zero, suc, Bool, true, false, ◌&&◌, ◌==◌, nat_le, IsTrue, List, [], ◌∷◌, refl, arith}
use Rattle.std.specs.Prelude.{map, unwrap_or}
use Rattle.std.specs.List.{list_all}
use Rattle.std.proofs.lemmas.Bool.{and_parts}
use Rattle.std.proofs.lemmas.Bool.Decides.{nat_tests}
use Rattle.dm_machine.specs.declared.connection.Conn.{Conn}
use Rattle.dm_machine.specs.declared.inputs.Input.{Input}
use Rattle.dm_machine.specs.declared.inputs.Input.TheVariants.{Start, Stop, Timeout, Tick, Ack, Nack, Gone, Submit, Heard}
use Rattle.dm_machine.specs.declared.inputs.Word.{Word}
use Rattle.dm_machine.specs.declared.inputs.Word.TheVariants.{Unreadable, Cer, CerRefused, Cea, CeaFailed, Dwr, DwrBad, Dwa, DwaBad, Dpr, DprBad, Dpa, DpaBad, Other}
use Rattle.dm_machine.specs.Reading.{Place, OnI, OnR, OnX, OnNew, conn_named}
use Rattle.dm_machine.specs.EachStep.{all_words, inputs_of, everywhere}
use Rattle.dm_machine.proofs.Renamed.{renamed_input}
use Rattle.dm_machine.proofs.Marks.{this, another, mark_if, mark}

-- a list of tests is read at an index
abbrev pub nth : List Bool → ℕ → Bool
nth [] k = true
nth (b ∷ bs) zero = b
nth (b ∷ bs) (suc k) = nth bs k

each : {X : Type 0} (f : X → Bool) (l : List X) (k : ℕ) → list_all f l ≡ true → nth (map f l) k ≡ true
each f [] k h = refl
each f (x ∷ l) zero h = (and_parts (f x) (list_all f l) h).0
each f (x ∷ l) (suc k) h = each f l k (and_parts (f x) (list_all f l) h).1

pub at : {X : Type 0} (f : X → Bool) (l : List X) (k : ℕ) → everywhere f l ≡ true → nth (map f l) k ≡ true
unfolding everywhere
at f l k h = each f l k h

abbrev pub bools : List Bool
bools = true ∷ false ∷ []

abbrev pub marks : List Conn
marks = this ∷ another ∷ []

abbrev pub counts : List ℕ
counts = 0 ∷ 1 ∷ 2 ∷ []

abbrev pub places : List Place
places = OnI ∷ OnR ∷ OnX ∷ OnNew ∷ []

pub at_bool : (f : Bool → Bool) → everywhere f bools ≡ true → (b : Bool) → f b ≡ true
at_bool f h true = at f bools 0 h
at_bool f h false = at f bools 1 h

at_mark_if : (f : Conn → Bool) → everywhere f marks ≡ true → (b : Bool) → f (mark_if b) ≡ true
at_mark_if f h true = at f marks 0 h
at_mark_if f h false = at f marks 1 h

pub at_mark : (f : Conn → Bool) → everywhere f marks ≡ true → (c x : Conn) → f (mark c x) ≡ true
at_mark f h c x = at_mark_if f h (x.0 == c.0)

pub at_count : (f : ℕ → Bool) → everywhere f counts ≡ true → (n : ℕ) → IsTrue (nat_le n 2) → f n ≡ true
at_count f h zero g = at f counts 0 h
at_count f h (suc zero) g = at f counts 1 h
at_count f h (suc (suc zero)) g = at f counts 2 h
at_count f h (suc (suc (suc n))) g = grind (arith, nat_tests)

pub at_place : (f : Place → Bool) → everywhere f places ≡ true → (p : Place) → f p ≡ true
at_place f h OnI = at f places 0 h
at_place f h OnR = at f places 1 h
at_place f h OnX = at f places 2 h
at_place f h OnNew = at f places 3 h

pub at_word : (f : Word → Bool) → everywhere f all_words ≡ true → (w : Word) → f w ≡ true
at_word f h Unreadable = at f all_words 0 h
at_word f h Cer = at f all_words 1 h
at_word f h CerRefused = at f all_words 2 h
at_word f h Cea = at f all_words 3 h
at_word f h CeaFailed = at f all_words 4 h
at_word f h Dwr = at f all_words 5 h
at_word f h DwrBad = at f all_words 6 h
at_word f h Dwa = at f all_words 7 h
at_word f h DwaBad = at f all_words 8 h
at_word f h Dpr = at f all_words 9 h
at_word f h DprBad = at f all_words 10 h
at_word f h Dpa = at f all_words 11 h
at_word f h DpaBad = at f all_words 12 h
at_word f h Other = at f all_words 13 h

-- the connection that an input names, or the other one
abbrev pub conn_in : Input → Conn
conn_in i = unwrap_or (conn_named i) another

-- a test at every input of a connection
abbrev pub every_input : (Input → Bool) → Conn → Bool
every_input f c = everywhere f (inputs_of c) && everywhere (λ w. f (Heard c w)) all_words

pub at_input : (f : Input → Bool) (i : Input) → every_input f (conn_in i) ≡ true → f i ≡ true
at_input f i h =
    by i (and_parts (everywhere f (inputs_of (conn_in i))) (everywhere (λ w. f (Heard (conn_in i) w)) all_words) h)
  where
    by : (j : Input) →
        (everywhere f (inputs_of (conn_in j)) ≡ true) × (everywhere (λ w. f (Heard (conn_in j) w)) all_words ≡ true) →
        f j ≡ true
    by (Start c) p = at f (inputs_of c) 0 p.0
    by Stop p = at f (inputs_of another) 1 p.0
    by Timeout p = at f (inputs_of another) 2 p.0
    by Tick p = at f (inputs_of another) 3 p.0
    by (Ack c) p = at f (inputs_of c) 4 p.0
    by (Nack c) p = at f (inputs_of c) 5 p.0
    by (Gone c) p = at f (inputs_of c) 6 p.0
    by Submit p = at f (inputs_of another) 7 p.0
    by (Heard c w) p = at_word (λ v. f (Heard c v)) p.1 w

-- and at every marked input
pub at_marked_input : (f : Input → Bool) → everywhere (every_input f) marks ≡ true → (c : Conn) (i : Input) →
    f (renamed_input (mark c) i) ≡ true
at_marked_input f h c i = at_input f (renamed_input (mark c) i) (by i)
  where
    by : (j : Input) → every_input f (conn_in (renamed_input (mark c) j)) ≡ true
    by (Start d) = at_mark (every_input f) h c d
    by (Ack d) = at_mark (every_input f) h c d
    by (Nack d) = at_mark (every_input f) h c d
    by (Gone d) = at_mark (every_input f) h c d
    by (Heard d w) = at_mark (every_input f) h c d
    by _ = at_mark_if (every_input f) h false
