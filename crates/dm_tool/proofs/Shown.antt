-- The text of several lines, from the text of each.
use Rattle.std.proofs.Common.{◌≡◌, ◌++◌, ◌∷◌, [], ◌&&◌, ℕ, List, Bool, true, false, append_assoc, append-nil, ap, sym}
use Rattle.std.proofs.Common.{◌∙◌, refl, cond, not, map, filter, subst}
use mathlib.Core.Bool.{and_assoc, and-true}
use Rattle.std.specs.Str.Lines.{lines}
use Rattle.dm_text.specs.Lines.{trimmed, is_skipped, content_lines}
use Rattle.dm_wire.specs.declared.message.Message.{Message}
use Rattle.dm_tool.specs.HexLines.{PrintsLine, PrintsLines}

-- the lines that stand for something, from the line at the front on
pub content-line : (s rest line : List ℕ) → lines s ≡ line ∷ lines rest → is_skipped (trimmed line) ≡ false
    → content_lines s ≡ trimmed line ∷ content_lines rest
content-line s rest line h is =
    ap (λ l. filter (λ t. not (is_skipped t)) (map trimmed l)) h
    ∙ ap (λ b. cond (not b) (trimmed line ∷ content_lines rest) (content_lines rest)) is

-- what a line prints goes behind the text so far, and before what the lines to come print
pub prints-next : (answer : Message → List ℕ × Bool) (all rest rest' : List (List ℕ)) (line text first new : List ℕ)
    (good fine good' : Bool) → rest ≡ line ∷ rest' → PrintsLine answer line first fine → new ≡ text ++ first →
    good' ≡ (good && fine)
    → ((more : List ℕ) (others : Bool) → PrintsLines answer rest more others →
    PrintsLines answer all (text ++ more) (good && others))
    → (more : List ℕ) (others : Bool) → PrintsLines answer rest' more others
    → PrintsLines answer all (new ++ more) (good' && others)
prints-next answer all rest rest' line text first new good fine good' h shown e g whole more others later =
    let Front : List (List ℕ) → Type 0 = λ l. PrintsLines answer l (first ++ more) (fine && others) in
    let front : Front rest = subst Front (sym h) (record {
      first = first;
      rest = more;
      fine = fine;
      others = others;
      head = shown;
      tail = later;
      text_is = refl;
      good_is = refl;
    }) in
    let text_is : text ++ (first ++ more) ≡ new ++ more = sym (append_assoc text first more) ∙ ap (λ v. v ++ more)
    (sym e) in
    let good_is : (good && (fine && others)) ≡ (good' && others) = sym (and_assoc good fine others) ∙ ap
    (λ v. v && others) (sym g) in
    let Text : List ℕ → Type 0 = λ v. PrintsLines answer all v (good' && others) in
    let Good : Bool → Type 0 = λ v. PrintsLines answer all (text ++ (first ++ more)) v in
    subst Text text_is (subst Good good_is (whole (first ++ more) (fine && others) front))

-- no lines are to come
pub prints-all : (answer : Message → List ℕ × Bool) (all : List (List ℕ)) (text : List ℕ) (good : Bool)
    → PrintsLines answer all (text ++ []) (good && true) → PrintsLines answer all text good
prints-all answer all text good h =
    let Text : List ℕ → Type 0 = λ v. PrintsLines answer all v good in
    let Good : Bool → Type 0 = λ v. PrintsLines answer all (text ++ []) v in
    subst Text (append-nil text) (subst Good (and-true good) h)

pub prints-none : (answer : Message → List ℕ × Bool) (s : List ℕ) → lines s ≡ []
    → PrintsLines answer (content_lines s) [] true
prints-none answer s h =
    let Prints : List (List ℕ) → Type 0 = λ l. PrintsLines answer
    (filter (λ t. not (is_skipped t)) (map trimmed l)) [] true in
    subst Prints (sym h) (refl, refl)
