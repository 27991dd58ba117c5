-- Where the vendor of an AVP stands in its first word.
use Rattle.std.proofs.Common.{◌≡◌, ◌+◌, ◌-◌, ℕ, false, cond, not, List, [], ◌∷◌, ◌++◌, length, length-append, take}
use Rattle.std.proofs.Common.{drop, get_or, nat_eq, Option, Some, None, arith, ap, ◌∙◌, sym, subst, refl}
use Rattle.std.specs.List.{position, position_or_len}
use Rattle.std.specs.Str.Parse.{AllDigits}
use Rattle.std.proofs.lemmas.Bool.{eqb-true, ne_eqb}
use Rattle.std.proofs.lemmas.List.{take_rest, take-append-drop, drop_more}
use Rattle.std.proofs.lemmas.List.Quantifiers.{position-Some}
use Rattle.std.proofs.lemmas.Str.Parse.{digit_from_value}
use Rattle.std.proofs.Math.Seq.{take-append_seam, drop-append-add}
use Rattle.dm_text.specs.Numbers.{TellsNumber}
use Rattle.dm_tool.specs.AvpWords.{TellsCode}
use Rattle.dm_tool.proofs.Positions.{place_of, no_place}

no_slash : (b : ℕ) (s : List ℕ) → AllDigits 10 (b ∷ s) → nat_eq b 47 ≡ false
no_slash b s digits = ne_eqb b 47 (λ is. let range = digit_from_value b digits.0 in absurd (omega (arith, is, range)))

slash-place : (front back : List ℕ) → AllDigits 10 front
    → position_or_len (λ b. nat_eq b 47) (front ++ 47 ∷ back) ≡ length front
slash-place [] back digits = refl
slash-place (b ∷ front) back digits =
    ap (λ v. cond (not v) (1 + position_or_len (λ c. nat_eq c 47) (front ++ 47 ∷ back)) 0) (no_slash b front digits)
    ∙ (let later = slash-place front back digits.1 in omega (arith, later))

slash-nowhere : (s : List ℕ) → AllDigits 10 s → position_or_len (λ b. nat_eq b 47) s ≡ length s
slash-nowhere [] digits = refl
slash-nowhere (b ∷ s) digits =
    ap (λ v. cond (not v) (1 + position_or_len (λ c. nat_eq c 47) s) 0) (no_slash b s digits) ∙
    (let later = slash-nowhere s digits.1 in omega (arith, later))

-- behind a `/` stands the vendor
pub with_slash : (word : List ℕ) (n code : ℕ) (vendor : Option ℕ) → position (λ b. nat_eq b 47) word ≡ Some n
    → TellsCode code vendor word
    → (v : ℕ) × (vendor ≡ Some v) × TellsNumber code (take n word) ×
    TellsNumber v (take (length word - (n + 1)) (drop (n + 1) word))
with_slash word n code None found told =
    let at = place_of (λ b. nat_eq b 47) word n found in
    let place = slash-nowhere word told.0.1 in
    absurd (omega (arith, at.1, place))
with_slash word n code (Some v) found told =
    let at = place_of (λ b. nat_eq b 47) word n found in
    let same : n ≡ length told.0 = sym at.0 ∙ ap (position_or_len (λ b. nat_eq b 47)) told.2
    ∙ slash-place told.0 told.1 told.3.0.1 in
    let front : take n word ≡ told.0 = ap (λ k. take k word) same ∙ ap (take (length told.0)) told.2
    ∙ take-append_seam told.0 (47 ∷ told.1) in
    let back : drop (n + 1) word ≡ told.1 = ap (λ k. drop (k + 1) word) same ∙ ap (drop (length told.0 + 1)) told.2
    ∙ drop-append-add told.0 (47 ∷ told.1) 1 in
    let Code : List ℕ → Type 0 = λ s. TellsNumber code s in
    let Vendor : List ℕ → Type 0 = λ s. TellsNumber v s in
    (v, refl, subst Code (sym front) told.3, subst Vendor (sym (take_rest word (n + 1) ∙ back)) told.4)

-- without a `/` there is no vendor
pub without_slash : (word : List ℕ) (code : ℕ) (vendor : Option ℕ) → position (λ b. nat_eq b 47) word ≡ None
    → TellsCode code vendor word → (vendor ≡ None) × TellsNumber code word
without_slash word code None found told = (refl, told)
without_slash word code (Some v) found told =
    let most = no_place (λ b. nat_eq b 47) word found in
    let place = ap (position_or_len (λ b. nat_eq b 47)) told.2 ∙ slash-place told.0 told.1 told.3.0.1 in
    let size = ap length told.2 ∙ length-append told.0 (47 ∷ told.1) in
    absurd (omega (arith, most, place, size))

-- a word with a `/` in it
pub cut : (word : List ℕ) (n : ℕ) → position (λ b. nat_eq b 47) word ≡ Some n
    → word ≡ take n word ++ 47 ∷ take (length word - (n + 1)) (drop (n + 1) word)
cut word n found =
    let at = position-Some (λ b. nat_eq b 47) word n 0 found in
    sym (take-append-drop n word)
    ∙ ap (λ v. take n word ++ v)
    (drop_more word n 0 at.0 ∙ ap (λ b. b ∷ drop (n + 1) word) (eqb-true (get_or word n 0) 47 at.1) ∙
    ap (λ v. 47 ∷ v) (sym (take_rest word (n + 1))))

pub one_number : (n k : ℕ) (word : List ℕ) → TellsNumber n word → TellsNumber k word → n ≡ k
one_number n k word h g = sym h.1 ∙ g.1

-- a word tells one code
pub one_code : (code other : ℕ) (vendor another : Option ℕ) (word : List ℕ) → TellsCode code vendor word
    → TellsCode other another word → (code ≡ other) × (vendor ≡ another)
one_code code other vendor another word h g = by (position (λ b. nat_eq b 47) word) refl where
  by : (p : Option ℕ) → position (λ b. nat_eq b 47) word ≡ p → (code ≡ other) × (vendor ≡ another)
  by None found =
      let a = without_slash word code vendor found h in
      let b = without_slash word other another found g in
      (one_number code other word a.1 b.1, a.0 ∙ sym b.0)
  by (Some n) found =
      let a = with_slash word n code vendor found h in
      let b = with_slash word n other another found g in (
        one_number code other (take n word) a.2 b.2,
        a.1 ∙ ap Some (one_number a.0 b.0 (take (length word - (n + 1)) (drop (n + 1) word)) a.3 b.3) ∙ sym b.1,
      )
