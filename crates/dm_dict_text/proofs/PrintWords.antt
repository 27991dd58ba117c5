-- The tokens of the printed text.
use Rattle.std.proofs.Common.{◌≡◌, ◌≤◌, ◌<◌, ℕ, suc, ◌+◌, ◌-◌, Bool, true, false, ◌&&◌, ◌||◌, not, nat_eq, cond, List, [], ◌∷◌, ◌++◌, length, take, if◌then◌else◌, refl, ap, ◌∙◌, arith, rules}
use Rattle.std.proofs.lemmas.Bool.{and_parts, ne_eqb}
use Rattle.std.proofs.lemmas.Fmt.{digits_decimal, digits_value-decimal, decimal_nonempty}
use Rattle.std.proofs.lemmas.Str.Parse.{IsNumeralModel, numerals_by_fold, tells_all_ascii_digits}
use Rattle.std.proofs.Math.Seq.{take-append_seam}
use Rattle.std.specs.Char.{is_ascii_alphanumeric, is_ascii_digit}
use Rattle.std.specs.Str.{all_ascii_digits}
use Rattle.std.specs.Fmt.{decimal}
use Rattle.std.specs.List.{list_all, prefix_len}
use Rattle.dm_grammar.specs.declared.symbol.Symbol.{Symbol}
use Rattle.dm_grammar.specs.declared.symbol.Symbol.TheVariants.{Number}
use Rattle.dm_grammar.specs.Symbols.{begins_word, goes_on, is_space, is_digits, symbol_of_word}
use Rattle.dm_grammar.specs.Tokens.{Word, lexeme_of, tokens_from}
use Rattle.dm_dict_text.specs.Meaning.{number_behind, number_of}

abbrev pub word : Symbol → List ℕ → ℕ → Word
word symbol text line = record { symbol = symbol; text = text; line = line }

-- a word of the text
abbrev pub word_of : ℕ → List ℕ → Word
word_of line text = word (symbol_of_word text) text line

abbrev pub number_word : ℕ → ℕ → Word
number_word line n = word Number (decimal n) line

-- letters, digits and hyphens, no hyphen first
abbrev pub is_wordish : List ℕ → Bool
is_wordish [] = false
is_wordish (a ∷ w) = is_ascii_alphanumeric a && list_all goes_on w

-- no word goes on here
abbrev pub breaks : List ℕ → Bool
breaks [] = false
breaks (c ∷ s) = not (goes_on c)

both : (a b : Bool) → a ≡ true → b ≡ true → (a && b) ≡ true
both a b e g = rw (e, g) refl

not_this : (a k : ℕ) → is_ascii_alphanumeric k ≡ false → is_ascii_alphanumeric a ≡ true → nat_eq a k ≡ false
not_this a k e h = ne_eqb a k (λ same. cc (ap is_ascii_alphanumeric same))

neither : (a b : Bool) → a ≡ false → b ≡ false → (a || b) ≡ false
neither a b e g = rw (e, g) refl

no_space : (a : ℕ) → is_ascii_alphanumeric a ≡ true → is_space a ≡ false
no_space a h = neither _ _ (neither _ _ (not_this a 32 refl h) (not_this a 9 refl h)) (not_this a 13 refl h)

-- what belongs to a word is passed over
skips : (line : ℕ) (w s : List ℕ) → tokens_from (length w) line (w ++ s) ≡ tokens_from 0 line s
skips line [] s = zero_skips s
  where
    zero_skips : (t : List ℕ) → tokens_from (length {A = ℕ} []) line t ≡ tokens_from 0 line t
    zero_skips t = refl
skips line (c ∷ w) s = skips line w s

prefix_word : (w s : List ℕ) → list_all goes_on w ≡ true → breaks s ≡ true → prefix_len goes_on (w ++ s) ≡ length w
prefix_word [] [] h b = absurd cc
prefix_word [] (c ∷ s) h b = ap (λ x. cond x (1 + prefix_len goes_on s) 0) (is_not (goes_on c) b)
  where
    is_not : (x : Bool) → not x ≡ true → x ≡ false
    is_not true e = absurd cc
    is_not false e = refl
prefix_word (a ∷ w) s h b =
    let (first, rest) = and_parts (goes_on a) (list_all goes_on w) h in
    let one : 1 + prefix_len goes_on (w ++ s) ≡ suc (length w) = ap (λ n. 1 + n) (prefix_word w s rest b)
    ∙ omega arith in
    ap (λ x. cond x (1 + prefix_len goes_on (w ++ s)) 0) first ∙ one

-- the token that a lexeme tells, and those behind it
abbrev lexed : ℕ → Symbol × ℕ → ℕ → List ℕ → List Word
lexed line l c s = word l.0 (take l.1 (c ∷ s)) line ∷ tokens_from (l.1 - 1) line s

no_other : (b d e : Bool) → b ≡ false → d ≡ false → e ≡ false → (w x y z : List Word)
    → (if b then w else if d then x else if e then y else z) ≡ z
no_other b d e h g k w x y z = rw (h, g, k) refl

is_lexed : (line a : ℕ) (s : List ℕ) → is_ascii_alphanumeric a ≡ true
    → tokens_from 0 line (a ∷ s) ≡ lexed line (lexeme_of (a ∷ s)) a s
is_lexed line a s h =
    no_other (nat_eq a 10) (is_space a) (nat_eq a 59) (not_this a 10 refl h) (no_space a h)
    (not_this a 59 refl h) _ _ _ _

first_if : (b : Bool) (x y : Symbol × ℕ) → b ≡ true → (if b then x else y) ≡ x
first_if b x y h = rw h refl

word_lexeme : (a : ℕ) (s : List ℕ) → is_ascii_alphanumeric a ≡ true
    → lexeme_of (a ∷ s) ≡ (symbol_of_word (take (prefix_len goes_on (a ∷ s)) (a ∷ s)), prefix_len goes_on (a ∷ s))
word_lexeme a s h = first_if (begins_word a) _ _ h

pub word_tokens : (line : ℕ) (w s : List ℕ) → is_wordish w ≡ true → breaks s ≡ true
    → tokens_from 0 line (w ++ s) ≡ word_of line w ∷ tokens_from 0 line s
word_tokens line [] s h b = absurd cc
word_tokens line (a ∷ w) s h b =
    let (begins, rest) = and_parts (is_ascii_alphanumeric a) (list_all goes_on w) h in
    let goes : goes_on a ≡ true = ap (λ x. x || nat_eq a 45) begins in
    let len : prefix_len goes_on (a ∷ (w ++ s)) ≡ suc (length w) = prefix_word (a ∷ w) s (both _ _ goes rest) b in
    let whole : take (prefix_len goes_on (a ∷ (w ++ s))) (a ∷ (w ++ s)) ≡ a ∷ w = ap (λ n. take n (a ∷ (w ++ s))) len
    ∙ take-append_seam (a ∷ w) s in
    let lexeme : lexeme_of (a ∷ (w ++ s)) ≡ (symbol_of_word (a ∷ w), suc (length w)) = word_lexeme a (w ++ s) begins ∙
    (λ i. (symbol_of_word (whole i), len i)) in
    let less : suc (length w) - 1 ≡ length w = omega arith in
    is_lexed line a (w ++ s) begins
    ∙ ap (λ (l : Symbol × ℕ). lexed line l a (w ++ s)) lexeme
    ∙ (λ i. word (symbol_of_word (a ∷ w)) (take-append_seam (a ∷ w) s i) line ∷ tokens_from (less i) line (w ++ s))
    ∙ ap (λ ws. word_of line (a ∷ w) ∷ ws) (skips line w s)

-- decimal digits
own : IsNumeralModel (λ ds. all_ascii_digits ds ≡ true) number_of
own = numerals_by_fold _ tells_all_ascii_digits number_behind (search rules)

pub number_of-decimal : (n : ℕ) → n ≤ 4294967295 → number_of (decimal n) ≡ n
number_of-decimal n h = digits_value-decimal own n (omega arith)

digits_of_decimal : (n : ℕ) → n ≤ 4294967295 → all_ascii_digits (decimal n) ≡ true
digits_of_decimal n h = digits_decimal own n (omega arith)

all_digits : (ds : List ℕ) → all_ascii_digits ds ≡ true → is_digits ds ≡ true
all_digits [] h = refl
all_digits (c ∷ ds) h =
    let (first, rest) = and_parts (is_ascii_digit c) (all_ascii_digits ds) h in both _ _ first (all_digits ds rest)

digit_goes_on : (c : ℕ) → is_ascii_digit c ≡ true → is_ascii_alphanumeric c ≡ true
digit_goes_on c h = rw h refl

digits_go_on : (ds : List ℕ) → all_ascii_digits ds ≡ true → list_all goes_on ds ≡ true
digits_go_on [] h = refl
digits_go_on (c ∷ ds) h =
    let (first, rest) = and_parts (is_ascii_digit c) (all_ascii_digits ds) h in
    let goes : goes_on c ≡ true = ap (λ x. x || nat_eq c 45) (digit_goes_on c first) in
    both _ _ goes (digits_go_on ds rest)

digits_wordish : (ds : List ℕ) → all_ascii_digits ds ≡ true → 0 < length ds → is_wordish ds ≡ true
digits_wordish [] h some = absurd (omega arith)
digits_wordish (c ∷ ds) h some =
    let (first, rest) = and_parts (is_ascii_digit c) (all_ascii_digits ds) h in
    both _ _ (digit_goes_on c first) (digits_go_on ds rest)

number_symbol : (ds : List ℕ) → is_digits ds ≡ true → symbol_of_word ds ≡ Number
number_symbol ds h = first (is_digits ds) _ h
  where
    first : (b : Bool) (x : Symbol) → b ≡ true → (if b then Number else x) ≡ Number
    first b x e = rw e refl

pub number_tokens : (line n : ℕ) (s : List ℕ) → n ≤ 4294967295 → breaks s ≡ true
    → tokens_from 0 line (decimal n ++ s) ≡ number_word line n ∷ tokens_from 0 line s
number_tokens line n s h b =
    let digits = digits_of_decimal n h in
    let some : 0 < length (decimal n) = decimal_nonempty n (omega arith) in
    word_tokens line (decimal n) s (digits_wordish (decimal n) digits some) b
    ∙ ap (λ x. word x (decimal n) line ∷ tokens_from 0 line s)
    (number_symbol (decimal n) (all_digits (decimal n) digits))
