-- The tokens of the rest of a text, at an offset.
use Rattle.std.proofs.Common.{◌≡◌, ◌≢◌, ℕ, zero, suc, ◌+◌, ◌-◌, ◌<◌, List, [], ◌∷◌, length, drop, get_or, nat_eq, false, refl, arith, ap, ◌∙◌, sym, subst}
use Rattle.std.specs.List.{prefix_len}
use Rattle.std.proofs.lemmas.Bool.Decides.{nat_tests}
use Rattle.std.proofs.lemmas.List.{drop_more, drop-drop}
use Rattle.dm_grammar.specs.Symbols.{is_space, not_line_end}
use Rattle.dm_grammar.specs.Tokens.{tokens_from, token_of, lexeme_of}

-- octets that belong to what stands before give nothing
pub skips : (k line : ℕ) (s : List ℕ) → tokens_from k line s ≡ tokens_from 0 line (drop k s)
skips zero line s = refl
skips (suc k) line [] = refl
skips (suc k) line (c ∷ s) = skips k line s

skips_more : (n k line c : ℕ) (s : List ℕ) → n ≡ suc k → tokens_from k line s ≡ tokens_from 0 line (drop n (c ∷ s))
skips_more n k line c s e = rw e (skips k line s)

-- a comment gives nothing
comment : (line c : ℕ) (s : List ℕ) → c ≡ 59
    → tokens_from 0 line (c ∷ s) ≡ tokens_from 0 line (drop (prefix_len not_line_end (c ∷ s)) (c ∷ s))
comment line c s e =
    rw e (skips_more (1 + prefix_len not_line_end s) (prefix_len not_line_end s) line 59 s (omega arith))

pub comment_at : (text : List ℕ) (at line : ℕ) → at < length text → get_or text at 0 ≡ 59
    → tokens_from 0 line (drop at text) ≡ tokens_from 0 line (drop (at + prefix_len not_line_end (drop at text)) text)
comment_at text at line within first =
    rw (← drop-drop (prefix_len not_line_end (drop at text)) at text, drop_more text at 0 within)
    (comment line (get_or text at 0) (drop (at + 1) text) first)

-- any other octet that is no space begins a token
token : (line c : ℕ) (s : List ℕ) → nat_eq c 10 ≡ false → is_space c ≡ false → nat_eq c 59 ≡ false
    → 0 < (lexeme_of (c ∷ s)).1
    → tokens_from 0 line (c ∷ s) ≡ token_of line (c ∷ s) ∷ tokens_from 0 line (drop (lexeme_of (c ∷ s)).1 (c ∷ s))
token line c s no_feed no_space no_comment some =
    rw (no_feed, no_space, no_comment)
    (ap (λ r. token_of line (c ∷ s) ∷ r) (skips_more (lexeme_of (c ∷ s)).1 ((lexeme_of (c ∷ s)).1 - 1) line c s
    (omega arith)))

token_split : (line c : ℕ) (r s : List ℕ) → c ∷ r ≡ s → nat_eq c 10 ≡ false → is_space c ≡ false → nat_eq c 59 ≡ false
    → 0 < (lexeme_of s).1 → tokens_from 0 line s ≡ token_of line s ∷ tokens_from 0 line (drop (lexeme_of s).1 s)
token_split line c r s e no_feed no_space no_comment =
    subst (λ (s : List ℕ). 0 < (lexeme_of s).1 → tokens_from 0 line s ≡ token_of line s ∷ tokens_from 0 line
    (drop (lexeme_of s).1 s)) e (token line c r no_feed no_space no_comment)

no_octet : (c d : ℕ) → c ≢ d → nat_eq c d ≡ false
no_octet c d h = grind (arith, nat_tests)

pub token_at : (text : List ℕ) (at line : ℕ) → at < length text → get_or text at 0 ≢ 10
    → is_space (get_or text at 0) ≡ false → get_or text at 0 ≢ 59 → 0 < (lexeme_of (drop at text)).1
    → tokens_from 0 line (drop at text) ≡ token_of line (drop at text) ∷ tokens_from 0 line
    (drop (at + (lexeme_of (drop at text)).1) text)
token_at text at line within no_feed no_space no_comment some =
    token_split line (get_or text at 0) (drop (at + 1) text) (drop at text) (sym (drop_more text at 0 within))
    (no_octet (get_or text at 0) 10 no_feed) no_space (no_octet (get_or text at 0) 59 no_comment) some
    ∙ ap (λ (r : List ℕ). token_of line (drop at text) ∷ tokens_from 0 line r)
    (drop-drop (lexeme_of (drop at text)).1 at text)
