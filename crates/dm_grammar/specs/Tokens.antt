-- The tokens of a text, with their lines.
use Rattle.std.specs.Prelude.{ℕ, zero, suc, ◌+◌, ◌-◌, ◌≡◌, nat_eq, List, [], ◌∷◌, length}
use Rattle.std.specs.Prelude.{take, count_by, codes, Option, Some, None, if◌then◌else◌}
use Rattle.std.specs.List.{prefix_len, starts_with}
use Rattle.dm_grammar.specs.declared.symbol.Symbol.{Symbol}
use Rattle.dm_grammar.specs.declared.symbol.Symbol.TheVariants.{Define, Stray}
use Rattle.dm_grammar.specs.Symbols.{begins_word, goes_on, is_space, not_line_end, mark_of, symbol_of_word}

-- a token: what it is, its octets, its line from 1
pub record Word : Type 0 where
  pub symbol : Symbol
  pub text : List ℕ
  pub line : ℕ

-- the token that begins a text, and its length: the longest word, `::=`, or one octet
abbrev pub lexeme_of : List ℕ → Symbol × ℕ
lexeme_of [] = (Stray, 0)
lexeme_of (c ∷ s) =
    let len = prefix_len goes_on (c ∷ s) in
    if begins_word c then (symbol_of_word (take len (c ∷ s)), len) else
    if starts_with nat_eq (c ∷ s) (codes "::=") then (Define, 3) else (mark_of c, 1)

abbrev pub token_of : ℕ → List ℕ → Word
token_of line s = let l = lexeme_of s in record { symbol = l.0; text = take l.1 s; line = line }

-- the tokens of a text whose first `skip` octets belong to what stands before it: a line feed begins a
-- line, `;` a comment up to the end of its line, other spaces separate
abbrev pub tokens_from : ℕ → ℕ → List ℕ → List Word
tokens_from skip line [] = []
tokens_from (suc skip) line (c ∷ s) = tokens_from skip line s
tokens_from zero line (c ∷ s) =
    if nat_eq c 10 then tokens_from 0 (line + 1) s else
    if is_space c then tokens_from 0 line s else
    if nat_eq c 59 then tokens_from (prefix_len not_line_end s) line s else
    (token_of line (c ∷ s) ∷ tokens_from ((lexeme_of (c ∷ s)).1 - 1) line s)

abbrev pub tokens : List ℕ → List Word
tokens text = tokens_from 0 1 text

-- one more than the line feeds before the last octet: a last line feed begins no line
abbrev pub last_line : List ℕ → ℕ
last_line text = count_by (λ c. nat_eq c 10) (take (length text - 1) text) + 1

-- what a reader of the next token answers of the rest s of a text
abbrev pub Sees : {R : Type 0} → ℕ → List ℕ → Option R → (R → Word) → (R → List ℕ) → Type 0
Sees line s None token rest = tokens_from 0 line s ≡ []
Sees line s (Some r) token rest = tokens_from 0 line s ≡ token r ∷ tokens_from 0 (token r).line (rest r)
