-- Which version a text is of, and what stands behind the tokens that tell it.
use Rattle.std.specs.Prelude.{ℕ, Bool, false, ◌&&◌, nat_eq, List, ◌∷◌, drop, codes, if◌then◌else◌}
use Rattle.std.specs.Cmp.Lexicographic.{pointwise}
use Rattle.dm_grammar.specs.declared.symbol.Symbol.TheVariants.{At, Number}
use Rattle.dm_grammar.specs.declared.terminal.Terminal.TheVariants.{One}
use Rattle.dm_grammar.specs.declared.reading.Version.{Version}
use Rattle.dm_grammar.specs.declared.reading.Version.TheVariants.{First, Second}
use Rattle.dm_grammar.specs.declared.reading.Reading.{Reading}
use Rattle.dm_grammar.specs.Tokens.{Word, tokens, last_line}
use Rattle.dm_grammar.specs.Grammar.{fits}

-- the number 2 in one digit
abbrev pub is_two : Word → Bool
is_two w = fits (One Number) w.symbol && pointwise nat_eq w.text (codes "2")

-- the first two tokens are `@` and `2`
abbrev pub is_second : List Word → Bool
is_second (a ∷ b ∷ ws) = fits (One At) a.symbol && is_two b
is_second _ = false

abbrev pub version_of : List Word → Version
version_of ws = if is_second ws then Second else First

-- what stands behind them
abbrev pub body_of : List Word → List Word
body_of ws = if is_second ws then drop 2 ws else ws

-- how a text is read
abbrev pub reading_of : List ℕ → Reading
reading_of text = record { version = version_of (tokens text); last = last_line text }
