-- The tokens at a place of a list.
use Rattle.std.proofs.Common.{◌≡◌, ℕ, zero, suc, ◌<◌, List, [], ◌∷◌, length, drop, get_or, refl, arith}
use Rattle.dm_grammar.specs.declared.token.Token.{Token}
use Rattle.dm_grammar.specs.declared.terminal.Terminal.{Terminal}
use Rattle.dm_grammar.specs.Grammar.{fits}
use Rattle.dm_grammar.specs.Readers.{begins_with}
use Rattle.dm_grammar.specs.Views.{view_words}

-- the token at a place begins what is left from there on
pub begins_at : (d : Token) (ts : List Token) (place : ℕ) (t : Terminal) → place < length ts
    → fits t (get_or ts place d).symbol ≡ begins_with t (drop place (view_words ts))
begins_at d [] place t h = absurd (omega arith)
begins_at d (x ∷ ts) zero t h = refl
begins_at d (x ∷ ts) (suc place) t h = begins_at d ts place t (omega arith)
