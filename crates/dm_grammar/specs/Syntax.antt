-- Where a Syntax fault stands, in the words of the grammar's steps.
use Rattle.std.specs.Prelude.{◌≡◌, ℕ, true, false, List, [], ◌∷◌, ◌++◌, ◌⊎◌}
use Rattle.dm_grammar.specs.declared.symbol.Symbol.{Symbol}
use Rattle.dm_grammar.specs.declared.reading.Version.{Version}
use Rattle.dm_grammar.specs.Tokens.{Word, tokens, last_line}
use Rattle.dm_grammar.specs.Versions.{version_of, body_of}
use Rattle.dm_grammar.specs.Places.{GrammarPlace}
use Rattle.dm_grammar.specs.Places.GrammarPlace.{Text}
use Rattle.dm_grammar.specs.Grammar.{GrammarStep, steps_from, fits, may_end}

-- one of the steps takes a token of the symbol, and leads to the place
abbrev pub SomeStep : List GrammarStep → Symbol → GrammarPlace → Type 0
SomeStep [] s q = ⊥
SomeStep (r ∷ rs) s q = ((fits r.wants s ≡ true) × (r.leads ≡ q)) ⊎ SomeStep rs s q

abbrev pub TakesWord : Version → GrammarPlace → Word → GrammarPlace → Type 0
TakesWord v p w q = SomeStep (steps_from v p) w.symbol q

-- the tokens can lead from one place to the other
abbrev pub Leads : Version → GrammarPlace → List Word → GrammarPlace → Type 0
Leads v p [] q = p ≡ q
Leads v p (w ∷ ws) q = (m : GrammarPlace) × (TakesWord v p w m × Leads v m ws q)

-- no step takes the token, from the place to which the tokens before it lead
pub record StandsAtToken (v : Version) (p : GrammarPlace) (ws : List Word) (line : ℕ) : Type 0 where
  pub before : List Word
  pub bad : Word
  pub behind : List Word
  pub place : GrammarPlace
  pub whole : ws ≡ before ++ bad ∷ behind
  pub led : Leads v p before place
  pub stuck : (q : GrammarPlace) → TakesWord v place bad q → ⊥
  pub its_line : line ≡ bad.line

-- the tokens run out in a place where no text may end
pub record StandsAtEnd (v : Version) (p : GrammarPlace) (ws : List Word) (last line : ℕ) : Type 0 where
  pub place : GrammarPlace
  pub led : Leads v p ws place
  pub no_end : may_end place ≡ false
  pub its_line : line ≡ last

-- a Syntax fault of the text stands at the line; behind `@` and `2` at the head of a text of version 2 items begin
abbrev pub IsSyntaxFault : List ℕ → ℕ → Type 0
IsSyntaxFault text line =
    let v = version_of (tokens text) in
    let ws = body_of (tokens text) in
    StandsAtToken v Text ws line ⊎ StandsAtEnd v Text ws (last_line text) line

-- steps take all tokens of the text and end where a text may end
abbrev pub IsGrammatical : List ℕ → Type 0
IsGrammatical text =
    (q : GrammarPlace) × (Leads (version_of (tokens text)) Text (body_of (tokens text)) q × (may_end q ≡ true))
