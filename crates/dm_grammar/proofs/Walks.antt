-- What tokens tell that are written by a phrase: the steps that take them.
use Rattle.std.proofs.Common.{◌≡◌, List, [], ◌∷◌, ◌++◌, Ok, true, ap, ◌∙◌, inl, inr}
use Rattle.dm_grammar.specs.declared.reading.Reading.{Reading}
use Rattle.dm_grammar.specs.declared.symbol.Symbol.{Symbol}
use Rattle.dm_grammar.specs.declared.symbol.Symbol.TheVariants as symbols
use Rattle.dm_grammar.specs.declared.terminal.Terminal.{Terminal}
use Rattle.dm_grammar.specs.declared.terminal.Terminal.TheVariants.{One}
use Rattle.dm_grammar.specs.Tokens.{Word}
use Rattle.dm_grammar.specs.Places.{GrammarPlace, TokenRole}
use Rattle.dm_grammar.specs.Grammar.{GrammarStep, fits, steps_from, may_end}
use Rattle.dm_grammar.specs.Told.{Gathered, none_gathered, fill}
use Rattle.dm_grammar.specs.Spelling.{Phrase, Spells}
use Rattle.dm_grammar.specs.Spelling.Phrase.{Never, Empty, Literal, This, ◌then◌, ◌or◌}
use Rattle.dm_grammar.specs.Items.{EntryParts, Written}
use Rattle.dm_grammar.proofs.MoreSteps.{Among, Tells, by_step, more}

-- tokens written by the phrase lead from one place to another, and fill what is told behind them
pub record Walk (how : Reading) (p : GrammarPlace) (a : Phrase) (q : GrammarPlace) (f : Gathered → Gathered) : Type 1 where
  pub go : (Behind : List Word → Type 0) (t : Gathered) → ((ws : List Word) → Behind ws → Tells how q t ws)
      → (ws : List Word) → Spells a Behind ws → Tells how p (f t) ws

-- a token of which nothing is told but its role
abbrev pub blank : Word
blank = record { symbol = symbols.Stray; text = []; line = 0 }

abbrev pub step : Terminal → GrammarPlace → TokenRole → GrammarStep
step x q role = record { wants = x; leads = q; role = role }

mark_go : (how : Reading) (p q : GrammarPlace) (s : Symbol) (role : TokenRole)
    → ((w : Word) → fits (One s) w.symbol ≡ true → Among (steps_from how.version p) w.symbol (step (One s) q role))
    → ((w : Word) (t : Gathered) → fill role w t ≡ fill role blank t) → (Behind : List Word → Type 0) (t : Gathered)
    → ((ws : List Word) → Behind ws → Tells how q t ws) → (ws : List Word) → Spells (Literal s) Behind ws
    → Tells how p (fill role blank t) ws
mark_go how p q s role m e Behind t k [] h = absurd h
mark_go how p q s role m e Behind t k (w ∷ ws) h =
    by_step how p w ws (step (One s) q role) t (m w h.0) (k ws h.1) ∙ ap Ok (e w t)

pub mark : (how : Reading) (p q : GrammarPlace) (s : Symbol) (role : TokenRole)
    → ((w : Word) → fits (One s) w.symbol ≡ true → Among (steps_from how.version p) w.symbol (step (One s) q role))
    → ((w : Word) (t : Gathered) → fill role w t ≡ fill role blank t) → Walk how p (Literal s) q (fill role blank)
mark how p q s role m e = record { go = mark_go how p q s role m e }

this_go : (how : Reading) (p q : GrammarPlace) (x : Terminal) (role : TokenRole) (v : Word)
    → ((w : Word) → fits x w.symbol ≡ true → Among (steps_from how.version p) w.symbol (step x q role))
    → (Behind : List Word → Type 0)
    (t : Gathered) → ((ws : List Word) → Behind ws → Tells how q t ws) → (ws : List Word) → Spells (This x v) Behind ws
    → Tells how p (fill role v t) ws
this_go how p q x role v m Behind t k [] h = absurd h
this_go how p q x role v m Behind t k (w ∷ ws) h =
    by_step how p w ws (step x q role) t (m w h.0) (k ws h.1.1) ∙ ap (λ (w : Word). Ok (fill role w t)) h.1.0

pub this : (how : Reading) (p q : GrammarPlace) (x : Terminal) (role : TokenRole) (v : Word)
    → ((w : Word) → fits x w.symbol ≡ true → Among (steps_from how.version p) w.symbol (step x q role))
    → Walk how p (This x v) q (fill role v)
this how p q x role v m = record { go = this_go how p q x role v m }

-- no token
pub stay : (how : Reading) (p : GrammarPlace) → Walk how p Empty p (λ (t : Gathered). t)
stay how p = record { go = λ Behind t k ws h. k ws h }

-- to a place with fewer steps
pub narrow : (how : Reading) (p q o : GrammarPlace) (a : Phrase) (f : Gathered → Gathered) (extra : List GrammarStep) → Walk how p a q f
    → steps_from how.version q ≡ extra ++ steps_from how.version o → (may_end o ≡ true → may_end q ≡ true) → Walk how p a o f
narrow how p q o a f extra v e ends =
    record { go = λ Behind t k ws h. v.go Behind t (λ ws h. more how q o extra t ws e ends (k ws h)) ws h }

-- from a place with more steps
pub widen : (how : Reading) (p q o : GrammarPlace) (a : Phrase) (f : Gathered → Gathered) (extra : List GrammarStep)
    → Walk how q a o f → steps_from how.version p ≡ extra ++ steps_from how.version q → (may_end q ≡ true → may_end p ≡ true)
    → Walk how p a o f
widen how p q o a f extra v e ends =
    record { go = λ Behind t k ws h. more how p q extra (f t) ws e ends (v.go Behind t k ws h) }

-- what nothing is written as
pub never : (how : Reading) (p q : GrammarPlace) (f : Gathered → Gathered) → Walk how p Never q f
never how p q f = record { go = λ Behind t k ws h. absurd h }

infixr 30 ◌also◌
-- one phrase behind the other
pub ◌also◌ : {how : Reading} {p q r : GrammarPlace} {a b : Phrase} {f g : Gathered → Gathered} → Walk how p a q f → Walk how q b r g
    → Walk how p (a then b) r (λ (t : Gathered). f (g t))
◌also◌ {how} {p} {q} {r} {a} {b} {f} {g} v w =
    record { go = λ Behind t k ws h. v.go (Spells b Behind) (g t) (w.go Behind t k) ws h }

either_go : (how : Reading) (p q : GrammarPlace) (a b : Phrase) (f : Gathered → Gathered) → Walk how p a q f → Walk how p b q f
    → (Behind : List Word → Type 0) (t : Gathered) → ((ws : List Word) → Behind ws → Tells how q t ws) → (ws : List Word)
    → Spells (a or b) Behind ws → Tells how p (f t) ws
either_go how p q a b f v w Behind t k ws (inl h) = v.go Behind t k ws h
either_go how p q a b f v w Behind t k ws (inr h) = w.go Behind t k ws h

-- either of two that tell the same
pub either : (how : Reading) (p q : GrammarPlace) (a b : Phrase) (f : Gathered → Gathered) → Walk how p a q f → Walk how p b q f
    → Walk how p (a or b) q f
either how p q a b f v w = record { go = either_go how p q a b f v w }

-- what is told where an item may begin, and where a rule may go on
abbrev pub before_items : List Written → Gathered
before_items is = record none_gathered { items = is }

abbrev pub before_rule : List EntryParts → List Written → Gathered
before_rule es is = record none_gathered { items = is; rule = es }
