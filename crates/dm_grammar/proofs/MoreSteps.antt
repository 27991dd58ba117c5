-- What a place with more steps tells.
use Rattle.std.proofs.Common.{◌≡◌, List, [], ◌∷◌, ◌++◌, Ok, Err, Option, Some, None, refl, Bool, true, false, ap, sym, ◌∙◌, ◌⊎◌, inl, inr, if◌then◌else◌}
use Rattle.dm_grammar.specs.declared.reading.Reading.{Reading}
use Rattle.std.proofs.lemmas.Bool.{and_parts}
use Rattle.dm_grammar.specs.declared.symbol.Symbol.{Symbol}
use Rattle.dm_grammar.specs.declared.symbol.Symbol.TheVariants as symbols
use Rattle.dm_grammar.specs.declared.terminal.Terminal.TheVariants.{One}
use Rattle.dm_grammar.specs.Tokens.{Word}
use Rattle.dm_grammar.specs.Places.{GrammarPlace, TokenRole}
use Rattle.dm_grammar.specs.Places.TokenRole.{NoPart}
use Rattle.dm_grammar.specs.Grammar.{GrammarStep, on, fits, steps_from, taking, may_end}
use Rattle.dm_grammar.specs.Told.{Gathered, none_gathered, fill, filled, collect}
use Rattle.dm_grammar.specs.Syntax.{SomeStep}
use Rattle.dm_grammar.specs.Spelling.Phrase.{◌then◌}
use Rattle.dm_grammar.proofs.Syntax.{apart, clear, clear_ok, steps_apart, end_here}
use Rattle.dm_grammar.proofs.Heads.{FlagPlace, nothing_told}

-- the step is one of the list and takes a token of the symbol
abbrev pub Among : List GrammarStep → Symbol → GrammarStep → Type 0
Among [] s r = ⊥
Among (r0 ∷ rs) s r = ((fits r0.wants s ≡ true) × (r0 ≡ r)) ⊎ Among rs s r

among_some : (rs : List GrammarStep) (s : Symbol) (r : GrammarStep) → Among rs s r → SomeStep rs s r.leads
among_some [] s r m = m
among_some (r0 ∷ rs) s r (inl x) = inl (x.0, ap (λ (r : GrammarStep). r.leads) x.1)
among_some (r0 ∷ rs) s r (inr x) = inr (among_some rs s r x)

passed : (b : Bool) (rs : List GrammarStep) (s : Symbol) (r0 r : GrammarStep) → fits r0.wants s ≡ b
    → (fits r0.wants s ≡ true → ⊥) → taking rs s ≡ Some r → taking (r0 ∷ rs) s ≡ Some r
passed true rs s r0 r f bars t = absurd (bars f)
passed false rs s r0 r f bars t = rw f t

among_taken : (rs : List GrammarStep) (s : Symbol) (r : GrammarStep) → apart rs ≡ true → Among rs s r → taking rs s ≡ Some r
among_taken [] s r a m = absurd m
among_taken (r0 ∷ rs) s r a (inl x) = rw x.0 (ap Some x.1)
among_taken (r0 ∷ rs) s r a (inr x) =
    let parts = and_parts (clear r0.wants rs) (apart rs) a in
    passed (fits r0.wants s) rs s r0 r refl (λ f. clear_ok r0.wants rs s r.leads parts.0 f (among_some rs s r x))
    (among_taken rs s r parts.1 x)

found : (b : Bool) (rs : List GrammarStep) (s : Symbol) (r0 r : GrammarStep) → fits r0.wants s ≡ b
    → (if b then Some r0 else taking rs s) ≡ Some r → (taking rs s ≡ Some r → Among rs s r) → Among (r0 ∷ rs) s r
found true rs s r0 r f e h = let same : r0 ≡ r = cc in inl (f, same)
found false rs s r0 r f e h = inr (h e)

taken_among : (rs : List GrammarStep) (s : Symbol) (r : GrammarStep) → taking rs s ≡ Some r → Among rs s r
taken_among [] s r e = absurd cc
taken_among (r0 ∷ rs) s r e = found (fits r0.wants s) rs s r0 r refl e (taken_among rs s r)

among_more : (extra rs : List GrammarStep) (s : Symbol) (r : GrammarStep) → Among rs s r → Among (extra ++ rs) s r
among_more [] rs s r m = m
among_more (r0 ∷ extra) rs s r m = inr (among_more extra rs s r m)

-- the tokens from a place on tell these
abbrev pub Tells : Reading → GrammarPlace → Gathered → List Word → Type 0
Tells how p t ws = collect how p ws ≡ Ok t

pub by_step : (how : Reading) (p : GrammarPlace) (w : Word) (ws : List Word) (r : GrammarStep) (t : Gathered)
    → Among (steps_from how.version p) w.symbol r
    → Tells how r.leads t ws → Tells how p (fill r.role w t) (w ∷ ws)
by_step how p w ws r t m h =
    rw (collect, among_taken (steps_from how.version p) w.symbol r (steps_apart how.version p) m, h) refl

-- where a place has the steps of another and more, it tells what the other does
more_steps : (how : Reading) (p q : GrammarPlace) (extra : List GrammarStep) (t : Gathered) (w : Word) (ws : List Word) (o : Option GrammarStep)
    → steps_from how.version p ≡ extra ++ steps_from how.version q → taking (steps_from how.version q) w.symbol ≡ o
    → Tells how q t (w ∷ ws) → Tells how p t (w ∷ ws)
more_steps how p q extra t w ws None e k h =
    let bad : collect how q (w ∷ ws) ≡ Err w.line = rw (collect, k) refl in absurd cc
more_steps how p q extra t w ws (Some r) e k h =
    let m = among_more extra (steps_from how.version q) w.symbol r (taken_among (steps_from how.version q) w.symbol r k) in
    let k2 : taking (steps_from how.version p) w.symbol ≡ Some r =
    among_taken (steps_from how.version p) w.symbol r (steps_apart how.version p) (rw e m) in
    let there : collect how q (w ∷ ws) ≡ filled r.role w (collect how r.leads ws) = rw (collect, k) refl in
    let here : collect how p (w ∷ ws) ≡ filled r.role w (collect how r.leads ws) = rw (collect, k2) refl in
    here ∙ (sym there ∙ h)

more_ends : (how : Reading) (p q : GrammarPlace) (t : Gathered) (b : Bool) → may_end q ≡ b → (may_end q ≡ true → may_end p ≡ true)
    → Tells how q t [] → Tells how p t []
more_ends how p q t true e ends h =
    let k = ends e in
    let there : collect how q [] ≡ Ok none_gathered = rw (collect, e) refl in
    let here : collect how p [] ≡ Ok none_gathered = rw (collect, k) refl in
    here ∙ (sym there ∙ h)
more_ends how p q t false e ends h = let bad : collect how q [] ≡ Err how.last = end_here how q e in absurd cc

pub more : (how : Reading) (p q : GrammarPlace) (extra : List GrammarStep) (t : Gathered) (ws : List Word)
    → steps_from how.version p ≡ extra ++ steps_from how.version q
    → (may_end q ≡ true → may_end p ≡ true) → Tells how q t ws → Tells how p t ws
more how p q extra t [] e ends h = more_ends how p q t (may_end q) refl ends h
more how p q extra t (w ∷ ws) e ends h =
    more_steps how p q extra t w ws (taking (steps_from how.version q) w.symbol) e refl h

-- and so does a place where a flag may stand, where it doesn't
flags_at : (b : Bool) (how : Reading) (p pc q qc : GrammarPlace) (s : Symbol) (role : TokenRole) (after : List GrammarStep) (t : Gathered)
    (w : Word) (ws : List Word) → FlagPlace how.version p pc q qc s role after → fits (One symbols.Comma) w.symbol ≡ b
    → Tells how q t (w ∷ ws) → Tells how p t (w ∷ ws)
flags_at true how p pc q qc s role after t w ws f c h =
    let there : collect how q (w ∷ ws) ≡ filled NoPart w (collect how qc ws) = rw (collect, f.there, c) refl in
    let here : collect how p (w ∷ ws) ≡ filled NoPart w (collect how pc ws) = rw (collect, f.here, c) refl in
    let inside : collect how qc ws ≡ Ok t = sym (nothing_told w (collect how qc ws)) ∙ (sym there ∙ h) in
    here ∙ (nothing_told w (collect how pc ws)
    ∙ more how pc qc (on s q role) t ws f.behind (λ e. let bad = sym f.no_end_comma ∙ e in absurd cc) inside)
flags_at false how p pc q qc s role after t w ws f c h =
    let same : collect how p (w ∷ ws) ≡ collect how q (w ∷ ws) = rw (collect, f.here, f.there, c) refl in
    same ∙ h

pub more_flags : (how : Reading) (p pc q qc : GrammarPlace) (s : Symbol) (role : TokenRole) (after : List GrammarStep) (t : Gathered)
    (ws : List Word) → FlagPlace how.version p pc q qc s role after → Tells how q t ws → Tells how p t ws
more_flags how p pc q qc s role after t [] f h =
    let bad : collect how q [] ≡ Err how.last = end_here how q f.no_end_there in absurd cc
more_flags how p pc q qc s role after t (w ∷ ws) f h =
    flags_at (fits (One symbols.Comma) w.symbol) how p pc q qc s role after t w ws f refl h
