-- What the tokens tell, in the words of the grammar's steps.
use Rattle.std.proofs.Common.{◌≡◌, ℕ, List, [], ◌∷◌, ◌++◌, Result, Ok, Err, Option, Some, None, refl, Bool, true, false, not, ◌&&◌, nat_eq, ap, sym, subst, ◌∙◌, ◌⊎◌, inl, inr, ◌↔◌, if◌then◌else◌, get_or, append-nil, arith}
use Rattle.dm_grammar.specs.declared.reading.Reading.{Reading}
use Rattle.std.proofs.lemmas.Bool.{and_parts}
use Rattle.std.proofs.lemmas.Bool.Decides.{nat_tests}
use Rattle.dm_grammar.specs.declared.symbol.Symbol.{Symbol}
use Rattle.dm_grammar.specs.declared.symbol.Symbol.TheVariants as symbols
use Rattle.dm_grammar.specs.declared.terminal.Terminal.{Terminal}
use Rattle.dm_grammar.specs.declared.terminal.Terminal.TheVariants.{AnyName, NameBut, One}
use Rattle.dm_grammar.specs.declared.reading.Version.{Version}
use Rattle.dm_grammar.specs.declared.reading.Version.TheVariants.{First, Second}
use Rattle.dm_grammar.specs.Tokens.{Word, tokens}
use Rattle.dm_grammar.specs.Versions.{body_of, reading_of}
use Rattle.dm_grammar.specs.Places.{GrammarPlace, TokenRole}
use Rattle.dm_grammar.specs.Places.GrammarPlace.{Text, AtSign, AvpName, AvpCode, Typed, TypedColon, AtVendor, VendorNamed, Listed, ListedColon, Vendored, ListOpen, ValueName, ValueEnd, TitleLess, TitleName, Titled, Defined, Head, CommandWord, CommandColon, CommandCode, Coded, CodedComma, Requested, RequestedComma, Proxied, ProxiedComma, GroupWord, GroupColon, GroupCode, GroupCoded, GroupNamed, Flagged, FlaggedComma, HeadEnd, InRule, Low, Starred, High, Angle, AngleName, Closed, FixedOpen, FixedName, BraceOpen, BraceName, SquareOpen, SquareName}
use Rattle.dm_grammar.specs.Grammar.{GrammarStep, fits, is_name_symbol, symbol_number, steps_from, taking, may_end}
use Rattle.dm_grammar.specs.Items.{Written}
use Rattle.dm_grammar.specs.Told.{Gathered, none_gathered, fill, filled, collect, items_told, items_or_line}
use Rattle.dm_grammar.specs.Syntax.{SomeStep, TakesWord, Leads, StandsAtToken, StandsAtEnd, IsSyntaxFault, IsGrammatical}

-- the step that is taken is one of the list, and without one there is none
taken : (b : Bool) (rs : List GrammarStep) (s : Symbol) (r0 r : GrammarStep) → fits r0.wants s ≡ b
    → (if b then Some r0 else taking rs s) ≡ Some r → (taking rs s ≡ Some r → SomeStep rs s r.leads)
    → SomeStep (r0 ∷ rs) s r.leads
taken true rs s r0 r f e h = let same : r0 ≡ r = cc in inl (f, ap (λ (r : GrammarStep). r.leads) same)
taken false rs s r0 r f e h = inr (h e)

pub some_taken : (rs : List GrammarStep) (s : Symbol) (r : GrammarStep) → taking rs s ≡ Some r → SomeStep rs s r.leads
some_taken [] s r e = absurd cc
some_taken (r0 ∷ rs) s r e = taken (fits r0.wants s) rs s r0 r refl e (some_taken rs s r)

not_taken : (b : Bool) (rs : List GrammarStep) (s : Symbol) (r0 : GrammarStep) (q : GrammarPlace) → fits r0.wants s ≡ b
    → (if b then Some r0 else taking rs s) ≡ None → (taking rs s ≡ None → SomeStep rs s q → ⊥) → SomeStep (r0 ∷ rs) s q
    → ⊥
not_taken true rs s r0 q f e h some = absurd cc
not_taken false rs s r0 q f e h (inl x) = absurd cc
not_taken false rs s r0 q f e h (inr x) = h e x

none_taken : (rs : List GrammarStep) (s : Symbol) (q : GrammarPlace) → taking rs s ≡ None → SomeStep rs s q → ⊥
none_taken [] s q e some = some
none_taken (r0 ∷ rs) s q e some = not_taken (fits r0.wants s) rs s r0 q refl e (none_taken rs s q) some

-- two terminals that take no token in common
abbrev pub disjoint : Terminal → Terminal → Bool
disjoint AnyName AnyName = false
disjoint AnyName (NameBut b) = false
disjoint (NameBut a) b = false
disjoint AnyName (One b) = not (is_name_symbol b)
disjoint (One a) AnyName = not (is_name_symbol a)
disjoint (One a) (NameBut b) = nat_eq (symbol_number a) (symbol_number b)
disjoint (One a) (One b) = not (nat_eq (symbol_number a) (symbol_number b))

abbrev pub clear : Terminal → List GrammarStep → Bool
clear t [] = true
clear t (r ∷ rs) = disjoint t r.wants && clear t rs

-- no two steps of a list take one token
abbrev pub apart : List GrammarStep → Bool
apart [] = true
apart (r ∷ rs) = clear r.wants rs && apart rs

-- a symbol by its number
abbrev symbol_of : ℕ → Symbol
symbol_of n =
    get_or
    (symbols.Less ∷ symbols.Greater ∷ symbols.OpenBrace ∷ symbols.CloseBrace ∷ symbols.OpenSquare ∷ symbols.CloseSquare
    ∷ symbols.Star ∷ symbols.Comma ∷ symbols.Colon ∷ symbols.At ∷ symbols.Define ∷ symbols.Number ∷ symbols.Name
    ∷ symbols.Diameter ∷ symbols.Header ∷ symbols.DiameterHeader ∷ symbols.Avp ∷ symbols.AvpHeader
    ∷ symbols.Req ∷ symbols.Pxy ∷ symbols.Err ∷ symbols.Vendor ∷ symbols.Enumerated ∷ symbols.Stray ∷ [])
    n symbols.Stray

back : (s : Symbol) → symbol_of (symbol_number s) ≡ s
back symbols.Less = refl
back symbols.Greater = refl
back symbols.OpenBrace = refl
back symbols.CloseBrace = refl
back symbols.OpenSquare = refl
back symbols.CloseSquare = refl
back symbols.Star = refl
back symbols.Comma = refl
back symbols.Colon = refl
back symbols.At = refl
back symbols.Define = refl
back symbols.Number = refl
back symbols.Name = refl
back symbols.Diameter = refl
back symbols.Header = refl
back symbols.DiameterHeader = refl
back symbols.Avp = refl
back symbols.AvpHeader = refl
back symbols.Req = refl
back symbols.Pxy = refl
back symbols.Err = refl
back symbols.Vendor = refl
back symbols.Enumerated = refl
back symbols.Stray = refl

pub same_symbol : (a b : Symbol) → nat_eq (symbol_number a) (symbol_number b) ≡ true → a ≡ b
same_symbol a b h =
    let e : symbol_number a ≡ symbol_number b = grind (arith, nat_tests) in
    sym (back a) ∙ (ap symbol_of e ∙ back b)

not_name : (s : Symbol) → not (is_name_symbol s) ≡ true → is_name_symbol s ≡ true → ⊥
not_name s h k = let e : false ≡ true = rw k at h in absurd cc

disjoint_ok : (t u : Terminal) (s : Symbol) → disjoint t u ≡ true → fits t s ≡ true → fits u s ≡ true → ⊥
disjoint_ok AnyName AnyName s d f g = absurd cc
disjoint_ok AnyName (NameBut b) s d f g = absurd cc
disjoint_ok (NameBut a) u s d f g = absurd cc
disjoint_ok (One a) (NameBut b) s d f g =
    let other = (and_parts (is_name_symbol s) (not (nat_eq (symbol_number b) (symbol_number s))) g).1 in
    let e : a ≡ s = same_symbol a s f in
    let same : nat_eq (symbol_number b) (symbol_number s) ≡ true = grind (arith, nat_tests) in
    let bad : not true ≡ true = rw same at other in
    absurd cc
disjoint_ok AnyName (One b) s d f g = not_name b d (ap is_name_symbol (same_symbol b s g) ∙ f)
disjoint_ok (One a) AnyName s d f g = not_name a d (ap is_name_symbol (same_symbol a s f) ∙ g)
disjoint_ok (One a) (One b) s d f g =
    let e : a ≡ b = same_symbol a s f ∙ sym (same_symbol b s g) in
    let n : symbol_number a ≡ symbol_number b = ap symbol_number e in
    absurd (grind (arith, nat_tests))

pub clear_ok : (t : Terminal) (rs : List GrammarStep) (s : Symbol) (q : GrammarPlace) → clear t rs ≡ true → fits t s ≡ true
    → SomeStep rs s q → ⊥
clear_ok t [] s q c f some = some
clear_ok t (r ∷ rs) s q c f (inl x) = disjoint_ok t r.wants s (and_parts (disjoint t r.wants) (clear t rs) c).0 f x.0
clear_ok t (r ∷ rs) s q c f (inr x) = clear_ok t rs s q (and_parts (disjoint t r.wants) (clear t rs) c).1 f x

abbrev IsTaken : List GrammarStep → Symbol → GrammarPlace → Type 0
IsTaken rs s q = (r : GrammarStep) × ((taking rs s ≡ Some r) × (r.leads ≡ q))

later : (b : Bool) (rs : List GrammarStep) (s : Symbol) (q : GrammarPlace) (r0 : GrammarStep) → fits r0.wants s ≡ b
    → (fits r0.wants s ≡ true → ⊥) → IsTaken rs s q → IsTaken (r0 ∷ rs) s q
later true rs s q r0 f bars t = absurd (bars f)
later false rs s q r0 f bars t = (t.0, (rw f t.1.0, t.1.1))

only_taken : (rs : List GrammarStep) (s : Symbol) (q : GrammarPlace) → apart rs ≡ true → SomeStep rs s q → IsTaken rs s q
only_taken [] s q a some = absurd some
only_taken (r0 ∷ rs) s q a (inl x) = (r0, (rw x.0 refl, x.1))
only_taken (r0 ∷ rs) s q a (inr x) =
    let parts = and_parts (clear r0.wants rs) (apart rs) a in
    later (fits r0.wants s) rs s q r0 refl (λ f. clear_ok r0.wants rs s q parts.0 f x) (only_taken rs s q parts.1 x)

pub steps_apart : (v : Version) (p : GrammarPlace) → apart (steps_from v p) ≡ true
steps_apart v Text = refl
steps_apart First AtSign = refl
steps_apart Second AtSign = refl
steps_apart v AvpName = refl
steps_apart First AvpCode = refl
steps_apart Second AvpCode = refl
steps_apart First Typed = refl
steps_apart Second Typed = refl
steps_apart v TitleLess = refl
steps_apart v TitleName = refl
steps_apart v Titled = refl
steps_apart v Defined = refl
steps_apart v Head = refl
steps_apart v CommandWord = refl
steps_apart v CommandColon = refl
steps_apart v CommandCode = refl
steps_apart v Coded = refl
steps_apart v CodedComma = refl
steps_apart v Requested = refl
steps_apart v RequestedComma = refl
steps_apart v Proxied = refl
steps_apart v ProxiedComma = refl
steps_apart v GroupWord = refl
steps_apart v GroupColon = refl
steps_apart v GroupCode = refl
steps_apart v Flagged = refl
steps_apart v FlaggedComma = refl
steps_apart v HeadEnd = refl
steps_apart v InRule = refl
steps_apart v Low = refl
steps_apart v Starred = refl
steps_apart v High = refl
steps_apart v Angle = refl
steps_apart v AngleName = refl
steps_apart v Closed = refl
steps_apart v FixedOpen = refl
steps_apart v FixedName = refl
steps_apart v BraceOpen = refl
steps_apart v BraceName = refl
steps_apart v SquareOpen = refl
steps_apart v SquareName = refl
steps_apart v TypedColon = refl
steps_apart v AtVendor = refl
steps_apart v VendorNamed = refl
steps_apart v ListedColon = refl
steps_apart v Vendored = refl
steps_apart v ListOpen = refl
steps_apart v ValueName = refl
steps_apart v ValueEnd = refl
steps_apart v GroupNamed = refl
steps_apart First Listed = refl
steps_apart Second Listed = refl
steps_apart First GroupCoded = refl
steps_apart Second GroupCoded = refl

-- the step that a place takes is the only one
pub the_step : (v : Version) (p : GrammarPlace) (w : Word) (q : GrammarPlace) → TakesWord v p w q → IsTaken (steps_from v p) w.symbol q
the_step v p w q t = only_taken (steps_from v p) w.symbol q (steps_apart v p) t

same_step : (a b : Option GrammarStep) (r s : GrammarStep) → a ≡ Some r → a ≡ Some s → r ≡ s
same_step a b r s e f = cc

pub one_place : (v : Version) (ws : List Word) (o p q : GrammarPlace) → Leads v o ws p → Leads v o ws q → p ≡ q
one_place v [] o p q e f = sym e ∙ f
one_place v (w ∷ ws) o p q e f =
    let a = the_step v o w e.0 e.1.0 in
    let b = the_step v o w f.0 f.1.0 in
    let r : a.0 ≡ b.0 = same_step (taking (steps_from v o) w.symbol) None a.0 b.0 a.1.0 b.1.0 in
    let m : e.0 ≡ f.0 = sym a.1.1 ∙ (ap (λ (r : GrammarStep). r.leads) r ∙ b.1.1) in
    one_place v ws f.0 p q (subst (λ (m : GrammarPlace). Leads v m ws p) m e.1.1) f.1.1

-- a fault behind tokens that lead there is one of the whole
filled_fault : (r : TokenRole) (w : Word) (t : Result Gathered ℕ) (line : ℕ) → t ≡ Err line → filled r w t ≡ Err line
filled_fault r w t line h = rw h refl

pub led_fault : (how : Reading) (line : ℕ) (front rest : List Word) (p q : GrammarPlace) → Leads how.version p front q
    → collect how q rest ≡ Err line → collect how p (front ++ rest) ≡ Err line
led_fault how line [] rest p q l h = subst (λ (q : GrammarPlace). collect how q rest ≡ Err line) (sym l) h
led_fault how line (w ∷ front) rest p q l h =
    let t = the_step how.version p w l.0 l.1.0 in
    rw (collect, t.1.0)
    (filled_fault t.0.role w (collect how t.0.leads (front ++ rest)) line
    (led_fault how line front rest t.0.leads q
    (subst (λ (m : GrammarPlace). Leads how.version m front q) (sym t.1.1) l.1.1) h))

stuck_here : (how : Reading) (p : GrammarPlace) (w : Word) (ws : List Word) (o : Option GrammarStep)
    → taking (steps_from how.version p) w.symbol ≡ o
    → ((q : GrammarPlace) → TakesWord how.version p w q → ⊥) → collect how p (w ∷ ws) ≡ Err w.line
stuck_here how p w ws None e bars = rw (collect, e) refl
stuck_here how p w ws (Some r) e bars = absurd (bars r.leads (some_taken (steps_from how.version p) w.symbol r e))

pub from_token : (how : Reading) (line : ℕ) (ws : List Word) (p : GrammarPlace) → StandsAtToken how.version p ws line
    → collect how p ws ≡ Err line
from_token how line ws p b =
    ap (collect how p) b.whole ∙
    (led_fault how b.bad.line b.before (b.bad ∷ b.behind) p b.place b.led
    (stuck_here how b.place b.bad b.behind (taking (steps_from how.version b.place) b.bad.symbol) refl b.stuck)
    ∙ ap Err (sym b.its_line))

pub end_here : (how : Reading) (p : GrammarPlace) → may_end p ≡ false → collect how p [] ≡ Err how.last
end_here how p h = rw (collect, h) refl

pub from_end : (how : Reading) (line : ℕ) (ws : List Word) (p : GrammarPlace) → StandsAtEnd how.version p ws how.last line
    → collect how p ws ≡ Err line
from_end how line ws p b =
    ap (collect how p) (sym (append-nil ws)) ∙
    (led_fault how how.last ws [] p b.place b.led (end_here how b.place b.no_end) ∙ ap Err (sym b.its_line))

-- and each fault stands there
abbrev Stands : Reading → GrammarPlace → List Word → ℕ → Type 0
Stands how p ws line = StandsAtToken how.version p ws line ⊎ StandsAtEnd how.version p ws how.last line

one_more : (how : Reading) (line : ℕ) (p m : GrammarPlace) (w : Word) (ws : List Word) → TakesWord how.version p w m
    → Stands how m ws line
    → Stands how p (w ∷ ws) line
one_more how line p m w ws t (inl b) =
    inl (record {
      before = w ∷ b.before;
      bad = b.bad;
      behind = b.behind;
      place = b.place;
      whole = ap (λ (ws : List Word). w ∷ ws) b.whole;
      led = (m, (t, b.led));
      stuck = b.stuck;
      its_line = b.its_line;
    })
one_more how line p m w ws t (inr b) =
    inr (record { place = b.place; led = (m, (t, b.led)); no_end = b.no_end; its_line = b.its_line })

err_inside : (r : TokenRole) (w : Word) (t : Result Gathered ℕ) (line : ℕ) → filled r w t ≡ Err line → t ≡ Err line
err_inside r w (Ok told) line h = absurd cc
err_inside r w (Err l) line h = h

same_line : (a b : ℕ) (r : Result Gathered ℕ) → r ≡ Err a → r ≡ Err b → b ≡ a
same_line a b r e f = cc

at_step : (how : Reading) (line : ℕ) (p : GrammarPlace) (w : Word) (ws : List Word) (o : Option GrammarStep)
    → taking (steps_from how.version p) w.symbol ≡ o
    → collect how p (w ∷ ws) ≡ Err line
    → ((r : GrammarStep) → collect how r.leads ws ≡ Err line → Stands how r.leads ws line) → Stands how p (w ∷ ws) line
at_step how line p w ws None e h go =
    let here : collect how p (w ∷ ws) ≡ Err w.line = rw (collect, e) refl in
    inl (record {
      before = [];
      bad = w;
      behind = ws;
      place = p;
      whole = refl;
      led = refl;
      stuck = λ q t. none_taken (steps_from how.version p) w.symbol q e t;
      its_line = same_line w.line line (collect how p (w ∷ ws)) here h;
    })
at_step how line p w ws (Some r) e h go =
    let there : collect how p (w ∷ ws) ≡ filled r.role w (collect how r.leads ws) = rw (collect, e) refl in
    one_more how line p r.leads w ws (some_taken (steps_from how.version p) w.symbol r e)
    (go r (err_inside r.role w (collect how r.leads ws) line (sym there ∙ h)))

at_end : (how : Reading) (line : ℕ) (p : GrammarPlace) (b : Bool) → may_end p ≡ b → collect how p [] ≡ Err line
    → Stands how p [] line
at_end how line p true e h = let good : collect how p [] ≡ Ok none_gathered = rw (collect, e) refl in absurd cc
at_end how line p false e h =
    inr (record {
      place = p;
      led = refl;
      no_end = e;
      its_line = same_line how.last line (collect how p []) (end_here how p e) h;
    })

pub stands : (how : Reading) (line : ℕ) (ws : List Word) (p : GrammarPlace) → collect how p ws ≡ Err line
    → Stands how p ws line
stands how line [] p h = at_end how line p (may_end p) refl h
stands how line (w ∷ ws) p h =
    at_step how line p w ws (taking (steps_from how.version p) w.symbol) refl h (λ r g. stands how line ws r.leads g)

-- all tokens are taken
abbrev pub AllTaken : Version → GrammarPlace → List Word → Type 0
AllTaken v p ws = (q : GrammarPlace) × (Leads v p ws q × (may_end q ≡ true))

pub ok_inside : (r : TokenRole) (w : Word) (t : Result Gathered ℕ) (told : Gathered) → filled r w t ≡ Ok told
    → (inner : Gathered) × (t ≡ Ok inner)
ok_inside r w (Ok inner) told h = (inner, refl)
ok_inside r w (Err l) told h = absurd cc

ok_step : (how : Reading) (told : Gathered) (p : GrammarPlace) (w : Word) (ws : List Word) (o : Option GrammarStep)
    → taking (steps_from how.version p) w.symbol ≡ o → collect how p (w ∷ ws) ≡ Ok told
    → ((r : GrammarStep) (inner : Gathered) → collect how r.leads ws ≡ Ok inner → AllTaken how.version r.leads ws)
    → AllTaken how.version p (w ∷ ws)
ok_step how told p w ws None e h go =
    let here : collect how p (w ∷ ws) ≡ Err w.line = rw (collect, e) refl in absurd cc
ok_step how told p w ws (Some r) e h go =
    let there : collect how p (w ∷ ws) ≡ filled r.role w (collect how r.leads ws) = rw (collect, e) refl in
    let inside = ok_inside r.role w (collect how r.leads ws) told (sym there ∙ h) in
    let rest = go r inside.0 inside.1 in
    (rest.0, ((r.leads, (some_taken (steps_from how.version p) w.symbol r e, rest.1.0)), rest.1.1))

ok_end : (how : Reading) (told : Gathered) (p : GrammarPlace) (b : Bool) → may_end p ≡ b → collect how p [] ≡ Ok told
    → AllTaken how.version p []
ok_end how told p true e h = (p, (refl, e))
ok_end how told p false e h = let bad : collect how p [] ≡ Err how.last = end_here how p e in absurd cc

pub ok_taken : (how : Reading) (told : Gathered) (ws : List Word) (p : GrammarPlace) → collect how p ws ≡ Ok told
    → AllTaken how.version p ws
ok_taken how told [] p h = ok_end how told p (may_end p) refl h
ok_taken how told (w ∷ ws) p h =
    ok_step how told p w ws (taking (steps_from how.version p) w.symbol) refl h
    (λ r inner g. ok_taken how inner ws r.leads g)

taken_ok : (how : Reading) (ws : List Word) (p q : GrammarPlace) → Leads how.version p ws q → may_end q ≡ true
    → (told : Gathered) × (collect how p ws ≡ Ok told)
taken_ok how [] p q l e = let here : may_end p ≡ true = ap may_end l ∙ e in (none_gathered, rw (collect, here) refl)
taken_ok how (w ∷ ws) p q l e =
    let t = the_step how.version p w l.0 l.1.0 in
    let rest = taken_ok how ws t.0.leads q (subst (λ (m : GrammarPlace). Leads how.version m ws q) (sym t.1.1) l.1.1) e in
    (fill t.0.role w rest.0, rw (collect, t.1.0, rest.1) refl)

fault_from : (how : Reading) (line : ℕ) (ws : List Word) (p : GrammarPlace) → Stands how p ws line
    → collect how p ws ≡ Err line
fault_from how line ws p (inl b) = from_token how line ws p b
fault_from how line ws p (inr b) = from_end how line ws p b

-- of a whole text
err_told : (r : Result Gathered ℕ) (line : ℕ) → items_told r ≡ Err line → r ≡ Err line
err_told (Ok t) line h = absurd cc
err_told (Err l) line h = let e : l ≡ line = cc in ap Err e

pub ok_told : (r : Result Gathered ℕ) (items : List Written) → items_told r ≡ Ok items → (t : Gathered) × (r ≡ Ok t)
ok_told (Ok t) items h = (t, refl)
ok_told (Err l) items h = absurd cc

pub fault_law : (text : List ℕ) (line : ℕ) → (items_or_line text ≡ Err line) ↔ IsSyntaxFault text line
fault_law text line =
    let how = reading_of text in
    let ws = body_of (tokens text) in (
      λ h. stands how line ws Text (err_told (collect how Text ws) line h),
      λ s. ap items_told (fault_from how line ws Text s),
    )

pub good_law : (text : List ℕ) → IsGrammatical text ↔ ((items : List Written) × (items_or_line text ≡ Ok items))
good_law text =
    let how = reading_of text in
    let ws = body_of (tokens text) in (
      λ g. let t = taken_ok how ws Text g.0 g.1.0 g.1.1 in (t.0.items, ap items_told t.1),
      λ k. let t = ok_told (collect how Text ws) k.0 k.1 in ok_taken how t.0 ws Text t.1,
    )
