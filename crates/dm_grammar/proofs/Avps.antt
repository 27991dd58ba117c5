-- What an AVP item's tokens tell.
use Rattle.std.proofs.Common.{◌≡◌, ℕ, List, [], ◌∷◌, drop, Result, Ok, Err, Option, Some, None, refl, Bool, true, false, ◌&&◌, ap, sym, ◌∙◌}
use Rattle.dm_grammar.specs.declared.reading.Reading.{Reading}
use Rattle.dm_grammar.specs.declared.reading.Version.{Version}
use Rattle.dm_grammar.specs.declared.reading.Version.TheVariants.{First, Second}
use Rattle.dm_grammar.specs.declared.symbol.Symbol.{Symbol}
use Rattle.dm_grammar.specs.declared.symbol.Symbol.TheVariants as symbols
use Rattle.dm_grammar.specs.declared.terminal.Terminal.TheVariants.{AnyName, One}
use Rattle.dm_grammar.specs.Tokens.{Word}
use Rattle.dm_grammar.specs.Grammar.{fits, is_name_symbol}
use Rattle.dm_grammar.specs.Items.{ValueParts, VendorReference, AvpParts}
use Rattle.dm_grammar.specs.Items.VendorReference.{NumberedBy, NamedBy}
use Rattle.dm_grammar.specs.Items.Written.{AvpIs}
use Rattle.dm_grammar.specs.Places.GrammarPlace.{Text, AtSign, AtVendor, AvpName, AvpCode, Vendored, ListOpen}
use Rattle.dm_grammar.specs.Places.TokenRole.{NameOfAvp, CodeIs, KindIs}
use Rattle.dm_grammar.specs.Readers.{begins_with, begins_vendor, behind_kind, behind_vendor, behind_brace, may_list, fault_line, adding_item, with_kind, with_values}
use Rattle.dm_grammar.specs.Told.{Gathered, filled, collect}
use Rattle.dm_grammar.proofs.Heads.{nothing_told}
use Rattle.dm_grammar.proofs.Syntax.{same_symbol}

-- a word with a place of its own is a name
pub word_is_name : (s t : Symbol) → is_name_symbol s ≡ true → fits (One s) t ≡ true → is_name_symbol t ≡ true
word_is_name s t n f = let e : is_name_symbol s ≡ is_name_symbol t = ap is_name_symbol (same_symbol s t f) in cc

pub no_name_no_word : (b : Bool) (s t : Symbol) → is_name_symbol s ≡ true → is_name_symbol t ≡ false → fits (One s) t ≡ b
    → fits (One s) t ≡ false
no_name_no_word true s t n m f = let e : is_name_symbol t ≡ true = word_is_name s t n f in absurd cc
no_name_no_word false s t n m f = f

-- a name is no other symbol
pub name_no_symbol : (b : Bool) (s t : Symbol) → is_name_symbol s ≡ false → is_name_symbol t ≡ true → fits (One s) t ≡ b
    → fits (One s) t ≡ false
name_no_symbol true s t n m f = let e : is_name_symbol s ≡ is_name_symbol t = ap is_name_symbol (same_symbol s t f) in absurd cc
name_no_symbol false s t n m f = f

at_vendor : (how : Reading) (ws : List Word) → begins_with AnyName ws ≡ false
    → collect how AtVendor ws ≡ collect how AvpName ws
at_vendor how [] h = refl
at_vendor how (w ∷ ws) h = rw (collect, h) refl

-- the name of an AVP, which isn't the word `vendor` before a name
second_name : (b : Bool) (last : ℕ) (w : Word) (ws : List Word)
    → let how : Reading = record { version = Second; last = last } in
    fits (One symbols.Vendor) w.symbol ≡ b → begins_vendor Second (w ∷ ws) ≡ false → fits AnyName w.symbol ≡ true
    → collect how AtSign (w ∷ ws) ≡ filled NameOfAvp w (collect how AvpName ws)
second_name true last w ws f n h =
    let how : Reading = record { version = Second; last = last } in
    let none : begins_with AnyName ws ≡ false = rw f at n in
    let here : collect how AtSign (w ∷ ws) ≡ filled NameOfAvp w (collect how AtVendor ws) = rw (collect, f) refl in
    here ∙ ap (filled NameOfAvp w) (at_vendor how ws none)
second_name false last w ws f n h = rw (collect, f, h) refl

name_in : (v : Version) (last : ℕ) (w : Word) (ws : List Word)
    → let how : Reading = record { version = v; last = last } in
    begins_vendor v (w ∷ ws) ≡ false → fits AnyName w.symbol ≡ true
    → collect how AtSign (w ∷ ws) ≡ filled NameOfAvp w (collect how AvpName ws)
name_in First last w ws n h = rw (collect, h) refl
name_in Second last w ws n h = second_name (fits (One symbols.Vendor) w.symbol) last w ws refl n h

pub name_taken : (how : Reading) (w : Word) (all ws : List Word) → begins_vendor how.version all ≡ false → all ≡ w ∷ ws
    → fits AnyName w.symbol ≡ true → collect how AtSign all ≡ filled NameOfAvp w (collect how AvpName ws)
name_taken how w all ws n e h =
    ap (collect how AtSign) e ∙ name_in how.version how.last w ws (rw e at n) h

name_missing_in : (v : Version) (last : ℕ) (ws : List Word) → let how : Reading = record { version = v; last = last } in
    begins_with AnyName ws ≡ false → collect how AtSign ws ≡ Err (fault_line last ws)
name_missing_in v last [] h = refl
name_missing_in First last (w ∷ ws) h = rw (collect, h) refl
name_missing_in Second last (w ∷ ws) h =
    let no = no_name_no_word (fits (One symbols.Vendor) w.symbol) symbols.Vendor w.symbol refl h refl in
    rw (collect, no, h) refl

pub name_missing : (how : Reading) (line : ℕ) (ws : List Word) → begins_with AnyName ws ≡ false
    → line ≡ fault_line how.last ws
    → collect how AtSign ws ≡ Err line
name_missing how line ws h e = name_missing_in how.version how.last ws h ∙ ap Err (sym e)

-- a type
second_kind : (b : Bool) (last : ℕ) (w : Word) (ws : List Word)
    → let how : Reading = record { version = Second; last = last } in
    fits (One symbols.Enumerated) w.symbol ≡ b → fits AnyName w.symbol ≡ true
    → collect how AvpCode (w ∷ ws) ≡ filled KindIs w (collect how (behind_kind b) ws)
second_kind true last w ws f h = rw (collect, f) refl
second_kind false last w ws f h = rw (collect, f, h) refl

kind_in : (v : Version) (last : ℕ) (w : Word) (ws : List Word)
    → let how : Reading = record { version = v; last = last } in
    fits AnyName w.symbol ≡ true → collect how AvpCode (w ∷ ws) ≡ filled KindIs w
    (collect how (behind_kind (may_list v w)) ws)
kind_in First last w ws h = rw (collect, h) refl
kind_in Second last w ws h = second_kind (fits (One symbols.Enumerated) w.symbol) last w ws refl h

pub kind_taken : (how : Reading) (w : Word) (all ws : List Word) (may : Bool) → may ≡ may_list how.version w
    → all ≡ w ∷ ws
    → fits AnyName w.symbol ≡ true → collect how AvpCode all ≡ filled KindIs w (collect how (behind_kind may) ws)
kind_taken how w all ws may m e h =
    ap (collect how AvpCode) e ∙ (kind_in how.version how.last w ws h
    ∙ ap (λ (b : Bool). filled KindIs w (collect how (behind_kind b) ws)) (sym m))

kind_missing_in : (v : Version) (last : ℕ) (ws : List Word) → let how : Reading = record { version = v; last = last } in
    begins_with AnyName ws ≡ false → collect how AvpCode ws ≡ Err (fault_line last ws)
kind_missing_in v last [] h = refl
kind_missing_in First last (w ∷ ws) h = rw (collect, h) refl
kind_missing_in Second last (w ∷ ws) h =
    let no = no_name_no_word (fits (One symbols.Enumerated) w.symbol) symbols.Enumerated w.symbol refl h refl in
    rw (collect, no, h) refl

pub kind_missing : (how : Reading) (line : ℕ) (ws : List Word) → begins_with AnyName ws ≡ false
    → line ≡ fault_line how.last ws
    → collect how AvpCode ws ≡ Err line
kind_missing how line ws h e = kind_missing_in how.version how.last ws h ∙ ap Err (sym e)

-- `{` before a list, and none
open_brace : (how : Reading) (ws : List Word) → begins_with (One symbols.OpenBrace) ws ≡ true
    → collect how Vendored ws ≡ collect how ListOpen (drop 1 ws)
open_brace how [] h = absurd cc
open_brace how (w ∷ ws) h = rw (collect, h) (nothing_told w (collect how ListOpen ws))

no_brace : (how : Reading) (ws : List Word) → begins_with (One symbols.OpenBrace) ws ≡ false
    → collect how Vendored ws ≡ collect how Text ws
no_brace how [] h = refl
no_brace how (w ∷ ws) h = rw (collect, h) refl

pub brace_there : (how : Reading) (may : Bool) (ws rest : List Word) → may ≡ true
    → begins_with (One symbols.OpenBrace) ws ≡ true
    → rest ≡ drop 1 ws → collect how (behind_vendor may) ws ≡ collect how (behind_brace true) rest
brace_there how true ws rest m h e = rw e (open_brace how ws h)
brace_there how false ws rest m h e = absurd cc

pub brace_missing : (how : Reading) (may : Bool) (ws : List Word) → (may && begins_with (One symbols.OpenBrace) ws) ≡ false
    → collect how (behind_vendor may) ws ≡ collect how (behind_brace false) ws
brace_missing how true ws h = no_brace how ws h
brace_missing how false ws h = refl

-- the whole
abbrev pub parts : Word → Word → Word → Option VendorReference → List ValueParts → AvpParts
parts n c k v xs = record { name = n; code = c; kind = k; vendor = v; values = xs }

pub avp_told : (n c k : Word) (v : Option VendorReference) (xs : List ValueParts) (r : Result Gathered ℕ)
    → filled NameOfAvp n (filled CodeIs c (with_kind k v (with_values xs r))) ≡ adding_item (AvpIs (parts n c k v xs)) r
avp_told n c k v xs (Err line) = refl
avp_told n c k None xs (Ok told) = refl
avp_told n c k (Some (NumberedBy w)) xs (Ok told) = refl
avp_told n c k (Some (NamedBy w)) xs (Ok told) = refl

pub kind_fault : (k : Word) (v : Option VendorReference) (r : Result Gathered ℕ) (line : ℕ) → r ≡ Err line → with_kind k v r ≡ Err line
kind_fault k v r line h = rw h refl
