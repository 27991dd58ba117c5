-- What a vendor's tokens tell.
use Rattle.std.proofs.Common.{◌≡◌, ℕ, List, [], ◌∷◌, drop, Result, Ok, Err, Option, Some, None, IfOk, refl, Bool, true, false, ap, sym, ◌∙◌}
use Rattle.std.proofs.lemmas.Bool.{and_parts}
use Rattle.dm_grammar.specs.declared.reading.Reading.{Reading}
use Rattle.dm_grammar.specs.declared.reading.Version.{Version}
use Rattle.dm_grammar.specs.declared.reading.Version.TheVariants.{First, Second}
use Rattle.dm_grammar.specs.declared.symbol.Symbol.TheVariants as symbols
use Rattle.dm_grammar.specs.declared.terminal.Terminal.TheVariants.{AnyName, One}
use Rattle.dm_grammar.specs.declared.token.Token.{Token}
use Rattle.dm_grammar.specs.Tokens.{Word}
use Rattle.dm_grammar.specs.Views.{view_word, view_option}
use Rattle.dm_grammar.specs.Grammar.{fits}
use Rattle.dm_grammar.specs.Items.VendorReference.{NumberedBy, NamedBy}
use Rattle.dm_grammar.specs.Items.Written.{VendorIs}
use Rattle.dm_grammar.specs.Places.{GrammarPlace}
use Rattle.dm_grammar.specs.Places.GrammarPlace.{Text, AtSign, VendorNamed, Typed, TypedColon, Listed, ListedColon, Vendored, GroupCoded, GroupNamed, Flagged}
use Rattle.dm_grammar.specs.Places.TokenRole.{NameOfAvp, NamedIs, SecondIs, CodeIs, Rules}
use Rattle.dm_grammar.specs.Readers.{VendorPlace, begins_with, begins_named, begins_vendor, behind_kind, behind_vendor, adding_item, adding_reference, with_end, with_second}
use Rattle.dm_grammar.specs.Told.{Gathered, filled, collect, reference_told}
use Rattle.dm_grammar.proofs.Avps.{name_no_symbol}
use Rattle.dm_grammar.proofs.Heads.{Taken, fits_one, nothing_told}
use Rattle.dm_grammar.proofs.Plain.{IsPlain, plain}

-- the word `vendor` and a name
vendor_in : (v : Version) (last : ℕ) (w n : Word) (ws : List Word)
    → let how : Reading = record { version = v; last = last } in
    begins_vendor v (w ∷ n ∷ ws) ≡ true
    → collect how AtSign (w ∷ n ∷ ws) ≡ filled NameOfAvp w (filled NamedIs n (collect how VendorNamed ws))
vendor_in First last w n ws h = absurd cc
vendor_in Second last w n ws h =
    let both = and_parts (fits (One symbols.Vendor) w.symbol) (fits AnyName n.symbol) h in
    let no = name_no_symbol (fits (One symbols.Number) n.symbol) symbols.Number n.symbol refl both.1 refl in
    rw (collect, both.0) (ap (filled NameOfAvp w) (rw (collect, no, both.1) refl))

pub vendor_words : (how : Reading) (w n : Word) (all rest ws : List Word) → begins_vendor how.version all ≡ true
    → all ≡ w ∷ rest → rest ≡ n ∷ ws
    → collect how AtSign all ≡ filled NameOfAvp w (filled NamedIs n (collect how VendorNamed ws))
vendor_words how w n all rest ws h e f =
    let whole : all ≡ w ∷ n ∷ ws = e ∙ ap (λ (r : List Word). w ∷ r) f in
    ap (collect how AtSign) whole ∙ vendor_in how.version how.last w n ws (rw whole at h)

vendor_made : (w n c : Word) (r : Result Gathered ℕ) → IfOk r IsPlain
    → filled NameOfAvp w (filled NamedIs n (filled CodeIs c r)) ≡ adding_item
    (VendorIs (record { name = n; number = c })) r
vendor_made w n c (Ok told) h = rw h refl
vendor_made w n c (Err line) h = refl

pub vendor_told : (how : Reading) (w n c : Word) (ws : List Word)
    → filled NameOfAvp w (filled NamedIs n (filled CodeIs c (collect how Text ws)))
    ≡ adding_item (VendorIs (record { name = n; number = c })) (collect how Text ws)
vendor_told how w n c ws = vendor_made w n c (collect how Text ws) (plain how ws)

pub no_word : (v : Version) (ws : List Word) → begins_vendor v ws ≡ true → begins_with (One symbols.Vendor) ws ≡ true
no_word First ws h = absurd cc
no_word Second ws h = (and_parts (begins_with (One symbols.Vendor) ws) (begins_with AnyName (drop 1 ws)) h).0

pub no_name : (v : Version) (ws : List Word) → begins_vendor v ws ≡ true → begins_with AnyName (drop 1 ws) ≡ true
no_name First ws h = absurd cc
no_name Second ws h = (and_parts (begins_with (One symbols.Vendor) ws) (begins_with AnyName (drop 1 ws)) h).1

-- [vend]: a colon
colon_in : (v : Version) (last : ℕ) (p colon q : GrammarPlace) (ws : List Word)
    → let how : Reading = record { version = v; last = last } in
    VendorPlace v p colon q → begins_named v ws ≡ true → collect how p ws ≡ collect how colon (drop 1 ws)
colon_in First last p colon q ws f h = absurd cc
colon_in Second last p colon q [] f h = absurd cc
colon_in Second last p colon q (w ∷ ws) f h =
    let how : Reading = record { version = Second; last = last } in
    let no = fits_one symbols.Colon symbols.Number w.symbol refl h in
    rw (collect, f.here, no, h) (nothing_told w (collect how colon ws))

pub colon_taken : (how : Reading) (p colon q : GrammarPlace) (ws rest : List Word) → VendorPlace how.version p colon q
    → begins_named how.version ws ≡ true → rest ≡ drop 1 ws → collect how p ws ≡ collect how colon rest
colon_taken how p colon q ws rest f h e =
    colon_in how.version how.last p colon q ws f h ∙ ap (collect how colon) (sym e)

pub named_told : (w : Word) (r : Result Gathered ℕ) → filled NamedIs w r ≡ adding_reference (Some (NamedBy w)) r
named_told w (Ok told) = refl
named_told w (Err line) = refl

numbered_told : (w : Word) (r : Result Gathered ℕ) → filled SecondIs w r ≡ adding_reference (Some (NumberedBy w)) r
numbered_told w (Ok told) = refl
numbered_told w (Err line) = refl

none_told : (r : Result Gathered ℕ) → r ≡ adding_reference None r
none_told (Ok told) = refl
none_told (Err line) = refl

-- a number
number_in : (v : Version) (last : ℕ) (p colon q : GrammarPlace) (n : Word) (ws : List Word)
    → let how : Reading = record { version = v; last = last } in
    VendorPlace v p colon q → fits (One symbols.Number) n.symbol ≡ true
    → collect how p (n ∷ ws) ≡ filled SecondIs n (collect how q ws)
number_in v last p colon q n ws f h = rw (collect, f.here, h) refl

-- neither
neither_in : (v : Version) (last : ℕ) (p colon q : GrammarPlace) (ws : List Word)
    → let how : Reading = record { version = v; last = last } in
    VendorPlace v p colon q → begins_named v ws ≡ false → begins_with (One symbols.Number) ws ≡ false
    → collect how p ws ≡ collect how q ws
neither_in v last p colon q [] f c h = rw (collect, f.ends) refl
neither_in First last p colon q (w ∷ ws) f c h = rw (collect, f.here, h) refl
neither_in Second last p colon q (w ∷ ws) f c h = rw (collect, f.here, h, c) refl

pub vendor_there : (how : Reading) (p colon q : GrammarPlace) (ws rest : List Word) (v : Option Token)
    → VendorPlace how.version p colon q → begins_named how.version ws ≡ false → Taken symbols.Number v ws rest
    → collect how p ws ≡ adding_reference (reference_told None (view_option v)) (collect how q rest)
vendor_there how p colon q ws rest None f c n =
    neither_in how.version how.last p colon q ws f c n.1
    ∙ (ap (collect how q) (sym n.0) ∙ none_told (collect how q rest))
vendor_there how p colon q ws rest (Some t) f c n =
    ap (collect how p) n.0 ∙ (number_in how.version how.last p colon q (view_word t) rest f n.1
    ∙ numbered_told (view_word t) (collect how q rest))

-- the places of a vendor behind a type
abbrev pub behind_colon : Bool → GrammarPlace
behind_colon false = TypedColon
behind_colon true = ListedColon

pub typed_place : (v : Version) → VendorPlace v Typed TypedColon Text
typed_place v = record { here = refl; named = refl; ends = refl; no_end = refl }

pub listed_place : (v : Version) → VendorPlace v Listed ListedColon Vendored
listed_place v = record { here = refl; named = refl; ends = refl; no_end = refl }

pub kind_place : (v : Version) (b : Bool) → VendorPlace v (behind_kind b) (behind_colon b) (behind_vendor b)
kind_place v false = typed_place v
kind_place v true = listed_place v

-- the end of a group's head
group_colon_in : (v : Version) (last : ℕ) (ws : List Word) → let how : Reading = record { version = v; last = last } in
    begins_named v ws ≡ true → collect how GroupCoded ws ≡ collect how GroupNamed (drop 1 ws)
group_colon_in First last ws h = absurd cc
group_colon_in Second last [] h = absurd cc
group_colon_in Second last (w ∷ ws) h =
    let how : Reading = record { version = Second; last = last } in
    rw (collect, h) (nothing_told w (collect how GroupNamed ws))

pub group_colon : (how : Reading) (ws rest : List Word) → begins_named how.version ws ≡ true → rest ≡ drop 1 ws
    → collect how GroupCoded ws ≡ collect how GroupNamed rest
group_colon how ws rest h e = group_colon_in how.version how.last ws h ∙ ap (collect how GroupNamed) (sym e)

group_end_in : (v : Version) (last : ℕ) (ws : List Word) → let how : Reading = record { version = v; last = last } in
    begins_named v ws ≡ false → collect how GroupCoded ws ≡ collect how Flagged ws
group_end_in First last [] h = refl
group_end_in Second last [] h = refl
group_end_in First last (w ∷ ws) h = refl
group_end_in Second last (w ∷ ws) h = rw (collect, h) refl

pub group_end : (how : Reading) (ws : List Word) → begins_named how.version ws ≡ false
    → collect how GroupCoded ws ≡ collect how Flagged ws
group_end how ws h = group_end_in how.version how.last ws h

pub named_end : (n g : Word) (r : Result Gathered ℕ) → filled NamedIs n (filled Rules g r) ≡ with_end (Some n) None r
named_end n g (Ok told) = refl
named_end n g (Err line) = refl

pub numbered_end : (v : Option Word) (r : Result Gathered ℕ) → with_second v r ≡ with_end None v r
numbered_end v (Ok told) = refl
numbered_end v (Err line) = refl
