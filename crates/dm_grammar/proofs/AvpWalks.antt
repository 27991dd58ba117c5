-- What tokens tell that are written by a vendor and an AVP.
use Rattle.std.proofs.Common.{◌≡◌, ℕ, List, [], ◌∷◌, ◌++◌, Ok, Option, Some, None, refl, Bool, true, false, ◌&&◌, ap, ◌∙◌, inl, inr}
use Rattle.dm_grammar.specs.declared.reading.Reading.{Reading}
use Rattle.dm_grammar.specs.declared.reading.Version.{Version}
use Rattle.dm_grammar.specs.declared.reading.Version.TheVariants.{First, Second}
use Rattle.dm_grammar.specs.declared.symbol.Symbol.TheVariants as symbols
use Rattle.dm_grammar.specs.declared.terminal.Terminal.TheVariants.{AnyName, One}
use Rattle.dm_grammar.specs.Tokens.{Word}
use Rattle.dm_grammar.specs.Places.{GrammarPlace}
use Rattle.dm_grammar.specs.Places.GrammarPlace.{Text, AtSign, AvpName, AvpCode, Typed, TypedColon, AtVendor, VendorNamed, Listed, ListedColon, Vendored, ListOpen, ValueName, ValueEnd}
use Rattle.dm_grammar.specs.Places.TokenRole.{NoPart, BeginsItem, NameOfAvp, CodeIs, KindIs, SecondIs, NamedIs, ValueIs}
use Rattle.dm_grammar.specs.Grammar.{GrammarStep, on, fits, steps_from, colon_steps}
use Rattle.dm_grammar.specs.Items.{VendorParts, VendorReference, ValueParts, AvpParts, Written}
use Rattle.dm_grammar.specs.Items.VendorReference.{NumberedBy, NamedBy}
use Rattle.dm_grammar.specs.Items.Written.{VendorIs, AvpIs}
use Rattle.dm_grammar.specs.Readers.{VendorPlace, begins_vendor, behind_kind, may_list, reference_told}
use Rattle.dm_grammar.specs.Told.{Gathered, none_gathered, fill, filled}
use Rattle.dm_grammar.specs.Spelling.{Phrase, Spells, name_is, number_is, reference_is, reference_may, value_is, more_values, list, kind_and_values, type_is, vendor, item}
use Rattle.dm_grammar.specs.Spelling.Phrase.{Empty, This, ◌then◌}
use Rattle.dm_grammar.proofs.Avps.{name_taken, kind_taken, name_no_symbol}
use Rattle.dm_grammar.proofs.Rules.{one_step}
use Rattle.dm_grammar.proofs.Vendors.{typed_place, listed_place}
use Rattle.dm_grammar.proofs.MoreSteps.{Tells, by_step}
use Rattle.dm_grammar.proofs.Walks.{before_items, Walk, blank, step, mark, this, stay, never, narrow, widen, ◌also◌}

-- [vend]
colon_walk : (v : Version) (last : ℕ) (p colon q : GrammarPlace) (w : Word)
    → let how : Reading = record { version = v; last = last } in
    VendorPlace v p colon q → Walk how p (reference_is v (NamedBy w)) q (fill NamedIs w)
colon_walk First last p colon q w f = never (record { version = First; last = last }) p q (fill NamedIs w)
colon_walk Second last p colon q w f =
    let how : Reading = record { version = Second; last = last } in
    mark how p colon symbols.Colon NoPart (λ w g. rw f.here (inr (inl (g, refl)))) (λ w t. refl)
    also this how colon q AnyName NamedIs w (λ w g. rw f.named (inl (g, refl)))

vend_walk : (how : Reading) (p colon q : GrammarPlace) (d : Option VendorReference) → VendorPlace how.version p colon q
    → Walk how p (reference_may how.version d) q (reference_told d)
vend_walk how p colon q None f =
    let extra = on symbols.Number q SecondIs ++ colon_steps how.version colon in
    widen how p q q Empty (λ (t : Gathered). t) extra (stay how q) (f.here ∙ joined (colon_steps how.version colon))
    (λ e. f.ends ∙ e)
  where
    joined : (xs : List GrammarStep) → on symbols.Number q SecondIs ++ (xs ++ steps_from how.version q)
        ≡ (on symbols.Number q SecondIs ++ xs) ++ steps_from how.version q
    joined xs = refl
vend_walk how p colon q (Some (NumberedBy w)) f =
    this how p q (One symbols.Number) SecondIs w (λ w g. rw f.here (inl (g, refl)))
vend_walk how p colon q (Some (NamedBy w)) f = colon_walk how.version how.last p colon q w f

-- behind any type, where no list is written
kind_end_walk : (how : Reading) (b : Bool) (d : Option VendorReference)
    → Walk how (behind_kind b) (reference_may how.version d) Text (reference_told d)
kind_end_walk how false d = vend_walk how Typed TypedColon Text d (typed_place how.version)
kind_end_walk how true d =
    narrow how Listed Vendored Text (reference_may how.version d) (reference_told d) (on symbols.OpenBrace ListOpen NoPart)
    (vend_walk how Listed ListedColon Vendored d (listed_place how.version)) refl (λ e. refl)

kind_go : (how : Reading) (k : Word) (d : Option VendorReference) (Behind : List Word → Type 0) (t : Gathered)
    → ((ws : List Word) → Behind ws → Tells how Text t ws) → (ws : List Word)
    → Spells (name_is k then reference_may how.version d) Behind ws → Tells how AvpCode (fill KindIs k (reference_told d t)) ws
kind_go how k d Behind t go [] h = absurd h
kind_go how k d Behind t go (w ∷ ws) h =
    let b = may_list how.version w in
    let rest = (kind_end_walk how b d).go Behind t go ws h.1.1 in
    kind_taken how w (w ∷ ws) ws b refl refl h.0 ∙ (ap (filled KindIs w) rest
    ∙ ap (λ (w : Word). Ok (fill KindIs w (reference_told d t))) h.1.0)

kind_walk : (how : Reading) (k : Word) (d : Option VendorReference)
    → Walk how AvpCode (name_is k then reference_may how.version d) Text (λ (t : Gathered). fill KindIs k (reference_told d t))
kind_walk how k d = record { go = kind_go how k d }

-- value *("," value)
abbrev more_told : List ValueParts → Gathered → Gathered
more_told [] t = t
more_told (x ∷ xs) t = fill NoPart blank (fill ValueIs x.name (fill CodeIs x.number (more_told xs t)))

value_walk : (how : Reading) (x : ValueParts)
    → Walk how ListOpen (value_is x) ValueEnd (λ (t : Gathered). fill ValueIs x.name (fill CodeIs x.number t))
value_walk how x =
    this how ListOpen ValueName AnyName ValueIs x.name (λ w f. inl (f, refl))
    also this how ValueName ValueEnd (One symbols.Number) CodeIs x.number (λ w f. inl (f, refl))

more_walk : (how : Reading) (xs : List ValueParts) → Walk how ValueEnd (more_values xs) ValueEnd (more_told xs)
more_walk how [] = stay how ValueEnd
more_walk how (x ∷ xs) =
    mark how ValueEnd ListOpen symbols.Comma NoPart (λ w f. inl (f, refl)) (λ w t. refl)
    also value_walk how x also more_walk how xs

abbrev list_told : ValueParts → List ValueParts → Gathered → Gathered
list_told x xs t =
    fill NoPart blank (fill ValueIs x.name (fill CodeIs x.number (more_told xs (fill NoPart blank t))))

list_walk : (how : Reading) (x : ValueParts) (xs : List ValueParts) → Walk how Vendored (list x xs) Text (list_told x xs)
list_walk how x xs =
    mark how Vendored ListOpen symbols.OpenBrace NoPart (λ w f. inl (f, refl)) (λ w t. refl)
    also value_walk how x also more_walk how xs
    also mark how ValueEnd Text symbols.CloseBrace NoPart (λ w f. inr (inl (f, refl))) (λ w t. refl)

listed_walk : (last : ℕ) (k : Word) (d : Option VendorReference) (x : ValueParts) (xs : List ValueParts)
    → let how : Reading = record { version = Second; last = last } in
    Walk how AvpCode (This (One symbols.Enumerated) k then reference_may Second d then list x xs) Text
    (λ (t : Gathered). fill KindIs k (reference_told d (list_told x xs t)))
listed_walk last k d x xs =
    let how : Reading = record { version = Second; last = last } in
    this how AvpCode Listed (One symbols.Enumerated) KindIs k (λ w f. inl (f, refl))
    also vend_walk how Listed ListedColon Vendored d (listed_place Second)
    also list_walk how x xs

-- a type, its vendor and its list
abbrev values_told : List ValueParts → Gathered → Gathered
values_told [] t = t
values_told (x ∷ xs) t = list_told x xs t

abbrev type_told : Word → Option VendorReference → List ValueParts → Gathered → Gathered
type_told k d xs t = fill KindIs k (reference_told d (values_told xs t))

type_walk : (v : Version) (last : ℕ) (k : Word) (d : Option VendorReference) (xs : List ValueParts)
    → let how : Reading = record { version = v; last = last } in
    Walk how AvpCode (kind_and_values v k d xs) Text (type_told k d xs)
type_walk v last k d [] = kind_walk (record { version = v; last = last }) k d
type_walk First last k d (x ∷ xs) =
    never (record { version = First; last = last }) AvpCode Text (type_told k d (x ∷ xs))
type_walk Second last k d (x ∷ xs) = listed_walk last k d x xs

-- name number
number_no_name : (b : Bool) (x : Word) → fits (One symbols.Number) x.symbol ≡ true → fits AnyName x.symbol ≡ b
    → fits AnyName x.symbol ≡ false
number_no_name true x f e =
    let bad = name_no_symbol (fits (One symbols.Number) x.symbol) symbols.Number x.symbol refl e refl in absurd cc
number_no_name false x f e = e

neither : (a b : Bool) → b ≡ false → (a && b) ≡ false
neither true b e = e
neither false b e = refl

no_vendor : (v : Version) (w x : Word) (ws : List Word) → fits AnyName x.symbol ≡ false
    → begins_vendor v (w ∷ x ∷ ws) ≡ false
no_vendor First w x ws e = refl
no_vendor Second w x ws e = neither (fits (One symbols.Vendor) w.symbol) (fits AnyName x.symbol) e

name_go : (how : Reading) (n c : Word) (Behind : List Word → Type 0) (t : Gathered)
    → ((ws : List Word) → Behind ws → Tells how AvpCode t ws) → (ws : List Word)
    → Spells (name_is n then number_is c) Behind ws → Tells how AtSign (fill NameOfAvp n (fill CodeIs c t)) ws
name_go how n c Behind t go [] h = absurd h
name_go how n c Behind t go (w ∷ []) h = absurd h.1.1
name_go how n c Behind t go (w ∷ x ∷ ws) h =
    let no = number_no_name (fits AnyName x.symbol) x h.1.1.0 refl in
    name_taken how w (w ∷ x ∷ ws) (x ∷ ws) (no_vendor how.version w x ws no) refl h.0
    ∙ (ap (filled NameOfAvp w) (one_step how AvpName AvpCode CodeIs (One symbols.Number) x ws refl h.1.1.0
    ∙ ap (filled CodeIs x) (go ws h.1.1.1.1))
    ∙ (ap (λ (w : Word). Ok (fill NameOfAvp w (fill CodeIs x t))) h.1.0
    ∙ ap (λ (x : Word). Ok (fill NameOfAvp n (fill CodeIs x t))) h.1.1.1.0))

name_walk : (how : Reading) (n c : Word)
    → Walk how AtSign (name_is n then number_is c) AvpCode (λ (t : Gathered). fill NameOfAvp n (fill CodeIs c t))
name_walk how n c = record { go = name_go how n c }

abbrev pub avp_told : AvpParts → Gathered → Gathered
avp_told a t = fill BeginsItem blank (fill NameOfAvp a.name (fill CodeIs a.code (type_told a.kind a.vendor a.values t)))

name_first : (how : Reading) (n c : Word) (b : Phrase) (f : Gathered → Gathered) → Walk how AvpCode b Text f
    → Walk how AtSign (name_is n then number_is c then b) Text (λ (t : Gathered). fill NameOfAvp n (fill CodeIs c (f t)))
name_first how n c b f v =
    record { go = λ Behind t k ws h. (name_walk how n c).go (Spells b Behind) (f t) (v.go Behind t k) ws h }

pub avp_walk : (how : Reading) (a : AvpParts) → Walk how Text (item how.version (AvpIs a)) Text (avp_told a)
avp_walk how a =
    mark how Text AtSign symbols.At BeginsItem (λ w f. inl (f, refl)) (λ w t. refl)
    also name_first how a.name a.code (type_is how.version a) (type_told a.kind a.vendor a.values)
    (type_walk how.version how.last a.kind a.vendor a.values)

more_made : (xs : List ValueParts) (is : List Written)
    → more_told xs (before_items is) ≡ record none_gathered { items = is; values = xs }
more_made [] is = refl
more_made (x ∷ xs) is =
    ap (λ (t : Gathered). fill NoPart blank (fill ValueIs x.name (fill CodeIs x.number t))) (more_made xs is)

values_made : (xs : List ValueParts) (is : List Written)
    → values_told xs (before_items is) ≡ record none_gathered { items = is; values = xs }
values_made [] is = refl
values_made (x ∷ xs) is =
    ap (λ (t : Gathered). fill ValueIs x.name (fill CodeIs x.number t)) (more_made xs is)

abbrev avp_of : Word → Word → Word → Option VendorReference → List ValueParts → AvpParts
avp_of n c k d xs = record { name = n; code = c; kind = k; vendor = d; values = xs }

abbrev around : Word → Word → Word → Option VendorReference → Gathered → Gathered
around n c k d t = fill BeginsItem blank (fill NameOfAvp n (fill CodeIs c (fill KindIs k (reference_told d t))))

around_made : (n c k : Word) (d : Option VendorReference) (xs : List ValueParts) (is : List Written)
    → around n c k d (record none_gathered { items = is; values = xs }) ≡ before_items (AvpIs (avp_of n c k d xs) ∷ is)
around_made n c k None xs is = refl
around_made n c k (Some (NumberedBy w)) xs is = refl
around_made n c k (Some (NamedBy w)) xs is = refl

pub avp_made : (a : AvpParts) (is : List Written) → avp_told a (before_items is) ≡ before_items (AvpIs a ∷ is)
avp_made a is =
    ap (around a.name a.code a.kind a.vendor) (values_made a.values is)
    ∙ around_made a.name a.code a.kind a.vendor a.values is

-- "@" "vendor" name number
named_walk : (last : ℕ) (d : VendorParts) → let how : Reading = record { version = Second; last = last } in
    Walk how AtVendor (name_is d.name then number_is d.number) Text
    (λ (t : Gathered). fill NamedIs d.name (fill CodeIs d.number t))
named_walk last d =
    let how : Reading = record { version = Second; last = last } in
    this how AtVendor VendorNamed AnyName NamedIs d.name (λ w f. inr (inl (f, refl)))
    also this how VendorNamed Text (One symbols.Number) CodeIs d.number (λ w f. inl (f, refl))

second_vendor : (last : ℕ) (d : VendorParts) (is : List Written) (Behind : List Word → Type 0)
    → let how : Reading = record { version = Second; last = last } in
    ((ws : List Word) → Behind ws → Tells how Text (before_items is) ws) → (ws : List Word)
    → Spells (vendor Second d) Behind ws → Tells how Text (before_items (VendorIs d ∷ is)) ws
second_vendor last d is Behind go [] h = absurd h
second_vendor last d is Behind go (o ∷ []) h = absurd h.1
second_vendor last d is Behind go (o ∷ w ∷ ws) h =
    let how : Reading = record { version = Second; last = last } in
    let t : Gathered = fill NamedIs d.name (fill CodeIs d.number (before_items is)) in
    let rest = (named_walk last d).go Behind (before_items is) go ws h.1.1 in
    let inner = by_step how AtSign w ws (step (One symbols.Vendor) AtVendor NameOfAvp) t (inl (h.1.0, refl)) rest in
    by_step how Text o (w ∷ ws) (step (One symbols.At) AtSign BeginsItem) (fill NameOfAvp w t) (inl (h.0, refl)) inner

pub vendor_tells : (v : Version) (last : ℕ) (d : VendorParts) (is : List Written) (Behind : List Word → Type 0)
    → let how : Reading = record { version = v; last = last } in
    ((ws : List Word) → Behind ws → Tells how Text (before_items is) ws) → (ws : List Word)
    → Spells (vendor v d) Behind ws → Tells how Text (before_items (VendorIs d ∷ is)) ws
vendor_tells First last d is Behind go ws h = absurd h
vendor_tells Second last d is Behind go ws h = second_vendor last d is Behind go ws h
