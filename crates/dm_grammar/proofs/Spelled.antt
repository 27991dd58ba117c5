-- Tokens that are these items tell them.
use Rattle.std.proofs.Common.{◌≡◌, ℕ, List, [], ◌∷◌, drop, codes, nat_eq, Result, Ok, refl, Bool, true, false, ◌&&◌, ap, ◌∙◌, inl, inr}
use Rattle.std.specs.Cmp.Lexicographic.{pointwise}
use Rattle.std.proofs.lemmas.Bool.{and_parts}
use Rattle.dm_grammar.specs.declared.reading.Reading.{Reading}
use Rattle.dm_grammar.specs.declared.reading.Version.TheVariants.{First, Second}
use Rattle.dm_grammar.specs.declared.symbol.Symbol.TheVariants as symbols
use Rattle.dm_grammar.specs.declared.terminal.Terminal.TheVariants.{AnyName, One}
use Rattle.dm_grammar.specs.Tokens.{Word, tokens, last_line}
use Rattle.dm_grammar.specs.Versions.{is_two, is_second, version_of, body_of}
use Rattle.dm_grammar.specs.Grammar.{fits}
use Rattle.dm_grammar.specs.Places.GrammarPlace.{Text}
use Rattle.dm_grammar.specs.Items.{AvpParts, Written}
use Rattle.dm_grammar.specs.Items.Written.{VendorIs, AvpIs, GroupIs, CommandIs}
use Rattle.dm_grammar.specs.Told.{Gathered, collect, items_told, items_or_line}
use Rattle.dm_grammar.specs.Spelling.{Spells, Ends, AreItems, title, command_head, group_head, entries, item, items, text}
use Rattle.dm_grammar.proofs.Avps.{name_no_symbol}
use Rattle.dm_grammar.proofs.AvpWalks.{avp_walk, avp_made, vendor_tells}
use Rattle.dm_grammar.proofs.Heads.{fits_one}
use Rattle.dm_grammar.proofs.MoreSteps.{Tells}
use Rattle.dm_grammar.proofs.Walks.{before_items, before_rule}
use Rattle.dm_grammar.proofs.HeadWalks.{definition_walk, group_head_told, group_head_walk, group_made, command_head_told, command_head_walk, command_made}
use Rattle.dm_grammar.proofs.EntryWalks.{entries_told}

-- item
item_told : (how : Reading) (i : Written) (is : List Written) (Behind : List Word → Type 0)
    → ((ws : List Word) → Behind ws → Tells how Text (before_items is) ws) → (ws : List Word)
    → Spells (item how.version i) Behind ws → Tells how Text (before_items (i ∷ is)) ws
item_told how (VendorIs d) is Behind k ws h = vendor_tells how.version how.last d is Behind k ws h
item_told how (AvpIs a) is Behind k ws h =
    (avp_walk how a).go Behind (before_items is) k ws h ∙ ap Ok (avp_made a is)
item_told how (GroupIs g) is Behind k ws h =
    (definition_walk how g.name (group_head how.version g) (group_head_told g) (group_head_walk how g)).go
    (Spells (entries g.rule) Behind) (before_rule g.rule is) (entries_told how g.rule is Behind k) ws h
    ∙ ap Ok (group_made g.name g.code g.vendor g.rule is)
item_told how (CommandIs c) is Behind k ws h =
    (definition_walk how c.name (command_head c) (command_head_told c) (command_head_walk how c)).go
    (Spells (entries c.rule) Behind) (before_rule c.rule is) (entries_told how c.rule is Behind k) ws h
    ∙ ap Ok (command_made c is)

-- *item
pub items_there : (how : Reading) (is : List Written) (ws : List Word) → Spells (items how.version is) Ends ws
    → Tells how Text (before_items is) ws
items_there how [] ws h = ap (collect how Text) h
items_there how (i ∷ is) ws h =
    item_told how i is (Spells (items how.version is) Ends) (items_there how is) ws h

-- what is of version 1 doesn't begin with `@` and `2`
no_two : (b : Bool) (x : Word) → fits AnyName x.symbol ≡ true → is_two x ≡ b → is_two x ≡ false
no_two true x h e =
    let no = name_no_symbol (fits (One symbols.Number) x.symbol) symbols.Number x.symbol refl h refl in
    let both = and_parts (fits (One symbols.Number) x.symbol) (pointwise nat_eq x.text (codes "2")) e in
    absurd cc
no_two false x h e = e

neither : (a b : Bool) → b ≡ false → (a && b) ≡ false
neither true b e = e
neither false b e = refl

at_no_second : (o x : Word) (ws : List Word) → fits AnyName x.symbol ≡ true → is_second (o ∷ x ∷ ws) ≡ false
at_no_second o x ws h = neither (fits (One symbols.At) o.symbol) (is_two x) (no_two (is_two x) x h refl)

no_at : (o : Word) (ws : List Word) → fits (One symbols.At) o.symbol ≡ false → is_second (o ∷ ws) ≡ false
no_at o [] h = refl
no_at o (x ∷ ws) h = rw h refl

avp_first : (a : AvpParts) (Behind : List Word → Type 0) (ws : List Word) → Spells (item First (AvpIs a)) Behind ws
    → is_second ws ≡ false
avp_first a Behind [] h = absurd h
avp_first a Behind (o ∷ []) h = refl
avp_first a Behind (o ∷ x ∷ ws) h = at_no_second o x ws h.1.0

title_first : (n : Word) (Behind : List Word → Type 0) (ws : List Word) → Spells (title n) Behind ws
    → is_second ws ≡ false
title_first n Behind [] h = refl
title_first n Behind (o ∷ ws) (inl h) = no_at o ws (fits_one symbols.Less symbols.At o.symbol refl h.0)
title_first n Behind (o ∷ ws) (inr h) =
    no_at o ws (name_no_symbol (fits (One symbols.At) o.symbol) symbols.At o.symbol refl h.0 refl)

pub first_text : (is : List Written) (ws : List Word) → Spells (items First is) Ends ws → is_second ws ≡ false
first_text [] ws h = ap is_second h
first_text (VendorIs d ∷ is) ws h = absurd h
first_text (AvpIs a ∷ is) ws h = avp_first a (Spells (items First is) Ends) ws h
first_text (GroupIs g ∷ is) ws h = title_first g.name _ ws h
first_text (CommandIs c ∷ is) ws h = title_first c.name _ ws h

-- and what is of version 2 does
pub second_text : (is : List Written) (ws : List Word) → Spells (text Second is) Ends ws
    → (is_second ws ≡ true) × Spells (items Second is) Ends (drop 2 ws)
second_text is [] h = absurd h
second_text is (o ∷ []) h = absurd h.1
second_text is (o ∷ x ∷ ws) h =
    let word : pointwise nat_eq x.text (codes "2") ≡ true =
    ap (λ (t : List ℕ). pointwise nat_eq t (codes "2")) h.1.1.0 in
    (rw (h.0, h.1.0, word) refl, h.1.1.1)

-- the tokens behind those that tell the version, read by it
abbrev pub read_body : ℕ → List Word → Result Gathered ℕ
read_body last ws =
    let how : Reading = record { version = version_of ws; last = last } in collect how Text (body_of ws)

first_read : (last : ℕ) (is : List Written) (ws : List Word) → is_second ws ≡ false → Spells (items First is) Ends ws
    → read_body last ws ≡ Ok (before_items is)
first_read last is ws e h = rw e (items_there (record { version = First; last = last }) is ws h)

second_read : (last : ℕ) (is : List Written) (ws : List Word) → is_second ws ≡ true
    → Spells (items Second is) Ends (drop 2 ws) → read_body last ws ≡ Ok (before_items is)
second_read last is ws e h = rw e (items_there (record { version = Second; last = last }) is (drop 2 ws) h)

pub are_read : (last : ℕ) (is : List Written) (ws : List Word) → AreItems is ws
    → read_body last ws ≡ Ok (before_items is)
are_read last is ws (inl h) = first_read last is ws (first_text is ws h) h
are_read last is ws (inr h) = let s = second_text is ws h in second_read last is ws s.0 s.1

pub spelled_told : (text : List ℕ) (is : List Written) → AreItems is (tokens text) → items_or_line text ≡ Ok is
spelled_told text is h = ap items_told (are_read (last_line text) is (tokens text) h)
