-- The names of the items that a text tells are names.
use Rattle.std.proofs.Common.{◌≡◌, inl, inr, ℕ, zero, suc, ◌+◌, ◌-◌, Bool, true, false, ◌&&◌, ◌||◌, not, nat_eq, cond, List, [], ◌∷◌, take, Err, refl, sym, ap, subst, ◌∙◌, if◌then◌else◌, codes, arith}
use Rattle.std.proofs.lemmas.Bool.{and_parts}
use Rattle.std.specs.Cmp.Lexicographic.{pointwise}
use Rattle.std.specs.Char.{is_ascii_alphanumeric}
use Rattle.std.specs.List.{list_all, prefix_len, starts_with}
use Rattle.dm_grammar.specs.declared.symbol.Symbol.{Symbol}
use Rattle.dm_grammar.specs.declared.symbol.Symbol.TheVariants.{Less, Greater, OpenBrace, CloseBrace, OpenSquare, CloseSquare, Star, Comma, Colon, At, Define, Number, Name, Diameter, Header, DiameterHeader, Avp, AvpHeader, Req, Pxy, Err, Vendor, Enumerated, Stray}
use Rattle.dm_grammar.specs.declared.item.Form.{Form}
use Rattle.dm_grammar.specs.declared.item.Form.TheVariants.{Fixed, Required, Optional}
use Rattle.dm_grammar.specs.declared.reading.Version.{Version}
use Rattle.dm_grammar.specs.declared.reading.Version.TheVariants.{First, Second}
use Rattle.dm_grammar.specs.declared.terminal.Terminal.TheVariants.{One}
use Rattle.dm_grammar.specs.Symbols.{begins_word, goes_on, is_space, not_line_end, mark_of, is_digits, symbol_of_word}
use Rattle.dm_grammar.specs.Tokens.{Word, lexeme_of, token_of, tokens_from, tokens}
use Rattle.dm_grammar.specs.Grammar.{fits}
use Rattle.dm_grammar.specs.Grammar as grammar
use Rattle.dm_grammar.specs.Items.{EntryParts, ValueParts, Written, AvpParts}
use Rattle.dm_grammar.specs.Items.Written.{VendorIs, AvpIs, CommandIs, GroupIs}
use Rattle.dm_grammar.specs.Spelling.Phrase.{Never, Empty, Two, Literal, This, ◌then◌, ◌or◌}
use Rattle.dm_grammar.specs.Spelling.{Phrase, Spells, name_is, number_is, title, qualifier, bracketed, entry_phrase, entries, value_is, more_values, reference_may, list, type_is, item, items, Ends, AreItems, command_head, group_head}
use Rattle.dm_tables.specs.Sound.{is_proper_name}
use Rattle.dm_dict_text.specs.Worded.{have_proper_names, are_worded_values, may_have_values, is_worded}

both : (a b : Bool) → a ≡ true → b ≡ true → (a && b) ≡ true
both a b e g = rw (e, g) refl

-- a token that is a name has the octets of one, and one that is Enumerated those
abbrev is_right : Symbol → List ℕ → Bool
is_right s text =
    (not (grammar.is_name_symbol s) || is_proper_name text) &&
    (not (fits (One Enumerated) s) || pointwise nat_eq text (codes "Enumerated"))

abbrev is_good : Word → Bool
is_good w = is_right w.symbol w.text

good_of : (b c : Bool) → (b ≡ true → c ≡ true) → (not b || c) ≡ true
good_of true c h = h refl
good_of false c h = refl

named_by : (b c : Bool) → (not b || c) ≡ true → b ≡ true → c ≡ true
named_by true c h e = h
named_by false c h e = absurd cc

mark_no_name : (c : ℕ) → grammar.is_name_symbol (mark_of c) ≡ false
mark_no_name c =
    by (nat_eq c 60) (nat_eq c 62) (nat_eq c 123) (nat_eq c 125) (nat_eq c 91) (nat_eq c 93) (nat_eq c 42)
    (nat_eq c 44) (nat_eq c 58) (nat_eq c 64)
  where
    by : (b0 b1 b2 b3 b4 b5 b6 b7 b8 b9 : Bool)
        → grammar.is_name_symbol (if b0 then Less else if b1 then Greater else if b2 then OpenBrace else if b3 then
        CloseBrace else if b4 then OpenSquare else if b5 then CloseSquare else if b6 then Star else if b7 then
        Comma else if b8 then Colon else if b9 then At else Stray) ≡ false
    by true b1 b2 b3 b4 b5 b6 b7 b8 b9 = refl
    by false true b2 b3 b4 b5 b6 b7 b8 b9 = refl
    by false false true b3 b4 b5 b6 b7 b8 b9 = refl
    by false false false true b4 b5 b6 b7 b8 b9 = refl
    by false false false false true b5 b6 b7 b8 b9 = refl
    by false false false false false true b6 b7 b8 b9 = refl
    by false false false false false false true b7 b8 b9 = refl
    by false false false false false false false true b8 b9 = refl
    by false false false false false false false false true b9 = refl
    by false false false false false false false false false true = refl
    by false false false false false false false false false false = refl

word_no_number : (w : List ℕ) → grammar.is_name_symbol (symbol_of_word w) ≡ true → not (is_digits w) ≡ true
word_no_number w h = by (is_digits w) _ h
  where
    by : (b : Bool) (x : Symbol) → grammar.is_name_symbol (if b then Number else x) ≡ true → not b ≡ true
    by true x e = absurd cc
    by false x e = refl

prefix_goes_on : (s : List ℕ) → list_all goes_on (take (prefix_len goes_on s) s) ≡ true
prefix_goes_on [] = refl
prefix_goes_on (c ∷ s) = by (goes_on c) refl (prefix_goes_on s)
  where
    by : (b : Bool) → goes_on c ≡ b → list_all goes_on (take (prefix_len goes_on s) s) ≡ true
        → list_all goes_on (take (cond b (1 + prefix_len goes_on s) 0) (c ∷ s)) ≡ true
    by true e rest =
        let one : 1 + prefix_len goes_on s ≡ suc (prefix_len goes_on s) = omega arith in rw one (both _ _ e rest)
    by false e rest = refl

word_enumerated : (w : List ℕ) → fits (One Enumerated) (symbol_of_word w) ≡ true
    → pointwise nat_eq w (codes "Enumerated") ≡ true
word_enumerated w h =
    by (is_digits w) (pointwise nat_eq w (codes "Diameter")) (pointwise nat_eq w (codes "Header"))
    (pointwise nat_eq w (codes "Diameter-Header")) (pointwise nat_eq w (codes "AVP"))
    (pointwise nat_eq w (codes "AVP-Header")) (pointwise nat_eq w (codes "REQ")) (pointwise nat_eq w (codes "PXY"))
    (pointwise nat_eq w (codes "ERR")) (pointwise nat_eq w (codes "vendor"))
    (pointwise nat_eq w (codes "Enumerated")) h
  where
    by : (b0 b1 b2 b3 b4 b5 b6 b7 b8 b9 b : Bool)
        → fits (One Enumerated) (if b0 then Number else if b1 then Diameter else if b2 then Header else if b3 then
        DiameterHeader else if b4 then Avp else if b5 then AvpHeader else if b6 then Req else if b7 then Pxy else
        if b8 then Err else if b9 then Vendor else if b then Enumerated else Name) ≡ true
        → b ≡ true
    by true b1 b2 b3 b4 b5 b6 b7 b8 b9 b e = absurd cc
    by false true b2 b3 b4 b5 b6 b7 b8 b9 b e = absurd cc
    by false false true b3 b4 b5 b6 b7 b8 b9 b e = absurd cc
    by false false false true b4 b5 b6 b7 b8 b9 b e = absurd cc
    by false false false false true b5 b6 b7 b8 b9 b e = absurd cc
    by false false false false false true b6 b7 b8 b9 b e = absurd cc
    by false false false false false false true b7 b8 b9 b e = absurd cc
    by false false false false false false false true b8 b9 b e = absurd cc
    by false false false false false false false false true b9 b e = absurd cc
    by false false false false false false false false false true b e = absurd cc
    by false false false false false false false false false false true e = refl
    by false false false false false false false false false false false e = absurd cc

mark_not_enumerated : (c : ℕ) → fits (One Enumerated) (mark_of c) ≡ false
mark_not_enumerated c =
    by (nat_eq c 60) (nat_eq c 62) (nat_eq c 123) (nat_eq c 125) (nat_eq c 91) (nat_eq c 93) (nat_eq c 42)
    (nat_eq c 44) (nat_eq c 58) (nat_eq c 64)
  where
    by : (b0 b1 b2 b3 b4 b5 b6 b7 b8 b9 : Bool)
        → fits (One Enumerated) (if b0 then Less else if b1 then Greater else if b2 then OpenBrace else if b3 then
        CloseBrace else if b4 then OpenSquare else if b5 then CloseSquare else if b6 then Star else if b7 then
        Comma else if b8 then Colon else if b9 then At else Stray) ≡ false
    by true b1 b2 b3 b4 b5 b6 b7 b8 b9 = refl
    by false true b2 b3 b4 b5 b6 b7 b8 b9 = refl
    by false false true b3 b4 b5 b6 b7 b8 b9 = refl
    by false false false true b4 b5 b6 b7 b8 b9 = refl
    by false false false false true b5 b6 b7 b8 b9 = refl
    by false false false false false true b6 b7 b8 b9 = refl
    by false false false false false false true b7 b8 b9 = refl
    by false false false false false false false true b8 b9 = refl
    by false false false false false false false false true b9 = refl
    by false false false false false false false false false true = refl
    by false false false false false false false false false false = refl

abbrev good_lexeme : Symbol × ℕ → List ℕ → Bool
good_lexeme l text = is_right l.0 (take l.1 text)

word_named : (c n : ℕ) (s : List ℕ) → is_ascii_alphanumeric c ≡ true → list_all goes_on (take n s) ≡ true
    → not (is_digits (c ∷ take n s)) ≡ true → is_proper_name (c ∷ take n s) ≡ true
word_named c n s e g h = both _ _ (both _ _ e g) h

word_good : (c : ℕ) (s : List ℕ) → is_ascii_alphanumeric c ≡ true
    → good_lexeme (symbol_of_word (take (prefix_len goes_on (c ∷ s)) (c ∷ s)), prefix_len goes_on (c ∷ s)) (c ∷ s) ≡
    true
word_good c s e =
    let goes : goes_on c ≡ true = ap (λ b. b || nat_eq c 45) e in
    let len : prefix_len goes_on (c ∷ s) ≡ suc (prefix_len goes_on s) = ap
    (λ b. cond b (1 + prefix_len goes_on s) 0) goes ∙ omega arith in
    let whole : take (prefix_len goes_on (c ∷ s)) (c ∷ s) ≡ c ∷ take (prefix_len goes_on s) s = ap
    (λ n. take n (c ∷ s)) len in
    subst (λ (t : List ℕ). is_right (symbol_of_word t) t ≡ true) (sym whole)
    (both _ _
    (good_of _ _
    (λ named. word_named c (prefix_len goes_on s) s e (prefix_goes_on s)
    (word_no_number (c ∷ take (prefix_len goes_on s) s) named)))
    (good_of _ _ (word_enumerated (c ∷ take (prefix_len goes_on s) s))))

mark_good : (c : ℕ) (s : List ℕ) → good_lexeme (mark_of c, 1) (c ∷ s) ≡ true
mark_good c s =
    both _ _ (ap (λ b. not b || is_proper_name (take 1 (c ∷ s))) (mark_no_name c))
    (ap (λ b. not b || pointwise nat_eq (take 1 (c ∷ s)) (codes "Enumerated")) (mark_not_enumerated c))

token_good : (line c : ℕ) (s : List ℕ) → is_good (token_of line (c ∷ s)) ≡ true
token_good line c s = by (begins_word c) refl (starts_with nat_eq (c ∷ s) (codes "::="))
  where
    by : (b : Bool) → begins_word c ≡ b → (d : Bool)
        → good_lexeme
        (if b then (symbol_of_word (take (prefix_len goes_on (c ∷ s)) (c ∷ s)), prefix_len goes_on (c ∷ s)) else
        if d then (Define, 3) else (mark_of c, 1)) (c ∷ s) ≡ true
    by true e d = word_good c s e
    by false e true = refl
    by false e false = mark_good c s

tokens_good : (skip line : ℕ) (s : List ℕ) → list_all is_good (tokens_from skip line s) ≡ true
tokens_good skip line [] = refl
tokens_good (suc skip) line (c ∷ s) = tokens_good skip line s
tokens_good zero line (c ∷ s) =
    by (nat_eq c 10) (is_space c) (nat_eq c 59) (tokens_good 0 (line + 1) s) (tokens_good 0 line s)
    (tokens_good (prefix_len not_line_end s) line s)
    (both _ _ (token_good line c s) (tokens_good ((lexeme_of (c ∷ s)).1 - 1) line s))
  where
    by : (b d e : Bool) → list_all is_good (tokens_from 0 (line + 1) s) ≡ true
        → list_all is_good (tokens_from 0 line s) ≡ true
        → list_all is_good (tokens_from (prefix_len not_line_end s) line s) ≡ true
        → list_all is_good (token_of line (c ∷ s) ∷ tokens_from ((lexeme_of (c ∷ s)).1 - 1) line s) ≡ true
        → list_all is_good (if b then tokens_from 0 (line + 1) s else if d then tokens_from 0 line s else if e then
        tokens_from (prefix_len not_line_end s) line s else
        (token_of line (c ∷ s) ∷ tokens_from ((lexeme_of (c ∷ s)).1 - 1) line s)) ≡ true
    by true d e h1 h2 h3 h4 = h1
    by false true e h1 h2 h3 h4 = h2
    by false false true h1 h2 h3 h4 = h3
    by false false false h1 h2 h3 h4 = h4

abbrev AreGood : List Word → Type 0
AreGood ws = list_all is_good ws ≡ true

-- the words behind a phrase
abbrev Left : (List Word → Type 0) → Type 0
Left Behind = (ws : List Word) × (AreGood ws × Behind ws)

left_of : (p : Phrase) (Behind : List Word → Type 0) (ws : List Word) → AreGood ws → Spells p Behind ws → Left Behind
left_of Never Behind ws g s = absurd s
left_of Empty Behind ws g s = (ws, (g, s))
left_of Two Behind [] g s = absurd s
left_of Two Behind (w ∷ ws) g s = (ws, ((and_parts (is_good w) (list_all is_good ws) g).1, s.1.1))
left_of (Literal m) Behind [] g s = absurd s
left_of (Literal m) Behind (w ∷ ws) g s = (ws, ((and_parts (is_good w) (list_all is_good ws) g).1, s.1))
left_of (This t v) Behind [] g s = absurd s
left_of (This t v) Behind (w ∷ ws) g s = (ws, ((and_parts (is_good w) (list_all is_good ws) g).1, s.1.1))
left_of (a then b) Behind ws g s =
    let l = left_of a (Spells b Behind) ws g s in left_of b Behind l.0 l.1.0 l.1.1
left_of (a or b) Behind ws g (inl s) = left_of a Behind ws g s
left_of (a or b) Behind ws g (inr s) = left_of b Behind ws g s

right_name : (w : Word) → is_good w ≡ true → grammar.is_name_symbol w.symbol ≡ true → is_proper_name w.text ≡ true
right_name w g h =
    named_by (grammar.is_name_symbol w.symbol) (is_proper_name w.text)
    (and_parts (not (grammar.is_name_symbol w.symbol) || is_proper_name w.text) _ g).0 h

-- a phrase that begins with a name
named : (v : Word) (Behind : List Word → Type 0) (ws : List Word) → AreGood ws → Spells (name_is v) Behind ws
    → is_proper_name v.text ≡ true
named v Behind [] g s = absurd s
named v Behind (w ∷ ws) g s =
    subst (λ (u : Word). is_proper_name u.text ≡ true) s.1.0
    (right_name w (and_parts (is_good w) (list_all is_good ws) g).0 s.0)

enumerated : (k : Word) (Behind : List Word → Type 0) (ws : List Word) → AreGood ws
    → Spells (This (One Enumerated) k) Behind ws → pointwise nat_eq k.text (codes "Enumerated") ≡ true
enumerated k Behind [] g s = absurd s
enumerated k Behind (w ∷ ws) g s =
    subst (λ (u : Word). pointwise nat_eq u.text (codes "Enumerated") ≡ true) s.1.0
    (named_by (fits (One Enumerated) w.symbol) (pointwise nat_eq w.text (codes "Enumerated"))
    (and_parts (not (grammar.is_name_symbol w.symbol) || is_proper_name w.text) _
    (and_parts (is_good w) (list_all is_good ws) g).0).1 s.0)

titled : (v : Word) (Behind : List Word → Type 0) (ws : List Word) → AreGood ws → Spells (title v) Behind ws
    → is_proper_name v.text ≡ true
titled v Behind ws g (inl s) =
    let l = left_of (Literal Less) (Spells (name_is v then Literal Greater) Behind) ws g s in
    named v (Spells (Literal Greater) Behind) l.0 l.1.0 l.1.1
titled v Behind ws g (inr s) = named v Behind ws g s

bracket_named : (form : Form) (v : Word) (Behind : List Word → Type 0) (ws : List Word) → AreGood ws
    → Spells (bracketed form v) Behind ws → is_proper_name v.text ≡ true
bracket_named Fixed v Behind ws g s =
    let l = left_of (Literal Less) (Spells (name_is v then Literal Greater) Behind) ws g s in
    named v (Spells (Literal Greater) Behind) l.0 l.1.0 l.1.1
bracket_named Required v Behind ws g s =
    let l = left_of (Literal OpenBrace) (Spells (name_is v then Literal CloseBrace) Behind) ws g s in
    named v (Spells (Literal CloseBrace) Behind) l.0 l.1.0 l.1.1
bracket_named Optional v Behind ws g s =
    let l = left_of (Literal OpenSquare) (Spells (name_is v then Literal CloseSquare) Behind) ws g s in
    named v (Spells (Literal CloseSquare) Behind) l.0 l.1.0 l.1.1

entries_named : (es : List EntryParts) (Behind : List Word → Type 0) (ws : List Word) → AreGood ws
    → Spells (entries es) Behind ws → have_proper_names es ≡ true
entries_named [] Behind ws g s = refl
entries_named (e ∷ es) Behind ws g s =
    let q = left_of (qualifier e.qualifier) (Spells (bracketed e.form e.name) (Spells (entries es) Behind)) ws g s in
    let l = left_of (entry_phrase e) (Spells (entries es) Behind) ws g s in
    both _ _ (bracket_named e.form e.name (Spells (entries es) Behind) q.0 q.1.0 q.1.1)
    (entries_named es Behind l.0 l.1.0 l.1.1)

values_named : (xs : List ValueParts) (Behind : List Word → Type 0) (ws : List Word) → AreGood ws
    → Spells (more_values xs) Behind ws → are_worded_values xs ≡ true
values_named [] Behind ws g s = refl
values_named (x ∷ xs) Behind ws g s =
    let c = left_of (Literal Comma) (Spells (value_is x then more_values xs) Behind) ws g s in
    let l = left_of (value_is x) (Spells (more_values xs) Behind) c.0 c.1.0 c.1.1 in
    both _ _ (named x.name (Spells (number_is x.number) (Spells (more_values xs) Behind)) c.0 c.1.0 c.1.1)
    (values_named xs Behind l.0 l.1.0 l.1.1)

-- the values behind the type, and the type where there are some
typed : (v : Version) (a : AvpParts) (Behind : List Word → Type 0) (ws : List Word) → AreGood ws
    → Spells (type_is v a) Behind ws → (are_worded_values a.values ≡ true) × (may_have_values a.kind.text a.values ≡ true)
typed v a Behind ws g s = by v a.values s
  where
    by : (v : Version) (xs : List ValueParts) → Spells (type_is v (record a { values = xs })) Behind ws
        → (are_worded_values xs ≡ true) × (may_have_values a.kind.text xs ≡ true)
    by v [] s = (refl, refl)
    by First (x ∷ xs) s = absurd s
    by Second (x ∷ xs) s =
        let behind = Spells (reference_may Second a.vendor then list x xs) Behind in
        let k = left_of (This (One Enumerated) a.kind) behind ws g s in
        let d = left_of (reference_may Second a.vendor) (Spells (list x xs) Behind) k.0 k.1.0 k.1.1 in
        let o = left_of (Literal OpenBrace) (Spells (value_is x then more_values xs then Literal CloseBrace) Behind) d.0 d.1.0
        d.1.1 in
        let l = left_of (value_is x) (Spells (more_values xs then Literal CloseBrace) Behind) o.0 o.1.0 o.1.1 in (
          both _ _ (named x.name (Spells (number_is x.number) (Spells (more_values xs then Literal CloseBrace) Behind)) o.0
              o.1.0 o.1.1)
              (values_named xs (Spells (Literal CloseBrace) Behind) l.0 l.1.0 l.1.1),
          enumerated a.kind behind ws g s,
        )

item_worded : (v : Version) (i : Written) (Behind : List Word → Type 0) (ws : List Word) → AreGood ws
    → Spells (item v i) Behind ws → is_worded i ≡ true
item_worded First (VendorIs d) Behind ws g s = absurd s
item_worded Second (VendorIs d) Behind ws g s =
    let m = left_of (Literal At then Literal Vendor) (Spells (name_is d.name then number_is d.number) Behind) ws g s in
    named d.name (Spells (number_is d.number) Behind) m.0 m.1.0 m.1.1
item_worded v (AvpIs a) Behind ws g s =
    let m = left_of (Literal At) (Spells (name_is a.name then number_is a.code then type_is v a) Behind) ws g s in
    let t = left_of (name_is a.name then number_is a.code) (Spells (type_is v a) Behind) m.0 m.1.0 m.1.1 in
    let parts = typed v a Behind t.0 t.1.0 t.1.1 in
    both _ _ (both _ _ (named a.name (Spells (number_is a.code then type_is v a) Behind) m.0 m.1.0 m.1.1) parts.0)
    parts.1
item_worded v (GroupIs p) Behind ws g s =
    let behind = Literal Define then Literal Less then group_head v p then Literal Greater then entries p.rule in
    let t = left_of (title p.name) (Spells behind Behind) ws g s in
    let r = left_of (Literal Define then Literal Less then group_head v p then Literal Greater) (Spells (entries p.rule) Behind)
    t.0 t.1.0 t.1.1 in
    both _ _ (titled p.name (Spells behind Behind) ws g s) (entries_named p.rule Behind r.0 r.1.0 r.1.1)
item_worded v (CommandIs p) Behind ws g s =
    let behind = Literal Define then Literal Less then command_head p then Literal Greater then entries p.rule in
    let t = left_of (title p.name) (Spells behind Behind) ws g s in
    let r = left_of (Literal Define then Literal Less then command_head p then Literal Greater) (Spells (entries p.rule) Behind)
    t.0 t.1.0 t.1.1 in
    both _ _ (titled p.name (Spells behind Behind) ws g s) (entries_named p.rule Behind r.0 r.1.0 r.1.1)

items_worded : (v : Version) (is : List Written) (Behind : List Word → Type 0) (ws : List Word) → AreGood ws
    → Spells (items v is) Behind ws → list_all is_worded is ≡ true
items_worded v [] Behind ws g s = refl
items_worded v (i ∷ is) Behind ws g s =
    let l = left_of (item v i) (Spells (items v is) Behind) ws g s in
    both _ _ (item_worded v i (Spells (items v is) Behind) ws g s) (items_worded v is Behind l.0 l.1.0 l.1.1)

pub words : (text : List ℕ) (is : List Written) → AreItems is (tokens text) → list_all is_worded is ≡ true
words text is (inl s) = items_worded First is Ends (tokens text) (tokens_good 0 1 text) s
words text is (inr s) =
    let l = left_of (Literal At then Two) (Spells (items Second is) Ends) (tokens text) (tokens_good 0 1 text) s in
    items_worded Second is Ends l.0 l.1.0 l.1.1
