-- Tokens that steps take are some items; and these items are what they tell.
use Rattle.std.proofs.Common.{◌≡◌, ℕ, List, [], ◌∷◌, drop, codes, nat_eq, Result, Ok, None, refl, Bool, true, false, ap, sym, subst, ◌∙◌, inl, inr, if◌then◌else◌}
use Rattle.std.specs.Cmp.Lexicographic.{pointwise, same_text}
use Rattle.std.proofs.lemmas.Bool.{and_parts}
use Rattle.dm_grammar.specs.declared.symbol.Symbol.{Symbol}
use Rattle.dm_grammar.specs.declared.symbol.Symbol.TheVariants as symbols
use Rattle.dm_grammar.specs.declared.item.Form.TheVariants.{Fixed}
use Rattle.dm_grammar.specs.declared.terminal.Terminal.TheVariants.{One}
use Rattle.dm_grammar.specs.declared.reading.Version.{Version}
use Rattle.dm_grammar.specs.declared.reading.Version.TheVariants.{First, Second}
use Rattle.dm_grammar.specs.Tokens.{Word, tokens}
use Rattle.dm_grammar.specs.Versions.{is_two, is_second, version_of, body_of, reading_of}
use Rattle.dm_grammar.specs.Places.{GrammarPlace}
use Rattle.dm_grammar.specs.Places.GrammarPlace.{Text, AtSign, AvpName, AvpCode, Typed, TypedColon, AtVendor, VendorNamed, Listed, ListedColon, Vendored, ListOpen, ValueName, ValueEnd, TitleLess, TitleName, Titled, Defined, Head, CommandWord, CommandColon, CommandCode, Coded, CodedComma, Requested, RequestedComma, Proxied, ProxiedComma, GroupWord, GroupColon, GroupCode, GroupCoded, GroupNamed, Flagged, FlaggedComma, HeadEnd, InRule, Low, Starred, High, Angle, AngleName, Closed, FixedOpen, FixedName, BraceOpen, BraceName, SquareOpen, SquareName}
use Rattle.dm_grammar.specs.Grammar.{fits, steps_from, may_end}
use Rattle.dm_grammar.specs.Items.{EntryParts, GroupParts, CommandParts, Written}
use Rattle.dm_grammar.specs.Told.{Gathered, collect, items_or_line}
use Rattle.dm_grammar.specs.Syntax.{Leads}
use Rattle.dm_grammar.specs.Spelling.{Phrase, Spells, Ends, AreItems, text, name_is, number_is, entries}
use Rattle.dm_grammar.specs.Spelling.Phrase.{Literal, ◌then◌}
use Rattle.dm_grammar.proofs.Syntax.{ok_told, ok_taken}
use Rattle.dm_grammar.proofs.Walks.{before_items}
use Rattle.dm_grammar.proofs.Spelled.{read_body, are_read, spelled_told}
use Rattle.dm_grammar.proofs.Onward.{Definition, HasItems, AreAll, IsSymbol, IsName, Has, ends_head, after_code, after_colon, after_group_colon, after_head, Bracket, Onward, TakenOnward, taken_onward, only}
use Rattle.dm_grammar.proofs.OnwardRules.{by_angles, by_item, by_high, by_rule, by_starred, by_closed, by_low, rule_end, fixed_entry}
use Rattle.dm_grammar.proofs.OnwardAvps.{by_at_sign, by_avp_name, by_avp_code, by_typed, by_typed_colon, by_at_vendor, by_vendor_named, by_listed, by_listed_colon, listed_end, by_vendored, by_list_open, by_value_name, by_value_end}
use Rattle.dm_grammar.proofs.OnwardHeads.{by_group_coded, by_group_named, by_coded, by_coded_comma, by_requested, by_requested_comma, by_proxied, by_proxied_comma, by_flagged, by_comma_end, by_head}

-- parts of which only the name is read yet
abbrev bracket_of : Word → List EntryParts → Bracket
bracket_of w es = record { high = None; form = Fixed; name = w; rule = es }

by_command_code : (v : Version) (w : Word) (ws : List Word) → IsSymbol symbols.Number w → Onward v Coded ws
    → Onward v CommandCode (w ∷ ws)
by_command_code v w ws f x =
    record { parts = record x.parts { code = w }; items = x.items; spelled = (f, (refl, x.spelled)) }

by_group_code : (v : Version) (w : Word) (ws : List Word) → IsSymbol symbols.Number w → Onward v GroupCoded ws
    → Onward v GroupCode (w ∷ ws)
by_group_code v w ws f x =
    record { parts = record x.parts { code = w }; items = x.items; spelled = (f, (refl, x.spelled)) }

-- a mark before what stands behind it
by_mark : (v : Version) (A : Type 0) (phrase : A → Phrase) (s : Symbol) (w : Word) (ws : List Word) → IsSymbol s w
    → Has v A phrase ws
    → Has v A (λ (x : A). Literal s then phrase x) (w ∷ ws)
by_mark v A phrase s w ws f x = record { parts = x.parts; items = x.items; spelled = (f, x.spelled) }

by_bracket_name : (v : Version) (phrase : List EntryParts → Phrase) (w : Word) (ws : List Word) → IsName w
    → Has v (List EntryParts) phrase ws
    → Has v Bracket (λ (b : Bracket). name_is b.name then phrase b.rule) (w ∷ ws)
by_bracket_name v phrase w ws f x =
    record { parts = bracket_of w x.parts; items = x.items; spelled = (f, (refl, x.spelled)) }

-- from each place by each of its steps
by_place : (v : Version) (p : GrammarPlace) (w : Word) (ws : List Word) → TakenOnward v (steps_from v p) w ws → Onward v p (w ∷ ws)
by_place v Text w ws x = by_item v w ws x
by_place v AtSign w ws x = by_at_sign v w ws x
by_place v AvpName w ws x = let y = only x in by_avp_name v w ws y.0 y.1
by_place v AvpCode w ws x = by_avp_code v w ws x
by_place v Typed w ws x = by_typed v w ws x
by_place v TypedColon w ws x = by_typed_colon v w ws x
by_place v AtVendor w ws x = by_at_vendor v w ws x
by_place v VendorNamed w ws x = let y = only x in by_vendor_named v w ws y.0 y.1
by_place v Listed w ws x = by_listed v w ws x
by_place v ListedColon w ws x = by_listed_colon v w ws x
by_place v Vendored w ws x = by_vendored v w ws x
by_place v ListOpen w ws x = let y = only x in by_list_open v w ws y.0 y.1
by_place v ValueName w ws x = let y = only x in by_value_name v w ws y.0 y.1
by_place v ValueEnd w ws x = by_value_end v w ws x
by_place v TitleLess w ws x = let y = only x in λ o a. y.1 o w a y.0
by_place v TitleName w ws x = let y = only x in λ o n a b. by_angles v o n w ws a b y.0 y.1
by_place v Titled w ws x =
    let y = only x in by_mark v Definition (λ d. Literal symbols.Less then after_head v d) symbols.Define w ws y.0 y.1
by_place v Defined w ws x = let y = only x in by_mark v Definition (after_head v) symbols.Less w ws y.0 y.1
by_place v Head w ws x = by_head v w ws x
by_place v CommandWord w ws x = let y = only x in by_mark v CommandParts after_colon symbols.Header w ws y.0 y.1
by_place v CommandColon w ws x =
    let y = only x in by_mark v CommandParts (λ c. number_is c.code then after_code c) symbols.Colon w ws y.0 y.1
by_place v CommandCode w ws x = let y = only x in by_command_code v w ws y.0 y.1
by_place v Coded w ws x = by_coded v w ws x
by_place v CodedComma w ws x = by_coded_comma v w ws x
by_place v Requested w ws x = by_requested v w ws x
by_place v RequestedComma w ws x = by_requested_comma v w ws x
by_place v Proxied w ws x = by_proxied v w ws x
by_place v ProxiedComma w ws x = by_proxied_comma v w ws x
by_place v GroupWord w ws x = let y = only x in by_mark v GroupParts (after_group_colon v) symbols.Header w ws y.0 y.1
by_place v GroupColon w ws x =
    let y = only x in by_mark v GroupParts (λ g. number_is g.code then ends_head v g) symbols.Colon w ws y.0 y.1
by_place v GroupCode w ws x = let y = only x in by_group_code v w ws y.0 y.1
by_place v GroupCoded w ws x = by_group_coded v w ws x
by_place v GroupNamed w ws x = by_group_named v w ws x
by_place v Flagged w ws x = by_flagged v w ws x
by_place v FlaggedComma w ws x = let y = only x in λ o f. by_comma_end v o w ws f y.0 y.1
by_place v HeadEnd w ws x = let y = only x in by_mark v (List EntryParts) entries symbols.Greater w ws y.0 y.1
by_place v InRule w ws x = by_rule v w ws x
by_place v Low w ws x = let y = only x in λ n f. by_low v n w ws f y.0 y.1
by_place v Starred w ws x = by_starred v w ws x
by_place v High w ws x = by_high v w ws x
by_place v Angle w ws x = let y = only x in λ o a. y.1 o w a y.0
by_place v AngleName w ws x = let y = only x in λ o n a b. y.1 o n w a b y.0
by_place v Closed w ws x = by_closed v w ws x
by_place v FixedOpen w ws x =
    let y = only x in by_bracket_name v (λ es. Literal symbols.Greater then entries es) w ws y.0 y.1
by_place v FixedName w ws x = let y = only x in by_mark v (List EntryParts) entries symbols.Greater w ws y.0 y.1
by_place v BraceOpen w ws x =
    let y = only x in by_bracket_name v (λ es. Literal symbols.CloseBrace then entries es) w ws y.0 y.1
by_place v BraceName w ws x = let y = only x in by_mark v (List EntryParts) entries symbols.CloseBrace w ws y.0 y.1
by_place v SquareOpen w ws x =
    let y = only x in by_bracket_name v (λ es. Literal symbols.CloseSquare then entries es) w ws y.0 y.1
by_place v SquareName w ws x = let y = only x in by_mark v (List EntryParts) entries symbols.CloseSquare w ws y.0 y.1

-- where a text may end nothing is left to write
at_end : (v : Version) (p : GrammarPlace) → may_end p ≡ true → Onward v p []
at_end v Text e = record { items = []; spelled = refl }
at_end v Typed e = record { parts = None; items = []; spelled = refl }
at_end v Listed e = listed_end v
at_end v Vendored e = record { parts = []; items = []; spelled = refl }
at_end v InRule e = rule_end v
at_end v Closed e = λ o n g a b c. fixed_entry v o n g [] a b c (rule_end v)
at_end v _ e = absurd cc

pub onward : (v : Version) (ws : List Word) (p q : GrammarPlace) → Leads v p ws q → may_end q ≡ true → Onward v p ws
onward v [] p q l e = at_end v p (ap may_end l ∙ e)
onward v (w ∷ ws) p q l e =
    by_place v p w ws (taken_onward v (steps_from v p) w l.0 ws l.1.0 (onward v ws l.0 q l.1.1 e))

-- the number 2 in one digit
two_written : (t : List ℕ) → pointwise nat_eq t (codes "2") ≡ true → t ≡ codes "2"
two_written t h = same_text t (codes "2") (sym h)

-- what stands behind the tokens that tell the version, as a whole text
second_whole : (is : List Written) (ws : List Word) → is_second ws ≡ true → AreAll Second is (drop 2 ws)
    → Spells (text Second is) Ends ws
second_whole is [] e h = absurd cc
second_whole is (o ∷ []) e h = absurd cc
second_whole is (o ∷ x ∷ ws) e h =
    let both = and_parts (fits (One symbols.At) o.symbol) (is_two x) e in
    let two = and_parts (fits (One symbols.Number) x.symbol) (pointwise nat_eq x.text (codes "2")) both.1 in
    (both.0, (two.0, (two_written x.text two.1, h)))

whole : (b : Bool) (is : List Written) (ws : List Word) → is_second ws ≡ b
    → AreAll (if b then Second else First) is (if b then drop 2 ws else ws) → AreItems is ws
whole true is ws e h = inr (second_whole is ws e h)
whole false is ws e h = inl h

same_items : (a b : List Written) (r : Result (List Written) ℕ) → r ≡ Ok a → r ≡ Ok b → a ≡ b
same_items a b r e f = cc

pub told_written : (text : List ℕ) (is : List Written) → items_or_line text ≡ Ok is → AreItems is (tokens text)
told_written text is h =
    let how = reading_of text in
    let ws = tokens text in
    let t = ok_told (collect how Text (body_of ws)) is h in
    let a = ok_taken how t.0 (body_of ws) Text t.1 in
    let r : HasItems (version_of ws) (body_of ws) = onward (version_of ws) (body_of ws) Text a.0 a.1.0 a.1.1 in
    let spelled : AreItems r.items ws = whole (is_second ws) r.items ws refl r.spelled in
    let same : r.items ≡ is = same_items r.items is (items_or_line text) (spelled_told text r.items spelled) h in
    subst (λ (is : List Written). AreItems is ws) same spelled

-- one list of items at most
same_list : (a b : List Written) (r : Result Gathered ℕ) → r ≡ Ok (before_items a) → r ≡ Ok (before_items b) → a ≡ b
same_list a b r e f =
    let same : before_items a ≡ before_items b = cc in
    ap (λ (t : Gathered). t.items) same

pub one_list : (ws : List Word) (a b : List Written) → AreItems a ws → AreItems b ws → a ≡ b
one_list ws a b g h = same_list a b (read_body 0 ws) (are_read 0 a ws g) (are_read 0 b ws h)
