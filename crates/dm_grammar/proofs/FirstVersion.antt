-- What a text of version 1 tells is what the grammar of version 1 says of it.
use Rattle.std.proofs.Common.{◌≡◌, ℕ, List, [], ◌∷◌, ◌++◌, map, drop, Option, Some, None, option_map, refl, Bool, true, false, if◌then◌else◌, ap, sym, subst, ◌∙◌, ◌↔◌, ◌⊎◌, inl, inr}
use Rattle.dm_grammar.specs.declared.symbol.Symbol.TheVariants as symbols
use Rattle.dm_grammar.specs.declared.reading.Reading.{Reading}
use Rattle.dm_grammar.specs.declared.reading.Version.TheVariants.{First, Second}
use Rattle.dm_grammar.specs.Tokens.{Word, tokens, last_line}
use Rattle.dm_grammar.specs.Versions.{is_second}
use Rattle.dm_grammar.specs.Places.{GrammarPlace}
use Rattle.dm_grammar.specs.Places.GrammarPlace.{Text}
use Rattle.dm_grammar.specs.Grammar.{may_end}
use Rattle.dm_grammar.specs.Items.{VendorReference, ValueParts, AvpParts, GroupParts, Written}
use Rattle.dm_grammar.specs.Items.VendorReference.{NumberedBy, NamedBy}
use Rattle.dm_grammar.specs.Items.Written.{VendorIs, AvpIs, GroupIs, CommandIs}
use Rattle.dm_grammar.specs.Syntax.{TakesWord, Leads, StandsAtToken, StandsAtEnd, IsSyntaxFault}
use Rattle.dm_grammar.specs.Spelling.{Phrase, Spells, Ends, AreItems, name_is, number_is, number_may, reference_may, kind_and_values, type_is, title, second, group_vendor, entries, item, items}
use Rattle.dm_grammar.specs.Spelling.Phrase.{Never, Empty, Two, Literal, This, ◌then◌, ◌or◌}
use Rattle.dm_grammar.specs.FirstVersion.{FirstItem, first_item_phrase, first_items, AreFirst, CanBegin, BreaksAtToken, BreaksAtEnd, Breaks, as_written, AreFirstWritten}
use Rattle.dm_grammar.specs.FirstVersion.FirstItem.{FirstAvpIs, FirstGroupIs, FirstCommandIs}
use Rattle.dm_grammar.proofs.Syntax.{AllTaken, ok_taken, one_place}
use Rattle.dm_grammar.proofs.Walks.{before_items}
use Rattle.dm_grammar.proofs.Spelled.{items_there, first_text, second_text}
use Rattle.dm_grammar.proofs.ItemsLaw.{onward}
use Rattle.dm_grammar.proofs.Onward.{HasItems}
use Rattle.dm_grammar.proofs.Endings.{rest_of, rest_taken}

-- one phrase for a vendor that is a number or isn't there
same_vendor : (d : Option Word) → reference_may First (option_map NumberedBy d) ≡ number_may d
same_vendor None = refl
same_vendor (Some w) = refl

same_second : (d : Option Word) → group_vendor First (option_map NumberedBy d) ≡ second d
same_second None = refl
same_second (Some w) = refl

same_item : (i : FirstItem) → item First (as_written i) ≡ first_item_phrase i
same_item (FirstAvpIs a) =
    ap (λ (p : Phrase). Literal symbols.At then name_is a.name then number_is a.code then name_is a.kind then p)
    (same_vendor a.vendor)
same_item (FirstGroupIs g) =
    ap (λ (p : Phrase). title g.name then Literal symbols.Define then Literal symbols.Less then
    ((Literal symbols.Avp then Literal symbols.Header or Literal symbols.AvpHeader) then Literal symbols.Colon
    then number_is g.code then p) then Literal symbols.Greater then entries g.rule)
    (same_second g.vendor)
same_item (FirstCommandIs c) = refl

same_items : (is : List FirstItem) → items First (map as_written is) ≡ first_items is
same_items [] = refl
same_items (i ∷ is) = λ k. same_item i k then same_items is k

-- tokens are behind the phrase that they begin with
behind : (p : Phrase) (Behind : List Word → Type 0) (ws : List Word) → Spells p Behind ws → (r : List Word) × Behind r
behind Never Behind ws h = absurd h
behind Empty Behind ws h = (ws, h)
behind Two Behind [] h = absurd h
behind Two Behind (w ∷ ws) h = (ws, h.1.1)
behind (Literal s) Behind [] h = absurd h
behind (Literal s) Behind (w ∷ ws) h = (ws, h.1)
behind (This t v) Behind [] h = absurd h
behind (This t v) Behind (w ∷ ws) h = (ws, h.1.1)
behind (a then b) Behind ws h =
    let r = behind a (Spells b Behind) ws h in behind b Behind r.0 r.1
behind (a or b) Behind ws (inl h) = behind a Behind ws h
behind (a or b) Behind ws (inr h) = behind b Behind ws h

-- an item that a text of version 1 has
abbrev IsFirst : Written → Type 0
IsFirst i = (f : FirstItem) × (i ≡ as_written f)

first_kind : (k : Word) (d : Option VendorReference) (xs : List ValueParts) (Behind : List Word → Type 0) (ws : List Word)
    → Spells (kind_and_values First k d xs) Behind ws
    → (n : Option Word) × ((d ≡ option_map NumberedBy n) × (xs ≡ []))
first_kind k None [] Behind ws h = (None, (refl, refl))
first_kind k (Some (NumberedBy n)) [] Behind ws h = (Some n, (refl, refl))
first_kind k (Some (NamedBy n)) [] Behind ws h =
    absurd (behind (name_is k) (Spells Never Behind) ws h).1
first_kind k d (x ∷ xs) Behind ws h = absurd h

first_second : (d : Option VendorReference) (Behind : List Word → Type 0) (ws : List Word)
    → Spells (group_vendor First d) Behind ws → (n : Option Word) × (d ≡ option_map NumberedBy n)
first_second None Behind ws h = (None, refl)
first_second (Some (NumberedBy n)) Behind ws h = (Some n, refl)
first_second (Some (NamedBy n)) Behind ws h = absurd h

first_avp : (a : AvpParts) (Behind : List Word → Type 0) (ws : List Word) → Spells (item First (AvpIs a)) Behind ws
    → IsFirst (AvpIs a)
first_avp a Behind ws h =
    let kind = type_is First a in
    let x = behind (Literal symbols.At) (Spells (name_is a.name then number_is a.code then kind) Behind) ws h in
    let y = behind (name_is a.name) (Spells (number_is a.code then kind) Behind) x.0 x.1 in
    let z = behind (number_is a.code) (Spells kind Behind) y.0 y.1 in
    let k = first_kind a.kind a.vendor a.values Behind z.0 z.1 in (
      FirstAvpIs (record { name = a.name; code = a.code; kind = a.kind; vendor = k.0 }),
      λ i. AvpIs (record { name = a.name; code = a.code; kind = a.kind; vendor = k.1.0 i; values = k.1.1 i }),
    )

first_group : (g : GroupParts) (Behind : List Word → Type 0) (ws : List Word)
    → Spells (item First (GroupIs g)) Behind ws → IsFirst (GroupIs g)
first_group g Behind ws h =
    let end = Literal symbols.Greater then entries g.rule in
    let last = group_vendor First g.vendor then end in
    let word = Literal symbols.Avp then Literal symbols.Header or Literal symbols.AvpHeader in
    let front = title g.name then Literal symbols.Define then Literal symbols.Less then word then Literal symbols.Colon
    then number_is g.code in
    let x = behind front (Spells last Behind) ws h in
    let k = first_second g.vendor (Spells end Behind) x.0 x.1 in (
      FirstGroupIs (record { name = g.name; code = g.code; vendor = k.0; rule = g.rule }),
      λ i. GroupIs (record { name = g.name; code = g.code; vendor = k.1 i; rule = g.rule }),
    )

is_first : (i : Written) (Behind : List Word → Type 0) (ws : List Word) → Spells (item First i) Behind ws → IsFirst i
is_first (VendorIs d) Behind ws h = absurd h
is_first (AvpIs a) Behind ws h = first_avp a Behind ws h
is_first (GroupIs g) Behind ws h = first_group g Behind ws h
is_first (CommandIs c) Behind ws h = (FirstCommandIs c, refl)

all_first : (is : List Written) (Behind : List Word → Type 0) (ws : List Word) → Spells (items First is) Behind ws
    → (fs : List FirstItem) × (is ≡ map as_written fs)
all_first [] Behind ws h = ([], refl)
all_first (i ∷ is) Behind ws h =
    let f = is_first i (Spells (items First is) Behind) ws h in
    let r = behind (item First i) (Spells (items First is) Behind) ws h in
    let fs = all_first is Behind r.0 r.1 in
    (f.0 ∷ fs.0, λ k. f.1 k ∷ fs.1 k)

-- the items of a text of version 1, by either grammar
abbrev AreOfFirst : List Written → List Word → Type 0
AreOfFirst is ws = Spells (items First is) Ends ws

to_first : (is : List Written) (ws : List Word) → AreOfFirst is ws → AreFirstWritten is ws
to_first is ws h =
    let fs = all_first is Ends ws h in
    let here : AreOfFirst (map as_written fs.0) ws = subst (λ (is : List Written). AreOfFirst is ws) fs.1 h in
    (fs.0, (fs.1, subst (λ (p : Phrase). Spells p Ends ws) (same_items fs.0) here))

from_first : (fs : List FirstItem) (ws : List Word) → AreFirst fs ws → AreOfFirst (map as_written fs) ws
from_first fs ws h = subst (λ (p : Phrase). Spells p Ends ws) (sym (same_items fs)) h

pub no_second : (ws : List Word) (fs : List FirstItem) → AreFirst fs ws → is_second ws ≡ false
no_second ws fs h = first_text (map as_written fs) ws (from_first fs ws h)

not_both : (b : Bool) → b ≡ true → b ≡ false → ⊥
not_both b e f = absurd cc

only_first : (is : List Written) (ws : List Word) → is_second ws ≡ false → AreItems is ws → AreFirstWritten is ws
only_first is ws e (inl h) = to_first is ws h
only_first is ws e (inr h) = absurd (not_both (is_second ws) (second_text is ws h).0 e)

are_items : (is : List Written) (ws : List Word) → AreFirstWritten is ws → AreItems is ws
are_items is ws h = inl (subst (λ (is : List Written). AreOfFirst is ws) (sym h.1.0) (from_first h.0 ws h.1.1))

pub items_of_first : (text : List ℕ) (is : List Written) → is_second (tokens text) ≡ false →
    AreItems is (tokens text) ↔ AreFirstWritten is (tokens text)
items_of_first text is e = (only_first is (tokens text) e, are_items is (tokens text))

-- steps one behind the other
joined : (a b : List Word) (p m q : GrammarPlace) → Leads First p a m → Leads First m b q → Leads First p (a ++ b) q
joined [] b p m q l k = subst (λ (p : GrammarPlace). Leads First p b q) (sym l) k
joined (w ∷ a) b p m q l k = (l.0, (l.1.0, joined a b l.0 m q l.1.1 k))

parted : (a b : List Word) (p q : GrammarPlace) → Leads First p (a ++ b) q
    → (m : GrammarPlace) × (Leads First p a m × Leads First m b q)
parted [] b p q l = (p, (refl, l))
parted (w ∷ a) b p q l =
    let r = parted a b l.0 q l.1.1 in (r.0, ((l.0, (l.1.0, r.1.0)), r.1.1))

-- a text that steps take has items, and the other way round
taken_first : (ws : List Word) → AllTaken First Text ws → (fs : List FirstItem) × AreFirst fs ws
taken_first ws t =
    let r : HasItems First ws = onward First ws Text t.0 t.1.0 t.1.1 in
    let f = to_first r.items ws r.spelled in
    (f.0, f.1.1)

first_taken : (fs : List FirstItem) (ws : List Word) → AreFirst fs ws → AllTaken First Text ws
first_taken fs ws h =
    let how : Reading = record { version = First; last = 0 } in
    ok_taken how (before_items (map as_written fs)) ws Text
    (items_there how (map as_written fs) ws (from_first fs ws h))

-- a text can begin with the tokens exactly where they lead to a place
led_begins : (ws : List Word) (p : GrammarPlace) → Leads First Text ws p → CanBegin ws
led_begins ws p l =
    let r = rest_taken p in
    let f = taken_first (ws ++ rest_of p) (r.0, (joined ws (rest_of p) Text p r.0 l r.1.0, r.1.1)) in
    record { behind = rest_of p; items = f.0; spelled = f.1 }

begun_leads : (ws : List Word) → CanBegin ws → (p : GrammarPlace) × Leads First Text ws p
begun_leads ws b =
    let t = first_taken b.items (ws ++ b.behind) b.spelled in
    let r = parted ws b.behind Text t.0 t.1.0 in
    (r.0, r.1.0)

one_more : (ws : List Word) (w : Word) (p q : GrammarPlace) → Leads First Text ws p → TakesWord First p w q
    → Leads First Text (ws ++ w ∷ []) q
one_more ws w p q l t = joined ws (w ∷ []) Text p q l (q, (t, refl))

one_less : (ws : List Word) (w : Word) (p q : GrammarPlace) → Leads First Text ws p → Leads First Text (ws ++ w ∷ []) q
    → TakesWord First p w q
one_less ws w p q l k =
    let r = parted ws (w ∷ []) Text q k in
    let here : TakesWord First p w r.1.1.0 =
    subst (λ (p : GrammarPlace). TakesWord First p w r.1.1.0) (one_place First ws Text r.0 p r.1.0 l) r.1.1.1.0 in
    subst (λ (q : GrammarPlace). TakesWord First p w q) r.1.1.1.1 here

-- a fault at a token
token_breaks : (ws : List Word) (line : ℕ) → StandsAtToken First Text ws line → BreaksAtToken ws line
token_breaks ws line s =
    record {
      before = s.before;
      bad = s.bad;
      behind = s.behind;
      whole = s.whole;
      begun = led_begins s.before s.place s.led;
      broken = λ b. let l = begun_leads (s.before ++ s.bad ∷ []) b in
          s.stuck l.0 (one_less s.before s.bad s.place l.0 s.led l.1);
      its_line = s.its_line;
    }

breaks_token : (ws : List Word) (line : ℕ) → BreaksAtToken ws line → StandsAtToken First Text ws line
breaks_token ws line b =
    let l = begun_leads b.before b.begun in
    record {
      before = b.before;
      bad = b.bad;
      behind = b.behind;
      place = l.0;
      whole = b.whole;
      led = l.1;
      stuck = λ q t. b.broken (led_begins (b.before ++ b.bad ∷ []) q (one_more b.before b.bad l.0 q l.1 t));
      its_line = b.its_line;
    }

-- a fault at the end
end_breaks : (ws : List Word) (last line : ℕ) → StandsAtEnd First Text ws last line → BreaksAtEnd ws last line
end_breaks ws last line s =
    record {
      begun = led_begins ws s.place s.led;
      broken = λ fs h. let t = first_taken fs ws h in
          not_both (may_end s.place) (ap may_end (one_place First ws Text s.place t.0 s.led t.1.0) ∙ t.1.1) s.no_end;
      its_line = s.its_line;
    }

no_end : (b : Bool) (ws : List Word) (p : GrammarPlace) → may_end p ≡ b → Leads First Text ws p
    → ((fs : List FirstItem) → AreFirst fs ws → ⊥) → may_end p ≡ false
no_end true ws p e l bars = let f = taken_first ws (p, (l, e)) in absurd (bars f.0 f.1)
no_end false ws p e l bars = e

breaks_end : (ws : List Word) (last line : ℕ) → BreaksAtEnd ws last line → StandsAtEnd First Text ws last line
breaks_end ws last line b =
    let l = begun_leads ws b.begun in
    record { place = l.0; led = l.1; no_end = no_end (may_end l.0) ws l.0 refl l.1 b.broken; its_line = b.its_line }

abbrev Stands : List Word → ℕ → ℕ → Type 0
Stands ws last line = StandsAtToken First Text ws line ⊎ StandsAtEnd First Text ws last line

abbrev BreaksIn : List Word → ℕ → ℕ → Type 0
BreaksIn ws last line = BreaksAtToken ws line ⊎ BreaksAtEnd ws last line

stands_breaks : (ws : List Word) (last line : ℕ) → Stands ws last line → BreaksIn ws last line
stands_breaks ws last line (inl s) = inl (token_breaks ws line s)
stands_breaks ws last line (inr s) = inr (end_breaks ws last line s)

breaks_stands : (ws : List Word) (last line : ℕ) → BreaksIn ws last line → Stands ws last line
breaks_stands ws last line (inl b) = inl (breaks_token ws line b)
breaks_stands ws last line (inr b) = inr (breaks_end ws last line b)

-- where a fault stands in a text that is read by its tokens, and whether these tell version 2
abbrev StandsIn : Bool → List Word → ℕ → ℕ → Type 0
StandsIn b ws last line =
    let v = if b then Second else First in
    let body = if b then drop 2 ws else ws in
    StandsAtToken v Text body line ⊎ StandsAtEnd v Text body last line

pub fault_of_first : (text : List ℕ) (line : ℕ) → is_second (tokens text) ≡ false →
    IsSyntaxFault text line ↔ Breaks text line
fault_of_first text line e =
    let ws = tokens text in
    let last = last_line text in (
      λ h. stands_breaks ws last line (subst (λ (b : Bool). StandsIn b ws last line) e h),
      λ h. subst (λ (b : Bool). StandsIn b ws last line) (sym e) (breaks_stands ws last line h),
    )
