-- Tables keep to their form where the lists of values go.
use Rattle.std.proofs.lemmas.List.{append-nil, drop_all, take_all}
use Rattle.dm_tables.specs.declared.values.EnumValue.{EnumValue}
use Rattle.std.proofs.Common.{◌≡◌, ◌<◌, ◌≤◌, ℕ, zero, suc, ◌+◌, arith, length, take, drop, get_or, set, Bool, true}
use Rattle.std.proofs.Common.{false, ◌&&◌, ◌||◌, List, [], ◌∷◌, ◌++◌, map, refl, sym, ◌∙◌, ap}
use Rattle.dm_tables.specs.SoundParts.{avp_sound_parts}
use Rattle.std.specs.Prelude.{if◌then◌else◌, Option, None, Some, slice_get}
use Rattle.std.specs.List.{position_from, list_any, list_all}
use Rattle.std.proofs.lemmas.Bool.{and_parts}
use Rattle.dm_tables.specs.declared.rule.Entry.{Entry}
use Rattle.dm_tables.specs.declared.def.AvpDef.{AvpDef}
use Rattle.dm_tables.specs.declared.def.CommandDef.{CommandDef}
use Rattle.dm_tables.specs.Definitions.{Definitions, is_named, is_coded}
use Rattle.dm_tables.specs.Positions.{places}
use Rattle.dm_tables.specs.Sound.{each_after, is_sound, is_closed, is_sound_vendor, is_sound_avp, is_sound_command}
use Rattle.dm_tables.specs.Sound.{is_any, knows_rule, is_enumerated}
use Rattle.dm_tables.specs.Tables.{defined, code_key}
use Rattle.dm_dict.specs.Linked.{IsLinked, avp_links, command_links}
use Rattle.dm_dict.specs.Bounds.{rule_bounds}
use Rattle.dm_dict.specs.Links.{entry_link, entry_row, rule_links}
use Rattle.dm_dict.specs.Rows.{linked_row, placed_row}
use Rattle.dm_dict.specs.declared.linked.Linked.{Linked}
use Rattle.dm_dict.specs.WithoutLists.{without_list, without_lists}

-- what tells the same of both is told of all
any_same : (p : AvpDef → Bool) → ((f : AvpDef) → p (without_list f) ≡ p f) → (avps : List AvpDef)
    → list_any p (map without_list avps) ≡ list_any p avps
any_same p h [] = refl
any_same p h (f ∷ avps) = λ i. h f i || any_same p h avps i

place_same : (p : AvpDef → Bool) → ((f : AvpDef) → p (without_list f) ≡ p f) → (n : ℕ) (avps : List AvpDef)
    → position_from p n (map without_list avps) ≡ position_from p n avps
place_same p h n [] = refl
place_same p h n (f ∷ avps) = λ i. if h f i then Some n else place_same p h (n + 1) avps i

keys_same : {K : Type 0} (key : AvpDef → K) → ((f : AvpDef) → key (without_list f) ≡ key f) → (n : ℕ)
    (avps : List AvpDef) → places key n (map without_list avps) ≡ places key n avps
keys_same key h n [] = refl
keys_same key h n (f ∷ avps) = λ i. (h f i, n) ∷ keys_same key h (n + 1) avps i

mapped_behind : (before : List AvpDef) (f : AvpDef)
    → map without_list before ++ without_list f ∷ [] ≡ map without_list (before ++ f ∷ [])
mapped_behind [] f = refl
mapped_behind (g ∷ before) f = ap (λ l. without_list g ∷ l) (mapped_behind before f)

or_true : (b : Bool) → b || true ≡ true
or_true true = refl
or_true false = refl

-- a sound definition is sound without its list
sound_avp : (before : List AvpDef) (f : AvpDef) → is_sound_avp before f ≡ true
    → is_sound_avp (map without_list before) (without_list f) ≡ true
sound_avp before f h =
    let parts = avp_sound_parts before f h in
    let named : list_any (is_named f.name) (map without_list before) ≡ false =
    any_same (is_named f.name) (λ g. refl) before ∙ parts.new_name in
    let coded : list_any (is_coded f.code f.vendor) (map without_list before) ≡ false =
    any_same (is_coded f.code f.vendor) (λ g. refl) before ∙ parts.new_code in
    rw (
      parts.name,
      parts.not_any,
      named,
      parts.code,
      parts.vendor,
      coded,
      parts.rule,
      parts.kind,
      or_true (is_enumerated f.kind),
    ) refl

sound_avps : (before avps : List AvpDef) → each_after is_sound_avp before avps ≡ true
    → each_after is_sound_avp (map without_list before) (map without_list avps) ≡ true
sound_avps before [] h = refl
sound_avps before (f ∷ avps) h =
    let (here, rest) = and_parts (is_sound_avp before f) (each_after is_sound_avp (before ++ f ∷ []) avps) h in
    let behind = sound_avps (before ++ f ∷ []) avps rest in
    rw (sound_avp before f here, mapped_behind before f) behind

sound_open : (d : Definitions) → is_sound d ≡ true → is_sound (without_lists d) ≡ true
sound_open d h =
    let vendors = each_after is_sound_vendor [] d.vendors in
    let avps = each_after is_sound_avp [] d.avps in
    let (first, commands) = and_parts (vendors && avps) (each_after is_sound_command [] d.commands) h in
    let (sound_vendors, sound) = and_parts vendors avps first in
    rw (sound_vendors, sound_avps [] d.avps sound, commands) refl

-- a rule names what it named
known_same : (avps : List AvpDef) (rule : List Entry) → knows_rule (map without_list avps) rule ≡ knows_rule avps rule
known_same avps rule = λ i. list_all (λ e. is_any e.name || any_same (is_named e.name) (λ g. refl) avps i) rule

closed_avps : (all avps : List AvpDef)
    → list_all (λ a. knows_rule (map without_list all) a.rule) (map without_list avps)
    ≡ list_all (λ a. knows_rule all a.rule) avps
closed_avps all [] = refl
closed_avps all (f ∷ avps) = λ i. known_same all f.rule i && closed_avps all avps i

closed_commands : (avps : List AvpDef) (commands : List CommandDef)
    → list_all (λ c. knows_rule (map without_list avps) c.rule) commands ≡
    list_all (λ c. knows_rule avps c.rule) commands
closed_commands avps commands = λ i. list_all (λ c. known_same avps c.rule i) commands

closed_open : (d : Definitions) → is_closed d ≡ true → is_closed (without_lists d) ≡ true
closed_open d h = (λ i. closed_avps d.avps d.avps i && closed_commands d.avps d.commands i) ∙ h

placed_same : (avps : List AvpDef) (e : Entry) (k j : ℕ)
    → placed_row e k (slice_get (map without_list avps) j) ≡ placed_row e k (slice_get avps j)
placed_same [] e k j = refl
placed_same (f ∷ avps) e k zero = refl
placed_same (f ∷ avps) e k (suc j) = placed_same avps e k j

linked_same : (avps : List AvpDef) (e : Entry) (link : Option ℕ)
    → linked_row (map without_list avps) e link ≡ linked_row avps e link
linked_same avps e None = refl
linked_same avps e (Some k) = placed_same avps e k k

row_same : (avps : List AvpDef) (e : Entry) → entry_row (map without_list avps) e ≡ entry_row avps e
row_same avps e =
    let link : entry_link (map without_list avps) e ≡ entry_link avps e =
    place_same (is_named e.name) (λ g. refl) 0 avps in
    linked_same avps e (entry_link (map without_list avps) e) ∙ ap (linked_row avps e) link

links_same : (avps : List AvpDef) (rule : List Entry) → rule_links (map without_list avps) rule ≡ rule_links avps rule
links_same avps rule = λ i. record { rows = map (λ e. row_same avps e i) rule; bounds = rule_bounds rule }

avp_links_same : (all avps : List AvpDef)
    → map (λ a. rule_links (map without_list all) a.rule) (map without_list avps)
    ≡ map (λ a. rule_links all a.rule) avps
avp_links_same all [] = refl
avp_links_same all (f ∷ avps) = λ i. links_same all f.rule i ∷ avp_links_same all avps i

command_links_same : (avps : List AvpDef) (commands : List CommandDef)
    → map (λ c. rule_links (map without_list avps) c.rule) commands ≡ map (λ c. rule_links avps c.rule) commands
command_links_same avps commands = λ i. map (λ c. links_same avps c.rule i) commands

-- the definitions, of which the first i have no lists
abbrev pub opened_to : ℕ → List AvpDef → List AvpDef
opened_to i avps = map without_list (take i avps) ++ drop i avps

next_opened : (avps : List AvpDef) (i : ℕ) (d : AvpDef) → i < length (opened_to i avps)
    → set (opened_to i avps) i (without_list (get_or (opened_to i avps) i d)) ≡ opened_to (i + 1) avps
next_opened [] zero d h = absurd (omega arith)
next_opened [] (suc i) d h = absurd (omega arith)
next_opened (f ∷ avps) zero d h = refl
next_opened (f ∷ avps) (suc i) d h =
    let next : suc i + 1 ≡ suc (i + 1) = omega arith in
    rw next (ap (λ l. without_list f ∷ l) (next_opened avps i d (omega arith)))

-- one more has none
pub opened_next : (avps items : List AvpDef) (i : ℕ) (d : AvpDef) (none : List EnumValue) → none ≡ []
    → items ≡ opened_to i avps → i < length items
    → set items i (record (get_or items i d) { values = none }) ≡ opened_to (i + 1) avps
opened_next avps items i d none e is h = rw (e, is) (next_opened avps i d (rw is at h))

pub opened_all : (avps : List AvpDef) (i : ℕ) → length avps ≤ i → opened_to i avps ≡ map without_list avps
opened_all avps i h = rw (drop_all i avps h, take_all i avps h) (append-nil (map without_list avps))

-- linked tables whose AVPs alone changed, each by its list
pub linked_open : (old new : Linked) → new.tables.avps.items ≡ map without_list old.tables.avps.items
    → new.tables.vendors ≡ old.tables.vendors → new.tables.commands ≡ old.tables.commands
    → new.tables.names ≡ old.tables.names → new.tables.codes ≡ old.tables.codes
    → new.tables.titles ≡ old.tables.titles → new.tables.heads ≡ old.tables.heads
    → new.avps ≡ old.avps → new.commands ≡ old.commands → new.marks ≡ old.marks → IsLinked old → IsLinked new
linked_open old new avps vendors commands names codes titles heads links rules marks h =
    let indexed = h.dictionary.tables.indexed in
    let whole : defined new.tables ≡ without_lists (defined old.tables) = (λ i. record {
      vendors = (vendors i).items.items;
      avps = avps i;
      commands = (commands i).items;
    }) in
    record {
      dictionary = record {
        tables = record {
          indexed = record {
            vendors = rw vendors indexed.vendors;
            names = rw (names, avps, keys_same (λ d. d.name) (λ g. refl) 0 old.tables.avps.items) indexed.names;
            codes = rw (codes, avps, keys_same code_key (λ g. refl) 0 old.tables.avps.items) indexed.codes;
            titles = rw (titles, commands) indexed.titles;
            heads = rw (heads, commands) indexed.heads;
          };
          sound = ap is_sound whole ∙ sound_open (defined old.tables) h.dictionary.tables.sound;
        };
        closed = ap is_closed whole ∙ closed_open (defined old.tables) h.dictionary.closed;
      };
      avps = links ∙ h.avps ∙
          sym (ap avp_links whole ∙ avp_links_same old.tables.avps.items old.tables.avps.items);
      commands = ap (λ v. v.items) rules ∙ h.commands ∙
          sym (ap command_links whole ∙ command_links_same old.tables.avps.items old.tables.commands.items);
      marks = λ code vendor unmarked.
          rw (avps, place_same (is_coded code vendor) (λ g. refl) 0 old.tables.avps.items)
          (h.marks code vendor (rw marks at unmarked));
    }
