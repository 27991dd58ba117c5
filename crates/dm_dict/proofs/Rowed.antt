-- What the rows of a rule tell is what the links of its entries tell, and what is found of an AVP.
use Rattle.std.proofs.Common.{◌≡◌, ◌<◌, ℕ, zero, suc, Bool, true, false, ◌&&◌, nat_eq, eqb-true, Option, None, Some, List, [], ◌∷◌, length, map, slice_get, refl, sym, ◌∙◌, ap, arith}
use Rattle.std.proofs.lemmas.Bool.{and_parts}
use Rattle.std.proofs.lemmas.Option.{slice_get_within}
use Rattle.std.specs.List.{list_all, list_any, position_from}
use Rattle.std.specs.Option.{option_eq}
use Rattle.dm_wire.specs.declared.avp.Avp.{Avp}
use Rattle.dm_tables.specs.declared.rule.Entry.{Entry}
use Rattle.dm_tables.specs.declared.def.AvpDef.{AvpDef}
use Rattle.dm_tables.specs.Definitions.{Definitions, is_coded, is_named}
use Rattle.dm_tables.specs.Sound.{each_after, is_sound, is_sound_avp, is_sound_command, is_sound_vendor}
use Rattle.dm_tables.specs.SoundParts.{avp_sound_parts}
use Rattle.dm_dict.specs.declared.rows.Row.{Row}
use Rattle.dm_dict.specs.Apart.{IsApart, IsFit}
use Rattle.dm_dict.specs.Links.{entry_link, entry_row, rule_rows}
use Rattle.dm_dict.specs.Rows.{StandsAt, has_link, names_avps, placed_row, row_link}
use Rattle.dm_dict.specs.Rules.{allows, definition, entry_for, names, stands_for_any}
use Rattle.dm_dict.proofs.Firsts.{first_place}
use Rattle.dm_dict.proofs.Linking.{entry_links, name_place, own_names, passes_at, position_map, position_same}
use Rattle.dm_dict.proofs.Standing.{counts_at_place, entry_at_place, found, stands_within}

-- ---- a definition is the first of its code and vendor

abbrev has_code : AvpDef → AvpDef → Bool
has_code d x = is_coded d.code d.vendor x

own_code : (d : AvpDef) → has_code d d ≡ true
own_code d = by d.vendor refl where
  same : nat_eq d.code d.code ≡ true
  same = grind arith

  by : (o : Option ℕ) → d.vendor ≡ o → has_code d d ≡ true
  by None e = rw (same, e) refl
  by (Some v) e = let own : nat_eq v v ≡ true = grind arith in rw (same, e, own) refl

new_code : (before : List AvpDef) (d : AvpDef) → is_sound_avp before d ≡ true → list_any (has_code d) before ≡ false
new_code before d h = (avp_sound_parts before d h).new_code

coded_place : (d : Definitions) (i : ℕ) (f : AvpDef) → is_sound d ≡ true → slice_get d.avps i ≡ Some f
    → position_from (is_coded f.code f.vendor) 0 d.avps ≡ Some i
coded_place d i f sound at =
    let vendors = each_after is_sound_vendor [] d.vendors in
    let avps = each_after is_sound_avp [] d.avps in
    let (first, commands) = and_parts (vendors && avps) (each_after is_sound_command [] d.commands) sound in
    let (sound_vendors, sound_avps) = and_parts vendors avps first in
    first_place is_sound_avp has_code new_code own_code d.avps i f sound_avps at

same_vendor : (o p : Option ℕ) → option_eq nat_eq o p ≡ true → o ≡ p
same_vendor None None e = refl
same_vendor None (Some k) e = absurd (cc)
same_vendor (Some k) None e = absurd (cc)
same_vendor (Some k) (Some j) e = ap Some (eqb-true k j e)

-- what has the code and vendor of the definition at j stands there
coded_at : (d : Definitions) (code : ℕ) (vendor : Option ℕ) (j : ℕ) (f : AvpDef) → is_sound d ≡ true
    → slice_get d.avps j ≡ Some f → is_coded code vendor f ≡ true
    → position_from (is_coded code vendor) 0 d.avps ≡ Some j
coded_at d code vendor j f sound at is =
    let (codes, vendors) = and_parts (nat_eq code f.code) (option_eq nat_eq vendor f.vendor) is in
    rw (eqb-true code f.code codes, same_vendor vendor f.vendor vendors) (coded_place d j f sound at)

-- ---- the row of an entry

there : {A : Type 0} (xs : List A) (i : ℕ) → i < length xs → (x : A) × (slice_get xs i ≡ Some x)
there [] i h = absurd (omega arith)
there (x ∷ xs) zero h = (x, refl)
there (x ∷ xs) (suc i) h = there xs i (omega arith)

linked_to : (avps : List AvpDef) (e : Entry) (k : ℕ) → entry_link avps e ≡ Some k
    → (f : AvpDef) × (slice_get avps k ≡ Some f) × (entry_row avps e ≡ placed_row e k (Some f))
linked_to avps e k link =
    let below : k < length avps = rw link at (stands_within (is_named e.name) avps) in
    let (f, at) = there avps k below in
    (f, at, rw (link, at) refl)

link_of : (avps : List AvpDef) (e : Entry) → row_link (entry_row avps e) ≡ entry_link avps e
link_of avps e = by (entry_link avps e) refl where
  by : (o : Option ℕ) → entry_link avps e ≡ o → row_link (entry_row avps e) ≡ o
  by None link = rw link refl
  by (Some k) link = let (f, at, is) = linked_to avps e k link in rw is refl

all_true : {A : Type 0} (xs : List A) → list_all (λ x. true) xs ≡ true
all_true [] = refl
all_true (x ∷ xs) = all_true xs

-- a link stands in the rows where it stands among the links
pub link_place : (avps : List AvpDef) (rule : List Entry) (link : Option ℕ)
    → position_from (has_link link) 0 (rule_rows avps rule) ≡
    position_from (option_eq nat_eq link) 0 (entry_links avps rule)
link_place avps rule link =
    position_map (has_link link) (entry_row avps) 0 rule ∙
    position_same (λ e. true) (λ e. has_link link (entry_row avps e)) (λ e. option_eq nat_eq link (entry_link avps e))
    (λ e h. ap (option_eq nat_eq link) (link_of avps e)) 0 rule (all_true rule) ∙
    sym (position_map (option_eq nat_eq link) (entry_link avps) 0 rule)

-- the link is the place, where there is one
abbrev links_to : Option ℕ → Option ℕ → Bool
links_to None link = false
links_to (Some k) link = option_eq nat_eq (Some k) link

-- the entry that names the AVPs of a code and vendor has the link to their definition
coded_link : (d : Definitions) (code : ℕ) (vendor : Option ℕ) → is_sound d ≡ true → (e : Entry)
    → names_avps code vendor (entry_row d.avps e) ≡
    links_to (position_from (is_coded code vendor) 0 d.avps) (entry_link d.avps e)
coded_link d code vendor sound e = by (entry_link d.avps e) refl where
  place : Option ℕ
  place = position_from (is_coded code vendor) 0 d.avps

  unlinked : (o : Option ℕ) → false ≡ links_to o None
  unlinked None = refl
  unlinked (Some k) = refl

  other : (j : ℕ) (f : AvpDef) → slice_get d.avps j ≡ Some f → is_coded code vendor f ≡ false
      → (o : Option ℕ) → place ≡ o → false ≡ links_to o (Some j)
  other j f at is None e = refl
  other j f at is (Some k) e = same (nat_eq k j) refl where
    same : (b : Bool) → nat_eq k j ≡ b → false ≡ links_to (Some k) (Some j)
    same false t = rw t refl
    same true t =
        let here : place ≡ Some j = e ∙ ap Some (eqb-true k j t) in
        let yes : is_coded code vendor f ≡ true = passes_at (is_coded code vendor) d.avps j f here at in
        absurd (cc)

  coded : (j : ℕ) (f : AvpDef) → slice_get d.avps j ≡ Some f → (b : Bool) → is_coded code vendor f ≡ b
      → b ≡ links_to place (Some j)
  coded j f at true is =
      let own : nat_eq j j ≡ true = grind arith in
      rw (coded_at d code vendor j f sound at is, own) refl
  coded j f at false is = other j f at is place refl

  by : (o : Option ℕ) → entry_link d.avps e ≡ o → names_avps code vendor (entry_row d.avps e) ≡ links_to place o
  by None link = rw link (unlinked place)
  by (Some j) link =
      let (f, at, is) = linked_to d.avps e j link in
      rw is (coded j f at (is_coded code vendor f) refl)

-- so it stands where the link stands
pub coded_row : (d : Definitions) (rule : List Entry) (code : ℕ) (vendor : Option ℕ) (k : ℕ) → is_sound d ≡ true
    → Some k ≡ position_from (is_coded code vendor) 0 d.avps
    → position_from (names_avps code vendor) 0 (rule_rows d.avps rule) ≡
    position_from (has_link (Some k)) 0 (rule_rows d.avps rule)
coded_row d rule code vendor k sound place =
    position_map (names_avps code vendor) (entry_row d.avps) 0 rule ∙
    position_same (λ e. true) (λ e. names_avps code vendor (entry_row d.avps e))
    (λ e. has_link (Some k) (entry_row d.avps e))
    (λ e h. coded_link d code vendor sound e ∙ ap (λ o. links_to o (entry_link d.avps e)) (sym place) ∙
    ap (option_eq nat_eq (Some k)) (sym (link_of d.avps e))) 0 rule (all_true rule) ∙
    sym (position_map (has_link (Some k)) (entry_row d.avps) 0 rule)

-- ---- what is found of an AVP

mapped : {A B : Type 0} (g : A → B) (xs : List A) (i : ℕ) (y : B) → slice_get (map g xs) i ≡ Some y
    → (x : A) × (slice_get xs i ≡ Some x) × (g x ≡ y)
mapped g [] i y h = absurd (cc)
mapped g (x ∷ xs) zero y h = (x, refl, cc)
mapped g (x ∷ xs) (suc i) y h = mapped g xs i y h

same_kind : (d x : AvpDef) → Some d ≡ Some x → d.kind ≡ x.kind
same_kind d x e = let same : d ≡ x = cc in ap (λ f. f.kind) same

-- an AVP of the code and vendor of a row stands at its entry
pub stands_at : (d : Definitions) (rule : List Entry) (a : Avp) (at : ℕ) (row : Row) → is_sound d ≡ true
    → IsFit d.avps → IsApart rule
    → Some at ≡ position_from (names_avps a.code a.vendor) 0 (rule_rows d.avps rule)
    → Some row ≡ slice_get (rule_rows d.avps rule) at → names_avps a.code a.vendor row ≡ true → row.allowed ≡ true
    → StandsAt d.avps rule a at row
stands_at d rule a at row sound fit apart place here of allowing =
    let (e, entry, is) = mapped (entry_row d.avps) rule at row (sym here) in
    by e entry is (entry_link d.avps e) refl
  where
    by : (e : Entry) → slice_get rule at ≡ Some e → entry_row d.avps e ≡ row → (o : Option ℕ)
        → entry_link d.avps e ≡ o → StandsAt d.avps rule a at row
    by e entry is None link =
        let none : names_avps a.code a.vendor row ≡ false = rw (← is, link) refl in
        absurd (cc)
    by e entry is (Some j) link =
        let (f, there_is, row_is) = linked_to d.avps e j link in
        let whole : row ≡ placed_row e j (Some f) = sym is ∙ row_is in
        let coded : is_coded a.code a.vendor f ≡ true = rw whole at of in
        let defined_at = coded_at d a.code a.vendor j f sound there_is coded in
        let at_def : slice_get d.avps j ≡ definition d.avps a = rw defined_at at (found (is_coded a.code a.vendor) d.avps) in
        let defined : definition d.avps a ≡ Some f = sym at_def ∙ there_is in
        let own = rw defined at (own_names d.avps a.code a.vendor fit) in
        let named : Some at ≡ position_from (names (Some f)) 0 rule =
        place ∙ coded_row d rule a.code a.vendor j sound (sym defined_at) ∙ link_place d.avps rule (Some j) ∙
        name_place d.avps rule j f there_is (fit.placed j f there_is) in
        let any = position_from stands_for_any 0 rule in
        let stands : slice_get rule at ≡ entry_for rule (Some f) =
        entry_at_place rule (Some f) (Some at) any named refl in
        rw whole (record {
          def = at_def;
          within = slice_get_within d.avps j f there_is;
          kind = λ x seen. same_kind f x (sym there_is ∙ seen);
          allowed = rw defined (sym (rw whole at allowing) ∙ ap allows (sym entry ∙ stands));
          counts = λ i x below seen. rw defined
              (counts_at_place rule (Some f) (Some at) any apart own named refl i x below seen);
        })
