-- What the links of a rule tell is what the names of its entries tell.
use Rattle.std.proofs.Common.{◌≡◌, ℕ, ◌+◌, Bool, true, false, ◌||◌, nat_eq, Option, None, Some, IfSome, is_some, List, [], ◌∷◌, codes, refl, sym, ◌∙◌, ap, arith, map, find, slice_get}
use Rattle.std.proofs.lemmas.Bool.{and_parts}
use Rattle.std.specs.List.{position_from, list_any, list_all}
use Rattle.std.specs.Option.{option_eq, option_or}
use Rattle.std.specs.Cmp.Lexicographic.{same_text}
use Rattle.dm_tables.specs.declared.rule.Entry.{Entry}
use Rattle.dm_tables.specs.declared.def.AvpDef.{AvpDef}
use Rattle.dm_tables.specs.Definitions.{is_named, is_coded}
use Rattle.dm_tables.specs.Sound.{is_any, is_entry_known, knows_rule}
use Rattle.dm_dict.specs.Rules.{is_called, names, stands_for_any}
use Rattle.dm_dict.specs.Apart.{IsFit, IsOwnName}
use Rattle.dm_dict.specs.Links.{entry_link}
use Rattle.dm_dict.proofs.Standing.{is_found, is_seen, found, none_named, place_of}

-- the links of the entries of a rule, in order
abbrev pub entry_links : List AvpDef → List Entry → List (Option ℕ)
entry_links avps rule = map (entry_link avps) rule

-- the first place among what g gives
pub position_map : {A B : Type 0} (p : B → Bool) (g : A → B) (j : ℕ) (xs : List A)
    → position_from p j (map g xs) ≡ position_from (λ x. p (g x)) j xs
position_map p g j [] = refl
position_map p g j (x ∷ xs) = by (p (g x)) refl (position_map p g (j + 1) xs) where
  by : (b : Bool) → p (g x) ≡ b
      → position_from p (j + 1) (map g xs) ≡ position_from (λ y. p (g y)) (j + 1) xs
      → position_from p j (map g (x ∷ xs)) ≡ position_from (λ y. p (g y)) j (x ∷ xs)
  by true t ih = rw t refl
  by false t ih = rw t ih

-- two tests that tell the same of each member that the third lets pass
pub position_same : {A : Type 0} (ok p q : A → Bool) → ((x : A) → ok x ≡ true → p x ≡ q x) → (j : ℕ) (xs : List A)
    → list_all ok xs ≡ true → position_from p j xs ≡ position_from q j xs
position_same ok p q same j [] h = refl
position_same ok p q same j (x ∷ xs) h =
    let (here, rest) = and_parts (ok x) (list_all ok xs) h in
    by (q x) refl (same x here) (position_same ok p q same (j + 1) xs rest)
  where
    by : (b : Bool) → q x ≡ b → p x ≡ q x → position_from p (j + 1) xs ≡ position_from q (j + 1) xs
        → position_from p j (x ∷ xs) ≡ position_from q j (x ∷ xs)
    by true t e ih = rw (e, t) refl
    by false t e ih = rw (e, t) ih

-- what is found passes
pub found_one : {A : Type 0} (p : A → Bool) (xs : List A) (x : A) → find p xs ≡ Some x → p x ≡ true
found_one p [] x h = absurd (cc)
found_one p (y ∷ ys) x h = by (p y) refl (found_one p ys x) where
  by : (b : Bool) → p y ≡ b → (find p ys ≡ Some x → p x ≡ true) → p x ≡ true
  by true t rest = let same : y ≡ x = (let g = rw t at h in cc) in ap p (sym same) ∙ t
  by false t rest = rest (rw t at h)

-- what stands at the first place passes
pub passes_at : {A : Type 0} (p : A → Bool) (xs : List A) (i : ℕ) (x : A) → position_from p 0 xs ≡ Some i
    → slice_get xs i ≡ Some x → p x ≡ true
passes_at p xs i x h g = found_one p xs x (sym (sym g ∙ (rw h at (found p xs))))

-- an entry has the link to a definition just where it has its name
linked_named : (avps : List AvpDef) (i : ℕ) (d : AvpDef) → slice_get avps i ≡ Some d
    → position_from (is_named d.name) 0 avps ≡ Some i → (e : Entry)
    → option_eq nat_eq (Some i) (entry_link avps e) ≡ is_called d.name e
linked_named avps i d at placed e = by (is_called d.name e) refl where
  same_number : nat_eq i i ≡ true
  same_number = grind arith

  other : (o : Option ℕ) → entry_link avps e ≡ o → is_called d.name e ≡ false
      → option_eq nat_eq (Some i) (entry_link avps e) ≡ false
  other None h t = rw h refl
  other (Some k) h t = at_k (nat_eq i k) refl where
    at_k : (b : Bool) → nat_eq i k ≡ b → option_eq nat_eq (Some i) (entry_link avps e) ≡ false
    at_k false n = rw (h, n) refl
    at_k true n =
        let same : k ≡ i = grind arith in
        let named : is_named e.name d ≡ true = passes_at (is_named e.name) avps i d (rw same at h) at in
        let names : e.name ≡ d.name = same_text e.name d.name (sym named) in
        let called : is_called d.name e ≡ true = rw (← names) (rw (← names) at named) in
        absurd (cc)

  by : (b : Bool) → is_called d.name e ≡ b → option_eq nat_eq (Some i) (entry_link avps e) ≡ b
  by true t =
      let same : d.name ≡ e.name = same_text d.name e.name (sym t) in
      let here : entry_link avps e ≡ Some i = rw same at placed in
      rw here same_number
  by false t = other (entry_link avps e) refl t

-- an entry of the rule has no link just where it is `AVP`
unlinked_any : (avps : List AvpDef) → list_any (is_named (codes "AVP")) avps ≡ false → (e : Entry)
    → is_entry_known avps e ≡ true → option_eq nat_eq None (entry_link avps e) ≡ stands_for_any e
unlinked_any avps unnamed e known = by (stands_for_any e) refl where
  some : is_some (entry_link avps e) ≡ list_any (is_named e.name) avps
  some = is_found (is_named e.name) 0 avps

  none_of : (o : Option ℕ) → is_some o ≡ false → option_eq nat_eq None o ≡ true
  none_of None h = refl
  none_of (Some k) h = absurd (cc)

  one_of : (o : Option ℕ) → is_some o ≡ true → option_eq nat_eq None o ≡ false
  one_of None h = absurd (cc)
  one_of (Some k) h = refl

  left : (a b : Bool) → a || b ≡ true → a ≡ false → b ≡ true
  left true b h g = absurd (cc)
  left false b h g = h

  by : (b : Bool) → stands_for_any e ≡ b → option_eq nat_eq None (entry_link avps e) ≡ b
  by true t =
      let same : codes "AVP" ≡ e.name = same_text (codes "AVP") e.name (sym t) in
      none_of (entry_link avps e) (some ∙ (rw same at unnamed))
  by false t = any (is_any e.name) refl where
    any : (b : Bool) → is_any e.name ≡ b → option_eq nat_eq None (entry_link avps e) ≡ false
    any true a =
        let same : e.name ≡ codes "AVP" = same_text e.name (codes "AVP") (sym a) in
        let stands : stands_for_any e ≡ true = rw same (rw same at a) in
        absurd (cc)
    any false a = one_of (entry_link avps e) (some ∙ left (is_any e.name) (list_any (is_named e.name) avps) known a)

-- the place of the link to a definition is that of its name
pub name_place : (avps : List AvpDef) (rule : List Entry) (i : ℕ) (d : AvpDef) → slice_get avps i ≡ Some d
    → position_from (is_named d.name) 0 avps ≡ Some i
    → position_from (option_eq nat_eq (Some i)) 0 (entry_links avps rule) ≡ position_from (names (Some d)) 0 rule
name_place avps rule i d at placed =
    position_map (option_eq nat_eq (Some i)) (entry_link avps) 0 rule ∙
    position_same (λ e. true) (λ e. option_eq nat_eq (Some i) (entry_link avps e)) (names (Some d))
    (λ e h. linked_named avps i d at placed e) 0 rule (all_true rule)
  where
    all_true : (es : List Entry) → list_all (λ e. true) es ≡ true
    all_true [] = refl
    all_true (e ∷ es) = all_true es

-- the place of the entry without a link is that of `AVP`
pub any_place : (avps : List AvpDef) (rule : List Entry) → list_any (is_named (codes "AVP")) avps ≡ false
    → knows_rule avps rule ≡ true
    → position_from (option_eq nat_eq None) 0 (entry_links avps rule) ≡ position_from stands_for_any 0 rule
any_place avps rule unnamed closed =
    position_map (option_eq nat_eq None) (entry_link avps) 0 rule ∙
    position_same (is_entry_known avps) (λ e. option_eq nat_eq None (entry_link avps e)) stands_for_any
    (unlinked_any avps unnamed) 0 rule closed

-- the place of the link of what is found, else of the entry without one, is the place of the AVP
pub linked_place : (avps : List AvpDef) (rule : List Entry) (links : List (Option ℕ)) (p : AvpDef → Bool)
    (o : Option ℕ) → IsFit avps → knows_rule avps rule ≡ true → links ≡ entry_links avps rule
    → o ≡ position_from p 0 avps
    → option_or (position_from (option_eq nat_eq o) 0 links) (position_from (option_eq nat_eq None) 0 links) ≡
    place_of rule (find p avps)
linked_place avps rule links p o fit closed linked is = by o (find p avps) refl is where
  any : position_from (option_eq nat_eq None) 0 links ≡ position_from stands_for_any 0 rule
  any = rw linked (any_place avps rule fit.unnamed closed)

  twice : (q : Option ℕ) → option_or q q ≡ q
  twice None = refl
  twice (Some k) = refl

  some : is_some (position_from p 0 avps) ≡ is_some (find p avps)
  some = is_found p 0 avps ∙ sym (is_seen p avps)

  by : (o : Option ℕ) (f : Option AvpDef) → find p avps ≡ f → o ≡ position_from p 0 avps
      → option_or (position_from (option_eq nat_eq o) 0 links) (position_from (option_eq nat_eq None) 0 links) ≡
      place_of rule f
  by None None g e =
      twice (position_from (option_eq nat_eq None) 0 links) ∙ any ∙
      ap (λ q. option_or q (position_from stands_for_any 0 rule)) (none_named 0 rule)
  by None (Some d) g e =
      let no : false ≡ is_some (find p avps) = ap is_some e ∙ some in
      let yes : is_some (find p avps) ≡ true = ap is_some g in
      absurd (cc)
  by (Some i) None g e =
      let yes : true ≡ is_some (find p avps) = ap is_some e ∙ some in
      let no : is_some (find p avps) ≡ false = ap is_some g in
      absurd (cc)
  by (Some i) (Some d) g e =
      let at : slice_get avps i ≡ Some d = (rw (← e) at (found p avps)) ∙ g in
      let here : position_from (option_eq nat_eq (Some i)) 0 links ≡
      position_from (names (Some d)) 0 rule = rw linked (name_place avps rule i d at (fit.placed i d at)) in
      rw (here, any) refl

-- what a code and vendor find isn't called AVP
pub own_names : (avps : List AvpDef) (code : ℕ) (vendor : Option ℕ) → IsFit avps
    → IfSome (find (is_coded code vendor) avps) (λ d. IsOwnName d.name)
own_names avps code vendor fit = by (find (is_coded code vendor) avps) refl where
  by : (o : Option AvpDef) → find (is_coded code vendor) avps ≡ o → IfSome o (λ d. IsOwnName d.name)
  by None e = tt
  by (Some d) e = fit.named code vendor d e
