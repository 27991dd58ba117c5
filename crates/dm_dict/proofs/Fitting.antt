-- What a sound dictionary says of what is looked up in it.
use Rattle.std.proofs.Common.{◌≡◌, ℕ, zero, suc, ◌+◌, Bool, true, false, ◌&&◌, ◌||◌, not, nat_eq, Some, List, [], ◌∷◌, ◌++◌, find, slice_get, codes, refl, sym, ◌∙◌, ap, arith}
use Rattle.std.proofs.lemmas.Bool.{and_parts}
use Rattle.std.proofs.lemmas.List.Folds.{list_any-append}
use Rattle.std.specs.List.{list_any, list_all, position_from}
use Rattle.std.specs.Cmp.Lexicographic.{pointwise, same_text}
use Rattle.dm_tables.specs.declared.rule.Entry.{Entry}
use Rattle.dm_tables.specs.declared.def.AvpDef.{AvpDef}
use Rattle.dm_tables.specs.declared.def.CommandDef.{CommandDef}
use Rattle.dm_tables.specs.Definitions.{Definitions, is_named, is_coded, is_headed}
use Rattle.dm_tables.specs.Sound.{each_after, is_sound, is_sound_vendor, is_sound_avp, is_sound_command, is_sound_entry, is_sound_rule, is_any, is_closed, knows_rule}
use Rattle.dm_dict.specs.Rules.{is_called}
use Rattle.dm_dict.specs.Apart.{AtMostOne, IsApart, IsFit, IsOwnName}

is_not : (b : Bool) → not b ≡ true → b ≡ false
is_not true e = cc
is_not false e = refl

-- what is found passed the test beside those before it
pub found_sound : {D : Type 0} (test : List D → D → Bool) (p : D → Bool) (before ds : List D) (d : D)
    → each_after test before ds ≡ true → find p ds ≡ Some d → (b : List D) × (test b d ≡ true)
found_sound test p before [] d h f = absurd (cc)
found_sound {D = D} test p before (x ∷ ds) d h f =
    let (first, rest) = and_parts (test before x) (each_after test (before ++ x ∷ []) ds) h in
    by (p x) refl first (λ g. found_sound test p (before ++ x ∷ []) ds d rest g)
  where
    by : (b : Bool) → p x ≡ b → test before x ≡ true → (find p ds ≡ Some d → (b : List D) × (test b d ≡ true))
        → (b : List D) × (test b d ≡ true)
    by true e t later = let same : x ≡ d = (let g = rw e at f in cc) in (before, ap (test before) (sym same) ∙ t)
    by false e t later = later (rw e at f)

or_end : (b : Bool) → b || (true || false) ≡ true
or_end true = refl
or_end false = refl

-- in a sound rule each name stands once, and no name of those before
apart_by : (name : List ℕ) (before rule : List Entry) → each_after is_sound_entry before rule ≡ true
    → AtMostOne (is_called name) rule ×
    (list_any (is_called name) before ≡ true → list_any (is_called name) rule ≡ false)
apart_by name before [] h = (tt, λ some. refl)
apart_by name before (e ∷ es) h =
    let (first, rest) = and_parts (is_sound_entry before e) (each_after is_sound_entry (before ++ e ∷ []) es) h in
    let (named, late) = and_parts _ _ first in
    let (bounded, new) = and_parts _ _ named in
    let (one, none) = apart_by name (before ++ e ∷ []) es rest in (
      (
        λ t. none (list_any-append (is_called name) before (e ∷ []) ∙ rw t (or_end (list_any (is_called name) before))),
        one,
      ),
      λ some. by (is_called name e) refl some (is_not _ new) none,
    )
  where
    by : (b : Bool) → is_called name e ≡ b → list_any (is_called name) before ≡ true
        → list_any (is_called e.name) before ≡ false
        → (list_any (is_called name) (before ++ e ∷ []) ≡ true → list_any (is_called name) es ≡ false)
        → list_any (is_called name) (e ∷ es) ≡ false
    by true t some new none =
        let same : name ≡ e.name = same_text name e.name (sym t) in
        let again : list_any (is_called e.name) before ≡ true = rw same at some in
        absurd (cc)
    by false t some new none = rw t (none (list_any-append (is_called name) before (e ∷ []) ∙ rw some refl))

pub apart_rule : (rule : List Entry) → is_sound_rule rule ≡ true → IsApart rule
apart_rule rule h = λ name. (apart_by name [] rule h).0

own_name : (name : List ℕ) → is_any name ≡ false → IsOwnName name
own_name name h = by (pointwise nat_eq (codes "AVP") name) refl where
  by : (b : Bool) → pointwise nat_eq (codes "AVP") name ≡ b → pointwise nat_eq (codes "AVP") name ≡ false
  by true t =
      let same : codes "AVP" ≡ name = same_text (codes "AVP") name (sym t) in
      let any : is_any name ≡ true = rw (← same) refl in
      absurd (cc)
  by false t = t

-- what a sound definition of an AVP keeps to
record AvpFits (before : List AvpDef) (f : AvpDef) : Type 0 where
  own : IsOwnName f.name
  not_any : is_any f.name ≡ false
  new : list_any (is_named f.name) before ≡ false
  apart : IsApart f.rule

sound_avp : (before : List AvpDef) (f : AvpDef) → is_sound_avp before f ≡ true → AvpFits before f
sound_avp before f h =
    let (h9, listing) = and_parts _ _ h in
    let (h8, list) = and_parts _ _ h9 in
    let (h7, kind) = and_parts _ _ h8 in
    let (h6, rule) = and_parts _ _ h7 in
    let (h5, new_code) = and_parts _ _ h6 in
    let (h4, vendor) = and_parts _ _ h5 in
    let (h3, code) = and_parts _ _ h4 in
    let (h2, new_name) = and_parts _ _ h3 in
    let (name, not_any) = and_parts _ _ h2 in
    record {
      own = own_name f.name (is_not _ not_any);
      not_any = is_not _ not_any;
      new = is_not _ new_name;
      apart = apart_rule f.rule rule;
    }

-- no definition is called AVP
none_any : (before ds : List AvpDef) → each_after is_sound_avp before ds ≡ true
    → list_any (is_named (codes "AVP")) ds ≡ false
none_any before [] h = refl
none_any before (d ∷ ds) h =
    let (first, rest) = and_parts (is_sound_avp before d) (each_after is_sound_avp (before ++ d ∷ []) ds) h in
    let own : is_named (codes "AVP") d ≡ false = (sound_avp before d first).own in
    rw own (none_any (before ++ d ∷ []) ds rest)

neither : (a b : Bool) → a || (b || false) ≡ false → (a ≡ false) × (b ≡ false)
neither true b h = absurd (cc)
neither false true h = absurd (cc)
neither false false h = (refl, refl)

-- a later definition has no name of those before
new_later : (before ds : List AvpDef) (i : ℕ) (d : AvpDef) → each_after is_sound_avp before ds ≡ true
    → slice_get ds i ≡ Some d → list_any (is_named d.name) before ≡ false
new_later before [] i d h at = absurd (cc)
new_later before (x ∷ ds) zero d h at =
    let (first, rest) = and_parts (is_sound_avp before x) (each_after is_sound_avp (before ++ x ∷ []) ds) h in
    let same : x ≡ d = cc in
    rw same at (sound_avp before x first).new
new_later before (x ∷ ds) (suc i) d h at =
    let (first, rest) = and_parts (is_sound_avp before x) (each_after is_sound_avp (before ++ x ∷ []) ds) h in
    let new = new_later (before ++ x ∷ []) ds i d rest at in
    (neither _ (is_named d.name x) (sym (list_any-append (is_named d.name) before (x ∷ [])) ∙ new)).0

same_name : (name : List ℕ) → pointwise nat_eq name name ≡ true
same_name [] = refl
same_name (c ∷ s) = let same : nat_eq c c ≡ true = grind arith in rw same (same_name s)

-- each definition stands at the place of its name
placed_from : (before ds : List AvpDef) (j i : ℕ) (d : AvpDef) → each_after is_sound_avp before ds ≡ true
    → slice_get ds i ≡ Some d → position_from (is_named d.name) j ds ≡ Some (j + i)
placed_from before [] j i d h at = absurd (cc)
placed_from before (x ∷ ds) j zero d h at =
    let same : x ≡ d = cc in
    let here : is_named d.name x ≡ true = rw same (same_name d.name) in
    let start : j ≡ j + 0 = omega arith in
    rw here (ap Some start)
placed_from before (x ∷ ds) j (suc i) d h at =
    let (first, rest) = and_parts (is_sound_avp before x) (each_after is_sound_avp (before ++ x ∷ []) ds) h in
    let new = new_later (before ++ x ∷ []) ds i d rest at in
    let other : is_named d.name x ≡ false = (neither (list_any (is_named d.name) before) (is_named d.name x)
    (sym (list_any-append (is_named d.name) before (x ∷ [])) ∙ new)).1 in
    let next : j + 1 + i ≡ j + suc i = omega arith in
    rw other (placed_from (before ++ x ∷ []) ds (j + 1) i d rest at ∙ ap Some next)

-- what is found passes a test that all pass
found_passes : {D : Type 0} (test p : D → Bool) (ds : List D) (d : D) → list_all test ds ≡ true
    → find p ds ≡ Some d → test d ≡ true
found_passes test p [] d h e = absurd (cc)
found_passes {D = D} test p (x ∷ ds) d h e =
    let (first, rest) = and_parts (test x) (list_all test ds) h in
    by (p x) refl first (found_passes test p ds d rest)
  where
    by : (b : Bool) → p x ≡ b → test x ≡ true → (find p ds ≡ Some d → test d ≡ true) → test d ≡ true
    by true t here later = let same : x ≡ d = (let g = rw t at e in cc) in ap test (sym same) ∙ here
    by false t here later = later (rw t at e)

-- the definitions of a sound dictionary
pub fit : (d : Definitions) → is_sound d ≡ true → is_closed d ≡ true → IsFit d.avps
fit d h known =
    let (before_commands, commands) =
    and_parts (each_after is_sound_vendor [] d.vendors && each_after is_sound_avp [] d.avps)
    (each_after is_sound_command [] d.commands) h in
    let (vendors, avps) = and_parts (each_after is_sound_vendor [] d.vendors) (each_after is_sound_avp [] d.avps)
    before_commands in
    let (closed, closed_commands) = and_parts (list_all (λ a. knows_rule d.avps a.rule) d.avps)
    (list_all (λ c. knows_rule d.avps c.rule) d.commands) known in
    record {
      unnamed = none_any [] d.avps avps;
      placed = λ i f at.
          let from_zero : 0 + i ≡ i = omega arith in
          placed_from [] d.avps 0 i f avps at ∙ ap Some from_zero;
      apart = λ code vendor f e. let (before, s) = found_sound is_sound_avp (is_coded code vendor) [] d.avps f avps e
          in (sound_avp before f s).apart;
      closed = λ code vendor f e. found_passes (λ a. knows_rule d.avps a.rule) (is_coded code vendor) d.avps f closed e;
      named = λ code vendor f e. let (before, s) = found_sound is_sound_avp (is_coded code vendor) [] d.avps f avps e
          in (sound_avp before f s).own;
    }

-- and its commands
pub apart_command : (d : Definitions) (code : ℕ) (request err : Bool) (c : CommandDef) → is_sound d ≡ true
    → find (is_headed code request err) d.commands ≡ Some c → IsApart c.rule
apart_command d code request err c h e =
    let (before_commands, commands) =
    and_parts (each_after is_sound_vendor [] d.vendors && each_after is_sound_avp [] d.avps)
    (each_after is_sound_command [] d.commands) h in
    let (vendors, avps) = and_parts (each_after is_sound_vendor [] d.vendors) (each_after is_sound_avp [] d.avps)
    before_commands in
    let (before, s) = found_sound is_sound_command (is_headed code request err) [] d.commands c commands e in
    let (h5, rule) = and_parts _ _ s in
    apart_rule c.rule rule

pub closed_command : (d : Definitions) (code : ℕ) (request err : Bool) (c : CommandDef) → is_closed d ≡ true
    → find (is_headed code request err) d.commands ≡ Some c → knows_rule d.avps c.rule ≡ true
closed_command d code request err c known e =
    let (closed, commands) = and_parts (list_all (λ a. knows_rule d.avps a.rule) d.avps)
    (list_all (λ x. knows_rule d.avps x.rule) d.commands) known in
    found_passes (λ x. knows_rule d.avps x.rule) (is_headed code request err) d.commands c commands e
