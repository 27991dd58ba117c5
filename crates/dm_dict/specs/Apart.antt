-- What the rules and definitions of a dictionary keep to, so that an AVP stands under one entry.
use Rattle.std.specs.Prelude.{◌≡◌, ℕ, Bool, true, false, Option, Some, List, [], ◌∷◌, find, slice_get, codes}
use Rattle.std.specs.List.{list_any, position_from}
use Rattle.std.specs.Cmp.Lexicographic.{pointwise}
use Rattle.std.specs.Prelude.{nat_eq}
use Rattle.dm_tables.specs.declared.rule.Entry.{Entry}
use Rattle.dm_tables.specs.declared.def.AvpDef.{AvpDef}
use Rattle.dm_tables.specs.Definitions.{is_coded, is_named}
use Rattle.dm_tables.specs.Sound.{knows_rule}
use Rattle.dm_dict.specs.Rules.{is_called}

-- at most one entry passes the test
abbrev pub AtMostOne : (Entry → Bool) → List Entry → Type 0
AtMostOne p [] = Unit {0}
AtMostOne p (e ∷ es) = (p e ≡ true → list_any p es ≡ false) × AtMostOne p es

-- no two entries of the rule have one name
abbrev pub IsApart : List Entry → Type 0
IsApart rule = (name : List ℕ) → AtMostOne (is_called name) rule

-- a name that an AVP may have: `AVP` isn't one
abbrev pub IsOwnName : List ℕ → Type 0
IsOwnName name = pointwise nat_eq (codes "AVP") name ≡ false

-- each definition has such a name, which no other has, and a rule without doubles, in which all is defined or `AVP`
pub record IsFit (avps : List AvpDef) : Type 0 where
  pub named : (code : ℕ) (vendor : Option ℕ) (f : AvpDef) → find (is_coded code vendor) avps ≡ Some f → IsOwnName f.name
  pub unnamed : list_any (is_named (codes "AVP")) avps ≡ false
  pub placed : (i : ℕ) (d : AvpDef) → slice_get avps i ≡ Some d → position_from (is_named d.name) 0 avps ≡ Some i
  pub apart : (code : ℕ) (vendor : Option ℕ) (f : AvpDef) → find (is_coded code vendor) avps ≡ Some f → IsApart f.rule
  pub closed : (code : ℕ) (vendor : Option ℕ) (f : AvpDef) → find (is_coded code vendor) avps ≡ Some f
      → knows_rule avps f.rule ≡ true
