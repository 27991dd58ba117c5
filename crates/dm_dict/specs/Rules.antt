-- The entries of a rule: which AVPs each names, counts and allows (RFC 6733, 3.2).
use Rattle.std.specs.Prelude.{ℕ, Bool, false, not, nat_eq, Option, None, Some}
use Rattle.std.specs.Prelude.{List, find, filter, length, codes, if◌then◌else◌}
use Rattle.std.specs.List.{list_any}
use Rattle.std.specs.Option.{option_eq, option_or}
use Rattle.std.specs.Cmp.Lexicographic.{pointwise}
use Rattle.dm_wire.specs.declared.avp.Avp.{Avp}
use Rattle.dm_tables.specs.declared.rule.Entry.{Entry}
use Rattle.dm_tables.specs.declared.def.AvpDef.{AvpDef}
use Rattle.dm_tables.specs.Definitions.{is_coded}

-- the definition of an AVP, by its code and vendor (4.1)
abbrev pub definition : List AvpDef → Avp → Option AvpDef
definition avps a = find (is_coded a.code a.vendor) avps

abbrev pub is_called : List ℕ → Entry → Bool
is_called name e = pointwise nat_eq name e.name

-- an entry names the AVPs of the definition that has its name; an AVP that isn't defined has no name
abbrev pub names : Option AvpDef → Entry → Bool
names None e = false
names (Some f) e = is_called f.name e

-- the entry `AVP`, which stands for every AVP that no other entry of the rule names
abbrev pub stands_for_any : Entry → Bool
stands_for_any e = is_called (codes "AVP") e

-- an entry of the rule counts the AVPs that it names, and `AVP` those that no entry names
abbrev pub counts : List Entry → Entry → Option AvpDef → Bool
counts rule e f = if stands_for_any e then not (list_any (names f) rule) else names f e

-- the AVPs of l that the entry of the rule counts, in order
abbrev pub counted_avps : List AvpDef → List Entry → List Avp → Entry → List Avp
counted_avps avps rule l e = filter (λ a. counts rule e (definition avps a)) l

-- how many they are
abbrev pub count : List AvpDef → List Entry → List Avp → Entry → ℕ
count avps rule l e = length (counted_avps avps rule l e)

-- the entry under which an AVP stands: the one that names it, else `AVP`
abbrev pub entry_for : List Entry → Option AvpDef → Option Entry
entry_for rule f = option_or (find (names f) rule) (find stands_for_any rule)

-- an AVP may stand there: there is an entry for it, and its max isn't 0
abbrev pub allows : Option Entry → Bool
allows None = false
allows (Some e) = not (option_eq nat_eq e.max (Some 0))

-- the place is that of the entry at i
abbrev pub is_at : Option ℕ → ℕ → Bool
is_at None i = false
is_at (Some k) i = nat_eq k i
