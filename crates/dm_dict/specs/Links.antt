-- The links of the entries of a rule: which definition each names, and their bounds (RFC 6733, 3.2).
use Rattle.std.specs.Prelude.{◌≡◌, ◌<◌, ℕ, nat_eq, Option, None, Some, List, [], length, map}
use Rattle.std.specs.List.{position_from}
use Rattle.indexmap.specs.IndexMap.{get_by}
use Rattle.dm_tables.specs.declared.rule.Entry.{Entry}
use Rattle.dm_tables.specs.declared.def.AvpDef.{AvpDef}
use Rattle.dm_tables.specs.Definitions.{is_named}
use Rattle.dm_dict.specs.Bounds.{LaneBounds, rule_bounds}
use Rattle.dm_dict.specs.declared.links.Links.TheInside.{Inside}
use Rattle.dm_dict.specs.declared.rows.Row.{Row}
use Rattle.dm_dict.specs.Limits.{short_rule}
use Rattle.dm_dict.specs.Rows.{has_link, linked_row}
use Rattle.dm_dict.specs.Seats.{IsSeated}

-- the link of an entry: the place of the definition that has its name; `AVP` has none
abbrev pub entry_link : List AvpDef → Entry → Option ℕ
entry_link avps e = position_from (is_named e.name) 0 avps

-- its row, and those of the entries of a rule, in order
abbrev pub entry_row : List AvpDef → Entry → Row
entry_row avps e = linked_row avps e (entry_link avps e)

abbrev pub rule_rows : List AvpDef → List Entry → List Row
rule_rows avps rule = map (entry_row avps) rule

-- rows with bounds
pub record LinkedEntries : Type 0 where
  pub rows : List Row
  pub bounds : LaneBounds

-- those of the entries of a rule
abbrev pub rule_links : List AvpDef → List Entry → LinkedEntries
rule_links avps rule = record { rows = rule_rows avps rule; bounds = rule_bounds rule }

-- and of no entries
abbrev pub no_links : LinkedEntries
no_links = record { rows = []; bounds = rule_bounds [] }

-- the place of the first entry without a link, an index of the first place of each link where the rule is long, and the
-- seats
pub record IsPlaced (links : Inside) : Type 0 where
  pub any : links.any ≡ position_from (has_link None) 0 links.items.items
  pub places : short_rule < length links.items.items → (k : ℕ)
      → get_by (nat_eq k) links.places ≡ position_from (has_link (Some k)) 0 links.items.items
  pub seats : IsSeated links.items.items links.seats
