-- The rows of the entries of a rule: what is to be known of the AVPs that each names (RFC 6733, 3.2).
use Rattle.std.specs.Prelude.{◌≡◌, ◌<◌, ℕ, ◌&&◌, true, false, nat_eq, Bool, Option, None, Some, List, length}
use Rattle.std.specs.Prelude.{slice_get, slice_index_or, if◌then◌else◌}
use Rattle.std.specs.Option.{option_eq}
use Rattle.dm_wire.specs.declared.avp.Avp.{Avp}
use Rattle.dm_value.specs.declared.avp_type.AvpType.TheVariants.{OctetString}
use Rattle.dm_tables.specs.declared.rule.Entry.{Entry}
use Rattle.dm_tables.specs.declared.def.AvpDef.{AvpDef}
use Rattle.dm_dict.specs.declared.rows.Row.{Row}
use Rattle.dm_dict.specs.Rules.{allows, counts, definition, entry_for}

-- the row of an entry that isn't linked
abbrev pub unlinked_row : Row
unlinked_row =
    record { place = 0; code = 0; vendor = None; kind = OctetString; linked = false; allowed = false }

-- the row of one that is linked to the definition at k
abbrev pub placed_row : Entry → ℕ → Option AvpDef → Row
placed_row e k None = unlinked_row
placed_row e k (Some d) =
    record { place = k; code = d.code; vendor = d.vendor; kind = d.kind; linked = true; allowed = allows (Some e) }

abbrev pub linked_row : List AvpDef → Entry → Option ℕ → Row
linked_row avps e None = unlinked_row
linked_row avps e (Some k) = placed_row e k (slice_get avps k)

-- the link of a row, and whether it is this one
abbrev pub row_link : Row → Option ℕ
row_link row = if row.linked then Some row.place else None

abbrev pub has_link : Option ℕ → Row → Bool
has_link link row = option_eq nat_eq link (row_link row)

-- the entry of the row names the AVPs of this code and vendor
abbrev pub names_avps : ℕ → Option ℕ → Row → Bool
names_avps code vendor row = row.linked && (nat_eq code row.code && option_eq nat_eq vendor row.vendor)

-- an AVP has the definition of the row, and stands under the rule at this entry
pub record StandsAt (avps : List AvpDef) (rule : List Entry) (a : Avp) (at : ℕ) (row : Row) : Type 0 where
  pub def : slice_get avps row.place ≡ definition avps a
  pub within : row.place < length avps
  pub kind : (d : AvpDef) → slice_get avps row.place ≡ Some d → row.kind ≡ d.kind
  pub allowed : true ≡ allows (entry_for rule (definition avps a))
  pub counts : (i : ℕ) (e : Entry) → i < length rule → e ≡ slice_index_or rule i e
      → nat_eq at i ≡ counts rule e (definition avps a)
