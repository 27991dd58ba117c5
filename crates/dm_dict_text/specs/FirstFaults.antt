-- What the items of a text of version 1 define and what faults they have, by the rules of version 1 alone (RFC 6733,
-- 3.2): token by token, those of one token in the order Range, Duplicate, Order; then the names that nothing defines.
use Rattle.std.specs.Prelude.{ℕ, Bool, ◌||◌, not, List, [], ◌++◌, map, fold, unwrap_or, Option, option_map}
use Rattle.std.specs.List.{list_any, flat_map}
use Rattle.dm_grammar.specs.Tokens.{Word}
use Rattle.dm_grammar.specs.Items as written
use Rattle.dm_grammar.specs.FirstVersion.{FirstAvp, FirstGroup, FirstItem}
use Rattle.dm_grammar.specs.FirstVersion.FirstItem.{FirstAvpIs, FirstGroupIs, FirstCommandIs}
use Rattle.dm_value.specs.declared.avp_type.AvpType.TheVariants.{OctetString, Grouped}
use Rattle.dm_dict_text.specs.declared.fault.DictFault.{DictFault}
use Rattle.dm_dict_text.specs.declared.fault.DictFault.TheVariants as is
use Rattle.dm_tables.specs.declared.def.AvpDef.{AvpDef}
use Rattle.dm_tables.specs.Definitions.{Definitions, is_named, is_coded, with_avp, with_command}
use Rattle.dm_tables.specs.Sound.{is_any}
use Rattle.dm_dict_text.specs.Meaning.{number, type_named, entry_of, command_def_of}
use Rattle.dm_dict_text.specs.Faults.{fault_if, faults_along, range_faults, option_faults}
use Rattle.dm_dict_text.specs.Faults.{rule_faults, command_item_faults, kind_unknown}
use Rattle.dm_tables.specs.Limits.{number_limit}

-- an AVP without values; an unknown type is a fault elsewhere
abbrev pub first_avp_def : FirstAvp → AvpDef
first_avp_def p =
    record {
      name = p.name.text;
      code = number p.code;
      vendor = option_map number p.vendor;
      kind = unwrap_or (type_named p.kind.text) OctetString;
      rule = [];
      values = [];
    }

abbrev pub first_group_def : FirstGroup → AvpDef
first_group_def p =
    record {
      name = p.name.text;
      code = number p.code;
      vendor = option_map number p.vendor;
      kind = Grouped;
      rule = map entry_of p.rule;
      values = [];
    }

-- the definition of an item, behind the others; no item defines a vendor
abbrev pub first_with_item : Definitions → FirstItem → Definitions
first_with_item d (FirstAvpIs p) = with_avp d (first_avp_def p)
first_with_item d (FirstGroupIs p) = with_avp d (first_group_def p)
first_with_item d (FirstCommandIs p) = with_command d (command_def_of p)

abbrev pub first_with_items : Definitions → List FirstItem → Definitions
first_with_items d items = fold first_with_item d items

-- an AVP has the name
abbrev pub has_name : List AvpDef → List ℕ → Bool
has_name avps name = list_any (is_named name) avps

-- an AVP called AVP, or by a name that is there already
abbrev pub first_name_faults : List AvpDef → Word → List DictFault
first_name_faults avps w = fault_if (is_any w.text || has_name avps w.text) (is.Duplicate w.line)

-- a code above its limit, or there already with the vendor; then a vendor above its limit
abbrev pub first_code_faults : List AvpDef → Word → Option Word → List DictFault
first_code_faults avps code vendor =
    range_faults number_limit code
    ++ fault_if (list_any (is_coded (number code) (option_map number vendor)) avps) (is.Duplicate code.line)
    ++ option_faults number_limit vendor

abbrev pub first_item_faults : Definitions → FirstItem → List DictFault
first_item_faults d (FirstAvpIs p) = first_name_faults d.avps p.name ++ first_code_faults d.avps p.code p.vendor
first_item_faults d (FirstGroupIs p) =
    first_name_faults d.avps p.name ++ first_code_faults d.avps p.code p.vendor ++ rule_faults p.rule
first_item_faults d (FirstCommandIs p) = command_item_faults d.commands p

-- each item beside the definitions before it
abbrev pub first_items_faults : Definitions → List FirstItem → List DictFault
first_items_faults d items = faults_along first_item_faults first_with_item d items

-- an entry that names no AVP of the list
abbrev pub first_entry_unknown : List AvpDef → written.EntryParts → List DictFault
first_entry_unknown avps e =
    fault_if (not (is_any e.name.text || has_name avps e.name.text)) (is.UnknownName e.name.line)

-- the types and entries that nothing defines
abbrev pub first_unknown : List AvpDef → FirstItem → List DictFault
first_unknown avps (FirstAvpIs p) = kind_unknown p.kind
first_unknown avps (FirstGroupIs p) = flat_map (first_entry_unknown avps) p.rule
first_unknown avps (FirstCommandIs p) = flat_map (first_entry_unknown avps) p.rule

-- the faults of the items token by token, then the unknown names
abbrev pub first_faults : Definitions → List FirstItem → List DictFault
first_faults old items =
    first_items_faults old items ++ flat_map (first_unknown (first_with_items old items).avps) items
