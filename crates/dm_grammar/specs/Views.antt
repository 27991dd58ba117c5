-- What contracts see of tokens and items.
use Rattle.std.specs.Prelude.{List, map, Option, Some, None}
use Rattle.dm_grammar.specs.declared.token.Token.{Token}
use Rattle.dm_grammar.specs.declared.item.VendorItem.{VendorItem}
use Rattle.dm_grammar.specs.declared.item.VendorWord.{VendorWord}
use Rattle.dm_grammar.specs.declared.item.VendorWord.TheVariants.{Numbered, Named}
use Rattle.dm_grammar.specs.declared.item.ValueItem.{ValueItem}
use Rattle.dm_grammar.specs.declared.item.AvpItem.{AvpItem}
use Rattle.dm_grammar.specs.declared.item.Qualifier.{Qualifier}
use Rattle.dm_grammar.specs.declared.item.EntryItem.{EntryItem}
use Rattle.dm_grammar.specs.declared.item.GroupItem.{GroupItem}
use Rattle.dm_grammar.specs.declared.item.CommandItem.{CommandItem}
use Rattle.dm_grammar.specs.declared.head.Head.{Head}
use Rattle.dm_grammar.specs.declared.item.Item.{Item}
use Rattle.dm_grammar.specs.declared.item.Item.TheVariants.{Vendor, Avp, Group, Command}
use Rattle.dm_grammar.specs.Tokens.{Word}
use Rattle.dm_grammar.specs.Items.{VendorParts, ValueParts, VendorReference, AvpParts}
use Rattle.dm_grammar.specs.Items.{Range, EntryParts, GroupParts, CommandParts, Written}
use Rattle.dm_grammar.specs.Readers.{HeadParts}
use Rattle.dm_grammar.specs.Items.VendorReference.{NumberedBy, NamedBy}
use Rattle.dm_grammar.specs.Items.Written.{VendorIs, AvpIs, GroupIs, CommandIs}

abbrev pub view_word : Token → Word
view_word t = record { symbol = t.symbol; text = t.text.now; line = t.line }

abbrev pub view_words : List Token → List Word
view_words ts = map view_word ts

abbrev pub view_option : Option Token → Option Word
view_option None = None
view_option (Some t) = Some (view_word t)

abbrev pub view_vendor : VendorItem → VendorParts
view_vendor i = record { name = view_word i.name; number = view_word i.number }

abbrev pub view_reference : VendorWord → VendorReference
view_reference (Numbered t) = NumberedBy (view_word t)
view_reference (Named t) = NamedBy (view_word t)

abbrev pub view_reference_option : Option VendorWord → Option VendorReference
view_reference_option None = None
view_reference_option (Some v) = Some (view_reference v)

abbrev pub view_value : ValueItem → ValueParts
view_value i = record { name = view_word i.name; number = view_word i.number }

abbrev pub view_avp : AvpItem → AvpParts
view_avp i =
    record {
      name = view_word i.name;
      code = view_word i.code;
      kind = view_word i.kind;
      vendor = view_reference_option i.vendor;
      values = map view_value i.values.items;
    }

abbrev pub view_qualifier : Option Qualifier → Option Range
view_qualifier None = None
view_qualifier (Some q) = Some (record { low = view_option q.low; high = view_option q.high })

abbrev pub view_entry : EntryItem → EntryParts
view_entry e = record { form = e.form; name = view_word e.name; qualifier = view_qualifier e.qualifier }

abbrev pub view_group : GroupItem → GroupParts
view_group i =
    record {
      name = view_word i.name;
      code = view_word i.code;
      vendor = view_reference_option i.vendor;
      rule = map view_entry i.rule.items;
    }

abbrev pub view_command : CommandItem → CommandParts
view_command i =
    record {
      name = view_word i.name;
      code = view_word i.code;
      request = i.request;
      proxiable = i.proxiable;
      error = i.error;
      application = view_option i.application;
      rule = map view_entry i.rule.items;
    }

abbrev pub view_item : Item → Written
view_item (Vendor i) = VendorIs (view_vendor i)
view_item (Avp i) = AvpIs (view_avp i)
view_item (Group i) = GroupIs (view_group i)
view_item (Command i) = CommandIs (view_command i)

abbrev pub view_head : Head → HeadParts
view_head h =
    record {
      command = h.command;
      code = view_word h.code;
      request = h.request;
      proxiable = h.proxiable;
      error = h.error;
      second = view_option h.second;
      named = view_option h.named;
    }
