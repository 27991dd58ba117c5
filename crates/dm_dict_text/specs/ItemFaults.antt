-- The fault of a text that gives no items.
use Rattle.dm_grammar.specs.declared.fault.ItemFault.{ItemFault}
use Rattle.dm_grammar.specs.declared.fault.ItemFault.TheVariants as items
use Rattle.dm_dict_text.specs.declared.fault.DictFault.{DictFault}
use Rattle.dm_dict_text.specs.declared.fault.DictFault.TheVariants as is

abbrev pub of_item_fault : ItemFault → DictFault
of_item_fault (items.Syntax line) = is.Syntax line
of_item_fault items.NoMemory = is.NoMemory
