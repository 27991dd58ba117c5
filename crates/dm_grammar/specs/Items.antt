-- The items of a text, as they are written.
use Rattle.std.specs.Prelude.{Bool, List, Option}
use Rattle.dm_grammar.specs.declared.item.Form.{Form}
use Rattle.dm_grammar.specs.Tokens.{Word}

-- "@" "vendor" name number
pub record VendorParts : Type 0 where
  pub name : Word
  pub number : Word

-- vend = number | ":" name
pub data VendorReference : Type 0 where
  NumberedBy : Word → VendorReference
  NamedBy : Word → VendorReference

-- value = name number
pub record ValueParts : Type 0 where
  pub name : Word
  pub number : Word

-- "@" name number type [vend], and the values of its list, none where no list is written
pub record AvpParts : Type 0 where
  pub name : Word
  pub code : Word
  pub kind : Word
  pub vendor : Option VendorReference
  pub values : List ValueParts

-- [number] "*" [number]
pub record Range : Type 0 where
  pub low : Option Word
  pub high : Option Word

-- [qual] and a name in brackets
pub record EntryParts : Type 0 where
  pub form : Form
  pub name : Word
  pub qualifier : Option Range

-- title "::=" "<" ahead ">" *entry
pub record GroupParts : Type 0 where
  pub name : Word
  pub code : Word
  pub vendor : Option VendorReference
  pub rule : List EntryParts

-- title "::=" "<" dhead ">" *entry
pub record CommandParts : Type 0 where
  pub name : Word
  pub code : Word
  pub request : Bool
  pub proxiable : Bool
  pub error : Bool
  pub application : Option Word
  pub rule : List EntryParts

pub data Written : Type 0 where
  VendorIs : VendorParts → Written
  AvpIs : AvpParts → Written
  GroupIs : GroupParts → Written
  CommandIs : CommandParts → Written
