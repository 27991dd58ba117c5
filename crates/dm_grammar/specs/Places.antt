-- The places of the grammar (RFC 6733 section 3.2), and what a token is to its item.
use Rattle.dm_grammar.specs.declared.item.Form.{Form}

-- a place between two tokens
pub data GrammarPlace : Type 0 where
  Text AtSign AvpName AvpCode Typed TypedColon : GrammarPlace
  AtVendor VendorNamed : GrammarPlace
  Listed ListedColon Vendored ListOpen ValueName ValueEnd : GrammarPlace
  TitleLess TitleName Titled Defined Head : GrammarPlace
  CommandWord CommandColon CommandCode Coded CodedComma Requested RequestedComma Proxied ProxiedComma : GrammarPlace
  GroupWord GroupColon GroupCode GroupCoded GroupNamed Flagged FlaggedComma HeadEnd : GrammarPlace
  InRule Low Starred High Angle AngleName Closed : GrammarPlace
  FixedOpen FixedName BraceOpen BraceName SquareOpen SquareName : GrammarPlace

-- what a token is to the item that it stands in
pub data TokenRole : Type 0 where
  NoPart BeginsItem NameOfAvp CodeIs KindIs SecondIs NamedIs ValueIs : TokenRole
  TitleIs TitleOrFixed DefineIs CommandHead GroupHead RequestFlag ProxiableFlag ErrorFlag Rules : TokenRole
  OpensEntry LowIs StarIs HighIs : TokenRole
  EntryIs : Form → TokenRole
