-- What the readers of the parts of an item look at, and what they ensure.
use Rattle.std.specs.Prelude.{ℕ, Bool, true, false, ◌&&◌, ◌||◌, not, List, [], ◌∷◌}
use Rattle.std.specs.Prelude.{◌++◌, ◌≡◌, drop, Option, Some, None, Result, Ok, Err, ⊤}
use Rattle.dm_grammar.specs.declared.item.Form.{Form}
use Rattle.dm_grammar.specs.declared.item.Form.TheVariants.{Fixed, Required, Optional}
use Rattle.dm_grammar.specs.declared.fault.ItemFault.{ItemFault}
use Rattle.dm_grammar.specs.declared.fault.ItemFault.TheVariants.{Syntax, NoMemory}
use Rattle.dm_grammar.specs.declared.symbol.Symbol.{Symbol}
use Rattle.dm_grammar.specs.declared.symbol.Symbol.TheVariants.{Less, Greater, OpenBrace, CloseBrace}
use Rattle.dm_grammar.specs.declared.symbol.Symbol.TheVariants.{OpenSquare, CloseSquare, Star, Comma}
use Rattle.dm_grammar.specs.declared.symbol.Symbol.TheVariants.{Colon, Define, Number, Vendor, Enumerated}
use Rattle.dm_grammar.specs.declared.terminal.Terminal.{Terminal}
use Rattle.dm_grammar.specs.declared.terminal.Terminal.TheVariants.{AnyName, One}
use Rattle.dm_grammar.specs.declared.reading.Version.{Version}
use Rattle.dm_grammar.specs.declared.reading.Version.TheVariants.{First, Second}
use Rattle.dm_grammar.specs.Tokens.{Word}
use Rattle.dm_grammar.specs.Grammar.{on, by, fits, steps_from, colon_steps, may_end}
use Rattle.dm_grammar.specs.Items.{Written, EntryParts, ValueParts, VendorReference}
use Rattle.dm_grammar.specs.Items.VendorReference.{NumberedBy, NamedBy}
use Rattle.dm_grammar.specs.Places.{GrammarPlace}
use Rattle.dm_grammar.specs.Places.GrammarPlace.{Text, Typed, Listed, Vendored, ListOpen}
use Rattle.dm_grammar.specs.Places.TokenRole.{LowIs, SecondIs, NamedIs, KindIs}
use Rattle.dm_grammar.specs.Told.{Gathered, none_gathered, item_before, filled}

-- the tokens begin with the terminal
abbrev pub begins_with : Terminal → List Word → Bool
begins_with t [] = false
begins_with t (w ∷ ws) = fits t w.symbol

-- "<" name ">" "::="
abbrev pub begins_title : List Word → Bool
begins_title ws = begins_with (One Less) ws && begins_with AnyName (drop 1 ws) && begins_with (One Greater)
    (drop 2 ws) &&
    begins_with (One Define) (drop 3 ws)

-- an entry, and no item
abbrev pub begins_entry : List Word → Bool
begins_entry ws =
    begins_with (One Number) ws || begins_with (One Star) ws || begins_with (One OpenBrace) ws || begins_with
    (One OpenSquare) ws
    || (begins_with (One Less) ws && not (begins_title ws))

-- the form of the entry that a bracket opens, and what closes it
abbrev pub bracket_form : Symbol → Option Form
bracket_form Less = Some Fixed
bracket_form OpenBrace = Some Required
bracket_form OpenSquare = Some Optional
bracket_form _ = None

abbrev pub close_of : Form → Symbol
close_of Fixed = Greater
close_of Required = CloseBrace
close_of Optional = CloseSquare

abbrev pub adding_item : Written → Result Gathered ℕ → Result Gathered ℕ
adding_item i (Ok told) = Ok (item_before i told)
adding_item i (Err line) = Err line

abbrev pub adding_entry : EntryParts → Result Gathered ℕ → Result Gathered ℕ
adding_entry e (Ok told) = Ok (record told { titled = false; rule = e ∷ told.rule })
adding_entry e (Err line) = Err line

-- a rule of these entries alone, before the items behind it
abbrev pub with_rule : List EntryParts → Result Gathered ℕ → Result Gathered ℕ
with_rule es (Ok told) = Ok (record none_gathered { items = told.items; rule = es })
with_rule es (Err line) = Err line

abbrev pub low_before : Option Word → Result Gathered ℕ → Result Gathered ℕ
low_before None r = r
low_before (Some w) r = filled LowIs w r

-- the word `vendor` and a name behind it, in a text of version 2
abbrev pub begins_vendor : Version → List Word → Bool
begins_vendor First ws = false
begins_vendor Second ws = begins_with (One Vendor) ws && begins_with AnyName (drop 1 ws)

-- a colon before the name of a vendor, in a text of version 2
abbrev pub begins_named : Version → List Word → Bool
begins_named First ws = false
begins_named Second ws = begins_with (One Colon) ws

-- a type behind which a list may stand
abbrev pub may_list : Version → Word → Bool
may_list First w = false
may_list Second w = fits (One Enumerated) w.symbol

-- the place behind a type, behind its vendor, and behind "{" where one is there
abbrev pub behind_kind : Bool → GrammarPlace
behind_kind false = Typed
behind_kind true = Listed

abbrev pub behind_vendor : Bool → GrammarPlace
behind_vendor false = Text
behind_vendor true = Vendored

abbrev pub behind_brace : Bool → GrammarPlace
behind_brace false = Text
behind_brace true = ListOpen

-- a place where a vendor may stand before what stands at another
pub record VendorPlace (v : Version) (p colon q : GrammarPlace) : Type 0 where
  pub here : steps_from v p ≡ on Number q SecondIs ++ (colon_steps v colon ++ steps_from v q)
  pub named : steps_from v colon ≡ by AnyName q NamedIs
  pub ends : may_end p ≡ may_end q
  pub no_end : may_end colon ≡ false

-- the vendor in what is told
abbrev pub reference_told : Option VendorReference → Gathered → Gathered
reference_told None told = told
reference_told (Some (NumberedBy w)) told = record told { second = Some w }
reference_told (Some (NamedBy w)) told = record told { named = Some w }

abbrev pub adding_reference : Option VendorReference → Result Gathered ℕ → Result Gathered ℕ
adding_reference v (Ok told) = Ok (reference_told v told)
adding_reference v (Err line) = Err line

abbrev pub adding_value : ValueParts → Result Gathered ℕ → Result Gathered ℕ
adding_value x (Ok told) = Ok (record told { code = None; values = x ∷ told.values })
adding_value x (Err line) = Err line

-- these values alone, before the items behind them
abbrev pub with_values : List ValueParts → Result Gathered ℕ → Result Gathered ℕ
with_values xs (Ok told) = Ok (record none_gathered { items = told.items; values = xs })
with_values xs (Err line) = Err line

-- behind a code: a type, its vendor, and what is told behind them
abbrev pub with_kind : Word → Option VendorReference → Result Gathered ℕ → Result Gathered ℕ
with_kind k v r = filled KindIs k (adding_reference v r)

-- a comma and a flag
abbrev pub begins_flag : Symbol → List Word → Bool
begins_flag s ws = begins_with (One Comma) ws && begins_with (One s) (drop 1 ws)

-- the number at the end of a head, before a rule
abbrev pub with_second : Option Word → Result Gathered ℕ → Result Gathered ℕ
with_second second (Ok told) = Ok (record none_gathered { items = told.items; rule = told.rule; second = second })
with_second second (Err line) = Err line

-- the vendor at the end of a group's head, by name or by number, before a rule
abbrev pub with_end : Option Word → Option Word → Result Gathered ℕ → Result Gathered ℕ
with_end named second (Ok told) =
    Ok (record none_gathered { items = told.items; rule = told.rule; named = named; second = second })
with_end named second (Err line) = Err line

-- what stands between "<" and ">" in a command or a group
pub record HeadParts : Type 0 where
  pub command : Bool
  pub code : Word
  pub request : Bool
  pub proxiable : Bool
  pub error : Bool
  pub second : Option Word
  pub named : Option Word

abbrev pub with_head : HeadParts → Result Gathered ℕ → Result Gathered ℕ
with_head h (Ok told) =
    Ok (record none_gathered {
      items = told.items;
      rule = told.rule;
      command = h.command;
      code = Some h.code;
      second = h.second;
      named = h.named;
      request = h.request;
      proxiable = h.proxiable;
      error = h.error;
    })
with_head h (Err line) = Err line

-- the line of a fault at the next token
abbrev pub fault_line : ℕ → List Word → ℕ
fault_line last [] = last
fault_line last (w ∷ ws) = w.line

-- what a fault says of its line
abbrev pub IfSyntax : ItemFault → (ℕ → Type 0) → Type 0
IfSyntax (Syntax line) P = P line
IfSyntax NoMemory P = ⊤
