-- What the tokens of a text tell: its items, or the line of the first token that can't stand there.
use Rattle.std.specs.Prelude.{ℕ, Bool, true, false, List, [], ◌∷◌, Option, Some, None, Result, Ok, Err, if◌then◌else◌}
use Rattle.dm_grammar.specs.declared.item.Form.{Form}
use Rattle.dm_grammar.specs.declared.item.Form.TheVariants.{Fixed}
use Rattle.dm_grammar.specs.declared.reading.Reading.{Reading}
use Rattle.dm_grammar.specs.Tokens.{Word, tokens}
use Rattle.dm_grammar.specs.Versions.{body_of, reading_of}
use Rattle.dm_grammar.specs.Places.{GrammarPlace, TokenRole}
use Rattle.dm_grammar.specs.Places.GrammarPlace.{Text}
use Rattle.dm_grammar.specs.Places.TokenRole.{NoPart, BeginsItem, NameOfAvp, CodeIs, KindIs, SecondIs}
use Rattle.dm_grammar.specs.Places.TokenRole.{NamedIs, ValueIs, TitleIs, TitleOrFixed, DefineIs}
use Rattle.dm_grammar.specs.Places.TokenRole.{CommandHead, GroupHead, RequestFlag, ProxiableFlag}
use Rattle.dm_grammar.specs.Places.TokenRole.{ErrorFlag, Rules, OpensEntry, LowIs, StarIs, HighIs, EntryIs}
use Rattle.dm_grammar.specs.Grammar.{steps_from, taking, may_end}
use Rattle.dm_grammar.specs.Items.{EntryParts, Range, ValueParts, VendorReference, Written}
use Rattle.dm_grammar.specs.Items.VendorReference.{NumberedBy, NamedBy}
use Rattle.dm_grammar.specs.Items.Written.{VendorIs, AvpIs, GroupIs, CommandIs}

-- what the tokens behind a place tell: whole items, and the parts of the one that begins before the place
pub record Gathered : Type 0 where
  pub items : List Written
  pub rule : List EntryParts
  pub values : List ValueParts
  pub titled : Bool
  pub command : Bool
  pub code : Option Word
  pub kind : Option Word
  pub second : Option Word
  pub named : Option Word
  pub request : Bool
  pub proxiable : Bool
  pub error : Bool

abbrev pub none_gathered : Gathered
none_gathered =
    record {
      items = [];
      rule = [];
      values = [];
      titled = false;
      command = false;
      code = None;
      kind = None;
      second = None;
      named = None;
      request = false;
      proxiable = false;
      error = false;
    }

-- the part that the grammar puts behind the name
abbrev pub word_or : Option Word → Word → Word
word_or None w = w
word_or (Some v) w = v

abbrev pub plain_entry : Form → Word → EntryParts
plain_entry form w = record { form = form; name = w; qualifier = None }

abbrev pub high_of : Option Range → Option Word
high_of None = None
high_of (Some q) = q.high

abbrev pub with_low : Option Word → EntryParts → EntryParts
with_low low e = record e { qualifier = Some (record { low = low; high = high_of e.qualifier }) }

abbrev pub with_high : Word → EntryParts → EntryParts
with_high w e = record e { qualifier = Some (record { low = None; high = Some w }) }

abbrev pub at_first : (EntryParts → EntryParts) → List EntryParts → List EntryParts
at_first f [] = []
at_first f (e ∷ es) = f e ∷ es

-- the vendor behind a name, by its name or by its number
abbrev pub reference_told : Option Word → Option Word → Option VendorReference
reference_told (Some w) second = Some (NamedBy w)
reference_told None (Some w) = Some (NumberedBy w)
reference_told None None = None

-- the AVP of a name; without a type behind the name it is the word `vendor` before a vendor's name
abbrev pub avp_or_vendor : Word → Gathered → Written
avp_or_vendor w told =
    elim told.kind [
      | None ↦ VendorIs (record { name = word_or told.named w; number = word_or told.code w })
      | Some k ↦
          AvpIs (record {
            name = w;
            code = word_or told.code w;
            kind = k;
            vendor = reference_told told.named told.second;
            values = told.values;
          })
    ]

-- the command or group of a name, by the parts told behind it
abbrev pub command_or_group : Word → Gathered → Written
command_or_group w told =
    if told.command then
    CommandIs
    (record {
      name = w;
      code = word_or told.code w;
      request = told.request;
      proxiable = told.proxiable;
      error = told.error;
      application = told.second;
      rule = told.rule;
    })
    else GroupIs
    (record { name = w; code = word_or told.code w; vendor = reference_told told.named told.second; rule = told.rule })

-- the items, with one more before them and no parts left
abbrev pub item_before : Written → Gathered → Gathered
item_before i told = record none_gathered { items = i ∷ told.items }

-- a token tells its part; the name of an item makes it whole
abbrev pub fill : TokenRole → Word → Gathered → Gathered
fill NoPart w told = told
fill BeginsItem w told = record none_gathered { items = told.items }
fill NameOfAvp w told = item_before (avp_or_vendor w told) told
fill CodeIs w told = record told { code = Some w }
fill KindIs w told = record told { kind = Some w }
fill SecondIs w told = record told { second = Some w }
fill NamedIs w told = record told { named = Some w }
fill ValueIs w told =
    record told { code = None; values = record { name = w; number = word_or told.code w } ∷ told.values }
fill TitleIs w told = item_before (command_or_group w told) told
fill TitleOrFixed w told = if told.titled then item_before (command_or_group w told) told else
    record told { rule = plain_entry Fixed w ∷ told.rule }
fill DefineIs w told = record told { titled = true }
fill CommandHead w told = record told { command = true }
fill GroupHead w told = told
fill RequestFlag w told = record told { request = true }
fill ProxiableFlag w told = record told { proxiable = true }
fill ErrorFlag w told = record told { error = true }
fill Rules w told = record none_gathered { items = told.items; rule = told.rule }
fill OpensEntry w told = record told { titled = false }
fill LowIs w told = record told { titled = false; rule = at_first (with_low (Some w)) told.rule }
fill StarIs w told = record told { titled = false; rule = at_first (with_low None) told.rule }
fill HighIs w told = record told { rule = at_first (with_high w) told.rule }
fill (EntryIs form) w told = record told { rule = plain_entry form w ∷ told.rule }

abbrev pub filled : TokenRole → Word → Result Gathered ℕ → Result Gathered ℕ
filled r w (Ok told) = Ok (fill r w told)
filled r w (Err line) = Err line

-- what the tokens from a place on tell, or the line of the first that no step takes; where they run out
-- in a place where no text may end, the last line
abbrev pub collect : Reading → GrammarPlace → List Word → Result Gathered ℕ
collect how p [] = if may_end p then Ok none_gathered else Err how.last
collect how p (w ∷ ws) = elim (taking (steps_from how.version p) w.symbol)
    [ None ↦ Err w.line | Some r ↦ filled r.role w (collect how r.leads ws) ]

abbrev pub items_told : Result Gathered ℕ → Result (List Written) ℕ
items_told (Ok told) = Ok told.items
items_told (Err line) = Err line

-- what a text tells: its items, or the line of its Syntax fault
abbrev pub items_or_line : List ℕ → Result (List Written) ℕ
items_or_line text = items_told (collect (reading_of text) Text (body_of (tokens text)))
