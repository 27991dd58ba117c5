-- What an entry has fewer of than it wants has an example, unless the entry is `AVP` (RFC 6733, 7.5).
use Rattle.std.specs.Prelude.{◌≡◌, true, false, IsSome, List}
use Rattle.dm_tables.specs.declared.rule.Entry.{Entry}
use Rattle.dm_tables.specs.declared.def.AvpDef.{AvpDef}
use Rattle.dm_tables.specs.Definitions.{Definitions}
use Rattle.dm_tables.specs.Sound.{is_closed}
use Rattle.dm_dict.specs.Faults.{example}
use Rattle.dm_dict.specs.Rules.{stands_for_any}
use Rattle.dm_dict.specs.Typed.{Each}

-- each entry of the rule other than `AVP` has an example
abbrev pub HasExamples : List AvpDef → List Entry → Type 0
HasExamples avps rule = Each (λ e. stands_for_any e ≡ false → IsSome (example avps e)) rule

-- where each entry is `AVP` or names an AVP that is defined, all rules have examples
abbrev pub MissingHasExample : Type 0
MissingHasExample =
    (d : Definitions) → is_closed d ≡ true
    → Each (λ a. HasExamples d.avps a.rule) d.avps × Each (λ c. HasExamples d.avps c.rule) d.commands
