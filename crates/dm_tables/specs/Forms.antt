-- The forms of a rule's entries, told apart (RFC 6733, 3.2).
use Rattle.std.specs.Prelude.{ℕ}
use Rattle.dm_grammar.specs.declared.item.Form.{Form}
use Rattle.dm_grammar.specs.declared.item.Form.TheVariants.{Fixed, Required, Optional}

abbrev pub form_number : Form → ℕ
form_number Fixed = 0
form_number Required = 1
form_number Optional = 2
