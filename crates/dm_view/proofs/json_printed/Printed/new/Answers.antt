use Rattle.std.specs.String.{string_bytes}
use Rattle.dm_view.proofs.JsonPrinted.{no_tokens, none}
use Rattle.dm_view.proofs.json_printed.Printed.new.Goals as goal

pub invariant_of-result : goal.invariant_of-result
invariant_of-result c = none (string_bytes c.string_with_room.result) c.string_with_room.ensures

pub returns : goal.returns
returns c = no_tokens (string_bytes c.string_with_room.result) c.string_with_room.ensures
