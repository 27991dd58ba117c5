-- What was heard, where it is lent.
use Rattle.std.specs.Prelude.{Option, option_map}
use Rattle.std.specs.Borrow.{Bor}
use Rattle.std.specs.Option.{option_copied}
use Rattle.dm_peer.specs.declared.heard_message.HeardRef.{HeardRef}
use Rattle.dm_peer.specs.Said.{Heard, heard_of}

-- what the parts that are lent stand for, where something was heard
abbrev pub heard_by : Option (Bor HeardRef) → Option Heard
heard_by r = option_map heard_of (option_copied r)
