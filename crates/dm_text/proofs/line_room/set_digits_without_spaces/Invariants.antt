use Rattle.std.proofs.Common.{◌≡◌, take}
use Rattle.dm_text.specs.Hexadecimal.{without_spaces}
use Rattle.dm_text.proofs.line_room.set_digits_without_spaces.Given as goal

abbrev pub invariant-loop-octet : goal.invariant-loop-octet
invariant-loop-octet l = l.digits.items ≡ without_spaces (take l.octet-index l.line)
