use Rattle.std.proofs.Common.{◌++◌, codes, take}
use Rattle.std.specs.Fmt.{HasWritten, IsPlainFormatter}
use Rattle.std.specs.List.{flat_map}
use Rattle.dm_wire.specs.Printed.{member_text}
use Rattle.dm_wire.proofs.printing.ListedAvpDisplay.fmt.Given as goal

-- the AVPs that were passed are written
abbrev pub invariant-loop-avp : goal.invariant-loop-avp
invariant-loop-avp g l =
    IsPlainFormatter l.fn.f
    → HasWritten g.W.Write.write_str_gives l.fn.f (codes "{" ++ flat_map member_text (take l.avp-index l.avp-items)) l.f
