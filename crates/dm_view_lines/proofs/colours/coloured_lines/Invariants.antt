use Rattle.std.proofs.Common.{◌≡◌, ◌++◌, flat_map}
use Rattle.std.specs.Str.Lines.{lines}
use Rattle.dm_view_lines.specs.Colours.{line_coloured}
use Rattle.dm_view_lines.proofs.colours.coloured_lines.Given as goal

-- the lines that are left come behind those so far
abbrev pub invariant-loop-line : goal.invariant-loop-line
invariant-loop-line l =
    l.coloured.items ++ flat_map (line_coloured l.fn.task) (lines l.line-iterator)
    ≡ flat_map (line_coloured l.fn.task) (lines l.text)
