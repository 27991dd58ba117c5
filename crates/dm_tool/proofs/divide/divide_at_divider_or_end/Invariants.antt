use Rattle.std.proofs.Common.{◌≡◌, ◌≤◌, ◌++◌, ◌-◌, length, drop, take}
use Rattle.dm_tool.specs.Divided.{dictionary_part, message_part}
use Rattle.dm_tool.proofs.divide.divide_at_divider_or_end.Given as goal

-- the lines so far belong to the dictionary
abbrev pub invariant-lines : goal.invariant-lines
invariant-lines l = record {
  within : l.size ≤ length l.input;
  dictionary : dictionary_part l.fn.input ≡ take l.size l.fn.input ++ dictionary_part (drop l.size l.fn.input);
  messages : message_part l.fn.input ≡ message_part (drop l.size l.fn.input);
}

abbrev pub decreases-lines : goal.decreases-lines
decreases-lines l = length l.input - l.size
