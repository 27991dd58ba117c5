use Rattle.std.proofs.Common.{◌≡◌, ◌++◌, flat_map, length}
use Rattle.std.specs.String.{string_bytes}
use Rattle.dm_view.specs.Check.{step_text}
use Rattle.dm_view.proofs.faults.put_spaced_steps_and_slashes.Given as goal

-- what is left comes behind the text so far
abbrev pub invariant-loop-left : goal.invariant-loop-left
invariant-loop-left l =
    string_bytes l.text ++ flat_map (step_text l.dictionary.avps) l.left
    ≡ string_bytes l.fn.text ++ flat_map (step_text l.dictionary.avps) l.path

abbrev pub decreases-loop-left : goal.decreases-loop-left
decreases-loop-left l = length l.left
