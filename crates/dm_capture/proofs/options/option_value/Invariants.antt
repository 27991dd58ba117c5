-- What is left of the octets spells options of which the first that is looked for is the first of all.
use Rattle.std.proofs.Common.{◌≡◌, List, length}
use Rattle.dm_capture.specs.Options.{BlockOption, AreOptions, first_value}
use Rattle.dm_capture.proofs.options.option_value.Given as goal

abbrev pub invariant-options : goal.invariant-options
invariant-options l =
    (options : List BlockOption) → AreOptions l.order l.fn.octets options →
    (later : List BlockOption) × AreOptions l.order l.rest later ×
    (first_value l.code l.size options ≡ first_value l.code l.size later)

abbrev pub decreases-options : goal.decreases-options
decreases-options l = length l.rest
