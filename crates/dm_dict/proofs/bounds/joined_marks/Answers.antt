use Rattle.std.proofs.Common.{◌∙◌, sym}
use Rattle.dm_dict.proofs.Sixteens.{either_none}
use Rattle.dm_dict.proofs.bounds.joined_marks.Goals as goal

pub returns-clause-first : goal.returns-clause-first
returns-clause-first c = λ none.
    (either_none c.args.marks c.args.others (c.fits-marks.0 ∙ sym c.fits-others.0) none).0

pub returns-clause-second : goal.returns-clause-second
returns-clause-second c = λ none.
    (either_none c.args.marks c.args.others (c.fits-marks.0 ∙ sym c.fits-others.0) none).1
