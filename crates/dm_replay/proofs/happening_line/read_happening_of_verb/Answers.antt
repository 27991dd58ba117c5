use Rattle.std.proofs.Common.{◌∙◌}
use Rattle.dm_text.specs.Words.{words}
use Rattle.dm_replay.proofs.Options.{none-anyway}
use Rattle.dm_replay.proofs.Verbs.{no_stop}
use Rattle.dm_replay.proofs.happening_line.read_happening_of_verb.Goals as goal

pub returns-in_err-side-in-Stop-clause-none : goal.returns-in_err-side-in-Stop-clause-none
returns-in_err-side-in-Stop-clause-none c =
    none-anyway c.from_residual-in_err-side-in-Stop.result
    (λ h is told. no_stop (words c.args.left.now) c.in_err-side-in-Stop.ensures.none h (is ∙ c.in-Stop.is) told)
