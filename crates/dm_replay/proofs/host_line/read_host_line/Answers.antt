use Rattle.std.proofs.Common.{ap, ◌∙◌}
use Rattle.dm_text.specs.Words.{words}
use Rattle.dm_replay.proofs.Options.{none-anyway}
use Rattle.dm_replay.proofs.NextLine.{behind_second}
use Rattle.dm_replay.proofs.host_line.read_host_line.Goals as goal

pub returns-in_err-host-clause-none : goal.returns-in_err-host-clause-none
returns-in_err-host-clause-none c =
    none-anyway c.from_residual-in_err-host.result
    (λ h told. c.in_err-host.ensures.none h.host told.0 h.application
    (behind_second c.in_ok-take_peer_and_side.ensures.told (ap words c.new-left.ensures ∙ told.1)) told.3)
