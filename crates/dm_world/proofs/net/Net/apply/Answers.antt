use Rattle.dm_world.specs.Views.{as_world}
use Rattle.dm_world.proofs.Happenings.{restart_step}
use Rattle.dm_world.proofs.net.Net.apply.Goals as goal

pub returns-in-Restart-clause-step : goal.returns-in-Restart-clause-step
returns-in-Restart-clause-step c =
    restart_step c.args.happening.now c.in-Restart.side (as_world c.args.self.now) (as_world c.restart_side.new.self)
    c.in-Restart.is c.restart_side.ensures.anew
