use Rattle.std.proofs.Common.{◌≡◌}
use Rattle.dm_world.specs.Agreeing.{open_on_both}
use Rattle.dm_world.proofs.Agrees.{found_if, none_if_none}
use Rattle.dm_world.proofs.agreement.conn_open_on_both.Goals as goal

pub returns : goal.returns
returns c =
    let is : c.or-3.result ≡ open_on_both c.args.a.now.standing.core c.args.b.now.standing.core = cc in
    record {
      value = is;
      found = found_if _ _ c.or-3.result is;
      none = none_if_none _ _ c.or-3.result is;
    }
