-- A new connection goes in front.
use Rattle.std.proofs.Common.{refl, arith}
use Rattle.dm_connections.proofs.Placing.{put_in_front}
use Rattle.dm_connections.proofs.connections.Connections.hold_new_connection.Goals as goal

pub invariant_of-self : goal.invariant_of-self
invariant_of-self g c =
    let none = rw (← c.self.view_is) at c.requires in
    let first = put_in_front c.self.inside.held c.put.new.self c.args.ends c.new_between-connection.result none (omega arith)
    c.self.invariant.endless c.in-Ok.ensures.entries in
    let none_held = g.met.C.TwoWay.new_holds_none c.self.inside.max c.args.ends in
    let all = c.self.invariant.all in
    rw (first, c.new_between-connection.ensures)
    (record { all = omega (arith, all, none_held); endless = c.self.invariant.endless })

pub returns-in-Ok-clause-put : goal.returns-in-Ok-clause-put
returns-in-Ok-clause-put g c =
    let none = rw (← c.self.view_is) at c.requires in
    let first = put_in_front c.self.inside.held c.put.new.self c.args.ends c.new_between-connection.result none (omega arith)
    c.self.invariant.endless c.in-Ok.ensures.entries in
    rw (← c.self.view_is, first, c.new_between-connection.ensures) refl
