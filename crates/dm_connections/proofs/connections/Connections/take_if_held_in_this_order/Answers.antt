-- One connection holds more or less.
use Rattle.std.proofs.Common.{refl, sym, arith}
use Rattle.dm_connections.specs.Held.{same_ends}
use Rattle.dm_connections.proofs.Results.{on_ok}
use Rattle.dm_connections.proofs.Sums.{sum_heard, sum_part, sum_fits}
use Rattle.dm_connections.proofs.connections.Connections.take_if_held_in_this_order.Goals as goal

pub take_sent_keeping_sum-requires-clause-part : goal.take_sent_keeping_sum-requires-clause-part
take_sent_keeping_sum-requires-clause-part g c =
    let part = sum_part g.C.TwoWay.held_in (same_ends c.args.ends) c.self.inside.held.entries _ (sym c.in-Some.ensures.value) in
    let all = c.self.invariant.all in
    omega (arith, part, all)

pub take_sent_keeping_sum-requires-clause-fits : goal.take_sent_keeping_sum-requires-clause-fits
take_sent_keeping_sum-requires-clause-fits g c =
    let most = sum_fits g.C.TwoWay.held_in c.self.inside.held.entries g.met.C.TwoWay.held_fits (omega arith) in
    let all = c.self.invariant.all in
    omega (arith, most, all)

pub invariant_of-self : goal.invariant_of-self
invariant_of-self g c =
    let heard = sum_heard g.C.TwoWay.held_in (same_ends c.args.ends) c.self.inside.held.entries _
    c.take_sent_keeping_sum.new.connection (sym c.in-Some.ensures.value) in
    let all = c.self.invariant.all in
    let sum = c.take_sent_keeping_sum.ensures.sum in
    record { all = omega (arith, heard, all, sum); endless = c.self.invariant.endless }

pub returns-in-Some-clause-heard : goal.returns-in-Some-clause-heard
returns-in-Some-clause-heard g c =
    rw (← c.self.view_is)
    (on_ok c.take_sent_keeping_sum.result _ _ c.take_sent_keeping_sum.ensures.taken (λ takes there. record {
      before = c.in-Some.connection.now;
      after = c.take_sent_keeping_sum.new.connection;
      there = sym c.in-Some.ensures.value;
      goes = takes;
      all = refl;
    }))
