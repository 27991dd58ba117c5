-- One connection holds a message less, or nothing any more of a stream that is left.
use Rattle.std.proofs.Common.{◌∙◌, ap, sym, arith}
use Rattle.std.specs.Map.{set_value}
use Rattle.dm_connections.specs.Held.{HeldTable, HeldByEnds, same_ends}
use Rattle.dm_connections.proofs.Placing.{state_again}
use Rattle.dm_connections.proofs.Results.{on_err}
use Rattle.dm_connections.proofs.Sums.{sum_set, sum_part, sum_fits}
use Rattle.dm_connections.proofs.connections.Connections.next_message_of.Goals as goal

pub next_message_keeping_sum-requires-clause-part : goal.next_message_keeping_sum-requires-clause-part
next_message_keeping_sum-requires-clause-part g c =
    let part = sum_part g.C.TwoWay.held_in (same_ends c.args.ends) c.self.inside.held.entries _ (sym c.in-Some.ensures.value) in
    let all = c.self.invariant.all in
    omega (arith, part, all)

pub next_message_keeping_sum-requires-clause-fits : goal.next_message_keeping_sum-requires-clause-fits
next_message_keeping_sum-requires-clause-fits g c =
    let most = sum_fits g.C.TwoWay.held_in c.self.inside.held.entries g.met.C.TwoWay.held_fits (omega arith) in
    let all = c.self.invariant.all in
    omega (arith, most, all)

pub invariant_of-self : goal.invariant_of-self
invariant_of-self g c =
    let set = sum_set g.C.TwoWay.held_in (same_ends c.args.ends) c.self.inside.held.entries _
    c.next_message_keeping_sum.new.connection (sym c.in-Some.ensures.value) in
    let all = c.self.invariant.all in
    let sum = c.next_message_keeping_sum.ensures.sum in
    record { all = omega (arith, set, all, sum); endless = c.self.invariant.endless }

pub returns-in-Some-clause-unchanged : goal.returns-in-Some-clause-unchanged
returns-in-Some-clause-unchanged g c =
    let entries = c.self.inside.held.entries in
    let again = state_again (same_ends c.args.ends) entries _ (sym c.in-Some.ensures.value) in
    let table : HeldByEnds g.row.C.Denot → HeldTable g.row.C.Denot = λ held. record { max = c.self.inside.max; held = held } in
    rw (← c.self.view_is) (on_err c.next_message_keeping_sum.result _ _ c.next_message_keeping_sum.ensures.unchanged (λ same.
    ap table (ap (λ w. set_value (same_ends c.args.ends) entries w) same ∙ again)))
