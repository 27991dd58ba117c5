use Rattle.std.proofs.Common.{◌∙◌}
use Rattle.dm_trace_view.proofs.Pending.{more_fits, pending_next, pending_none}
use Rattle.dm_trace_view.proofs.let_go_connections.let_all_go_and_count_pending.Goals as goal

pub loop-gone-preserved : goal.loop-gone-preserved
loop-gone-preserved g c =
    let counted = rw c.octets_held_that_came.ensures at c.saturating_add-so_far.ensures in
    record {
      fits = more_fits _ _ _ counted;
      same = pending_next g.C.TwoWay.pending_in c.loop-gone.connections.held c.let_idlest_go.new.self.held
          (c.in-Some.gone.ends, c.in-Some.gone.connection) c.loop-gone.so_far _ c.in-Some.ensures.last counted
          ∙ c.loop-gone.invariant.same;
    }

pub returns : goal.returns
returns g c =
    pending_none g.C.TwoWay.pending_in c.loop-gone.connections.held c.loop-gone.so_far c.in_default.ensures.none.0
    c.loop-gone.invariant.fits ∙ c.loop-gone.invariant.same
