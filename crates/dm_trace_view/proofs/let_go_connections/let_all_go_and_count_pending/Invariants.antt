use Rattle.std.proofs.Common.{◌≡◌, ◌<◌, ◌^◌, length}
use Rattle.dm_connections.specs.Held.{all_octets}
use Rattle.dm_trace_view.specs.Traces.{more_of}
use Rattle.dm_trace_view.proofs.let_go_connections.let_all_go_and_count_pending.Given as goal

-- what was counted, with what is still held
abbrev pub invariant-loop-gone : goal.invariant-loop-gone
invariant-loop-gone g l = record {
  fits : l.so_far < 2 ^ 64;
  same : more_of l.so_far (all_octets g.C.TwoWay.pending_in l.connections.held)
      ≡ more_of l.fn.counted (all_octets g.C.TwoWay.pending_in l.fn.connections.held);
}

abbrev pub decreases-loop-gone : goal.decreases-loop-gone
decreases-loop-gone g l = length l.connections.held
