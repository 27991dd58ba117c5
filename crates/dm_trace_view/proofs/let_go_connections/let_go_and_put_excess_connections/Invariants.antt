use Rattle.std.proofs.Common.{◌≡◌, ◌++◌, ℕ, List, length}
use Rattle.std.specs.String.{string_bytes}
use Rattle.dm_connections.specs.declared.ends.Ends.{Ends}
use Rattle.dm_trace_view.proofs.Letting.{GoesOn}
use Rattle.dm_trace_view.proofs.let_go_connections.let_go_and_put_excess_connections.Given as goal

-- these connections were let go so far
abbrev pub invariant-loop-alloc : goal.invariant-loop-alloc
invariant-loop-alloc g l = record {
  done : List (Ends × g.row.C.Denot);
  so : List ℕ;
  text : string_bytes l.text ≡ string_bytes l.fn.text ++ so;
  on : GoesOn g.C.TwoWay.held_in g.C.TwoWay.pending_in l.fn.hearing.task l.fn.hearing.packet l.fn.hearing.looks.limits l.fn.connections l.fn.passed done
      so l.connections l.so_far;
}

abbrev pub decreases-loop-alloc : goal.decreases-loop-alloc
decreases-loop-alloc g l = length l.connections.held
