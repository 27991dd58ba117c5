use Rattle.std.proofs.Common.{ℕ, ◌∷◌, [], ◌++◌, ap, sym, append_assoc, append-nil, subst, ◌∙◌}
use Rattle.std.proofs.lemmas.Bool.{false≢true}
use Rattle.dm_connections.specs.declared.ends.Ends.{Ends}
use Rattle.dm_trace_view.specs.Traces.{gone_text}
use Rattle.dm_trace_view.proofs.Letting.{GoesOn, goes_none, goes_next, goes_end}
use Rattle.dm_trace_view.proofs.let_go_connections.let_go_and_put_excess_connections.Goals as goal

pub loop-alloc-init : goal.loop-alloc-init
loop-alloc-init g c =
    let h = c.args.hearing in
    record {
      done = [];
      so = [];
      text = sym (append-nil _);
      on = goes_none g.C.TwoWay.held_in g.C.TwoWay.pending_in h.task h.packet h.looks.limits c.args.connections.now c.args.passed;
    }

pub loop-alloc-preserved : goal.loop-alloc-preserved
loop-alloc-preserved g c =
    let h = c.args.hearing in
    let inv = c.loop-alloc.invariant in
    let gone : Ends × g.row.C.Denot = (c.in-Some.gone.ends, c.in-Some.gone.connection) in
    let told = gone_text g.C.TwoWay.pending_in h.task h.packet gone in
    let on = goes_next g.C.TwoWay.held_in g.C.TwoWay.pending_in h.task h.packet h.looks.limits c.args.connections.now c.loop-alloc.connections
    c.let_idlest_go.new.self c.args.passed c.loop-alloc.so_far inv.done inv.so gone inv.on
    (c.exceeds.ensures.0 c.loop-alloc-test.true) c.in-Some.ensures.last c.let_idlest_go.ensures.max in
    let On : ℕ → Type 0 = λ n. GoesOn g.C.TwoWay.held_in g.C.TwoWay.pending_in h.task h.packet h.looks.limits c.args.connections.now
    c.args.passed (inv.done ++ gone ∷ []) (inv.so ++ told) c.let_idlest_go.new.self n in
    record {
      done = inv.done ++ gone ∷ [];
      so = inv.so ++ told;
      text = c.in_ok-told.ensures ∙ ap (λ v. v ++ told) inv.text ∙ append_assoc _ inv.so told;
      on = subst On (sym (rw c.octets_held_that_came.ensures at c.saturating_add-so_far.ensures)) on;
    }

pub returns : goal.returns
returns g c =
    let h = c.args.hearing in
    let inv = c.loop-alloc.invariant in (
      inv.done,
      inv.so,
      inv.text,
      goes_end g.C.TwoWay.held_in g.C.TwoWay.pending_in h.task h.packet h.looks.limits c.args.connections.now c.loop-alloc.connections
          c.args.passed c.loop-alloc.so_far inv.done inv.so inv.on
          (λ past. false≢true (sym c.loop-alloc-test.false ∙ c.exceeds.ensures.1 past)),
    )
