use Rattle.std.proofs.Common.{ap, sym, Ok, ◌∙◌}
use Rattle.dm_capture.specs.Captures.{Progress}
use Rattle.dm_trace_view.proofs.Files.{run_on, on_given, file_on, file_ends, file_fed, file_end, file_stops, file_unfed, none_there}
use Rattle.dm_trace_view.proofs.Saying.{gathering}
use Rattle.dm_trace_view.proofs.buffered_packets.say_packets.Goals as goal

pub returns-in_err-fault-clause-stopped : goal.returns-in_err-fault-clause-stopped
returns-in_err-fault-clause-stopped g c =
    let e = c.texts_gathered_in_turn_gather_as_one.ensures in
    let laws = gathering e.nothing e.turns e.writes e.fails e.leaves_nothing e.leaves in
    run_on _ _ _ c.from_residual.ensures.1
    (file_stops _ _ laws c.read_items_stay_and_runs_join.ensures.joins c.read_items_stay_and_runs_join.ensures.stays _ _ _ c.in_err-fault.field-0.0 _ _ _ _ _
    c.loop.invariant.so c.in_err-fault.ensures.stopped)

pub returns-then-is_some-clause-told : goal.returns-then-is_some-clause-told
returns-then-is_some-clause-told g c =
    let e = c.texts_gathered_in_turn_gather_as_one.ensures in
    let laws = gathering e.nothing e.turns e.writes e.fails e.leaves_nothing e.leaves in
    file_ends _ _ laws c.read_items_stay_and_runs_join.ensures.joins c.read_items_stay_and_runs_join.ensures.stays _ _ _ _ _ c.in_ok-fault.fault _ _ _ _ _
    c.loop.invariant.so c.in_ok-fault.ensures.told (sym c.is_some.ensures ∙ c.if-is_some.true)

pub returns-in_err-ended-clause-stopped : goal.returns-in_err-ended-clause-stopped
returns-in_err-ended-clause-stopped g c =
    let e = c.texts_gathered_in_turn_gather_as_one.ensures in
    let laws = gathering e.nothing e.turns e.writes e.fails e.leaves_nothing e.leaves in
    let so = file_on _ _ laws c.read_items_stay_and_runs_join.ensures.joins c.read_items_stay_and_runs_join.ensures.stays _ _ _ _ _ c.in_ok-fault.fault _ _ _ _ _
    c.loop.invariant.so c.in_ok-fault.ensures.told (sym c.is_some.ensures ∙ c.if-is_some.false) in
    run_on _ _ c.in_err-ended.field-0.0 c.from_residual-in_err-ended.ensures.1
    (file_unfed _ _ laws c.read_items_stay_and_runs_join.ensures.joins c.read_items_stay_and_runs_join.ensures.stays _ _ _ _ _ _ _ _ _ _ so
    c.in_err-ended.ensures.none)

pub returns-then-ended-clause-told : goal.returns-then-ended-clause-told
returns-then-ended-clause-told g c =
    let e = c.texts_gathered_in_turn_gather_as_one.ensures in
    let laws = gathering e.nothing e.turns e.writes e.fails e.leaves_nothing e.leaves in
    let so = file_on _ _ laws c.read_items_stay_and_runs_join.ensures.joins c.read_items_stay_and_runs_join.ensures.stays _ _ _ _ _ c.in_ok-fault.fault _ _ _ _ _
    c.loop.invariant.so c.in_ok-fault.ensures.told (sym c.is_some.ensures ∙ c.if-is_some.false) in
    let fed = c.in_ok-ended.ensures.fed in
    file_end _ _ laws c.read_items_stay_and_runs_join.ensures.joins c.read_items_stay_and_runs_join.ensures.stays _ _ _ _ _ _ _ _
    (file_fed _ _ laws c.read_items_stay_and_runs_join.ensures.joins c.read_items_stay_and_runs_join.ensures.stays _ _ _ _ _ _ _ _ _ _ so fed)
    (on_given _ _ _ _ so.read (fed.ends c.if-ended.true).1) c.fault_at_end.ensures

pub loop-preserved : goal.loop-preserved
loop-preserved g c =
    let e = c.texts_gathered_in_turn_gather_as_one.ensures in
    let laws = gathering e.nothing e.turns e.writes e.fails e.leaves_nothing e.leaves in
    let none = sym c.is_some.ensures ∙ c.if-is_some.false in
    let so = file_on _ _ laws c.read_items_stay_and_runs_join.ensures.joins c.read_items_stay_and_runs_join.ensures.stays _ _ _ _ _ c.in_ok-fault.fault _ _ _ _ _
    c.loop.invariant.so c.in_ok-fault.ensures.told none in
    let fed = c.in_ok-ended.ensures.fed in
    record {
      so = file_fed _ _ laws c.read_items_stay_and_runs_join.ensures.joins c.read_items_stay_and_runs_join.ensures.stays _ _ _ _ _ _ _ _ _ _ so fed;
      none = c.in_ok-fault.ensures.none;
      sound = ap (λ (p : Progress). p.fault) fed.fed
          ∙ c.in_ok-fault.ensures.sound (ap Ok (none_there c.in_ok-fault.fault none));
    }
