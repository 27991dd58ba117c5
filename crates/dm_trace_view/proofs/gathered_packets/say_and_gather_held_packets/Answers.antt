use Rattle.std.proofs.Common.{[], ◌∙◌, refl}
use Rattle.dm_view_lines.specs.declared.put_fault.PutFault.TheVariants.{Memory}
use Rattle.dm_trace_view.proofs.Holding.{lead-fault, holds_next, holds_stops, holds_end, holds_fault, holds_none}
use Rattle.dm_trace_view.proofs.Saying.{gathering, handed_on, so_none, so_stops_here}
use Rattle.dm_trace_view.proofs.gathered_packets.say_and_gather_held_packets.Goals as goal

pub loop-init : goal.loop-init
loop-init g c =
    let e = c.texts_gathered_in_turn_gather_as_one.ensures in
    let laws = gathering e.nothing e.turns e.writes e.fails e.leaves_nothing e.leaves in
    record { so = so_none _ _ laws _ _ _ _; sound = c.requires.sound }

pub loop-preserved : goal.loop-preserved
loop-preserved g c =
    let e = c.texts_gathered_in_turn_gather_as_one.ensures in
    let laws = gathering e.nothing e.turns e.writes e.fails e.leaves_nothing e.leaves in
    let hands = rw c.in-Ok-Some.field-0-is at (c.in-Ok-Some.ensures.hands c.loop.invariant.sound) in
    record {
      so = holds_next _ _ laws c.read_items_stay_and_runs_join.ensures.joins _ _ _ _ _ _ c.in-Ok-Some.packet _ _ _ _ _ _ c.loop.invariant.so
          hands c.in_ok-put-in-Ok-Some.ensures.told;
      sound = lead-fault _ _ hands.0 hands.1 ∙ c.loop.invariant.sound;
    }

pub returns-in_err-put-in-Ok-Some-clause-stopped :
    goal.returns-in_err-put-in-Ok-Some-clause-stopped
returns-in_err-put-in-Ok-Some-clause-stopped g c =
    let e = c.texts_gathered_in_turn_gather_as_one.ensures in
    let laws = gathering e.nothing e.turns e.writes e.fails e.leaves_nothing e.leaves in
    let hands = rw c.in-Ok-Some.field-0-is at (c.in-Ok-Some.ensures.hands c.loop.invariant.sound) in
    handed_on _ _ c.in_err-put-in-Ok-Some.field-0.0 c.from_residual.ensures.1
    (holds_stops _ _ laws c.read_items_stay_and_runs_join.ensures.joins _ _ _ _ _ c.in-Ok-Some.packet _ _ _ _ _ _ _ c.loop.invariant.so hands
    c.in_err-put-in-Ok-Some.ensures.stopped)

pub returns-in-Ok-None-clause-told : goal.returns-in-Ok-None-clause-told
returns-in-Ok-None-clause-told g c =
    let e = c.texts_gathered_in_turn_gather_as_one.ensures in
    let laws = gathering e.nothing e.turns e.writes e.fails e.leaves_nothing e.leaves in
    let hands = rw c.in-Ok-None.field-0-is at (c.in-Ok-None.ensures.hands c.loop.invariant.sound) in
    holds_end _ _ laws c.read_items_stay_and_runs_join.ensures.joins _ _ _ _ _ _ _ _ _ c.loop.invariant.so hands

pub returns-in-Ok-None-clause-sound : goal.returns-in-Ok-None-clause-sound
returns-in-Ok-None-clause-sound g c is =
    let hands = rw c.in-Ok-None.field-0-is at (c.in-Ok-None.ensures.hands c.loop.invariant.sound) in
    lead-fault _ _ hands.0 hands.1 ∙ c.loop.invariant.sound

pub returns-in-Err-clause-told : goal.returns-in-Err-clause-told
returns-in-Err-clause-told g c =
    let e = c.texts_gathered_in_turn_gather_as_one.ensures in
    let laws = gathering e.nothing e.turns e.writes e.fails e.leaves_nothing e.leaves in
    let hands = c.in-Err.ensures.hands c.loop.invariant.sound in
    holds_fault _ _ laws c.read_items_stay_and_runs_join.ensures.joins c.fault_or_want_of_memory.result c.in-Err.fault _ _ _ _ _ _ _ _ _
    c.loop.invariant.so hands c.fault_or_want_of_memory.ensures.fault

pub returns-in-Err-clause-stopped : goal.returns-in-Err-clause-stopped
returns-in-Err-clause-stopped g c =
    let e = c.texts_gathered_in_turn_gather_as_one.ensures in
    let laws = gathering e.nothing e.turns e.writes e.fails e.leaves_nothing e.leaves in
    let hands = c.in-Err.ensures.hands c.loop.invariant.sound in
    holds_none _ _ laws c.read_items_stay_and_runs_join.ensures.joins c.fault_or_want_of_memory.result c.in-Err.fault _ _ _ _ _ _ _ _ _
    c.loop.invariant.so hands

pub returns-clause-stopped : goal.returns-clause-stopped
returns-clause-stopped g c =
    let e = c.texts_gathered_in_turn_gather_as_one.ensures in
    let laws = gathering e.nothing e.turns e.writes e.fails e.leaves_nothing e.leaves in
    so_stops_here _ _ laws c.read_items_stay_and_runs_join.ensures.joins _ _ _ _ _ [] Memory _ _ _ _ c.loop.invariant.so refl
