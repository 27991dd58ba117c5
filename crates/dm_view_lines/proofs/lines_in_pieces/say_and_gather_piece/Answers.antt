use Rattle.std.proofs.Common.{◌+◌}
use Rattle.std.proofs.lemmas.List.{take_rest}
use Rattle.dm_view_lines.proofs.Seams.{none_anywhere}
use Rattle.dm_view_lines.proofs.SeamSaid.{none_breaks, none_tells, first_breaks, first_stops, first_then, first_then_breaks, held_one, both_one}
use Rattle.dm_view_lines.proofs.Turning.{handed_on}
use Rattle.dm_view_lines.proofs.lines_in_pieces.say_and_gather_piece.Goals as goal

pub returns-in_err-hold_piece-in-None-clause-stopped : goal.returns-in_err-hold_piece-in-None-clause-stopped
returns-in_err-hold_piece-in-None-clause-stopped g c =
    handed_on _ _ c.in_err-hold_piece-in-None.field-0.0 c.from_residual.ensures.1
    (none_breaks _ _ _ _ _ _ _ _ _ (c.in_err-hold_piece-in-None.ensures.long
    (both_one _ c.args.octets.now c.requires.one_line (none_anywhere c.args.octets.now c.in-None.ensures))))

pub returns-in_err-say_and_gather_held_line-in-Some-clause-stopped :
    goal.returns-in_err-say_and_gather_held_line-in-Some-clause-stopped
returns-in_err-say_and_gather_held_line-in-Some-clause-stopped g c =
    handed_on _ _ c.in_err-say_and_gather_held_line-in-Some.field-0.0 c.from_residual-in_err-say_and_gather_held_line-in-Some.ensures.1
    (first_breaks _ _ _ _ _ c.args.octets.now c.in-Some.at _ _ _ _ _ c.in-Some.ensures
    c.in_err-say_and_gather_held_line-in-Some.ensures.stopped)

pub returns-then-not-branch-clause-told : goal.returns-then-not-branch-clause-told
returns-then-not-branch-clause-told g c =
    first_stops _ _ _ _ _ _ _ c.args.octets.now c.in-Some.at _ _ _ _ _ _ c.in-Some.ensures
    c.in_ok-say_and_gather_held_line-in-Some.ensures.told c.if-not-branch.true

pub returns-in_ok-hold_piece-in-None-clause-told : goal.returns-in_ok-hold_piece-in-None-clause-told
returns-in_ok-hold_piece-in-None-clause-told g c =
    none_tells _ _ _ _ _ _ _ _ _ _ c.hold_piece.ensures.lines c.in_ok-hold_piece-in-None.ensures.held

pub returns-in_ok-hold_piece-in-None-clause-one_line : goal.returns-in_ok-hold_piece-in-None-clause-one_line
returns-in_ok-hold_piece-in-None-clause-one_line g c _ =
    held_one _ _ _ c.in_ok-hold_piece-in-None.ensures.held c.requires.one_line
    (none_anywhere c.args.octets.now c.in-None.ensures)

pub returns-else-not-branch-clause-told : goal.returns-else-not-branch-clause-told
returns-else-not-branch-clause-told g c =
    first_then _ _ _ _ _ _ _ _ _ c.args.octets.now _ c.in-Some.at _ _ _ _ _ _ _ _ _ c.in-Some.ensures
    (take_rest c.args.octets.now (c.in-Some.at + 1)) c.in_ok-say_and_gather_held_line-in-Some.ensures.told c.if-not-branch.false
    c.say_whole_lines_and_hold_rest-in-Some.ensures.told

pub returns-else-not-branch-clause-stopped : goal.returns-else-not-branch-clause-stopped
returns-else-not-branch-clause-stopped g c =
    first_then_breaks _ _ _ _ _ _ _ c.args.octets.now _ c.in-Some.at _ _ _ _ _ _ _ _ c.in-Some.ensures
    (take_rest c.args.octets.now (c.in-Some.at + 1)) c.in_ok-say_and_gather_held_line-in-Some.ensures.told c.if-not-branch.false
    c.say_whole_lines_and_hold_rest-in-Some.ensures.stopped
