use Rattle.std.proofs.Common.{refl}
use Rattle.std.proofs.lemmas.List.{take_rest}
use Rattle.dm_view_lines.proofs.Turning.{handed_on, breaks-held}
use Rattle.dm_view_lines.proofs.SeamSaid.{tells-broken, rest_breaks, rest_tells, rest_stops, rest_one, rest_long}
use Rattle.dm_view_lines.proofs.lines_in_pieces.say_whole_lines_and_hold_rest.Goals as goal

pub returns-in_err-number-clause-stopped : goal.returns-in_err-number-clause-stopped
returns-in_err-number-clause-stopped g c =
    handed_on _ _ c.in_err-number.field-0.0 c.from_residual.ensures.1
    (rest_breaks _ _ _ _ c.args.octets.now c.whole_lines_len-end.result _ _ _ _ _ c.whole_lines_len-end.ensures.whole
    (breaks-held _ _ _ _ _ _ _ _ _ _ _ c.in_err-number.ensures.stopped))

pub returns-in_err-hold_piece-clause-stopped : goal.returns-in_err-hold_piece-clause-stopped
returns-in_err-hold_piece-clause-stopped g c =
    handed_on _ _ c.in_err-hold_piece.field-0.0 c.from_residual-in_err-hold_piece.ensures.1
    (rest_breaks _ _ _ _ c.args.octets.now c.whole_lines_len-end.result _ _ _ _ _ c.whole_lines_len-end.ensures.whole
    (tells-broken _ _ _ _ _ _ _ _ _ _ _ _ _ _ c.in_ok-number.ensures.told c.if-going.true
    (rest_long c.args.octets.now _ _ c.whole_lines_len-end.result _ _ _ c.requires.none
    (take_rest c.args.octets.now c.whole_lines_len-end.result) c.whole_lines_len-end.ensures.rest refl
    c.in_err-hold_piece.ensures.long)))

pub returns-in_ok-hold_piece-clause-told : goal.returns-in_ok-hold_piece-clause-told
returns-in_ok-hold_piece-clause-told g c =
    rest_tells _ _ _ _ _ _ _ c.args.octets.now c.whole_lines_len-end.result _ _ _ _ _ _ _ _
    c.whole_lines_len-end.ensures.whole
    c.in_ok-number.ensures.told c.hold_piece.ensures.lines c.requires.none
    (take_rest c.args.octets.now c.whole_lines_len-end.result) c.in_ok-hold_piece.ensures.held

pub returns-in_ok-hold_piece-clause-one_line : goal.returns-in_ok-hold_piece-clause-one_line
returns-in_ok-hold_piece-clause-one_line g c _ =
    rest_one c.args.octets.now _ _ _ c.whole_lines_len-end.result c.requires.none
    (take_rest c.args.octets.now c.whole_lines_len-end.result) c.in_ok-hold_piece.ensures.held
    c.whole_lines_len-end.ensures.rest

pub returns-else-going-clause-told : goal.returns-else-going-clause-told
returns-else-going-clause-told g c =
    rest_stops _ _ _ _ _ _ c.args.octets.now c.whole_lines_len-end.result _ _ _ _ _ _
    c.whole_lines_len-end.ensures.whole
    c.in_ok-number.ensures.told c.if-going.false
