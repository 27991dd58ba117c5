use Rattle.std.proofs.Common.{◌++◌, codes}
use Rattle.dm_dict_text.specs.Printed.{spaced_number, flags_text}
use Rattle.dm_dict_text.proofs.Lines.{then_put, last_put}
use Rattle.dm_dict_text.proofs.print.push_spaced_bracket_and_command_head.Goals as goal

pub returns : goal.returns
returns c =
    let opening = codes " > ::= < Diameter Header:" in
    let head = then_put c.args.text.now.items _ _ opening
    (spaced_number c.args.command.now.code) c.in_ok-push_piece.ensures c.in_ok-push_spaced_number.ensures in
    let flagged = then_put c.args.text.now.items _ _ (opening ++ spaced_number c.args.command.now.code)
    (flags_text c.args.command.now) head c.in_ok-push_command_flags.ensures in
    last_put _ c.args.text.now.items _ _
    (opening ++ spaced_number c.args.command.now.code ++ flags_text c.args.command.now)
    (spaced_number c.args.command.now.application) flagged c.push_spaced_number-2.ensures
