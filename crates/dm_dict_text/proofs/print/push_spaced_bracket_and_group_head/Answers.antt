use Rattle.std.proofs.Common.{◌++◌, codes}
use Rattle.dm_dict_text.specs.Printed.{spaced_number, spaced_option}
use Rattle.dm_dict_text.proofs.Lines.{then_put, last_put}
use Rattle.dm_dict_text.proofs.print.push_spaced_bracket_and_group_head.Goals as goal

pub returns : goal.returns
returns c =
    let head = then_put c.args.text.now.items _ _ (codes " > ::= < AVP Header:") (spaced_number c.args.avp.now.code)
    c.in_ok-push_piece.ensures c.in_ok-push_spaced_number.ensures in
    last_put _ c.args.text.now.items _ _ (codes " > ::= < AVP Header:" ++ spaced_number c.args.avp.now.code)
    (spaced_option c.args.avp.now.vendor) head c.push_spaced_number_if_some.ensures
