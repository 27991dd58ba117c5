use Rattle.std.proofs.Common.{◌+◌, flat_map, ap}
use Rattle.std.proofs.lemmas.List.{take_rest}
use Rattle.dm_view_lines.specs.Digits.{is_between, without_prefix}
use Rattle.dm_view_lines.proofs.Firsts.{parts_at, parts_none}
use Rattle.dm_view_lines.proofs.hexadecimal.split_at_first_separator_by_search.Goals as goal

pub returns-in-Some-clause-digits : goal.returns-in-Some-clause-digits
returns-in-Some-clause-digits c =
    let s = c.args.words.now in
    let at = c.in-Some.at in
    rw (take_rest s (at + 1)) (ap (flat_map without_prefix) (parts_at is_between s at c.in-Some.ensures))

pub returns-in-None-clause-digits : goal.returns-in-None-clause-digits
returns-in-None-clause-digits c =
    ap (flat_map without_prefix) (parts_none is_between c.args.words.now c.in-None.ensures)
