use Rattle.std.proofs.Common.{length, take, sym, ap, ◌∙◌, arith}
use Rattle.std.proofs.lemmas.List.{take_all}
use Rattle.dm_view_lines.specs.Digits.{begins_comment}
use Rattle.dm_view_lines.proofs.Firsts.{found_at, found_none}
use Rattle.dm_view_lines.proofs.hexadecimal.before_comment.Goals as goal

pub returns-in-Some : goal.returns-in-Some
returns-in-Some c =
    ap (λ n. take n c.args.line.now) (sym (found_at begins_comment c.args.line.now c.in-Some.at c.in-Some.ensures))

pub returns-in-None : goal.returns-in-None
returns-in-None c =
    let s = c.args.line.now in
    sym (ap (λ n. take n s) (found_none begins_comment s c.in-None.ensures) ∙ take_all (length s) s (omega arith))
