use Rattle.std.proofs.Common.{◌*◌, ◌+◌, arith}
use Rattle.dm_grammar.proofs.Feeds.{feeds_of_run}
use Rattle.dm_grammar.proofs.lex.count_line_feeds_by_sixteens.Goals as goal

pub runs-preserved : goal.runs-preserved
runs-preserved c =
    let k = c.runs.k in
    let (counted, few) = c.runs.invariant in
    feeds_of_run c.args.text.now (16 * k) (16 * (k + 1)) c.runs.count (omega arith) (omega arith) counted few
