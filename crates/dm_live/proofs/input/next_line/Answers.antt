use Rattle.std.proofs.Common.{rules}
use Rattle.dm_live.proofs.FirstLine.{line_or_end}
use Rattle.dm_live.proofs.Pieces.{reading_none, reading_more, read_through}
use Rattle.dm_live.proofs.input.next_line.Goals as goal

pub piece-init : goal.piece-init
piece-init g c = reading_none _ _ c.clear.ensures.items

pub piece-preserved : goal.piece-preserved
piece-preserved g c = reading_more _ _ _ _ _ _ c.piece.invariant c.in_ok-extend_line.ensures.taken c.if-branch.false

pub returns-then-branch-clause-given : goal.returns-then-branch-clause-given
returns-then-branch-clause-given g c =
    line_or_end _ _ _ _ _ _
    (read_through _ _ _ _ _ _ c.piece.invariant c.in_ok-extend_line.ensures.taken c.if-branch.true)
    (search rules) c.is_empty-is_there.ensures c.remove_lf_or_crlf.ensures
