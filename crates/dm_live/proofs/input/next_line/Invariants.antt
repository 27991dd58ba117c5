use Rattle.dm_live.proofs.Pieces.{Reading}
use Rattle.dm_live.proofs.input.next_line.Given as goal

-- what was read so far is of one line
abbrev pub invariant-piece : goal.invariant-piece
invariant-piece g l = Reading (g.R.Read.remaining l.fn.reader) (g.R.Read.remaining l.reader) l.line.items
