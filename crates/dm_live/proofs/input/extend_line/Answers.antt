use Rattle.std.proofs.Common.{subst}
use Rattle.std.specs.Io.BufRead.{FillKeeps}
use Rattle.dm_live.proofs.Pieces.{took_none, took}
use Rattle.dm_live.proofs.input.extend_line.Goals as goal

pub returns-in-Interrupted-clause-taken : goal.returns-in-Interrupted-clause-taken
returns-in-Interrupted-clause-taken g c = took_none _ _ c.args.line.now.items c.fill_buf.follows.holds-at-none.0

pub returns-clause-taken : goal.returns-clause-taken
returns-clause-taken g c =
    let rested = c.fill_buf.follows.lender-at-none in
    let end = c.line_part_len_and_is_last-end.ensures in
    let filled = subst (FillKeeps _ (g.R.Read.remaining rested) (g.R.BufRead.consumable_len rested)) c.in-Ok.is
    c.fill_buf.follows.holds-at-none in
    took _ (g.R.Read.remaining rested) _ _ c.in-Ok.octets.now c.args.line.now.items _ _ _ end.bound end.some end.stops
    end.more end.ends c.in-Ok.ensures.front c.in-Ok.ensures.end filled.0 filled.1 c.consume.ensures.bytes
    c.in_ok-extend_from_slice.ensures.items
