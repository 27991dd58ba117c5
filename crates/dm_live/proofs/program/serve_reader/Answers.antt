use Rattle.std.specs.Io.Buffered.{reader_buffer, reader_capacity, reader_inner}
use Rattle.dm_live.proofs.Running.{ran_behind, unbegun}
use Rattle.dm_live.proofs.program.serve_reader.Goals as goal

pub returns-in-Ok : goal.returns-in-Ok
returns-in-Ok g c =
    let lines = c.in-Ok.lines in
    ran_behind g.R.Read.remaining (reader_inner lines) c.args.reader (reader_buffer lines) (reader_capacity lines) _ _ _
    c.in-Ok.ensures.inner c.in-Ok.ensures.empty c.in-Ok.ensures.capacity c.serve_lines.ensures.whole
    c.serve_lines.ensures.stopped

pub returns-in-Err : goal.returns-in-Err
returns-in-Err g c = unbegun _ _
