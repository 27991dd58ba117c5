use Rattle.std.proofs.Common.{[], sym, append-nil, inr, refl}
use Rattle.dm_trace_view.proofs.trace_speaker.TraceSpeaker.say_sctp_or_count.Goals as goal

pub returns-in-Err : goal.returns-in-Err
returns-in-Err c =
    let none = rw c.as_slice.ensures.value at c.in-Err.ensures.none in
    ([], sym (append-nil _), inr (c.in-Err.why, none, c.count_if_fragment_or_cut.ensures, refl))
