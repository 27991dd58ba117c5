use Rattle.std.proofs.Common.{append_assoc}
use Rattle.dm_trace_view.proofs.seen_front.SeenFrontFront.put_front_members.Goals as goal

pub returns : goal.returns
returns c more =
    let named = c.in_ok-put_key.ensures in
    let numbered = c.in_ok-put_number.ensures in
    let seen = c.in_ok-put_seen_members.ensures more in
    rw (seen, numbered, named) (simp append_assoc)
