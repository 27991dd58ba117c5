use Rattle.std.proofs.Common.{codes, append_assoc}
use Rattle.json.specs.Json.{string, member}
use Rattle.dm_trace.specs.Ends.{endpoint_text}
use Rattle.dm_trace_view.specs.Told.{lost_member}
use Rattle.dm_trace_view.proofs.lost.put_lost_object.Goals as goal

pub returns : goal.returns
returns c =
    let lost = lost_member c.args.told.lost in
    let opened = c.in_ok-begin_object.ensures in
    let named = c.in_ok-put_key.ensures in
    let numbered = c.in_ok-put_number.ensures in
    let from = c.in_ok-put_endpoint_member.ensures (member (codes "to") (string (endpoint_text c.args.told.to)) lost) in
    let to = c.in_ok-put_endpoint_member-2.ensures lost in
    let ended = c.in_ok-put_lost_and_end_object.ensures in
    rw (ended, to, from, numbered, named, opened) (simp append_assoc)
