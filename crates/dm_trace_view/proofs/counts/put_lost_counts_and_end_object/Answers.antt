use Rattle.std.proofs.Common.{codes, refl}
use Rattle.json.specs.Json.{member, no_members}
use Rattle.dm_view.specs.JsonWords.{number_json}
use Rattle.dm_trace_view.proofs.counts.put_lost_counts_and_end_object.Goals as goal

pub returns : goal.returns
returns c =
    let cut = member (codes "cut") (number_json c.args.counts.cut) no_members in
    let fragments = member (codes "fragments") (number_json c.args.counts.fragments) cut in
    let secured = member (codes "secured") (number_json c.args.counts.secured) fragments in
    let first = c.in_ok-put_count_member.ensures secured in
    let second = c.in_ok-put_count_member-2.ensures fragments in
    let third = c.in_ok-put_count_member-3.ensures cut in
    let fourth = c.in_ok-put_count_member-4.ensures no_members in
    let ended = c.in_ok-end_object.ensures in
    rw (ended, fourth, third, second, first) refl
