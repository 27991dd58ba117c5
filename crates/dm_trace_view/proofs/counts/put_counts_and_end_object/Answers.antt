use Rattle.std.proofs.Common.{codes, refl}
use Rattle.json.specs.Json.{member}
use Rattle.dm_view.specs.JsonWords.{number_json}
use Rattle.dm_trace_view.specs.Told.{lost_counts}
use Rattle.dm_trace_view.proofs.counts.put_counts_and_end_object.Goals as goal

pub returns : goal.returns
returns c =
    let lost = lost_counts c.args.counts in
    let bad = member (codes "bad") (number_json c.args.tally.bad) lost in
    let good = member (codes "good") (number_json c.args.tally.good) bad in
    let first = c.in_ok-put_count_member.ensures
    (member (codes "messages") (number_json c.message_count.result) good) in
    let second = c.in_ok-put_count_member-2.ensures good in
    let third = c.in_ok-put_count_member-3.ensures bad in
    let fourth = c.in_ok-put_count_member-4.ensures lost in
    let ended = c.in_ok-put_lost_counts_and_end_object.ensures in
    rw (ended, fourth, third, second, first, c.message_count.ensures) refl
