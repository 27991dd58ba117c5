use Rattle.std.proofs.Common.{◌≡◌, ◌+◌, true, false, rules}
use Rattle.dm_trace_view.proofs.Handing.{said_one, passed_one}
use Rattle.dm_trace_view.proofs.handed_messages.number_message_and_put_if_passing.Goals as goal

pub returns-then-not-octets_pass_filter : goal.returns-then-not-octets_pass_filter
returns-then-not-octets_pass_filter c =
    let number : c.in-Some.number ≡ c.args.before.messages + 1 = search rules in
    let passed : c.octets_pass_filter.result ≡ false = search rules in
    passed_one c.args.saying.task c.args.dictionary.now c.args.saying.filter c.args.direction c.args.before
    c.args.message.now _ _ _ number passed c.octets_pass_filter.ensures

pub returns : goal.returns
returns c =
    let number : c.in-Some.number ≡ c.args.before.messages + 1 = search rules in
    let passed : c.octets_pass_filter.result ≡ true = search rules in
    said_one c.args.saying.task c.args.dictionary.now c.args.saying.filter c.args.direction c.args.before
    c.args.message.now _ _ _ _ _ _ number passed c.octets_pass_filter.ensures c.in_ok-good.ensures
    c.numbered_with_said_message.ensures
