-- What is written is canonical, and so spells the answer.
use Rattle.std.proofs.Common.{◌≡◌, ◌<◌, ◌^◌, None, rules}
use Rattle.dm_wire.specs.Canonical.{canonical_message}
use Rattle.dm_base.specs.Codes.{success}
use Rattle.dm_base.specs.Built.{built_answer}
use Rattle.dm_base.proofs.Written.{success_spelled}
use Rattle.dm_base.proofs.success.success_octets.Goals as goal

pub returns-clause-spelled : goal.returns-clause-spelled
returns-clause-spelled c =
    let n = c.args.node.now in
    let to = c.args.to.now in
    let octets : c.push_success_avps.new.out.items ≡ canonical_message (built_answer n to success None) = search rules in
    let fits : to.command < 256 ^ 3 = rw c.header_of_answer.ensures.header at c.in-Some.ensures.spelled.command_fits in
    success_spelled c.canonical_octets_spell_message.ensures c.built_messages_have_spellings.ensures.answer n to c.push_success_avps.new.out.items
    (c.header_of_answer.ensures.fits fits) octets
