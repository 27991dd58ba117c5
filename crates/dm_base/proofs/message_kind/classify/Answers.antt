-- The first fault is the answer.
use Rattle.std.proofs.Common.{is_some, sym, ◌∙◌, ap}
use Rattle.dm_base.specs.Commands.{is_base_command}
use Rattle.dm_base.specs.Kinds.{kind_of}
use Rattle.dm_dict.specs.Faults.{faults, first}
use Rattle.dm_base.proofs.BadMessages.{is_fault}
use Rattle.dm_base.proofs.message_kind.classify.Goals as goal

pub returns-in_default-2-clause-fault : goal.returns-in_default-2-clause-fault
returns-in_default-2-clause-fault c =
    let m = c.args.message.now in
    is_fault (is_base_command m.header.command) (first (faults c.args.dictionary.now m))
    (kind_of m.header.command m.header.request m.avps) c.in_ok-bad.bad
    (ap is_some (sym c.of.ensures ∙ c.in-Some.is)) c.in_ok-bad.ensures.verdict c.in_default-2.not-Good
