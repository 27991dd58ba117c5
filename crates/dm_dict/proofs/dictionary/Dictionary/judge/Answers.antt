-- The message that the reference stands for.
use Rattle.std.proofs.Common.{◌≡◌, ap, sym, ◌∙◌}
use Rattle.dm_wire.specs.declared.message.Message.{Message}
use Rattle.dm_dict.specs.Faults.{faults, first}
use Rattle.dm_dict.specs.Judgement.{verdict_of}
use Rattle.dm_dict.proofs.Placed.{found_placed}
use Rattle.dm_tables.specs.Tables.{defined}
use Rattle.dm_dict.proofs.dictionary.Dictionary.judge.Goals as goal

pub returns-clause-verdict : goal.returns-clause-verdict
returns-clause-verdict c = rw (← c.self.view_is) c.judge_spelled_message.ensures.fault

pub returns-clause-checked : goal.returns-clause-checked
returns-clause-checked c = λ m same spelled.
    let whole : record { header = c.args.message.now.header; avps = m.avps } ≡ m =
    (λ i. record { header = sym same i; avps = m.avps }) in
    rw (← c.self.view_is)
    (ap verdict_of
    (c.judge_spelled_message.ensures.fault m.avps spelled ∙ ap (λ (x : Message). first (faults (defined c.self.inside.linked.tables) x))
    whole))

pub returns-clause-found : goal.returns-clause-found
returns-clause-found c = λ l spelled.
    found_placed (defined c.self.inside.linked.tables) (record { header = c.args.message.now.header; avps = l })
    c.judge_spelled_message.result (c.judge_spelled_message.ensures.fault l spelled) c.judge_spelled_message.ensures.missing
