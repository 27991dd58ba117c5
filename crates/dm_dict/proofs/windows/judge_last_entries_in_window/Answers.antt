-- Behind the last entries there are none.
use Rattle.std.proofs.Common.{◌≡◌, ◌+◌, Option, None, Some, refl, sym}
use Rattle.std.specs.Option.{option_or}
use Rattle.std.proofs.lemmas.List.{drop_all}
use Rattle.dm_dict.specs.Faults.{Fault}
use Rattle.dm_dict.proofs.windows.judge_last_entries_in_window.Goals as goal

or_none : (o : Option Fault) → option_or o None ≡ o
or_none None = refl
or_none (Some f) = refl

pub returns-clause-fault : goal.returns-clause-fault
returns-clause-fault g c = λ l h.
    let none = drop_all (c.args.from + g.row.SIZE) c.args.rule.entries.now c.requires.last in
    sym (rw (none, or_none _) at (c.judge_sized_window.ensures.fault l h))
