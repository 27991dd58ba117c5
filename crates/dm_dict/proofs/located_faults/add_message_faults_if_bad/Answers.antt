-- Where nothing is wrong nothing is listed.
use Rattle.std.proofs.Common.{◌++◌, sym, ap, ◌∙◌, map}
use Rattle.std.proofs.lemmas.List.{append-nil}
use Rattle.std.specs.Option.{option_copied}
use Rattle.dm_tables.specs.Tables.{defined}
use Rattle.dm_dict.specs.Locating.{found, told_behind}
use Rattle.dm_dict.proofs.NoFaults.{none_located}
use Rattle.dm_dict.proofs.located_faults.add_message_faults_if_bad.Goals as goal

pub returns-then-is_message_good-clause-all : goal.returns-then-is_message_good-clause-all
returns-then-is_message_good-clause-all c l lists =
    let old = found (option_copied c.args.path) c.args.findings.now in
    let none = none_located (defined c.args.dictionary.now.tables) (record { header = c.args.header.now; avps = l })
    (sym c.if-is_message_good.true ∙ c.is_message_good.ensures l lists) in
    sym (append-nil old) ∙ ap (λ fs. old ++ map (told_behind (option_copied c.args.path)) fs) none
