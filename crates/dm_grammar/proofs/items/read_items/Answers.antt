use Rattle.std.proofs.Common.{map, Result, Ok, Err, IfOk, IfErr}
use Rattle.dm_grammar.specs.Views.{view_item}
use Rattle.dm_grammar.proofs.ItemsLaw.{told_written}
use Rattle.dm_grammar.proofs.Outcomes.{told_fault}
use Rattle.dm_grammar.proofs.items.read_items.Goals as goal

where_ok : {A E : Type 0} {P Q : A → Type 0} (r : Result A E) → ((x : A) → P x → Q x) → IfOk r P → IfOk r Q
where_ok (Ok x) f p = f x p
where_ok (Err e) f p = tt

where_err : {A E : Type 0} {P Q : E → Type 0} (r : Result A E) → ((e : E) → P e → Q e) → IfErr r P → IfErr r Q
where_err (Ok x) f p = tt
where_err (Err e) f p = f e p

pub returns-clause-items : goal.returns-clause-items
returns-clause-items c =
    where_ok c.read_items_by_steps.result (λ items. told_written c.args.text.now (map view_item items.items))
    c.read_items_by_steps.ensures.items

pub returns-clause-fault : goal.returns-clause-fault
returns-clause-fault c = where_err c.read_items_by_steps.result (told_fault c.args.text.now) c.read_items_by_steps.ensures.fault
