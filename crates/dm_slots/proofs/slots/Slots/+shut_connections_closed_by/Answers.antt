-- One action, and then the others.
use Rattle.std.proofs.Common.{◌-◌, ◌∙◌, sym, ap, length, take, drop}
use Rattle.dm_slots.specs.Intakes.{left_by}
use Rattle.dm_slots.specs.Held.{intakes_of, owners_of, closed_by}
use Rattle.dm_slots.proofs.Steps.{left_on, closed_on, cut_first}
use Rattle.dm_slots.proofs.slots.Slots.+shut_connections_closed_by.Goals as goal

pub returns-in-len1-up-clause-left : goal.returns-in-len1-up-clause-left
returns-in-len1-up-clause-left t c =
    let actions = c.args.actions.now in
    let first = c.action-item.result in
    let more = take (length actions - 1) (drop 1 actions) in
    let before = intakes_of c.args.self.now in
    let cut = cut_first actions first c.in-len1-up.len_at_least c.action-item.is in
    c.shut_connections_closed_by.ensures.left ∙ ap (left_by more) c.shut_connection_closed_by.ensures.left ∙ left_on first more before ∙
    ap (λ l. left_by l before) (sym cut)

pub returns-in-len1-up-clause-owners : goal.returns-in-len1-up-clause-owners
returns-in-len1-up-clause-owners t c =
    let actions = c.args.actions.now in
    let first = c.action-item.result in
    let more = take (length actions - 1) (drop 1 actions) in
    let before = owners_of c.args.self.now in
    let cut = cut_first actions first c.in-len1-up.len_at_least c.action-item.is in
    c.shut_connections_closed_by.ensures.owners ∙ ap (closed_by more) c.shut_connection_closed_by.ensures.owners ∙ closed_on first more before ∙
    ap (λ l. closed_by l before) (sym cut)
