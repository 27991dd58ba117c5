-- The connections that were held are nobody's, and those that are held the neighbour's.
use Rattle.std.proofs.Common.{◌∙◌, ap}
use Rattle.dm_slots.specs.Held.{owners_of, owned_by, disowned_by}
use Rattle.dm_slots.specs.Intakes.{is_there}
use Rattle.dm_node.proofs.Owned.{change_at, has_initiated, has_accepted}
use Rattle.dm_node.proofs.owners.change_owners.Goals as goal

pub returns-clause-owners : goal.returns-clause-owners
returns-clause-owners c =
    λ d.
    let before = c.args.before in
    let after = c.args.after in
    let n = c.args.index in
    let f = owners_of c.args.slots.now in
    let same = c.disown-2.ensures.intakes ∙ c.disown.ensures.intakes in
    let gone = c.disown-2.ensures.owners ∙ ap (disowned_by before.accepted) c.disown.ensures.owners in
    let first = c.set_owner.ensures.owners
    (λ e is. ap (is_there e.0) same ∙ c.requires.there e (has_initiated after e is)) in
    let second = c.set_owner-2.ensures.owners
    (λ e is. ap (is_there e.0) (c.set_owner.ensures.intakes ∙ same) ∙ c.requires.there e (has_accepted after e is)) in
    ap (λ g. g d.0) (second ∙ ap (owned_by after.accepted n) (first ∙ ap (owned_by after.initiated n) gone))
    ∙ change_at before after n f d
