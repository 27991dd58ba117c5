-- The neighbour that was told an event has what it holds, and the others have what they had.
use Rattle.std.proofs.Common.{◌≡◌, refl, subst}
use Rattle.dm_machine.specs.declared.connection.Conn.{Conn}
use Rattle.dm_slots.specs.Held.{owners_of}
use Rattle.dm_node.specs.Holding.{holds_it}
use Rattle.dm_node.specs.NodeStates.{concerned_in}
use Rattle.dm_node.specs.Owning.{has, IsReowned}
use Rattle.dm_node.proofs.Owned.{changed, unchanged}
use Rattle.dm_node.proofs.owners.update_owners.Goals as goal

pub returns-then-not-is_holding_unchanged-clause-owned : goal.returns-then-not-is_holding_unchanged-clause-owned
returns-then-not-is_holding_unchanged-clause-owned c =
    λ ps qs apart holds is owned.
    changed ps qs c.in-Some.index c.args.before c.args.after (owners_of c.args.slots.now)
    (owners_of c.change_owners.new.slots) apart (subst (λ w. IsReowned ps qs w c.args.before) c.in-Some.is is)
    (subst (λ w. (d : Conn) → has c.args.after d ≡ holds_it d (concerned_in qs w)) c.in-Some.is holds) owned
    c.change_owners.ensures.owners

pub returns-else-not-is_holding_unchanged-clause-owned : goal.returns-else-not-is_holding_unchanged-clause-owned
returns-else-not-is_holding_unchanged-clause-owned c =
    λ ps qs apart holds is owned.
    unchanged ps qs c.in-Some.index c.args.before c.args.after (owners_of c.args.slots.now)
    (owners_of c.args.slots.now) apart (subst (λ w. IsReowned ps qs w c.args.before) c.in-Some.is is)
    (subst (λ w. (d : Conn) → has c.args.after d ≡ holds_it d (concerned_in qs w)) c.in-Some.is holds)
    (c.is_holding_unchanged.ensures c.if-not-is_holding_unchanged.false) owned refl
