-- Nobody holds anything.
use Rattle.std.proofs.Common.{true≢false, refl, sym, ap, subst}
use Rattle.dm_slots.specs.Held.{intakes_of, owners_of}
use Rattle.dm_node.specs.NodeHeld.{AreRaised}
use Rattle.dm_node.specs.Owning.{AreOwned}
use Rattle.dm_node.proofs.Owned.{none_owned}
use Rattle.dm_node.proofs.node.Node.new.Goals as goal

pub invariant_of-result-clause-owned : goal.invariant_of-result-clause-owned
invariant_of-result-clause-owned c =
    subst (AreOwned (owners_of c.new-3.result)) (sym c.new.ensures)
    (none_owned _ (owners_of c.new-3.result) (λ d i. refl) (λ d. ap (λ f. f d) c.new-3.ensures.owners))

pub invariant_of-result-clause-raised : goal.invariant_of-result-clause-raised
invariant_of-result-clause-raised c =
    subst (λ ps. AreRaised c.args.most ps (intakes_of c.new-3.result)) (sym c.new.ensures)
    (λ i d stands. absurd (true≢false (sym stands)))
