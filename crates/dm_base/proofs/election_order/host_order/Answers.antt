-- The order of the texts decides.
use Rattle.std.proofs.Common.{sym, ◌∙◌}
use Rattle.dm_base.proofs.Orders.{less_precedes, precedes_less, greater_follows, follows_greater, equal_same, same_equal}
use Rattle.dm_base.proofs.election_order.host_order.Goals as goal

pub returns-clause-less : goal.returns-clause-less
returns-clause-less c = (
  λ e. less_precedes _ _ (sym c.compare_ignoring_case.ensures ∙ e),
  λ b. c.compare_ignoring_case.ensures ∙ precedes_less _ _ b,
)

pub returns-clause-greater : goal.returns-clause-greater
returns-clause-greater c = (
  λ e. greater_follows _ _ (sym c.compare_ignoring_case.ensures ∙ e),
  λ b. c.compare_ignoring_case.ensures ∙ follows_greater _ _ b,
)

pub returns-clause-equal : goal.returns-clause-equal
returns-clause-equal c = (
  λ e. equal_same _ _ (sym c.compare_ignoring_case.ensures ∙ e),
  λ s. c.compare_ignoring_case.ensures ∙ same_equal _ _ s,
)
