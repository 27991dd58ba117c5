-- One more was put behind the others.
use Rattle.std.proofs.Common.{List, sym, subst, arith}
use Rattle.dm_association.specs.declared.tsn_state.TsnState.{TsnState}
use Rattle.dm_association.proofs.TsnSteps.{IsGrown, grown_more}
use Rattle.dm_association.proofs.tsns.grow_tsns.Goals as goal

pub missing-preserved : goal.missing-preserved
missing-preserved c =
    let P : List TsnState → Type 0 = λ l. IsGrown c.args.tsns.now.items l c.args.size in (
      subst P (sym {A = List TsnState} c.push_back_reserved.ensures.items)
          (grown_more c.args.tsns.now.items c.missing.tsns.items c.args.size c.missing.invariant.0 (omega arith)),
      omega arith,
    )
