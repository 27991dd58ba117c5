-- The chunk completes no message, and waits.
use Rattle.std.proofs.Common.{List, ap, subst}
use Rattle.dm_association.specs.declared.tsn_state.TsnState.{TsnState}
use Rattle.dm_association.specs.TsnWindows.{TsnWindowState, CompletesNone}
use Rattle.dm_association.proofs.tsn_window.TsnWindow.take_chunk_at.Goals as goal

pub returns-in_ok-hold_fragment-in-None-clause-none : goal.returns-in_ok-hold_fragment-in-None-clause-none
returns-in_ok-hold_fragment-in-None-clause-none c =
    let P : List TsnState → Type 0 = λ l. CompletesNone l c.args.at c.args.own in
    record {
      part = subst P (ap (λ (w : TsnWindowState). w.tsns) c.self.view_is) c.in-None.ensures.none;
      puts = c.in_ok-hold_fragment-in-None.ensures.held;
    }
