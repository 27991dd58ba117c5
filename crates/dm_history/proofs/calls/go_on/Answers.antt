use Rattle.std.proofs.Common.{◌∷◌, sym, subst}
use Rattle.std.proofs.lemmas.Result.{IfOk-weaker, on_err_weaker}
use Rattle.dm_peer.specs.declared.peer.Peer.{Peer}
use Rattle.dm_peer.specs.Events.{event_told}
use Rattle.dm_history.specs.History.{Became, done, declined, declined_at}
use Rattle.dm_history.proofs.calls.go_on.Goals as goal

pub returns-clause-done : goal.returns-clause-done
returns-clause-done c =
    IfOk-weaker c.on.result _ _
    (λ actions is first past lived.
    done past c.args.peer.now (event_told c.args.event) actions.items c.on.new.self lived is) c.on.ensures.acts

pub returns-clause-declined : goal.returns-clause-declined
returns-clause-declined c =
    on_err_weaker c.on.result
    (λ same first past lived.
    subst (λ (q : Peer). Became first (declined_at (event_told c.args.event) ∷ past) q) (sym same)
    (declined past c.args.peer.now (event_told c.args.event) lived)) c.on.ensures.unchanged
