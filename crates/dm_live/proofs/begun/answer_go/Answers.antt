use Rattle.std.proofs.Common.{◌≡◌, ◌++◌, List, ℕ, Result, Ok, Err, IfOk, true, refl, subst, sym}
use Rattle.std.proofs.lemmas.Result.{IfOk-at_ok}
use Rattle.std.specs.Result.{is_ok, result_and}
use Rattle.std.specs.String.{string_bytes}
use Rattle.dm_node.specs.declared.node.Node.{Node}
use Rattle.dm_node.specs.NodeSeen.{node_state_of, node_known_of}
use Rattle.dm_live.specs.declared.begun.Begun.{Begun}
use Rattle.dm_live.specs.declared.begun.Begun.TheVariants as variants
use Rattle.dm_live.specs.Beginnings.{BeginsForHosts, AreUnmet}
use Rattle.dm_live.specs.Drafts.{settings_of}
use Rattle.dm_live.specs.Served.{ready_answer}
use Rattle.dm_live.specs.Stages.{IsBegun}
use Rattle.dm_live.proofs.begun.answer_go.Goals as goal

-- of a value that is handed on where a step was done
and-holds : {S T E : Type 0} (P : T → Type 0) (done : Result S E) (v : T) (r : Result T E)
    → r ≡ result_and done (Ok v) → (is_ok done ≡ true → P v) → IfOk r P
and-holds P (Ok s) v r is holds = subst (λ w. IfOk w P) (sym is) (holds refl)
and-holds P (Err e) v r is holds = subst (λ w. IfOk w P) (sym is) tt

pub returns-in-Ok : goal.returns-in-Ok
returns-in-Ok c =
    let s = settings_of c.args.draft.now in
    let IsSo : Node → Type 0 = λ node. BeginsForHosts s s.peers (node_state_of node) in
    let IsNew : Node → Type 0 = λ node. AreUnmet (node_known_of node) in
    let begun = IfOk-at_ok IsSo c.in-Ok.is c.in_ok-node.ensures.begun in
    let unmet = IfOk-at_ok IsNew c.in-Ok.is c.in_ok-node.ensures.unmet in
    let good = IfOk-at_ok _ c.in-Ok.is c.in_ok-node.ensures.good in
    let Said : Begun → Type 0 = λ b. (x : List ℕ) × IsBegun c.args.number s b x
    × string_bytes c.push_str.new.self ≡ string_bytes c.args.text.now ++ x in
    and-holds Said c.push_str.result (variants.Running c.form.result c.in-Ok.node) _ c.and.ensures
    (λ done. (
      ready_answer,
      (good, c.form.ensures, record { node = begun; unmet = unmet }, refl),
      (rw done at c.push_str.ensures.bytes),
    ))
