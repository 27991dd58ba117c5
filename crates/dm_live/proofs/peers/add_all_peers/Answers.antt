use Rattle.std.proofs.Common.{◌≡◌, List, ℕ, ◌∷◌, Bor, ap, ◌∙◌, sym, subst}
use Rattle.std.proofs.lemmas.Result.{IfOk-at_ok, IfErr-at_err}
use Rattle.dm_node.specs.NodeSeen.{node_state_of}
use Rattle.dm_live.specs.Beginnings.{first_told}
use Rattle.dm_live.specs.Drafts.{settings_of}
use Rattle.dm_live.specs.Joining.{RefusesHost}
use Rattle.dm_live.proofs.Joining.{Joining, joining_more, joining_refused, unmet_more}
use Rattle.dm_live.proofs.peers.add_all_peers.Goals as goal

pub host-preserved : goal.host-preserved
host-preserved c =
    let s = settings_of c.args.draft.now in
    let t = node_state_of c.host.node in
    let host = c.as_slice.result.now in
    let more = c.in-Some.more.now in
    let Left : List (List ℕ) → Type 0 = λ v. Joining s v t in
    let left : c.host.rest.now ≡ host ∷ more =
    c.in-Some.ensures.cases.0 ∙ ap (λ v. v ∷ more) (sym c.as_slice.ensures) in
    let added = c.in_ok-name.ensures in
    let is = c.in_default-2.is in (
      joining_more s (first_told s.peers) c.args.template.now host more t (node_state_of c.add_peer.new.node)
          c.requires.made (subst Left left c.host.invariant.0) (IfOk-at_ok _ is added.added)
          (IfOk-at_ok _ is added.fit) (IfOk-at_ok _ is added.new),
      unmet_more _ _ c.host.invariant.1 (IfOk-at_ok _ is added.unmet),
    )

pub returns-in-Err-clause-fault : goal.returns-in-Err-clause-fault
returns-in-Err-clause-fault c =
    let s = settings_of c.args.draft.now in
    let t = node_state_of c.host.node in
    let host = c.as_slice.result.now in
    let more = c.in-Some.more.now in
    let Left : List (List ℕ) → Type 0 = λ v. Joining s v t in
    let left : c.host.rest.now ≡ host ∷ more =
    c.in-Some.ensures.cases.0 ∙ ap (λ v. v ∷ more) (sym c.as_slice.ensures) in
    let Refuses : Bor (List ℕ) → Type 0 = λ name. RefusesHost c.args.template.now.node.host t.peers host name.now in
    joining_refused s (first_told s.peers) c.args.template.now host c.in-Err.name.now more t c.requires.made
    (subst Left left c.host.invariant.0) (IfErr-at_err Refuses c.in-Err.is c.in_ok-name.ensures.fault)
