-- The configured peer isn't the node itself.
use Rattle.std.proofs.Common.{◌≡◌, false, None, sym, subst, ◌∙◌}
use Rattle.dm_peer.specs.Hosts.{is_same_host, config_fault}
use Rattle.dm_peer.proofs.Owning.{not_own}
use Rattle.dm_peer.proofs.config.Config.new.Goals as goal

pub invariant_of-result-clause-other_host : goal.invariant_of-result-clause-other_host
invariant_of-result-clause-other_host c =
    let none : config_fault c.host.result.now c.as_slice.result.now ≡ None =
    sym c.fault_of_peer_host.ensures ∙ c.in_default.is in
    let own : is_same_host c.host.result.now c.as_slice.result.now ≡ false =
    not_own c.host.result.now c.as_slice.result.now none in
    let here : is_same_host c.args.node.host c.as_slice.result.now ≡ false =
    subst (λ h. is_same_host h c.as_slice.result.now ≡ false) c.host.ensures own in
    let there : is_same_host c.args.node.host c.args.peer.items ≡ false =
    subst (λ p. is_same_host c.args.node.host p ≡ false) c.as_slice.ensures.value here in
    subst (λ p. is_same_host c.args.node.host p ≡ false) (sym c.from_vec.ensures) there
