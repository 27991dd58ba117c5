use Rattle.std.proofs.Common.{None, ap, ◌∙◌, if◌then◌else◌}
use Rattle.dm_node.specs.Naming.{is_host, noted_number}
use Rattle.dm_node.proofs.Keyed.{found_updated}
use Rattle.dm_node.proofs.hosts.Hosts.forget_host.Goals as goal

pub returns-in-Some : goal.returns-in-Some
returns-in-Some c = λ h.
    found_updated c.args.self.now.map c.swap_remove.new.self c.as_slice.result.now None c.swap_remove.ensures.updates h
    ∙ ap (λ g. if is_host g h then None else noted_number c.args.self.now h)
    (c.as_slice.ensures.value ∙ c.in-Some.ensures.lower)
