use Rattle.std.proofs.Common.{Some, ap, ◌∙◌, if◌then◌else◌}
use Rattle.dm_node.specs.Naming.{is_host, noted_number}
use Rattle.dm_node.proofs.Keyed.{found_updated}
use Rattle.dm_node.proofs.hosts.Hosts.note_host_in_lower_case.Goals as goal

pub returns-clause-noted : goal.returns-clause-noted
returns-clause-noted c = λ h.
    found_updated c.args.self.now.map c.insert.new.self c.in_ok-key.key.items (Some c.args.index)
    c.in_ok-insert.ensures.updates h
    ∙ ap (λ g. if is_host g h then Some c.args.index else noted_number c.args.self.now h) c.in_ok-key.ensures.items
