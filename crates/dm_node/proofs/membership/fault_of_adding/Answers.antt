-- Who has the host is found.
use Rattle.std.proofs.Common.{Some, refl, sym, ap, ◌∙◌}
use Rattle.dm_base.specs.Before.{lower}
use Rattle.dm_node.proofs.membership.fault_of_adding.Goals as goal

pub returns-in-Some-clause-known : goal.returns-in-Some-clause-known
returns-in-Some-clause-known c =
    let same = ap (λ h. Some (lower h)) c.peer_host.ensures in
    (λ e. record { number = c.in-Some.field-0; named = c.in-Some.ensures.found ∙ same }, λ known. refl)

pub returns-in-None-clause-known : goal.returns-in-None-clause-known
returns-in-None-clause-known c =
    let same = ap (λ h. Some (lower h)) c.peer_host.ensures in
    (λ e. absurd (cc e), λ known. absurd (c.in-None.ensures.none known.number (known.named ∙ sym same)))
