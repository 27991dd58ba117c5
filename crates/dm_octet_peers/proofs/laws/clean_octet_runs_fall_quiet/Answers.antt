use Rattle.dm_octet_peers.specs.Octets.{octet_peers}
use Rattle.dm_octet_peers.specs.Talking.{octet_talks}
use Rattle.dm_octet_peers.proofs.AtRest.{are_at_rest}
use Rattle.dm_octet_peers.proofs.laws.clean_octet_runs_fall_quiet.Goals as goal

pub returns : goal.returns
returns c =
    λ w sound peers closed hs clean.
    let a = w.a.config in
    let b = w.b.config in
    c.clean_runs_fall_quiet.ensures octet_peers (octet_talks a b)
    (c.paired_octet_peers_hear_and_elect.ensures a b peers.paired) w (are_at_rest w sound peers closed) hs clean
