-- A URI with no flaw is one.
use Rattle.dm_value.proofs.Flawed.{uri_from_none}
use Rattle.dm_value.proofs.read.read_faultless_value.Goals as goal

pub returns-in_ok-from_slice-in-DiameterURI-clause-found : goal.returns-in_ok-from_slice-in-DiameterURI-clause-found
returns-in_ok-from_slice-in-DiameterURI-clause-found c =
    let sound = rw c.in-DiameterURI.is at c.requires in
    rw c.in-DiameterURI.is (c.in_ok-from_slice-in-DiameterURI.ensures, uri_from_none c.args.octets.now sound)
