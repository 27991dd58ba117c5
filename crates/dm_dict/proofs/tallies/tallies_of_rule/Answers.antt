-- What is counted is kept.
use Rattle.std.proofs.Common.{◌≡◌, length, drop, rules}
use Rattle.std.proofs.Math.Seq.{take-append_seam}
use Rattle.dm_dict.proofs.tallies.tallies_of_rule.Goals as goal

pub returns-clause-tallied : goal.returns-clause-tallied
returns-clause-tallied c = λ l is.
    let new = c.tally_avps.new.tallies in
    let size : c.in_ok-tallies.tallies.len ≡ length c.tally_avps.new.tallies = search rules in
    rw (size, take-append_seam new (drop (length new) c.in_ok-tallies.tallies.items))
    (c.tally_avps.ensures.tallied l is (rw c.as_mut_slice.ensures.value (c.in_ok-tallies.ensures.tallied _ l)))
