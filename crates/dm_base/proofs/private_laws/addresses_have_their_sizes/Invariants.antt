-- The addresses so far are.
use Rattle.std.proofs.Common.{◌≡◌, true, take}
use Rattle.std.specs.List.{list_all}
use Rattle.dm_base.specs.Fit.{is_sized}
use Rattle.dm_base.proofs.private_laws.addresses_have_their_sizes.Given as goal

abbrev pub invariant-loop-ip : goal.invariant-loop-ip
invariant-loop-ip l = list_all is_sized (take l.ip-index l.addresses) ≡ true
