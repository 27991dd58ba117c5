-- A URI that isn't misshapen is one; a group is its list.
use Rattle.std.proofs.Common.{◌≡◌, subst}
use Rattle.dm_wire.specs.Limits.{IsLongList}
use Rattle.dm_value.specs.Columns.{HasUriForm}
use Rattle.dm_value.proofs.Writable.{shaped_uri}
use Rattle.dm_value.proofs.write.encode_well_formed_value.Goals as goal

pub returns-in_ok-from_slice-in-Uri-clause-found : goal.returns-in_ok-from_slice-in-Uri-clause-found
returns-in_ok-from_slice-in-Uri-clause-found c =
    let shaped = rw c.in-Uri.is at c.requires in
    let same : c.in-Uri.uri ≡ c.in_ok-from_slice-in-Uri.field-0.items =
    cc (c.in_ok-from_slice-in-Uri.ensures.items, c.as_slice-in-Uri.ensures) in
    rw c.in-Uri.is (same, subst HasUriForm same (shaped_uri c.in-Uri.uri shaped))

pub returns-in-Group-clause-spelled : goal.returns-in-Group-clause-spelled
returns-in-Group-clause-spelled c =
    λ l e h.
    let same : c.in-Group.avps ≡ l = (cc) in
    subst IsLongList same (c.encode_group.ensures.spelled (rw c.in-Group.is at h))
