-- The AVPs from here on decide: where one was named, by a 0 among them.
use Rattle.std.proofs.Common.{◌≡◌, List}
use Rattle.std.specs.List.{flat_map}
use Rattle.dm_wire.specs.declared.avp.Avp.{Avp}
use Rattle.dm_wire.specs.Borrowed.{Lists, size_of}
use Rattle.dm_base.specs.Common.{are_secure}
use Rattle.dm_base.specs.Kinds.{security_ids}
use Rattle.dm_base.proofs.Securing.{secure_from}
use Rattle.dm_base.proofs.caps_ref.allows_unsecured_connection.Given as goal

abbrev pub invariant-loop-avp : goal.invariant-loop-avp
invariant-loop-avp l =
    (all : List Avp) → Lists l.avps all
    → (m : List Avp) × Lists l.left m ×
    (are_secure (flat_map security_ids all) ≡ secure_from l.named (flat_map security_ids m))

abbrev pub decreases-loop-avp : goal.decreases-loop-avp
decreases-loop-avp l = size_of l.left
