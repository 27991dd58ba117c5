-- The AVPs from here on decide.
use Rattle.std.proofs.Common.{◌≡◌, List}
use Rattle.std.specs.List.{list_any, flat_map}
use Rattle.dm_wire.specs.declared.avp.Avp.{Avp}
use Rattle.dm_wire.specs.Borrowed.{Lists, size_of}
use Rattle.dm_base.specs.Common.{is_own}
use Rattle.dm_base.specs.Kinds.{plain_ids}
use Rattle.dm_base.proofs.caps_ref.some_member_tells_common_id.Given as goal

abbrev pub invariant-loop-avp : goal.invariant-loop-avp
invariant-loop-avp l =
    (all : List Avp) → Lists l.avps all
    → (m : List Avp) × Lists l.left m ×
    (list_any (is_own l.auth l.acct l.specific) (flat_map plain_ids all) ≡ list_any (is_own l.auth l.acct l.specific) (flat_map plain_ids m))

abbrev pub decreases-loop-avp : goal.decreases-loop-avp
decreases-loop-avp l = size_of l.left
