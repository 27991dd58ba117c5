use Rattle.std.proofs.Common.{◌≡◌, ◌+◌, ◌*◌, ℕ, List, ◌++◌, flat_map}
use Rattle.std.specs.Fmt.{HasWritten, IsPlainFormatter}
use Rattle.dm_wire.specs.declared.avp.Avp.{Avp}
use Rattle.dm_wire.specs.Borrowed.{Lists, size_of}
use Rattle.dm_view.specs.Described.{member_described, group_described}
use Rattle.dm_view.proofs.avp_description.+describing.Given as goal

abbrev pub decreases-write_spaced_avps_and_semicolons : goal.decreases-write_spaced_avps_and_semicolons
decreases-write_spaced_avps_and_semicolons g l = 4 * l.depth + 3

abbrev pub decreases-write_spaced_avp_and_semicolon : goal.decreases-write_spaced_avp_and_semicolon
decreases-write_spaced_avp_and_semicolon g l = 4 * l.depth + 2

abbrev pub decreases-write_avp : goal.decreases-write_avp
decreases-write_avp g l = 4 * l.depth + 1

abbrev pub decreases-write_spaced_group_data : goal.decreases-write_spaced_group_data
decreases-write_spaced_group_data g l = 4 * l.depth

-- what is left comes behind what is written so far
abbrev pub invariant-write_spaced_avps_and_semicolons-loop-avp : goal.invariant-write_spaced_avps_and_semicolons-loop-avp
invariant-write_spaced_avps_and_semicolons-loop-avp g l =
    (all : List Avp) → Lists l.list all → (m : List Avp) × Lists l.left m
    × (IsPlainFormatter l.fn.f → (done : List ℕ) × HasWritten g.W.Write.write_str_gives l.fn.f done l.f
    × (done ++ flat_map (member_described (group_described l.depth l.dictionary.avps) l.dictionary.avps) m
    ≡ flat_map (member_described (group_described l.depth l.dictionary.avps) l.dictionary.avps) all))

abbrev pub decreases-write_spaced_avps_and_semicolons-loop-avp : goal.decreases-write_spaced_avps_and_semicolons-loop-avp
decreases-write_spaced_avps_and_semicolons-loop-avp g l = size_of l.left
