-- The AVPs so far have a spelling, or one is too long; they take so many octets.
use Rattle.std.proofs.Common.{◌≡◌, ◌<◌, ◌≤◌, ◌%◌, ◌^◌, length, take}
use Rattle.dm_wire.specs.Spelling.{SpellsList}
use Rattle.dm_wire.specs.Canonical.{canonical_list}
use Rattle.dm_wire.specs.Limits.{IsLongList}
use Rattle.dm_wire.proofs.size.wrapping_avp_list_size.Given as goal

abbrev pub invariant-loop-avp : goal.invariant-loop-avp
invariant-loop-avp l =
    record {
      few : l.long ≤ l.avp-index;
      spelled : l.long ≡ 0 → SpellsList (take l.avp-index l.avps) (canonical_list (take l.avp-index l.avps));
      long : 0 < l.long → IsLongList l.avps;
      size : l.size ≡ length (canonical_list (take l.avp-index l.avps)) % 2 ^ 64;
    }
