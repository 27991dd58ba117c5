-- What is appended and what is left are the whole, and what is left has a spelling.
use Rattle.std.proofs.Common.{◌≡◌, ◌++◌, ℕ, List, length}
use Rattle.dm_wire.specs.Spelling.{SpellsList}
use Rattle.dm_wire.specs.Canonical.{canonical_list}
use Rattle.dm_wire.proofs.avp_and_header_octets.push_avp_list.Given as goal

abbrev pub invariant-loop-left : goal.invariant-loop-left
invariant-loop-left l =
    record {
      put : l.out.items ++ canonical_list l.left ≡ l.fn.out.items ++ canonical_list l.avps;
      fits : (s : List ℕ) × SpellsList l.left s;
    }

abbrev pub decreases-loop-left : goal.decreases-loop-left
decreases-loop-left l = length l.left
