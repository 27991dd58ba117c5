use Rattle.std.proofs.Common.{◌≡◌, ◌<◌, ℕ, List, length, slice_index_or}
use Rattle.dm_wire.specs.declared.avp.Avp.{Avp}
use Rattle.dm_tables.specs.declared.rule.Entry.{Entry}
use Rattle.dm_dict.specs.declared.tallies.Tally.{Tally}
use Rattle.dm_dict.specs.Tallies.{IsTally}
use Rattle.dm_dict.proofs.tallies.empty_tallies.Given as goal

abbrev pub invariant-loop-entry : goal.invariant-loop-entry
invariant-loop-entry l =
    (length l.tallies.items ≡ l.entry-index)
    × ((i : ℕ) (e : Entry) (t : Tally) (m : List Avp) → i < l.entry-index
    → e ≡ slice_index_or l.entries i e → t ≡ slice_index_or l.tallies.items i t → IsTally e m m t)
