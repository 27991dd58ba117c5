use Rattle.std.proofs.Common.{◌≡◌, ◌≤◌, length, map}
use Rattle.dm_grammar.specs.Readers.{behind_brace}
use Rattle.dm_grammar.specs.Told.{collect}
use Rattle.dm_grammar.specs.Views.{view_value, view_words}
use Rattle.dm_grammar.proofs.Values.{with_each}
use Rattle.dm_grammar.proofs.value.read_value_list.Given as goal

-- the values read, and what the rest tells
abbrev pub invariant-loop-more : goal.invariant-loop-more
invariant-loop-more l = record {
  shorter : length l.rest ≤ length l.tokens;
  tells : collect l.how (behind_brace l.list) (view_words l.tokens) ≡ with_each (map view_value l.found.items)
      (collect l.how (behind_brace l.more) (view_words l.rest));
}

abbrev pub decreases-loop-more : goal.decreases-loop-more
decreases-loop-more l = length l.rest
