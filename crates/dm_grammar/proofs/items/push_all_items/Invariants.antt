use Rattle.std.proofs.Common.{◌≡◌, length, map}
use Rattle.dm_grammar.specs.Places.GrammarPlace.{Text}
use Rattle.dm_grammar.specs.Told.{collect}
use Rattle.dm_grammar.specs.Views.{view_item, view_words}
use Rattle.dm_grammar.proofs.TextItems.{with_items}
use Rattle.dm_grammar.proofs.items.push_all_items.Given as goal

-- the items read, and what the rest tells
abbrev pub invariant-loop-rest : goal.invariant-loop-rest
invariant-loop-rest l =
    collect l.how Text (view_words l.tokens) ≡ with_items (map view_item l.found.items)
    (collect l.how Text (view_words l.rest))

abbrev pub decreases-loop-rest : goal.decreases-loop-rest
decreases-loop-rest l = length l.rest
