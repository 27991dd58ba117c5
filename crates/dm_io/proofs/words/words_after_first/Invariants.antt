use Rattle.std.proofs.Common.{◌≡◌, ◌++◌, drop}
use Rattle.std.specs.Vec.Iter.{into_iter_items}
use Rattle.dm_io.proofs.words.words_after_first.Given as goal

-- what is kept and what is left are all words but the first
abbrev pub invariant-loop-word : goal.invariant-loop-word
invariant-loop-word l = drop 1 (into_iter_items l.fn.words) ≡ l.kept.items ++ into_iter_items l.word-iterator
