use Rattle.std.proofs.Common.{◌≡◌, ◌≤◌, ◌*◌, take}
use Rattle.std.specs.List.{count_by}
use Rattle.dm_grammar.specs.Symbols.{is_line_feed}
use Rattle.dm_grammar.proofs.lex.count_line_feeds_by_sixteens.Given as goal

abbrev pub invariant-runs : goal.invariant-runs
invariant-runs l = (l.count ≡ count_by is_line_feed (take (16 * l.k) l.text)) × (l.count ≤ 16 * l.k)
