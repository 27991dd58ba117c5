use Rattle.std.proofs.Common.{◌*◌, ◌/◌, ◌+◌, ◌∙◌, ◌-◌, length, take, drop, ap, arith}
use Rattle.std.proofs.lemmas.List.{length-drop, take_all}
use Rattle.std.specs.List.{count_by}
use Rattle.dm_grammar.specs.Symbols.{is_line_feed}
use Rattle.dm_grammar.proofs.Feeds.{feeds_apart}
use Rattle.dm_grammar.proofs.lex.count_line_feeds.Goals as goal

pub returns-clause-value : goal.returns-clause-value
returns-clause-value c =
    let text = c.args.text.now in
    let behind = 16 * (length text / 16) in
    let rest = drop behind text in
    let all = take_all (length text - behind) rest (omega (arith, length-drop behind text)) in
    ap (λ n. n + c.count_line_feeds_in_few.result) c.count_line_feeds_by_sixteens.ensures.value
    ∙ ap (λ n. count_by is_line_feed (take behind text) + n) (c.count_line_feeds_in_few.ensures.value ∙ ap (count_by is_line_feed) all)
    ∙ feeds_apart text behind
