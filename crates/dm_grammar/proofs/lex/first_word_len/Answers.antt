use Rattle.std.proofs.Common.{◌≡◌, ◌+◌, ◌∙◌, drop, ap, sym, arith}
use Rattle.std.proofs.lemmas.List.{length-drop, take_rest}
use Rattle.std.proofs.lemmas.List.Sums.{prefix_len-le-length}
use Rattle.std.specs.List.{prefix_len}
use Rattle.dm_grammar.specs.Symbols.{goes_on}
use Rattle.dm_grammar.proofs.WordRuns.{run_ends, run_goes_on}
use Rattle.dm_grammar.proofs.lex.first_word_len.Goals as goal

pub returns-then-run-lt16 : goal.returns-then-run-lt16
returns-then-run-lt16 c =
    let n = c.loop-n.n in
    ap (λ k. n + k) (sym (run_ends c.args.text.now n c.word_len_of_sixteen-run.result (omega arith) c.word_len_of_sixteen-run.ensures.value (omega arith)))
    ∙ c.loop-n.invariant.1

pub loop-n-preserved : goal.loop-n-preserved
loop-n-preserved c =
    let n = c.loop-n.n in
    let text = c.args.text.now in
    let (within, same) = c.loop-n.invariant in
    let whole : c.word_len_of_sixteen-run.result ≡ 16 =
    omega (arith, c.word_len_of_sixteen-run.ensures.within, c.if-run-lt16.false) in
    let goes = run_goes_on text n (omega arith) (sym whole ∙ c.word_len_of_sixteen-run.ensures.value) in
    rw whole (omega arith, omega (arith, goes, same))

pub overflow_add-result : goal.overflow_add-result
overflow_add-result c =
    let n = c.loop-n.n in
    let text = c.args.text.now in
    let len : c.word_len_of_few.result ≡ prefix_len goes_on (drop n text) = rw take_rest at c.word_len_of_few.ensures in
    omega (arith, len, prefix_len-le-length goes_on (drop n text), length-drop n text)
