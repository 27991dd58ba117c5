use Rattle.std.proofs.Common.{slice_index_or, ◌≡◌, ◌<◌, ◌+◌, drop, ◌-◌, false, arith, sym, refl, ◌∙◌}
use Rattle.std.specs.List.{prefix_len}
use Rattle.std.proofs.lemmas.Grind.{common_steps}
use Rattle.std.proofs.lemmas.List.{take_rest}
use Rattle.dm_grammar.specs.Symbols.{not_line_end, is_space}
use Rattle.dm_grammar.specs.Tokens.{lexeme_of}
use Rattle.dm_grammar.proofs.Scan.{comment_at, token_at}
use Rattle.dm_grammar.proofs.lex.next_token.Goals as goal

pub loop-at-preserved : goal.loop-at-preserved
loop-at-preserved c =
    let len : c.len_before_line_feed-at.result ≡ prefix_len not_line_end
    (drop c.loop-at.at c.args.text.now) = rw take_rest at c.len_before_line_feed-at.ensures.value in
    record {
      within = omega arith;
      ahead = omega arith;
      lines = omega arith;
      same = rw len (sym (comment_at c.args.text.now c.loop-at.at c.loop-at.line c.loop-at-test.true
          c.if-first-eq59.true) ∙ c.loop-at.invariant.same);
    }

pub returns-else-first-eq59-clause-next : goal.returns-else-first-eq59-clause-next
returns-else-first-eq59-clause-next c =
    let lex : c.first_symbol_and_len-symbol.result ≡ lexeme_of
    (drop c.loop-at.at c.args.text.now) = rw take_rest at c.first_symbol_and_len-symbol.ensures.value in
    let space : is_space (slice_index_or c.args.text.now c.loop-at.at 0) ≡ false = grind (arith, common_steps) in
    let some : 0 < (lexeme_of (drop c.loop-at.at c.args.text.now)).1 = rw (← lex) c.first_symbol_and_len-symbol.ensures.some in
    let len : c.loop-at.at + c.first_symbol_and_len-symbol.result.1 - c.loop-at.at ≡ c.first_symbol_and_len-symbol.result.1 =
    omega arith in
    sym c.loop-at.invariant.same
    ∙ (token_at c.args.text.now c.loop-at.at c.loop-at.line c.loop-at-test.true c.if-first-eq10.false space
    c.if-first-eq59.false some
    ∙ rw (len, lex) refl)
