use Rattle.std.proofs.Common.{◌≡◌, ◌∷◌, ◌++◌, [], true, false, map, ap, sym, ◌∙◌, arith}
use Rattle.std.specs.Result.{is_ok}
use Rattle.std.proofs.lemmas.List.{map_push}
use Rattle.dm_grammar.specs.Readers.{behind_brace}
use Rattle.dm_grammar.specs.Told.{collect}
use Rattle.dm_grammar.specs.Views.{view_value, view_words}
use Rattle.dm_grammar.proofs.Values.{with_each, with_each-push, with_each-fault, values_read}
use Rattle.dm_grammar.proofs.value.read_value_list.Goals as goal

pub loop-more-preserved : goal.loop-more-preserved
loop-more-preserved c =
    let more : c.loop-more.more ≡ true = c.loop-more-test.true in
    let done : is_ok c.push.result ≡ true = sym c.in_ok-map_err-in-Ok.ensures.variant in
    let pushed : c.push.new.self.items ≡ c.loop-more.found.items ++ c.in-Ok.value ∷ [] =
    rw done at c.push.ensures.items in
    let before = rw more at c.loop-more.invariant.tells in
    record {
      shorter = rw c.same_tokens-rest.ensures (omega (arith, c.in-Ok.ensures.shorter));
      tells = rw (pushed, c.same_tokens-rest.ensures, map_push) (before
          ∙ (ap (with_each (map view_value c.loop-more.found.items)) c.in-Ok.ensures.tells
          ∙ sym (with_each-push (map view_value c.loop-more.found.items) (view_value c.in-Ok.value)
          (collect c.args.how (behind_brace c.in-Ok.goes_on) (view_words c.in-Ok.after.now)))));
    }

pub returns-in-Err-clause-tells : goal.returns-in-Err-clause-tells
returns-in-Err-clause-tells c =
    let more : c.loop-more.more ≡ true = c.loop-more-test.true in
    let before = rw more at c.loop-more.invariant.tells in
    before ∙ with_each-fault (map view_value c.loop-more.found.items) _ c.in-Err.line c.in-Err.ensures.tells

pub returns-clause-tells : goal.returns-clause-tells
returns-clause-tells c =
    let none : c.loop-more.more ≡ false = c.loop-more-test.false in
    let before = rw none at c.loop-more.invariant.tells in
    before ∙ values_read c.args.how (map view_value c.loop-more.found.items) (view_words c.loop-more.rest.now)
