use Rattle.std.proofs.Common.{◌≡◌, ◌∷◌, ◌++◌, [], true, false, map, ap, sym, ◌∙◌, arith}
use Rattle.std.specs.Result.{is_ok}
use Rattle.std.proofs.lemmas.List.{map_push}
use Rattle.dm_grammar.specs.Places.GrammarPlace.{InRule, Text}
use Rattle.dm_grammar.specs.Readers.{begins_entry}
use Rattle.dm_grammar.specs.Told.{collect}
use Rattle.dm_grammar.specs.Views.{view_entry, view_words}
use Rattle.dm_grammar.proofs.Plain.{plain}
use Rattle.dm_grammar.proofs.RuleEntries.{with_entries, with_entries-push, with_entries-fault, with_entries-rule}
use Rattle.dm_grammar.proofs.Rules.{no_entry}
use Rattle.dm_grammar.proofs.rule.read_rule.Goals as goal

pub loop-how-preserved : goal.loop-how-preserved
loop-how-preserved c =
    let done : is_ok c.push.result ≡ true = sym c.in_ok-map_err-in-Ok.ensures.variant in
    let pushed : c.push.new.self.items ≡ c.loop-how.entries.items ++ c.in-Ok.entry ∷ [] =
    rw done at c.push.ensures.items in
    record {
      shorter = rw c.same_tokens-rest.ensures (omega (arith, c.in-Ok.ensures.shorter));
      tells = rw (pushed, c.same_tokens-rest.ensures, map_push) (c.loop-how.invariant.tells
          ∙ (ap (with_entries (map view_entry c.loop-how.entries.items)) c.in-Ok.ensures.tells
          ∙ sym (with_entries-push (map view_entry c.loop-how.entries.items) (view_entry c.in-Ok.entry)
          (collect c.args.how InRule (view_words c.in-Ok.after.now)))));
    }

pub returns-in-Err-clause-tells : goal.returns-in-Err-clause-tells
returns-in-Err-clause-tells c =
    c.loop-how.invariant.tells ∙ with_entries-fault (map view_entry c.loop-how.entries.items)
    (collect c.args.how InRule (view_words c.loop-how.rest.now)) c.in-Err.line c.in-Err.ensures.tells

pub returns-clause-tells : goal.returns-clause-tells
returns-clause-tells c =
    let none : begins_entry (view_words c.loop-how.rest.now) ≡ false = cc in
    c.loop-how.invariant.tells
    ∙ (ap (with_entries (map view_entry c.loop-how.entries.items))
    (no_entry c.args.how (view_words c.loop-how.rest.now) none)
    ∙ with_entries-rule (map view_entry c.loop-how.entries.items)
    (collect c.args.how Text (view_words c.loop-how.rest.now)) (plain c.args.how (view_words c.loop-how.rest.now)))
