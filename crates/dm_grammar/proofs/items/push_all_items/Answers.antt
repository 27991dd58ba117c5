use Rattle.std.proofs.Common.{◌≡◌, [], map, ap, sym, ◌∙◌, arith}
use Rattle.std.proofs.lemmas.Bool.Decides.{nat_tests}
use Rattle.std.proofs.lemmas.List.{map_push, nil_from_length}
use Rattle.dm_grammar.specs.Places.GrammarPlace.{Text}
use Rattle.dm_grammar.specs.Told.{collect}
use Rattle.dm_grammar.specs.Views.{view_item, view_words}
use Rattle.dm_grammar.proofs.Exits.{handed_on}
use Rattle.dm_grammar.proofs.TextItems.{with_items, with_items-push, fault_through, all_read}
use Rattle.dm_grammar.proofs.items.push_all_items.Goals as goal

pub returns-in_err-after-clause-fault : goal.returns-in_err-after-clause-fault
returns-in_err-after-clause-fault c =
    handed_on _ _ c.from_residual.result _ c.from_residual.ensures.1
    (fault_through (map view_item c.loop-rest.found.items) (collect c.args.how Text (view_words c.args.tokens.now))
    (collect c.args.how Text (view_words c.loop-rest.rest.now)) c.in_err-after.field-0.0 c.loop-rest.invariant
    c.in_err-after.ensures.tells)

pub loop-rest-preserved : goal.loop-rest-preserved
loop-rest-preserved c =
    let one = c.in_ok-after.ensures.tells in
    rw (one.1.0, c.same_tokens-rest.ensures, map_push) (c.loop-rest.invariant
    ∙ (ap (with_items (map view_item c.loop-rest.found.items)) one.1.1
    ∙ sym (with_items-push (map view_item c.loop-rest.found.items) (view_item one.0)
    (collect c.args.how Text (view_words c.in_ok-after.after.now)))))

pub returns-clause-items : goal.returns-clause-items
returns-clause-items c =
    let none : c.loop-rest.rest.now ≡ [] = nil_from_length c.loop-rest.rest.now (grind (arith, nat_tests)) in
    all_read c.args.how (map view_item c.loop-rest.found.items)
    (collect c.args.how Text (view_words c.args.tokens.now)) (view_words c.loop-rest.rest.now)
    (ap view_words none) c.loop-rest.invariant
