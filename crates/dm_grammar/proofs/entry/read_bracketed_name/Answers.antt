use Rattle.std.proofs.Common.{◌≡◌, ap, sym, ◌∙◌}
use Rattle.dm_grammar.specs.declared.terminal.Terminal.TheVariants.{One}
use Rattle.dm_grammar.specs.Grammar.{by, steps_from}
use Rattle.dm_grammar.specs.Places.GrammarPlace.{InRule, High}
use Rattle.dm_grammar.specs.Places.TokenRole.{OpensEntry, EntryIs, NoPart}
use Rattle.dm_grammar.specs.Told.{filled, collect}
use Rattle.dm_grammar.specs.Views.{view_word, view_words}
use Rattle.dm_grammar.proofs.Entries.{open_place, name_place, open_step, open_end, close_step, close_end, opened, bracketed_entry}
use Rattle.dm_grammar.proofs.Exits.{handed_on}
use Rattle.dm_grammar.proofs.entry.read_bracketed_name.Goals as goal

pub returns-in_err-words-clause-tells : goal.returns-in_err-words-clause-tells
returns-in_err-words-clause-tells c =
    let form = c.in-Some-form_of_opening_bracket.form in
    let bracket = opened (view_word c.in-Some.open.now) c.args.how (view_words c.in-Some.rest.now) form
    (sym c.in-Some-form_of_opening_bracket.ensures) in
    let close : steps_from c.args.how.version (name_place form) ≡ by (One c.closing_bracket.result) InRule NoPart =
    rw c.closing_bracket.ensures
    (close_step c.args.how.version form) in
    handed_on _ _ c.from_residual.result _ c.from_residual.ensures.1
    (ap (λ ts. collect c.args.how High (view_words ts)) c.in-Some.ensures.cases.0 ∙ (bracket
    ∙ ap (filled OpensEntry (view_word c.in-Some.open.now))
    (c.in_err-words.ensures.tells (open_place form) (name_place form) InRule (EntryIs form) NoPart
    (open_step c.args.how.version form) (open_end form) close (close_end form))))

pub returns-clause-tells : goal.returns-clause-tells
returns-clause-tells c =
    let form = c.in-Some-form_of_opening_bracket.form in
    let words = c.in_ok-words.words in
    let bracket = opened (view_word c.in-Some.open.now) c.args.how (view_words c.in-Some.rest.now) form
    (sym c.in-Some-form_of_opening_bracket.ensures) in
    let close : steps_from c.args.how.version (name_place form) ≡ by (One c.closing_bracket.result) InRule NoPart =
    rw c.closing_bracket.ensures
    (close_step c.args.how.version form) in
    ap (λ ts. collect c.args.how High (view_words ts)) c.in-Some.ensures.cases.0 ∙ (bracket
    ∙ ap (filled OpensEntry (view_word c.in-Some.open.now))
    (c.in_ok-words.ensures.tells (open_place form) (name_place form) InRule (EntryIs form) NoPart
    (open_step c.args.how.version form) (open_end form) close (close_end form))
    ∙ bracketed_entry form (view_word c.in-Some.open.now) (view_word words.0) (view_word words.1)
    (collect c.args.how InRule (view_words c.in_ok-words.rest.now)))
