use Rattle.std.proofs.Common.{◌∙◌, sym, nat_lt}
use Rattle.std.proofs.lemmas.Bool.{lt-ltb, le-ltb}
use Rattle.dm_grammar.specs.Views.{view_entry}
use Rattle.dm_tables.specs.Forms.{form_number}
use Rattle.dm_dict_text.proofs.EntryFaults.{duplicate_stops, order_stops, no_entry_fault}
use Rattle.dm_dict_text.proofs.entries.Entries.check_entry.Goals as goal

pub returns-then-has_name-clause-fault : goal.returns-then-has_name-clause-fault
returns-then-has_name-clause-fault c =
    duplicate_stops c.args.self.now.entries.items (view_entry c.args.item.now) c.in_ok-range.ensures.good
    (sym c.has_name.ensures ∙ c.if-has_name.true)

pub returns-then-form_rank-clause-fault : goal.returns-then-form_rank-clause-fault
returns-then-form_rank-clause-fault c =
    order_stops c.args.self.now.entries.items (view_entry c.args.item.now) c.in_ok-range.ensures.good
    (sym c.has_name.ensures ∙ c.if-has_name.false)
    (c.requires.reached (form_number c.args.item.now.form) ∙
    (λ i. nat_lt (sym c.form_rank.ensures i) (sym c.form_rank-2.ensures i)) ∙ lt-ltb _ _ c.if-form_rank.true)

pub returns-clause-good : goal.returns-clause-good
returns-clause-good c =
    no_entry_fault c.args.self.now.entries.items (view_entry c.args.item.now) c.in_ok-range.ensures.good
    (sym c.has_name.ensures ∙ c.if-has_name.false)
    (c.requires.reached (form_number c.args.item.now.form) ∙
    (λ i. nat_lt (sym c.form_rank.ensures i) (sym c.form_rank-2.ensures i)) ∙ le-ltb _ _ c.if-form_rank.false)
