use Rattle.std.proofs.Common.{◌≡◌, ◌∙◌, ◌++◌, sym, ap, subst, List, ℕ}
use Rattle.dm_tables.specs.Definitions.{nothing_defined}
use Rattle.dm_tables.specs.Tables.{defined}
use Rattle.dm_dict_text.specs.Printed.{printed}
use Rattle.dm_dict_text.specs.Outcome.{Defines}
use Rattle.dm_dict_text.proofs.RoundTrip.{printed_again}
use Rattle.dm_dict_text.proofs.tables_to_text.print_tables.Goals as goal

pub returns-clause-again : goal.returns-clause-again
returns-clause-again c =
    let d = defined c.args.tables.now in
    let text : c.push_tables.new.text.items ≡ printed d =
    c.in_ok-push_tables.ensures ∙ ap (λ t. t ++ printed d) c.new-text.ensures.items in
    subst (λ (t : List ℕ). Defines t nothing_defined d) (sym text)
    (printed_again c.words_not_all_digits_are_names.ensures.name d c.requires.tables.sound c.requires.closed)
