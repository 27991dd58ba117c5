use Rattle.std.proofs.Common.{◌≡◌, ◌∙◌, sym, false}
use Rattle.std.specs.List.{list_any}
use Rattle.dm_tables.specs.Definitions.{is_named}
use Rattle.dm_dict_text.proofs.checks.is_avp_defined.Goals as goal

pub returns-else-has_avp_by_own_name_guesses : goal.returns-else-has_avp_by_own_name_guesses
returns-else-has_avp_by_own_name_guesses c =
    let none : list_any (is_named c.args.name.now) c.args.tables.now.avps.items ≡ false =
    sym c.has_avp_by_own_name_guesses.ensures ∙ c.if-has_avp_by_own_name_guesses.false in
    rw none c.is_stray.ensures
