-- An AVP of which nothing is wanted is good.
use Rattle.std.proofs.Common.{◌≡◌, ◌∙◌, None, sym, refl, ap, slice_get}
use Rattle.std.specs.Option.{option_and_then}
use Rattle.dm_wire.specs.Borrowed.{avp_of}
use Rattle.dm_tables.specs.Definitions.{is_coded}
use Rattle.dm_dict.specs.Rules.{definition}
use Rattle.dm_dict.proofs.GoodBut.{one_passed}
use Rattle.dm_dict.proofs.Standing.{found}
use Rattle.dm_dict.proofs.passing.pass_unmarked_nonmandatory_avp.Goals as goal

pub returns-clause-passed : goal.returns-clause-passed
returns-clause-passed c = λ yes depth l m k before is.
    let avps = c.args.dictionary.now.tables.avps.items in
    let a = avp_of c.args.avp in
    let coded = is_coded c.args.avp.code c.args.avp.vendor in
    let none : definition avps a ≡ None =
    sym (ap (option_and_then (slice_get avps)) (c.is_code_unmarked.ensures.none c.if-not-is_code_unmarked.false c.args.avp.vendor)
    ∙ found coded avps) in
    one_passed depth avps c.args.rule.entries.now l m k a _ _ _ before is
    (rw (none, c.if-avp.false) refl) c.count_avp_at_entry.ensures.size c.count_avp_at_entry.ensures.counted
    c.pair_place_with_entry-any.ensures.counts
