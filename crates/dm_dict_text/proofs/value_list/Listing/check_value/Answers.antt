use Rattle.std.proofs.Common.{◌≡◌, ◌<◌, unsigned_abs, arith, ◌∙◌, sym, inr, false, ap}
use Rattle.std.proofs.lemmas.Result.{err_from_is_err_and}
use Rattle.std.proofs.lemmas.Int.{to_z-of_z, fits_signed_from_abs}
use Rattle.std.specs.Int.{cast_signed, cast_unsigned, w32}
use Rattle.std.specs.List.{list_any}
use Rattle.dm_grammar.specs.Views.{view_value}
use Rattle.dm_tables.specs.Listed.{has_number}
use Rattle.dm_tables.specs.Sound.{is_value}
use Rattle.dm_dict_text.proofs.ListFaults.{name_stops, range_stops, number_stops, no_value_fault}
use Rattle.dm_dict_text.proofs.value_list.Listing.check_value.Goals as goal

pub returns-then-has_name-clause-fault : goal.returns-then-has_name-clause-fault
returns-then-has_name-clause-fault c =
    name_stops c.args.self.now.values.items (view_value c.args.item.now)
    (sym c.has_name.ensures ∙ c.if-has_name.true)

pub returns-in_err-number_of_digit_word-clause-fault : goal.returns-in_err-number_of_digit_word-clause-fault
returns-in_err-number_of_digit_word-clause-fault c =
    let p = err_from_is_err_and c.from_residual.result c.from_residual.ensures.1 in
    let new : list_any (is_value c.args.item.now.name.text.now) c.args.self.now.values.items ≡ false =
    sym c.has_name.ensures ∙ c.if-has_name.false in
    rw (p.1, p.2)
    (range_stops c.args.self.now.values.items (view_value c.args.item.now) c.in_err-number_of_digit_word.field-0.0 new
    (inr c.in_err-number_of_digit_word.ensures.fault))

pub returns-then-has_number-clause-fault : goal.returns-then-has_number-clause-fault
returns-then-has_number-clause-fault c =
    let new : list_any (is_value c.args.item.now.name.text.now) c.args.self.now.values.items ≡ false =
    sym c.has_name.ensures ∙ c.if-has_name.false in
    let small = c.in_ok-number_of_digit_word.ensures.small in
    let number_less : c.in_ok-number_of_digit_word.field-0 < 2147483648 = omega arith in
    let less : unsigned_abs c.signed_value_number-number.result < 2147483648 = rw c.signed_value_number-number.ensures number_less in
    let same : cast_signed w32 (cast_unsigned w32 c.signed_value_number-number.result) ≡ c.signed_value_number-number.result =
    to_z-of_z w32 c.signed_value_number-number.result (fits_signed_from_abs w32 c.signed_value_number-number.result less) in
    let told : c.has_number.result ≡ list_any (has_number c.signed_value_number-number.result) c.args.self.now.values.items =
    c.has_number.ensures ∙ ap (λ z. list_any (has_number z) c.args.self.now.values.items) same in
    number_stops c.args.self.now.values.items (view_value c.args.item.now) new c.in_ok-number_of_digit_word.ensures.good
    (rw (← c.in_ok-number_of_digit_word.ensures.value, ← c.signed_value_number-number.ensures)
    (sym told ∙ c.if-has_number.true))

pub returns-clause-good : goal.returns-clause-good
returns-clause-good c =
    let new : list_any (is_value c.args.item.now.name.text.now) c.args.self.now.values.items ≡ false =
    sym c.has_name.ensures ∙ c.if-has_name.false in
    let small = c.in_ok-number_of_digit_word.ensures.small in
    let number_less : c.in_ok-number_of_digit_word.field-0 < 2147483648 = omega arith in
    let less : unsigned_abs c.signed_value_number-number.result < 2147483648 = rw c.signed_value_number-number.ensures number_less in
    let same : cast_signed w32 (cast_unsigned w32 c.signed_value_number-number.result) ≡ c.signed_value_number-number.result =
    to_z-of_z w32 c.signed_value_number-number.result (fits_signed_from_abs w32 c.signed_value_number-number.result less) in
    let told : c.has_number.result ≡ list_any (has_number c.signed_value_number-number.result) c.args.self.now.values.items =
    c.has_number.ensures ∙ ap (λ z. list_any (has_number z) c.args.self.now.values.items) same in
    no_value_fault c.args.self.now.values.items (view_value c.args.item.now) new c.in_ok-number_of_digit_word.ensures.good
    (rw (← c.in_ok-number_of_digit_word.ensures.value, ← c.signed_value_number-number.ensures)
    (sym told ∙ c.if-has_number.false))
