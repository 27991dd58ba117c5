use Rattle.std.proofs.Common.{◌≡◌, map, length, ap}
use Rattle.std.proofs.lemmas.Result.{err_from_is_err_and}
use Rattle.dm_grammar.specs.Views.{view_item}
use Rattle.dm_dict_text.specs.Meaning.{with_no_strays}
use Rattle.dm_tables.specs.Tables.{defined}
use Rattle.dm_dict_text.specs.Making.{making}
use Rattle.dm_dict_text.proofs.Reading.{item_stops, unknown_stops, added_here, within_here, theirs_here, faultless, closes}
use Rattle.dm_dict_text.proofs.text_to_tables.define_items_and_check_names.Goals as goal

pub returns-in_err-define_items-clause-fault : goal.returns-in_err-define_items-clause-fault
returns-in_err-define_items-clause-fault c =
    let p = err_from_is_err_and c.from_residual.result c.from_residual.ensures.1 in
    let same : making c.args.tables.now c.args.strays.now ≡ with_no_strays (defined c.args.old.now) =
    λ i. record { definitions = c.requires.copy i; strays = map (λ k. k.now) (c.requires.none i) } in
    rw (p.1, p.2)
    (item_stops (defined c.args.old.now) (map view_item c.args.items.now) (making c.args.tables.now c.args.strays.now)
    c.in_err-define_items.field-0.0 same c.in_err-define_items.ensures.fault)

pub first_unknown_in_items-requires-clause-within : goal.first_unknown_in_items-requires-clause-within
first_unknown_in_items-requires-clause-within c =
    let same : making c.args.tables.now c.args.strays.now ≡ with_no_strays (defined c.args.old.now) =
    λ i. record { definitions = c.requires.copy i; strays = map (λ k. k.now) (c.requires.none i) } in
    within_here (defined c.args.old.now) (map view_item c.args.items.now) (making c.args.tables.now c.args.strays.now)
    (making c.define_items.new.tables c.define_items.new.strays) same c.in_ok-define_items.ensures.good
    c.in_ok-define_items.ensures.added _ (ap length c.as_slice-vendors.ensures.value)

pub first_unknown_in_items-requires-clause-theirs : goal.first_unknown_in_items-requires-clause-theirs
first_unknown_in_items-requires-clause-theirs c =
    let same : making c.args.tables.now c.args.strays.now ≡ with_no_strays (defined c.args.old.now) =
    λ i. record { definitions = c.requires.copy i; strays = map (λ k. k.now) (c.requires.none i) } in
    theirs_here (defined c.args.old.now) (map view_item c.args.items.now) (making c.args.tables.now c.args.strays.now)
    (making c.define_items.new.tables c.define_items.new.strays) same c.in_ok-define_items.ensures.good
    c.in_ok-define_items.ensures.added _ (ap length c.as_slice-vendors.ensures.value)

pub returns-in-Some-clause-fault : goal.returns-in-Some-clause-fault
returns-in-Some-clause-fault c =
    let same : making c.args.tables.now c.args.strays.now ≡ with_no_strays (defined c.args.old.now) =
    λ i. record { definitions = c.requires.copy i; strays = map (λ k. k.now) (c.requires.none i) } in
    unknown_stops (defined c.args.old.now) (map view_item c.args.items.now)
    (making c.args.tables.now c.args.strays.now)
    (making c.define_items.new.tables c.define_items.new.strays) same c.in_ok-define_items.ensures.good
    c.in_ok-define_items.ensures.added _ (ap length c.as_slice-vendors.ensures.value) c.in-Some.fault
    c.in-Some.ensures

pub returns-in-None-clause-good : goal.returns-in-None-clause-good
returns-in-None-clause-good c =
    let same : making c.args.tables.now c.args.strays.now ≡ with_no_strays (defined c.args.old.now) =
    λ i. record { definitions = c.requires.copy i; strays = map (λ k. k.now) (c.requires.none i) } in
    faultless (defined c.args.old.now) (map view_item c.args.items.now) (making c.args.tables.now c.args.strays.now)
    (making c.define_items.new.tables c.define_items.new.strays) same c.in_ok-define_items.ensures.good
    c.in_ok-define_items.ensures.added _ (ap length c.as_slice-vendors.ensures.value) c.in-None.ensures

pub returns-in-None-clause-added : goal.returns-in-None-clause-added
returns-in-None-clause-added c =
    let same : making c.args.tables.now c.args.strays.now ≡ with_no_strays (defined c.args.old.now) =
    λ i. record { definitions = c.requires.copy i; strays = map (λ k. k.now) (c.requires.none i) } in
    added_here (defined c.args.old.now) (map view_item c.args.items.now) (making c.args.tables.now c.args.strays.now)
    (making c.define_items.new.tables c.define_items.new.strays) same c.in_ok-define_items.ensures.good
    c.in_ok-define_items.ensures.added

pub returns-in-None-clause-dictionary : goal.returns-in-None-clause-dictionary
returns-in-None-clause-dictionary c =
    let same : making c.args.tables.now c.args.strays.now ≡ with_no_strays (defined c.args.old.now) =
    λ i. record { definitions = c.requires.copy i; strays = map (λ k. k.now) (c.requires.none i) } in
    record {
      tables = c.in_ok-define_items.ensures.tables;
      closed = closes (defined c.args.old.now) (map view_item c.args.items.now)
          (making c.args.tables.now c.args.strays.now) (making c.define_items.new.tables c.define_items.new.strays) same
          c.in_ok-define_items.ensures.good c.in_ok-define_items.ensures.added _
          (ap length c.as_slice-vendors.ensures.value) c.in-None.ensures c.requires.old.closed;
    }
