-- A value has no octets just where it is misshapen or a member is too long.
use Rattle.std.proofs.Common.{refl, sym, ◌∙◌}
use Rattle.std.proofs.lemmas.Bool.{false≢true}
use Rattle.dm_value.proofs.Meanings.{only_one}
use Rattle.dm_value.proofs.Writable.{value_of_misshapen, value_of_shaped}
use Rattle.dm_value.proofs.write.write_value.Goals as goal

pub returns-then-is_misshapen-clause-value : goal.returns-then-is_misshapen-clause-value
returns-then-is_misshapen-clause-value c =
    (λ e. value_of_misshapen c.args.value.now (c.is_misshapen.ensures.0 c.if-is_misshapen.true), λ h. refl)

pub returns-clause-one : goal.returns-clause-one
returns-clause-one c = only_one c.octets_have_one_value_at_most.ensures c.encode_well_formed_value.result (λ o. o.items) _ c.args.value.now
    c.encode_well_formed_value.ensures.found

pub returns-clause-value : goal.returns-clause-value
returns-clause-value c =
    let e = c.encode_well_formed_value.ensures in
    value_of_shaped c.encode_well_formed_value.result c.args.value.now e.fault e.range
    (λ m. false≢true (sym c.if-is_misshapen.false ∙ c.is_misshapen.ensures.1 m)) e.spelled
