-- The table by the type is the two columns.
use Rattle.std.proofs.Common.{◌≡◌, Option, None, Some, refl, sym, subst, ◌∙◌}
use Rattle.std.specs.Prelude.{IfNone}
use Rattle.std.proofs.Math.Facts.{Fits-lt-pow}
use Rattle.dm_value.specs.declared.fault.ValueFault.{ValueFault}
use Rattle.dm_value.specs.Columns.{HasWrongLength, HasWrongValue}
use Rattle.dm_value.proofs.Flawed.{Tells, any_tells, told_fault}
use Rattle.dm_value.proofs.Valued.{valued}
use Rattle.dm_value.proofs.data_faults.value_fault.Goals as goal

pub returns-clause-length : goal.returns-clause-length
returns-clause-length c =
    let t = any_tells c.members_are_what_octets_spell.ensures c.args.kind c.args.octets.now (λ i. Fits-lt-pow (c.type_inv.octets i)) in
    let e = c.fault_by_type.ensures in
    (λ h. t.0.0 (sym e ∙ h), λ h. e ∙ t.0.1 h)

pub returns-clause-value : goal.returns-clause-value
returns-clause-value c =
    let t = any_tells c.members_are_what_octets_spell.ensures c.args.kind c.args.octets.now (λ i. Fits-lt-pow (c.type_inv.octets i)) in
    let e = c.fault_by_type.ensures in
    (λ h. t.1.0 (sym e ∙ h), λ h. e ∙ t.1.1 h.0 h.1)

pub returns-clause-fault : goal.returns-clause-fault
returns-clause-fault c =
    let t = any_tells c.members_are_what_octets_spell.ensures c.args.kind c.args.octets.now (λ i. Fits-lt-pow (c.type_inv.octets i)) in
    let T : Option ValueFault →
    Type 0 = λ r. Tells r (HasWrongLength c.args.kind c.args.octets.now)
    (HasWrongValue c.args.kind c.args.octets.now) in
    told_fault c.fault_by_type.result c.args.kind c.args.octets.now (subst T (sym c.fault_by_type.ensures) t)

none_valued : (r : Option ValueFault) (P : Type 0) → (r ≡ None → P) → IfNone r P
none_valued None P h = h refl
none_valued (Some f) P h = tt

pub returns-clause-good : goal.returns-clause-good
returns-clause-good c =
    none_valued c.fault_by_type.result _
    (λ none. valued c.members_are_what_octets_spell.ensures c.args.kind c.args.octets.now (λ g i. Fits-lt-pow (c.type_inv.octets i))
    (sym c.fault_by_type.ensures ∙ none))
