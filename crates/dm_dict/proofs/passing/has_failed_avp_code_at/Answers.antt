-- An AVP has the code and the vendor of its definition.
use Rattle.std.proofs.Common.{◌≡◌, ◌∙◌, ℕ, true, Option, None, Some, find, nat_eq, refl, sym, eqb-true}
use Rattle.std.proofs.lemmas.Bool.{and_parts}
use Rattle.std.specs.Option.{option_eq}
use Rattle.dm_tables.specs.Definitions.{is_coded}
use Rattle.dm_dict.specs.Faults.{is_failed_avp}
use Rattle.dm_dict.proofs.Linking.{found_one}
use Rattle.dm_dict.proofs.passing.has_failed_avp_code_at.Goals as goal

-- what equals no vendor is none
none : (vendor : Option ℕ) → option_eq nat_eq vendor None ≡ true → vendor ≡ None
none None h = refl
none (Some n) h = absurd (cc)

pub returns-then-def-eq-FAILED_AVP : goal.returns-then-def-eq-FAILED_AVP
returns-then-def-eq-FAILED_AVP c = λ groups a at yes.
    let d = c.avp_def_at-def.result.now in
    let found : find (is_coded a.code a.vendor) c.args.dictionary.now.tables.avps.items ≡ Some d =
    sym (c.avp_def_at-def.ensures ∙ at) in
    let own = found_one (is_coded a.code a.vendor) _ d found in
    let (code, vendor) = and_parts (nat_eq a.code d.code) (option_eq nat_eq a.vendor d.vendor) own in
    let same : a.code ≡ 279 = eqb-true a.code d.code code ∙ c.if-def-eq-FAILED_AVP.true in
    let lone : option_eq nat_eq a.vendor None ≡ true = rw (none d.vendor (sym c.eq.ensures ∙ yes)) at vendor in
    let failed : is_failed_avp a ≡ true = rw (same, lone) refl in
    rw (found, failed) refl
