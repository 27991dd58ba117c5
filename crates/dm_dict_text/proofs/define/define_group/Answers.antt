use Rattle.std.proofs.Common.{◌≡◌, ◌∙◌, [], None, Some, Option, ℕ, map, fold, ◌++◌, inr, ap, sym, subst, refl, unwrap_or, List, OnOk}
use Rattle.std.proofs.lemmas.Bool.{and_parts}
use Rattle.std.proofs.lemmas.Result.{err_from_is_err_and}
use Rattle.dm_grammar.specs.Items as written
use Rattle.dm_grammar.specs.Views.{view_word, view_reference_option, view_entry, view_group}
use Rattle.dm_tables.specs.declared.def.AvpDef.{AvpDef}
use Rattle.dm_value.specs.declared.avp_type.AvpType.TheVariants.{Grouped}
use Rattle.dm_tables.specs.Tables.{defined}
use Rattle.dm_dict_text.specs.Making.{making}
use Rattle.dm_dict_text.specs.Meaning.{group_def_of, WithStrays, placed}
use Rattle.dm_dict_text.specs.Faults.{name_faults, code_faults, with_entry, rule_faults}
use Rattle.dm_dict_text.proofs.Along.{stops_left, stops_right}
use Rattle.dm_tables.specs.SoundParts.{sound_parts}
use Rattle.dm_dict_text.proofs.Strays.{no_stray, placed_same}
use Rattle.dm_dict_text.proofs.Soundness.{sound_avp, sound_rule, rule_is, empty_list, empty_listing}
use Rattle.dm_dict_text.proofs.define.define_group.Goals as goal

pub add_avp_or_stray-requires-clause-new : goal.add_avp_or_stray-requires-clause-new
add_avp_or_stray-requires-clause-new c =
    no_stray (making c.args.tables.now c.args.strays.now) (view_word c.args.item.now.name) c.in_ok-check_avp_name.ensures.good

pub add_avp_or_stray-requires-clause-sound : goal.add_avp_or_stray-requires-clause-sound
add_avp_or_stray-requires-clause-sound c =
    λ v is.
    let words = and_parts _ _ c.requires.worded in
    let entries = map view_entry c.args.item.now.rule.items in
    let seen : map view_entry c.as_slice.result.now ≡ entries = ap (map view_entry) c.as_slice.ensures.value in
    let rule : c.in_ok-rule.rule ≡ fold with_entry [] entries = c.in_ok-rule.ensures.value ∙ ap
    (fold with_entry []) seen in
    let good : rule_faults entries ≡ [] = subst
    (λ (es : List written.EntryParts). rule_faults es ≡ []) seen c.in_ok-rule.ensures.good in
    let none : c.empty.result ≡ [] = c.empty.ensures in
    let avp : AvpDef =
    record {
      name = c.in_ok-name.name;
      code = c.in_ok-code.code;
      vendor = c.unwrap_or.result;
      kind = Grouped;
      rule = c.in_ok-rule.rule;
      values = c.empty.result;
    } in
    sound_avp (making c.args.tables.now c.args.strays.now) avp (view_word c.args.item.now.name) (view_word c.args.item.now.code)
    (view_reference_option c.args.item.now.vendor) v
    (sound_parts (defined c.args.tables.now) c.requires.tables.sound).vendors
    c.in_ok-name.ensures c.in_ok-code.ensures.code (c.unwrap_or.ensures ∙ ap (λ o. unwrap_or o None) is)
    (sym c.in_ok-code.ensures.vendor ∙ is) words.0 c.in_ok-check_avp_name.ensures.good c.in_ok-code.ensures.good
    (sound_rule entries c.in_ok-rule.rule rule words.1 good) refl
    (empty_list c.empty.result none) (empty_listing Grouped c.empty.result none)

pub returns-clause-added : goal.returns-clause-added
returns-clause-added c =
    let m = making c.args.tables.now c.args.strays.now in
    let name = c.args.item.now.name.text.now in
    let def = group_def_of (view_group c.args.item.now) in
    let entries = map view_entry c.args.item.now.rule.items in
    let seen : map view_entry c.as_slice.result.now ≡ entries = ap (map view_entry) c.as_slice.ensures.value in
    let rule = rule_is entries c.in_ok-rule.rule (c.in_ok-rule.ensures.value ∙ ap (fold with_entry []) seen) in
    let avp : AvpDef =
    record {
      name = c.in_ok-name.name;
      code = c.in_ok-code.code;
      vendor = c.unwrap_or.result;
      kind = Grouped;
      rule = c.in_ok-rule.rule;
      values = c.empty.result;
    } in
    let same : (v : Option ℕ) → c.in_ok-code.vendor ≡ Some v → avp ≡ def v =
    λ v is i. record {
      name = c.in_ok-name.ensures i;
      code = c.in_ok-code.ensures.code i;
      vendor = (c.unwrap_or.ensures ∙ ap (λ o. unwrap_or o None) is) i;
      kind = Grouped;
      rule = rule i;
      values = c.empty.ensures i;
    } in
    subst (λ (x : WithStrays). OnOk c.add_avp_or_stray.result
    (making c.add_avp_or_stray.new.tables c.add_avp_or_stray.new.strays ≡ x))
    (placed_same m name def avp c.in_ok-code.vendor same ∙ ap (placed m name def) c.in_ok-code.ensures.vendor)
    c.add_avp_or_stray.ensures.added

pub returns-in_err-code-clause-fault : goal.returns-in_err-code-clause-fault
returns-in_err-code-clause-fault c =
    let m = making c.args.tables.now c.args.strays.now in
    let p = err_from_is_err_and c.from_residual-in_err-code.result c.from_residual-in_err-code.ensures.1 in
    let names = name_faults m (view_word c.args.item.now.name) in
    let codes = code_faults m.definitions (view_word c.args.item.now.code) (view_reference_option c.args.item.now.vendor) in
    rw (p.1, p.2)
    (stops_left (names ++ codes) (rule_faults (map view_entry c.args.item.now.rule.items)) c.in_err-code.field-0.0
    (stops_right names codes c.in_err-code.field-0.0 c.in_ok-check_avp_name.ensures.good (inr c.in_err-code.ensures.fault)))
