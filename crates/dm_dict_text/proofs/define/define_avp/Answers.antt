use Rattle.std.proofs.Common.{◌≡◌, ◌∙◌, [], None, Some, Option, ℕ, map, fold, ◌++◌, inr, ap, sym, subst, unwrap_or, List, OnOk}
use Rattle.std.proofs.lemmas.Bool.{and_parts}
use Rattle.std.proofs.lemmas.Result.{err_from_is_err_and}
use Rattle.dm_grammar.specs.Items as written
use Rattle.dm_grammar.specs.Views.{view_word, view_reference_option, view_value, view_avp}
use Rattle.dm_tables.specs.declared.def.AvpDef.{AvpDef}
use Rattle.dm_value.specs.declared.avp_type.AvpType.TheVariants.{OctetString}
use Rattle.dm_tables.specs.Tables.{defined}
use Rattle.dm_dict_text.specs.Making.{making}
use Rattle.dm_dict_text.specs.Meaning.{avp_def_of, WithStrays, placed}
use Rattle.dm_dict_text.specs.Faults.{name_faults, code_faults, with_value, value_list_faults}
use Rattle.dm_dict_text.proofs.Along.{stops_left, stops_right}
use Rattle.dm_tables.specs.SoundParts.{sound_parts}
use Rattle.dm_dict_text.proofs.Strays.{no_stray, placed_same}
use Rattle.dm_dict_text.proofs.Soundness.{sound_avp, sound_list, list_is, listing_kind, empty_rule, empty_kind}
use Rattle.dm_dict_text.proofs.define.define_avp.Goals as goal

pub add_avp_or_stray-requires-clause-new : goal.add_avp_or_stray-requires-clause-new
add_avp_or_stray-requires-clause-new c =
    no_stray (making c.args.tables.now c.args.strays.now) (view_word c.args.item.now.name) c.in_ok-check_avp_name.ensures.good

pub add_avp_or_stray-requires-clause-sound : goal.add_avp_or_stray-requires-clause-sound
add_avp_or_stray-requires-clause-sound c =
    λ v is.
    let (words, may) = and_parts _ _ c.requires.worded in
    let (named, worded) = and_parts _ _ words in
    let values = map view_value c.args.item.now.values.items in
    let seen : map view_value c.as_slice.result.now ≡ values = ap (map view_value) c.as_slice.ensures.value in
    let list : c.in_ok-values.values ≡ fold with_value [] values = c.in_ok-values.ensures.value ∙ ap
    (fold with_value []) seen in
    let good : value_list_faults values ≡ [] = subst
    (λ (vs : List written.ValueParts). value_list_faults vs ≡ []) seen c.in_ok-values.ensures.good in
    let none : c.empty.result ≡ [] = c.empty.ensures in
    let avp : AvpDef =
    record {
      name = c.in_ok-name.name;
      code = c.in_ok-code.code;
      vendor = c.unwrap_or.result;
      kind = c.unwrap_or-2.result;
      rule = c.empty.result;
      values = c.in_ok-values.values;
    } in
    sound_avp (making c.args.tables.now c.args.strays.now) avp (view_word c.args.item.now.name) (view_word c.args.item.now.code)
    (view_reference_option c.args.item.now.vendor) v
    (sound_parts (defined c.args.tables.now) c.requires.tables.sound).vendors
    c.in_ok-name.ensures c.in_ok-code.ensures.code (c.unwrap_or.ensures ∙ ap (λ o. unwrap_or o None) is)
    (sym c.in_ok-code.ensures.vendor ∙ is) named c.in_ok-check_avp_name.ensures.good c.in_ok-code.ensures.good
    (empty_rule c.empty.result none) (empty_kind c.unwrap_or-2.result c.empty.result none)
    (sound_list values c.in_ok-values.values list worded good)
    (listing_kind c.args.item.now.kind.text.now values c.unwrap_or-2.result c.in_ok-values.values may
    (c.unwrap_or-2.ensures ∙ ap (λ o. unwrap_or o OctetString) c.ungrouped_type_named.ensures) list)

pub returns-clause-added : goal.returns-clause-added
returns-clause-added c =
    let m = making c.args.tables.now c.args.strays.now in
    let name = c.args.item.now.name.text.now in
    let def = avp_def_of (view_avp c.args.item.now) in
    let values = map view_value c.args.item.now.values.items in
    let seen : map view_value c.as_slice.result.now ≡ values = ap (map view_value) c.as_slice.ensures.value in
    let list = list_is values c.in_ok-values.values (c.in_ok-values.ensures.value ∙ ap (fold with_value []) seen) in
    let kind = c.unwrap_or-2.ensures ∙ ap (λ o. unwrap_or o OctetString) c.ungrouped_type_named.ensures in
    let avp : AvpDef =
    record {
      name = c.in_ok-name.name;
      code = c.in_ok-code.code;
      vendor = c.unwrap_or.result;
      kind = c.unwrap_or-2.result;
      rule = c.empty.result;
      values = c.in_ok-values.values;
    } in
    let same : (v : Option ℕ) → c.in_ok-code.vendor ≡ Some v → avp ≡ def v =
    λ v is i. record {
      name = c.in_ok-name.ensures i;
      code = c.in_ok-code.ensures.code i;
      vendor = (c.unwrap_or.ensures ∙ ap (λ o. unwrap_or o None) is) i;
      kind = kind i;
      rule = c.empty.ensures i;
      values = list i;
    } in
    subst (λ (x : WithStrays). OnOk c.add_avp_or_stray.result
    (making c.add_avp_or_stray.new.tables c.add_avp_or_stray.new.strays ≡ x))
    (placed_same m name def avp c.in_ok-code.vendor same ∙ ap (placed m name def) c.in_ok-code.ensures.vendor)
    c.add_avp_or_stray.ensures.added

pub returns-in_err-code-clause-fault : goal.returns-in_err-code-clause-fault
returns-in_err-code-clause-fault c =
    let m = making c.args.tables.now c.args.strays.now in
    let p = err_from_is_err_and c.from_residual-in_err-code.result c.from_residual-in_err-code.ensures.1 in
    let names = name_faults m (view_word c.args.item.now.name) in
    let codes = code_faults m.definitions (view_word c.args.item.now.code) (view_reference_option c.args.item.now.vendor) in
    rw (p.1, p.2)
    (stops_left (names ++ codes) (value_list_faults (map view_value c.args.item.now.values.items)) c.in_err-code.field-0.0
    (stops_right names codes c.in_err-code.field-0.0 c.in_ok-check_avp_name.ensures.good (inr c.in_err-code.ensures.fault)))
