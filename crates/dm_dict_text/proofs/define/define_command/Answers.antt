use Rattle.std.proofs.Common.{◌≡◌, ◌∙◌, [], map, fold, ap, subst, refl, List}
use Rattle.std.proofs.lemmas.Bool.{and_parts}
use Rattle.dm_grammar.specs.Items as written
use Rattle.dm_grammar.specs.Views.{view_entry, view_command}
use Rattle.dm_tables.specs.declared.def.CommandDef.{CommandDef}
use Rattle.dm_tables.specs.Definitions.{with_command}
use Rattle.dm_tables.specs.Tables.{defined}
use Rattle.dm_dict_text.specs.Faults.{with_entry, rule_faults}
use Rattle.dm_dict_text.proofs.Soundness.{sound_command, sound_rule, rule_is}
use Rattle.dm_dict_text.proofs.define.define_command.Goals as goal

pub add_command-requires-clause-sound : goal.add_command-requires-clause-sound
add_command-requires-clause-sound c =
    let words = and_parts _ _ c.requires.worded in
    let entries = map view_entry c.args.item.now.rule.items in
    let seen : map view_entry c.as_slice.result.now ≡ entries = ap (map view_entry) c.as_slice.ensures.value in
    let rule : c.in_ok-rule_of_items.field-0 ≡ fold with_entry [] entries = c.in_ok-rule_of_items.ensures.value ∙ ap
    (fold with_entry []) seen in
    let good : rule_faults entries ≡ [] = subst
    (λ (es : List written.EntryParts). rule_faults es ≡ []) seen c.in_ok-rule_of_items.ensures.good in
    let item = c.args.item.now in
    let command : CommandDef =
    record {
      name = c.in_ok-from_slice.field-0;
      code = c.in_ok-code.code;
      request = item.request;
      proxiable = item.proxiable;
      err = item.error;
      application = c.in_ok-code.application;
      rule = c.in_ok-rule_of_items.field-0;
    } in
    sound_command c.args.tables.now.commands.items command (view_command c.args.item.now)
    c.in_ok-from_slice.ensures c.in_ok-code.ensures.code refl refl c.in_ok-code.ensures.application words.0
    c.in_ok-check_command_name.ensures.good c.in_ok-code.ensures.good
    (sound_rule entries c.in_ok-rule_of_items.field-0 rule words.1 good)

pub returns-clause-added : goal.returns-clause-added
returns-clause-added c =
    let entries = map view_entry c.args.item.now.rule.items in
    let seen : map view_entry c.as_slice.result.now ≡ entries = ap (map view_entry) c.as_slice.ensures.value in
    let rule = rule_is entries c.in_ok-rule_of_items.field-0 (c.in_ok-rule_of_items.ensures.value ∙ ap (fold with_entry []) seen) in
    let item = c.args.item.now in
    c.in_ok-add_command.ensures.added
    ∙ (λ i. with_command (defined c.args.tables.now)
    (record {
      name = c.in_ok-from_slice.ensures i;
      code = c.in_ok-code.ensures.code i;
      request = item.request;
      proxiable = item.proxiable;
      err = item.error;
      application = c.in_ok-code.ensures.application i;
      rule = rule i;
    }))
